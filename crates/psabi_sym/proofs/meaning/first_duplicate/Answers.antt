use Rattle.std.proofs.Common.{◌≡◌, ◌+◌, ◌<◌, true, false, cond, Some, length, get_or, drop, ap, sym, ◌∙◌, arith}
use Rattle.std.specs.List.{find}
use Rattle.std.specs.Option.{option_map}
use Rattle.std.proofs.lemmas.List.{drop_more}
use Rattle.psabi_sym.specs.Invariants.Rows.{row_is_second}
use Rattle.psabi_sym.specs.declared.symbol_row.SymbolRow.{SymbolRow}
use Rattle.psabi_sym.proofs.meaning.first_duplicate.Goals as goal

-- what a read past the end would give
abbrev row0 : SymbolRow
row0 = record { object = 0; home = 0; index = 0; name = 0; value = 0; size = 0; bind = 0 }

pub returns-then-is_second : goal.returns-then-is_second
returns-then-is_second c =
    let rows = c.args.rows.now in
    let i = c.loop-row.row-index in
    let r = get_or rows i row0 in
    let within : i < length rows = omega arith in
    let is : row_is_second rows r ≡ true = sym (c.is_second.ensures rows c.requires.strong) ∙ c.if-is_second.true in
    let found : find (row_is_second rows) rows ≡ Some r =
    c.loop-row.invariant ∙ ap (find (row_is_second rows)) (drop_more rows i row0 within) ∙ ap (λ b. cond b (Some r) (find (row_is_second rows) (drop (i + 1) rows))) is in
    ap (λ n. Some (n, r.index)) c.from.ensures ∙ ap (option_map {T = SymbolRow} (λ s. (s.object, s.index))) (sym found)

pub loop-row-preserved : goal.loop-row-preserved
loop-row-preserved c =
    let rows = c.args.rows.now in
    let i = c.loop-row.row-index in
    let r = get_or rows i row0 in
    let within : i < length rows = omega arith in
    let is : row_is_second rows r ≡ false = sym (c.is_second.ensures rows c.requires.strong) ∙ c.if-is_second.false in
    c.loop-row.invariant ∙ ap (find (row_is_second rows)) (drop_more rows i row0 within) ∙ ap (λ b. cond b (Some r) (find (row_is_second rows) (drop (i + 1) rows))) is
