use Rattle.std.proofs.Common.{◌≡◌, ◌+◌, ◌<◌, ℕ, Bool, true, false, cond, Some, List, length, get_or, drop, ap, sym, ◌∙◌, arith}
use Rattle.std.specs.List.{find, zip}
use Rattle.std.specs.Option.{option_map}
use Rattle.std.proofs.lemmas.List.{drop_more}
use Rattle.psabi_sym.specs.Invariants.Meanings.{row_is_missing}
use Rattle.psabi_sym.specs.declared.symbol_row.SymbolRow.{SymbolRow}
use Rattle.psabi_sym.proofs.meaning.first_undefined.Goals as goal

-- what a read past the end would give
abbrev row0 : SymbolRow
row0 = record { object = 0; home = 0; index = 0; name = 0; value = 0; size = 0; bind = 0 }

-- a search that goes on
step : (p : SymbolRow × Bool → Bool) (rows : List SymbolRow) (used : List Bool) (i : ℕ) → i < length rows → i < length used
    → find p (zip (drop i rows) (drop i used)) ≡ cond (p (get_or rows i row0, get_or used i false)) (Some (get_or rows i row0, get_or used i false)) (find p (zip (drop (i + 1) rows) (drop (i + 1) used)))
step p rows used i within also = λ j. find p (zip (drop_more rows i row0 within j) (drop_more used i false also j))

pub returns-then-is_missing : goal.returns-then-is_missing
returns-then-is_missing c =
    let rows = c.args.rows.now in
    let used = c.args.used.now in
    let i = c.loop-i.i in
    let r = get_or rows i row0 in
    let p = row_is_missing c.args.meanings.now in
    let is : p (r, get_or used i false) ≡ true = sym c.is_missing.ensures ∙ c.if-is_missing.true in
    let found : find p (zip rows used) ≡ Some (r, get_or used i false) =
    c.loop-i.invariant ∙ step p rows used i (omega arith) (omega arith) ∙ ap (λ b. cond b (Some (r, get_or used i false)) (find p (zip (drop (i + 1) rows) (drop (i + 1) used)))) is in
    ap (λ n. Some (n, r.index)) c.from.ensures ∙ ap (option_map {T = SymbolRow × Bool} (λ e. (e.0.object, e.0.index))) (sym found)

pub loop-i-preserved : goal.loop-i-preserved
loop-i-preserved c =
    let rows = c.args.rows.now in
    let used = c.args.used.now in
    let i = c.loop-i.i in
    let r = get_or rows i row0 in
    let p = row_is_missing c.args.meanings.now in
    let is : p (r, get_or used i false) ≡ false = sym c.is_missing.ensures ∙ c.if-is_missing.false in
    c.loop-i.invariant ∙ step p rows used i (omega arith) (omega arith) ∙ ap (λ b. cond b (Some (r, get_or used i false)) (find p (zip (drop (i + 1) rows) (drop (i + 1) used)))) is
