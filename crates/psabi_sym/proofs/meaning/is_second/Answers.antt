use Rattle.std.proofs.Common.{◌≡◌, ◌&&◌, true, false, None, eqb, not, length, sym, ◌∙◌}
use Rattle.std.specs.Option.{option_map_or}
use Rattle.psabi_sym.specs.Invariants.Rows.{first_row, row_defines}
use Rattle.psabi_sym.proofs.Tables.{table_at}
use Rattle.psabi_sym.proofs.meaning.is_second.Goals as goal

pub returns : goal.returns
returns c = λ rows strongs.
    let row = c.args.row.now in
    let strong = c.args.strong.now in
    let defined : row_defines 1 row ≡ true = sym c.defines.ensures ∙ c.if-not-defines.false in
    let found = table_at (first_row 1 rows) strong (length strong) row.name None strongs (c.requires defined) in
    c.is_other.ensures
    ∙ (λ j. sym defined j && option_map_or (λ first. not (eqb first.object row.object && eqb first.index row.index)) (found j) false)
