-- The operands are those of the row.
use Rattle.std.proofs.Common.{◌≡◌, Some, ap, sym, ◌∙◌}
use Rattle.zc_decode.specs.Halfwords.{decoded16}
use Rattle.zc_decode.specs.Rows.{form_of}
use Rattle.zc_decode.proofs.FormLaws.{decoded_by_form}
use Rattle.zc_decode.proofs.OperandLaws.{spelled_operands}
use Rattle.zc_decode.proofs.decode16.decode16.Goals as goal

pub returns-clause-operands : goal.returns-clause-operands
returns-clause-operands c =
    let half = c.from-half.result in
    let form = c.in_ok-form_at.field-0 in
    let row : form_of half ≡ Some form = sym c.form_at.ensures ∙ c.in_ok-form_at.was in
    let spells : decoded16 half ≡ Some c.spell.result = decoded_by_form half form row ∙ ap Some (sym c.spell.ensures) in
    spelled_operands half c.spell.result spells
