use Rattle.std.proofs.Common.{ap, sym, ◌∙◌}
use Rattle.std.specs.List.{slice_get}
use Rattle.zc_decode.specs.Rows.{form_of}
use Rattle.instruction_text.specs.Names.{all_forms}
use Rattle.instruction_text.proofs.NameLaws.{form_by_number}
use Rattle.instruction_text.proofs.names.form_of_half.Goals as goal

pub returns : goal.returns
returns c =
    c.form_at.ensures
    ∙ ap (slice_get all_forms) c.from.ensures
    ∙ form_by_number (form_of c.args.half) c.in_ok-row.field-0 (sym c.row.ensures.value ∙ c.in_ok-row.was)
