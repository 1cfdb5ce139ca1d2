use Rattle.std.proofs.Common.{arith}
use Rattle.std.specs.String.{string_bytes}
use Rattle.std.proofs.lemmas.List.Elements.{All-more}
use Rattle.pick_check.specs.Text.{FitsSaving, saving_line}
use Rattle.pick_check.proofs.WriteLaws.{lines_pushed}
use Rattle.pick_check.proofs.push_lines.push_savings.Goals as goal

pub loop-saving-preserved : goal.loop-saving-preserved
loop-saving-preserved c = record {
  lines = lines_pushed saving_line (string_bytes c.args.text.now) (string_bytes c.loop-saving.text) (string_bytes c.push_saving.new.text) c.args.savings.now c.loop-saving.saving-index _ (omega arith) c.loop-saving.invariant.lines c.in_ok-push_saving.ensures.line;
  fits = All-more FitsSaving c.args.savings.now c.loop-saving.saving-index _ (omega arith) c.loop-saving.invariant.fits c.in_ok-push_saving.ensures.fits;
}
