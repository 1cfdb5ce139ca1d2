use Rattle.std.proofs.Common.{arith}
use Rattle.std.specs.String.{string_bytes}
use Rattle.std.proofs.lemmas.List.Elements.{All-more}
use Rattle.pick_check.specs.Text.{FitsSlot, slot_line}
use Rattle.pick_check.proofs.WriteLaws.{lines_pushed}
use Rattle.pick_check.proofs.push_lines.push_slots.Goals as goal

pub loop-slot-preserved : goal.loop-slot-preserved
loop-slot-preserved c = record {
  lines = lines_pushed slot_line (string_bytes c.args.text.now) (string_bytes c.loop-slot.text) (string_bytes c.push_slot.new.text) c.args.slots.now c.loop-slot.slot-index _ (omega arith) c.loop-slot.invariant.lines c.in_ok-push_slot.ensures.line;
  fits = All-more FitsSlot c.args.slots.now c.loop-slot.slot-index _ (omega arith) c.loop-slot.invariant.fits c.in_ok-push_slot.ensures.fits;
}
