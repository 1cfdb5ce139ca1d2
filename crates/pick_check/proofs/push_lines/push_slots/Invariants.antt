use Rattle.std.proofs.Common.{◌≡◌, ◌++◌, map, take}
use Rattle.std.specs.Prelude.{All}
use Rattle.std.specs.String.{string_bytes}
use Rattle.pick_check.specs.Text.{FitsSlot, slot_line, text_of}
use Rattle.pick_check.proofs.push_lines.push_slots.Given as goal

abbrev pub invariant-loop-slot : goal.invariant-loop-slot
invariant-loop-slot l = record {
  lines : string_bytes l.text ≡ string_bytes l.initial.text ++ text_of (map slot_line (take l.slot-index l.slots));
  fits : All FitsSlot (take l.slot-index l.slots);
}
