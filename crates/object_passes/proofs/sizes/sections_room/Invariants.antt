use Rattle.std.proofs.Common.{◌≡◌, ◌≤◌, ◌+◌, ◌*◌, ℕ, List, Some, slice_get}
use Rattle.elf32_read.specs.Parts.{object_parts}
use Rattle.psabi_sym.specs.Inputs.{parsed}
use Rattle.moved_runs.specs.Passes.{Pass}
use Rattle.object_passes.specs.Rooms.{left_sections}
use Rattle.object_passes.proofs.SizeLaws.{IsRoomBefore}
use Rattle.object_passes.proofs.sizes.sections_room.Given as goal

-- the room so far, with that of all sections from this one on, is that of all
abbrev pub invariant-loop-i : goal.invariant-loop-i
invariant-loop-i l = record {
  sum : (pass : Pass) (file : List ℕ) → l.left ≡ left_sections pass (parsed l.objects).objects → slice_get l.objects.files l.object ≡ Some file → IsRoomBefore (pass.section l.object) (object_parts file) l.i l.room;
  most : l.room.content + l.room.names ≤ 0x40_0000;
  few : l.room.headers ≤ 2 * l.i;
}
