use Rattle.std.proofs.Common.{◌≡◌, ◌≤◌, ◌*◌}
use Rattle.psabi_sym.specs.Inputs.{parsed}
use Rattle.moved_runs.specs.Passes.{Pass, passed_objects}
use Rattle.object_passes.specs.Rooms.{left_sections}
use Rattle.object_passes.proofs.SizeLaws.{IsSearchedBefore}
use Rattle.object_passes.proofs.sizes.first_oversized.Given as goal

abbrev pub invariant-loop-i : goal.invariant-loop-i
invariant-loop-i l = record {
  searched : (pass : Pass) → l.left ≡ left_sections pass (parsed l.objects).objects → IsSearchedBefore (passed_objects pass (parsed l.objects).objects) l.i l.sum l.passing;
  most : l.sum ≤ 0x40_0000 * l.i;
}
