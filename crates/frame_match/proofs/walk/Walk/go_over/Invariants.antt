use Rattle.std.proofs.Common.{◌≡◌, ◌≤◌, ◌+◌, drop, length}
use Rattle.psabi_sym.specs.Inputs.{parsed}
use Rattle.frame_match.specs.Invariants.Marks.{groups_after, marks_after}
use Rattle.frame_match.specs.Invariants.Runs.{spots_of}
use Rattle.frame_match.proofs.walk.Walk.go_over.Given as goal

abbrev pub invariant-loop-k : goal.invariant-loop-k
invariant-loop-k l = record {
  marks : marks_after l.self (spots_of (parsed l.cut) l.section (drop l.k l.places)) ≡ marks_after l.fn.self (spots_of (parsed l.cut) l.section l.places);
  groups : groups_after l.self (spots_of (parsed l.cut) l.section (drop l.k l.places)) ≡ groups_after l.fn.self (spots_of (parsed l.cut) l.section l.places);
  few : length l.self.groups.items ≤ length l.fn.self.groups.items + l.k;
}
