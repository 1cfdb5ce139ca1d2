use Rattle.std.proofs.Common.{◌≡◌, ◌+◌, drop, length}
use Rattle.psabi_sym.specs.Inputs.{parsed}
use Rattle.shrink_layout.specs.Invariants.Slots.{AreFirstSlots}
use Rattle.shrink_layout.proofs.slots.first_slots.Given as goal

abbrev pub invariant-loop-k : goal.invariant-loop-k
invariant-loop-k l = record {
  long : length l.firsts.items ≡ l.count;
  firsts : AreFirstSlots (parsed l.of.planned.now).objects (l.part.first + l.k) (drop l.k l.part.slots.now) l.firsts.items;
}
