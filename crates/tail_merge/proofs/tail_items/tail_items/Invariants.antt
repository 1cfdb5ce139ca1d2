use Rattle.std.proofs.Common.{◌≡◌, take}
use Rattle.psabi_sym.specs.Inputs.{parsed}
use Rattle.tail_merge.specs.TailItems.{tail_items_of}
use Rattle.tail_merge.proofs.tail_items.tail_items.Given as goal

abbrev pub invariant-loop-place : goal.invariant-loop-place
invariant-loop-place l = l.items.items ≡ take l.place-index (tail_items_of (parsed l.cut) l.home)
