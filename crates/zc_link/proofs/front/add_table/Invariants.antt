-- So far the text has the slots before the one at hand.
use Rattle.std.proofs.Common.{◌≡◌, ◌++◌, take}
use Rattle.psabi_sym.specs.Inputs.{parsed}
use Rattle.shrink_layout.specs.Settled.{settled_address}
use Rattle.zc_link.specs.Front.{table_bytes}
use Rattle.zc_link.proofs.front.add_table.Given as goal

abbrev pub invariant-loop-slot : goal.invariant-loop-slot
invariant-loop-slot l =
    l.text.items
    ≡ l.initial.text.items ++ table_bytes (settled_address (parsed l.settled.inputs) l.settled.slots) (take l.slot-index l.settled.slots)
