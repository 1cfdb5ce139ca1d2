-- What is written, with the words that are left, is all of them.
use Rattle.std.proofs.Common.{◌≡◌, ◌-◌, ◌/◌, ◌++◌}
use Rattle.zc_link.specs.Written.{copies, nop, padding}
use Rattle.zc_link.proofs.code.add_padding.Given as goal

abbrev pub invariant-loop-i : goal.invariant-loop-i
invariant-loop-i l = l.text.items ++ copies nop (l.size / 4 - l._i) ≡ l.fn.text.items ++ padding l.size
