-- What is written, with the zeros that are left, is all of them.
use Rattle.std.proofs.Common.{◌≡◌, ◌-◌, ◌++◌}
use Rattle.std.specs.Prelude.{replicate}
use Rattle.zc_link.proofs.text.add_zeros.Given as goal

abbrev pub invariant-loop-i : goal.invariant-loop-i
invariant-loop-i l = l.text.items ++ replicate (l.count - l._i) 0 ≡ l.initial.text.items ++ replicate l.count 0
