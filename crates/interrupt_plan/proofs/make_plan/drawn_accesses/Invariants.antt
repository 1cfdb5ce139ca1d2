use Rattle.std.proofs.Common.{◌≡◌, ◌/◌, ◌%◌, ◌^◌, eqb, filter}
use Rattle.std.specs.List.{range_with_len}
use Rattle.interrupt_plan.proofs.make_plan.drawn_accesses.Given as goal

abbrev pub invariant-loop-access : goal.invariant-loop-access
invariant-loop-access l = l.done.items ≡ filter (λ access. eqb (l.bits / 2 ^ access % 2) 1) (range_with_len 0 l.access)
