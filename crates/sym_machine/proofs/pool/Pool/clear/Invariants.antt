use Rattle.std.proofs.Common.{◌-◌, ◌≤◌}
use Rattle.rv_decode.specs.Memory.{written}
use Rattle.sym_machine.specs.Pages.{IsMade}
use Rattle.sym_machine.specs.declared.word.SymByte.TheVariants.{Undef}
use Rattle.sym_machine.proofs.pool.Pool.clear.Given as goal

abbrev pub invariant-loop-at : goal.invariant-loop-at
invariant-loop-at l = record {
  after : l.from ≤ l.at;
  before : l.at ≤ l.to;
  made : IsMade (written l.from (l.at - l.from) (λ _. Undef)) l.fn.self l.self;
}

abbrev pub decreases-loop-at : goal.decreases-loop-at
decreases-loop-at l = l.to - l.at
