use Rattle.std.proofs.Common.{◌≡◌, ◌-◌, ◌++◌, map}
use Rattle.load_maker.specs.Functions.{after_operations, drawn_operations}
use Rattle.load_maker.specs.declared.statement.Statement.TheVariants.{Plain}
use Rattle.load_maker.proofs.functions.push_operations.Given as goal

abbrev pub invariant-loop-done : goal.invariant-loop-done
invariant-loop-done l = record {
  statements : l.out.items ++ map Plain (drawn_operations (l.count - l._done) l.draws) ≡ l.initial.out.items ++ map Plain (drawn_operations l.count l.initial.draws);
  after : after_operations (l.count - l._done) l.draws ≡ after_operations l.count l.initial.draws;
}
