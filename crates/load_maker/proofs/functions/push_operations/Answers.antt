use Rattle.std.proofs.Common.{◌++◌, ◌+◌, ◌-◌, ◌%◌, map, ap, ◌∙◌}
use Rattle.zc_base.specs.Draws.{drawn, stepped}
use Rattle.load_maker.specs.Functions.{after_operations, operation, drawn_operations}
use Rattle.load_maker.specs.declared.statement.Statement.TheVariants.{Plain}
use Rattle.load_maker.proofs.OperationLaws.{after_more, operations_more}
use Rattle.load_maker.proofs.functions.push_operations.Goals as goal

pub loop-done-preserved : goal.loop-done-preserved
loop-done-preserved c =
    let out = c.loop-done.out.items in
    let done = c.loop-done._done in
    let draws = c.loop-done.draws in
    let kind = c.next-kind.ensures.value ∙ ap drawn c.next-kind.ensures.after in
    let after = c.next-value.ensures.after ∙ ap stepped c.next-kind.ensures.after in
    let value = c.next-value.ensures.value ∙ ap drawn after in
    record {
      statements =
          (λ j. c.in_ok-push_operation.ensures j ++ map Plain (drawn_operations (c.args.count - (done + 1)) (after j)))
          ∙ (λ j. (out ++ map Plain (operation (kind j % 6) (value j % 2048))) ++ map Plain (drawn_operations (c.args.count - (done + 1)) (stepped (stepped draws))))
          ∙ operations_more out c.args.count done draws c.loop-done-test.true ∙ c.loop-done.invariant.statements;
      after = ap (after_operations (c.args.count - (done + 1))) after ∙ after_more c.args.count done draws c.loop-done-test.true ∙ c.loop-done.invariant.after;
    }
