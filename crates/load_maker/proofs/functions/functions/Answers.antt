use Rattle.std.proofs.Common.{[], ◌∷◌, ◌++◌, ◌+◌, ◌-◌, ap, ◌∙◌}
use Rattle.load_maker.specs.Functions.{after_function, functions_from}
use Rattle.load_maker.proofs.OperationLaws.{functions_more}
use Rattle.load_maker.proofs.functions.functions.Goals as goal

pub loop-i-preserved : goal.loop-i-preserved
loop-i-preserved c =
    let bodies = c.loop-i.bodies.items in
    let i = c.loop-i.i in
    let draws = c.loop-i.draws in
    (λ j. c.in_ok-push.ensures.items j ++ functions_from (c.args.count - (i + 1)) (i + 1) (c.in_ok-function.ensures.after j))
    ∙ ap (λ b. (bodies ++ b ∷ []) ++ functions_from (c.args.count - (i + 1)) (i + 1) (after_function i draws)) c.in_ok-function.ensures.statements
    ∙ functions_more bodies c.args.count i draws c.loop-i-test.true ∙ c.loop-i.invariant
