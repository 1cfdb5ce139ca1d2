use Rattle.std.proofs.Common.{◌+◌, ◌-◌, ◌%◌, ◌++◌, ◌∷◌, [], ap, ◌∙◌}
use Rattle.zc_base.specs.Draws.{drawn, stepped}
use Rattle.interrupt_plan.specs.Made.{after_dirt, dirt_from}
use Rattle.interrupt_plan.proofs.MadeLaws.{after_more, dirt_more}
use Rattle.interrupt_plan.proofs.make_plan.draw_dirt.Goals as goal

pub loop-k-preserved : goal.loop-k-preserved
loop-k-preserved c =
    let n = c.args.count in
    let k = c.loop-k._k in
    let first = c.next.ensures.after in
    let second = c.next-in-loop-k.ensures.after ∙ ap stepped first in
    let address = c.next.ensures.value ∙ ap drawn first in
    let byte = c.next-in-loop-k.ensures.value ∙ ap drawn second in
    let pushed = c.in_ok-push.ensures.items ∙ (λ j. c.loop-k.dirt.items ++ (0x0FFF_F000 + address j % 4096, byte j % 256) ∷ []) in
    record {
      dirt = (λ j. pushed j ++ dirt_from (n - (k + 1)) (second j)) ∙ dirt_more c.loop-k.dirt.items n k c.loop-k.draws c.loop-k-test.true ∙ c.loop-k.invariant.dirt;
      after = ap (after_dirt (n - (k + 1))) second ∙ after_more n k c.loop-k.draws c.loop-k-test.true ∙ c.loop-k.invariant.after;
    }
