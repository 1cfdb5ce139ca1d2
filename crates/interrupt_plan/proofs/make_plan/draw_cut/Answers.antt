use Rattle.std.proofs.Common.{◌+◌, ◌%◌, ap, ◌∙◌}
use Rattle.zc_base.specs.Draws.{drawn, stepped}
use Rattle.interrupt_plan.specs.Made.{dirt_from, drawn_accesses}
use Rattle.interrupt_plan.proofs.make_plan.draw_cut.Goals as goal

pub returns-clause-cut : goal.returns-clause-cut
returns-clause-cut c =
    let first = c.next.ensures.after in
    let second = c.next-bits.ensures.after ∙ ap stepped first in
    let at = c.from.ensures ∙ ap (λ n. n % 64) (c.next.ensures.value ∙ ap drawn first) in
    let done = c.in_ok-done.ensures ∙ ap drawn_accesses (c.next-bits.ensures.value ∙ ap drawn second) in
    let dirt = c.in_ok-dirt.ensures.dirt ∙ ap (dirt_from 4) second in
    λ i. record { at = c.args.before + at i; cut = record { done = done i; dirt = dirt i } }
