use Rattle.std.proofs.Common.{◌||◌, sym, ap, ◌∙◌}
use Rattle.psabi_sym.specs.Inputs.{parsed}
use Rattle.block_cut.specs.Leaders.{is_leader_at}
use Rattle.block_cut.specs.Leaders.{is_led_to}
use Rattle.block_cut.proofs.LedLaws.{leader_is}
use Rattle.block_cut.proofs.cut.Cut.leader.Goals as goal

pub returns-then-has_start : goal.returns-then-has_start
returns-then-has_start c =
    let inputs = c.self.inside.objects in
    let p = c.args.p in
    let starts = c.has_start.ensures in
    c.if-has_start.true ∙ ap (λ b. b || is_led_to (parsed inputs) p) (sym c.if-has_start.true ∙ starts)
    ∙ sym (leader_is (parsed inputs) p) ∙ ap (λ v. is_leader_at (parsed v) p) c.self.view_is

pub returns-else-has_start : goal.returns-else-has_start
returns-else-has_start c =
    let inputs = c.self.inside.objects in
    let p = c.args.p in
    let starts = c.has_start.ensures in
    c.has.ensures ∙ c.self.invariant.leaders_are p ∙ ap (λ b. b || is_led_to (parsed inputs) p) (sym c.if-has_start.false ∙ starts)
    ∙ sym (leader_is (parsed inputs) p) ∙ ap (λ v. is_leader_at (parsed v) p) c.self.view_is
