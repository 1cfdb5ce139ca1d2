use Rattle.std.proofs.Common.{sym, ap, ◌∙◌, ◌*◌, ◌/◌}
use Rattle.rv_decode.specs.Effect.{Effect, jumps}
use Rattle.zc_machine.specs.Answer.{core_after}
use Rattle.zc_machine.specs.Step.{effect_step}
use Rattle.zc_machine.proofs.AccessLaws.{table_jump-made}
use Rattle.zc_machine.proofs.machine.Machine.table_jump.Goals as goal

pub returns-in-Some-clause-state : goal.returns-in-Some-clause-state
returns-in-Some-clause-state c =
    let z = c.args.self.now in
    let size = c.args.size in
    let entry = c.in-Some.entry in
    c.jump.ensures.state
    ∙ ap (λ t. core_after (effect_step (jumps t c.link_of.result size z) z) z) c.even.ensures
    ∙ ap (λ r. core_after (effect_step (jumps (entry / 2 * 2) r size z) z) z) c.link_of.ensures
    ∙ sym (ap (λ (e : Effect). core_after (effect_step e z) z) (table_jump-made c.args.index size entry z (sym c.table_entry.ensures ∙ c.in-Some.is)))
