use Rattle.std.proofs.Common.{◌≡◌, Some, sym, ap, subst, ◌∙◌, ◌%◌, Bool, eqb, true}
use Rattle.std.proofs.lemmas.Bool.{eqb-true}
use Rattle.std.proofs.lemmas.Option.{cond_some}
use Rattle.rv_decode.specs.Effect.{Effect, Outside, gives, load_result, load_width}
use Rattle.rv_decode.specs.declared.device_access.DeviceAccess.TheVariants as access
use Rattle.rv_decode.specs.Memory.{extents_of, is_data, lies_in}
use Rattle.rv_decode.specs.State.{ZcCore}
use Rattle.zc_machine.specs.Answer.{core_after}
use Rattle.zc_machine.specs.Cells.{loaded}
use Rattle.zc_machine.specs.Memory.{Reaches}
use Rattle.zc_machine.specs.Step.{effect_step}
use Rattle.zc_machine.specs.declared.region.AccessKind.TheVariants.{Data}
use Rattle.zc_machine.proofs.AccessLaws.{reaching-made}
use Rattle.zc_machine.proofs.ReachLaws.{reach_loaded}
use Rattle.zc_machine.proofs.machine.Machine.load_to.Goals as goal

pub returns-in-Some-clause-state : goal.returns-in-Some-clause-state
returns-in-Some-clause-state c =
    let z = c.args.self.now in
    let a = c.args.a in
    let op = c.args.op in
    let value = c.in-Some.value in
    let cells = c.reach.result.now in
    let P : ZcCore → Type 0 = λ y. Reaches Data y.memory a cells in
    let given : loaded op cells ≡ Some value = cc c.in-Some.ensures in
    let aligned : eqb (a % load_width op) 0 ≡ true = cc c.if-not-is_aligned_load.ensures in
    let lies : Bool = lies_in is_data (extents_of z.memory) a (load_width op) in
    let q : (lies ≡ true) × (load_result op z a ≡ value) = cond_some lies (load_result op z a) value (sym (reach_loaded z a op cells (subst P c.self.view_is c.reach.ensures) (eqb-true (a % load_width op) 0 aligned)) ∙ given) in
    let made = reaching-made (load_width op) a z (Outside (access.Load op a c.args.rd c.args.size)) (gives (load_result op z a) c.args.rd c.args.size z) aligned q.0 in
    c.give.ensures.state
    ∙ ap (λ v. core_after (effect_step (gives v c.args.rd c.args.size z) z) z) (sym q.1)
    ∙ ap (λ (e : Effect). core_after (effect_step e z) z) (sym made)
