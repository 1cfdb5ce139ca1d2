use Rattle.std.proofs.Common.{◌≡◌, ◌*◌, ◌/◌, drop, ap, ◌∙◌, arith}
use Rattle.zc_machine.specs.Cells.{instruction}
use Rattle.zc_machine.specs.declared.code.Kept.TheVariants.{Known}
use Rattle.zc_machine.proofs.KeptLaws.{kept_more}
use Rattle.zc_machine.proofs.code.Code.keep.Goals as goal

pub invariant_of-self : goal.invariant_of-self
invariant_of-self c =
    let r = c.self.inside in
    let offset = c.args.offset in
    let half : 2 * (offset / 2) ≡ offset = omega (arith, c.if-offset-eq0.true) in
    let stands = ap (λ o. instruction (drop o r.bytes.items)) half ∙ ap (λ bytes. instruction (drop offset bytes)) c.self.view_is ∙ c.requires.stands in
    kept_more r.bytes.items r.kept.items _ c.self.invariant (offset / 2) _ (Known c.args.size c.args.short.now) c.extend.new.kept.items stands c.extend.ensures.entries c.extend.ensures.room
