-- Before the first section there is what stands in front, and after the last there is all.
use Rattle.std.proofs.Common.{◌≤◌, length, ap, ◌∙◌, subst, arith}
use Rattle.std.proofs.lemmas.List.{take_all}
use Rattle.psabi_sym.specs.Inputs.{Inputs, parsed}
use Rattle.psabi_sym.specs.Indexed.{all_sections}
use Rattle.zc_link.specs.Written.{IsTextOf}
use Rattle.zc_link.proofs.Sections.{front_alone}
use Rattle.zc_link.proofs.text.Text.lay.Goals as goal

pub loop-k-init : goal.loop-k-init
loop-k-init g c =
    front_alone (g.L.Layout.layout c.args.layout.now) _ _ c.in_ok-add_front.ensures c.in_ok-with_capacity-2.ensures.items

pub returns : goal.returns
returns g c =
    let L = g.L.Layout.layout c.args.layout.now in
    let all = all_sections (parsed L.inputs).objects in
    let past : length all ≤ c.loop-k.k =
    omega (arith, c.loop-k-test.false, c.section_count-sections.ensures.count, ap (λ (x : Inputs). length (all_sections (parsed x).objects)) (c.objects.ensures.same ∙ c.cut-cut.ensures.same)) in
    subst (λ ls. IsTextOf L ls c.loop-k.laid.text.items c.loop-k.laid.places.items) (take_all c.loop-k.k all past) c.loop-k.invariant
