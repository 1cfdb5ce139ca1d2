use Rattle.std.proofs.Common.{◌≡◌, ◌∙◌, ◌++◌, ◌∷◌, [], ap, slice_get, subst, sym}
use Rattle.std.specs.Prelude.{IfSome}
use Rattle.std.proofs.lemmas.Option.{same_Some}
use Rattle.zc_base.specs.declared.place.Place.{Place}
use Rattle.psabi_sym.specs.Inputs.{parsed}
use Rattle.psabi_sym.specs.Indexed.{all_sections}
use Rattle.psabi_sym.proofs.SectionNumbers.{listed_at}
use Rattle.rv_decode.specs.Immediates.{InRange}
use Rattle.block_cut.specs.Items.{place_of}
use Rattle.block_cut.specs.Leaders.{is_leader_at}
use Rattle.block_cut.specs.declared.code_place.CodePlace.{CodePlace}
use Rattle.tail_merge.specs.TailItems.{instr_tail_item, place_instr, tail_items_of}
use Rattle.tail_merge.proofs.TailItemLaws.{items-all, items-more, place-in_range}
use Rattle.tail_merge.proofs.tail_items.tail_items.Goals as goal

pub tail_item-requires : goal.tail_item-requires
tail_item-requires c =
    let given = parsed c.args.cut.now in
    let l = c.section-home.result in
    let here = ap (λ v. slice_get (all_sections (parsed v).objects) c.args.section) (sym c.objects.ensures.same) ∙ c.section-home.ensures in
    subst (λ o. IfSome o InRange) (sym (c.place_instr.ensures ∙ ap place_instr c.place-item.is))
    (place-in_range given l (listed_at given.objects c.args.section l here) c.places.result.now c.item_places-places.result.now (c.places.ensures l here) c.item_places-places.ensures c.loop-place.place-index c.loop-place-test.true _)

pub loop-place-preserved : goal.loop-place-preserved
loop-place-preserved c =
    let given = parsed c.args.cut.now in
    let l = c.section-home.result in
    let p = c.place-item.result in
    let here = ap (λ v. slice_get (all_sections (parsed v).objects) c.args.section) (sym c.objects.ensures.same) ∙ c.section-home.ensures in
    let q : Place = record { object = c.object.result; section = c.index.result; offset = p.offset } in
    let place : q ≡ place_of l p.offset = λ j. record { object = c.object.ensures j; section = c.index.ensures j; offset = p.offset } in
    let item =
    c.tail_item.ensures ∙ ap (λ o. instr_tail_item o p.size c.leader.result) c.place_instr.ensures
    ∙ ap (λ b. instr_tail_item (place_instr p) p.size b) (c.leader.ensures ∙ ap (is_leader_at given) place)
    ∙ ap (λ (r : CodePlace). instr_tail_item (place_instr r) r.size (is_leader_at given (place_of l r.offset))) c.place-item.is in
    c.in_ok-push.ensures.items ∙ ap (λ t. c.loop-place.items.items ++ t ∷ []) item
    ∙ items-more given l (listed_at given.objects c.args.section l here) c.places.result.now c.item_places-places.result.now (c.places.ensures l here) c.item_places-places.ensures c.loop-place.place-index c.loop-place-test.true _
    c.loop-place.items.items c.loop-place.invariant

pub returns : goal.returns
returns c = λ m at.
    let given = parsed c.args.cut.now in
    let l = c.section-home.result in
    let here = ap (λ v. slice_get (all_sections (parsed v).objects) c.args.section) (sym c.objects.ensures.same) ∙ c.section-home.ensures in
    c.loop-place.invariant
    ∙ items-all given l (listed_at given.objects c.args.section l here) c.places.result.now c.item_places-places.result.now (c.places.ensures l here) c.item_places-places.ensures c.loop-place.place-index c.loop-place-test.false
    ∙ ap (tail_items_of given) (same_Some l m (sym here ∙ at))
