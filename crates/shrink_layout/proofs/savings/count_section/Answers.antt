-- Each place where an item starts is counted in turn (`held_next`), and they are those of the section (`held_starts`).
use Rattle.std.proofs.Common.{◌≡◌, ◌≤◌, ◌∙◌, ◌-◌, ◌++◌, ◌∷◌, [], Some, append_assoc, length, slice_get, take, sym, ap, subst, arith}
use Rattle.std.proofs.lemmas.List.{take_all}
use Rattle.std.proofs.lemmas.Option.{same_Some, slice_get-get_or}
use Rattle.zc_base.specs.declared.place.Place.{Place}
use Rattle.psabi_sym.specs.Inputs.{parsed}
use Rattle.psabi_sym.specs.Indexed.{IndexedSection, all_sections}
use Rattle.block_cut.specs.Faults.{first_fault}
use Rattle.block_cut.specs.Items.{item_at, place_of}
use Rattle.block_cut.specs.Places.{code_places}
use Rattle.shrink_layout.specs.Invariants.Made.{places_held}
use Rattle.shrink_layout.specs.Invariants.Sites.{AreSavings, places_before}
use Rattle.shrink_layout.proofs.HeldLaws.{held_item}
use Rattle.shrink_layout.proofs.SavingLaws.{held_starts, places_next, some_few, take_most}
use Rattle.shrink_layout.proofs.SectionLaws.{held_next, some_at}
use Rattle.shrink_layout.proofs.TargetLaws.{no_gather_fault}
use Rattle.shrink_layout.proofs.savings.count_section.Goals as goal

pub count_place-requires-clause-few : goal.count_place-requires-clause-few
count_place-requires-clause-few c =
    let inputs = c.args.settled.now.inputs in
    let given = parsed inputs in
    let cut = c.cut-cut.ensures.same ∙ c.planned.ensures.same in
    let none = no_gather_fault inputs (ap first_fault (sym cut) ∙ c.objects.ensures.faultless) in
    let k = c.args.section in
    let there = some_at (all_sections given.objects) k c.requires.section in
    let l = there.0 in
    let own = same_Some c.section-own.result l (sym c.section-own.ensures ∙ ap (λ x. slice_get (all_sections (parsed x).objects) k) (c.objects.ensures.same ∙ cut) ∙ there.1) in
    let places = c.places.ensures l (ap (λ x. slice_get (all_sections (parsed x).objects) k) cut ∙ there.1) ∙ ap (λ x. code_places (parsed x) l) cut in
    let starts = c.item_places-places.ensures ∙ ap (λ ps. take (length ps - 1) ps) places in
    let ps = c.item_places-places.result.now in
    let few : length ps ≤ length (code_places given l) = omega (arith, ap length starts, take_most (length (code_places given l) - 1) (code_places given l)) in
    let n = c.loop-place.place-index in
    let before = places_before given.objects k in (
      before ++ places_held c.section-own.result (take n ps),
      omega (arith, ap (λ m. length (before ++ places_held m (take n ps))) own, some_few inputs none k l there.1 ps few n),
      c.loop-place.invariant,
    )

-- the item of a place is the one that starts there (`held_item`)
pub count_place-requires-clause-item : goal.count_place-requires-clause-item
count_place-requires-clause-item c =
    let inputs = c.args.settled.now.inputs in
    let given = parsed inputs in
    let cut = c.cut-cut.ensures.same ∙ c.planned.ensures.same in
    let none = no_gather_fault inputs (ap first_fault (sym cut) ∙ c.objects.ensures.faultless) in
    let k = c.args.section in
    let there = some_at (all_sections given.objects) k c.requires.section in
    let l = there.0 in
    let own = same_Some c.section-own.result l (sym c.section-own.ensures ∙ ap (λ x. slice_get (all_sections (parsed x).objects) k) (c.objects.ensures.same ∙ cut) ∙ there.1) in
    let places = c.places.ensures l (ap (λ x. slice_get (all_sections (parsed x).objects) k) cut ∙ there.1) ∙ ap (λ x. code_places (parsed x) l) cut in
    let starts = c.item_places-places.ensures ∙ ap (λ ps. take (length ps - 1) ps) places in
    let ps = c.item_places-places.result.now in
    let n = c.loop-place.place-index in
    let p = c.place-item.result in
    let q : Place = record { object = c.object.result; section = c.index.result; offset = p.offset } in
    let here : q ≡ place_of c.section-own.result p.offset = λ j. record { object = c.object.ensures j; section = c.index.ensures j; offset = p.offset } in
    let at : slice_get ps n ≡ Some p = slice_get-get_or ps n p c.loop-place-test.true ∙ ap Some (sym c.place-item.is) in
    held_item inputs none k l there.1 n p (ap (λ xs. slice_get xs n) (sym starts) ∙ at) ∙ ap (item_at given) (sym (here ∙ ap (λ (m : IndexedSection). place_of m p.offset) own))

pub loop-place-preserved : goal.loop-place-preserved
loop-place-preserved c =
    let given = parsed c.args.settled.now.inputs in
    let l = c.section-own.result in
    let ps = c.item_places-places.result.now in
    let n = c.loop-place.place-index in
    let p = c.place-item.result in
    let q : Place = record { object = c.object.result; section = c.index.result; offset = p.offset } in
    let before = places_before given.objects c.args.section in
    let held = places_held l (take n ps) in
    let here : q ≡ place_of l p.offset = λ j. record { object = c.object.ensures j; section = c.index.ensures j; offset = p.offset } in
    let more = held_next l ps n p (slice_get-get_or ps n p c.loop-place-test.true ∙ ap Some (sym c.place-item.is)) in
    subst (λ qs. AreSavings given qs c.count_place.new.savings)
    (append_assoc before held (q ∷ []) ∙ ap (λ l. before ++ l) (ap (λ r. held ++ r ∷ []) here ∙ sym more))
    (c.count_place.ensures (before ++ held) c.loop-place.invariant)

pub returns : goal.returns
returns c =
    let inputs = c.args.settled.now.inputs in
    let given = parsed inputs in
    let cut = c.cut-cut.ensures.same ∙ c.planned.ensures.same in
    let none = no_gather_fault inputs (ap first_fault (sym cut) ∙ c.objects.ensures.faultless) in
    let k = c.args.section in
    let there = some_at (all_sections given.objects) k c.requires.section in
    let l = there.0 in
    let own = same_Some c.section-own.result l (sym c.section-own.ensures ∙ ap (λ x. slice_get (all_sections (parsed x).objects) k) (c.objects.ensures.same ∙ cut) ∙ there.1) in
    let places = c.places.ensures l (ap (λ x. slice_get (all_sections (parsed x).objects) k) cut ∙ there.1) ∙ ap (λ x. code_places (parsed x) l) cut in
    let starts = c.item_places-places.ensures ∙ ap (λ ps. take (length ps - 1) ps) places in
    let all = take_all c.loop-place.place-index c.item_places-places.result.now (omega (arith, c.loop-place-test.false)) ∙ starts in
    let before = places_before given.objects k in
    subst (λ qs. AreSavings given qs c.loop-place.savings)
    ((λ j. before ++ places_held (own j) (all j)) ∙ ap (λ qs. before ++ qs) (held_starts inputs none l k there.1) ∙ sym (places_next inputs none k l there.1))
    c.loop-place.invariant
