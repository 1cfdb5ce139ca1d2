use Rattle.std.proofs.Common.{◌∙◌, ◌+◌, ap, arith, drop, length, slice_get, subst, sym, take}
use Rattle.std.specs.List.{flat_map}
use Rattle.std.proofs.lemmas.Option.{same_Some}
use Rattle.psabi_sym.specs.Indexed.{IndexedSection, all_sections}
use Rattle.psabi_sym.specs.Inputs.{parsed}
use Rattle.psabi_sym.proofs.SectionNumbers.{listed_at}
use Rattle.block_cut.specs.Invariants.Fields.{IsSortedOf}
use Rattle.tail_merge.specs.Merged.{item_bytes, merged_bytes}
use Rattle.tail_merge.specs.SectionCode.{IsTabled, asking_offsets}
use Rattle.tail_merge.specs.Tails.{code_items, removed_tails}
use Rattle.tail_merge.proofs.SectionCodeLaws.{all-bytes, bytes-more, place-within, start-here}
use Rattle.tail_merge.proofs.section_code.section_bytes.Goals as goal

pub own_bytes-requires : goal.own_bytes-requires
own_bytes-requires c =
    let given = c.args.cut.now in
    let l = c.section-home.result in
    let here = ap (λ v. slice_get (all_sections (parsed v).objects) c.args.section) (sym c.objects.ensures.same) ∙ c.section-home.ensures in
    let tabled : IsTabled given l c.args.tails.now c.deref.result.now = record {
      faultless = c.recall_invariant.ensures.faultless;
      there = listed_at (parsed given).objects c.args.section l here;
      code = c.requires.code l here;
      table = c.requires.tails l here;
      offsets = subst (IsSortedOf (asking_offsets l.section)) (sym c.deref.ensures.value) c.in_ok-relocs.ensures;
    } in
    let start =
    start-here given l c.args.tails.now c.deref.result.now tabled c.places.result.now c.item_places-places.result.now (c.places.ensures l here) c.item_places-places.ensures c.loop-place.place-index
    c.loop-place-test.true _ c.place-item.result c.place-item.is in
    let within = place-within given l c.args.tails.now c.deref.result.now tabled c.place-item.result start in
    omega (arith, within, ap length c.bytes-bytes.ensures)

pub push_form-requires : goal.push_form-requires
push_form-requires c =
    let given = c.args.cut.now in
    let l = c.section-home.result in
    let here = ap (λ v. slice_get (all_sections (parsed v).objects) c.args.section) (sym c.objects.ensures.same) ∙ c.section-home.ensures in
    let tabled : IsTabled given l c.args.tails.now c.deref.result.now = record {
      faultless = c.recall_invariant.ensures.faultless;
      there = listed_at (parsed given).objects c.args.section l here;
      code = c.requires.code l here;
      table = c.requires.tails l here;
      offsets = subst (IsSortedOf (asking_offsets l.section)) (sym c.deref.ensures.value) c.in_ok-relocs.ensures;
    } in
    let start =
    start-here given l c.args.tails.now c.deref.result.now tabled c.places.result.now c.item_places-places.result.now (c.places.ensures l here) c.item_places-places.ensures c.loop-place.place-index
    c.loop-place-test.true _ c.place-item.result c.place-item.is in
    (c.item_form-form.ensures given l tabled start).word

pub loop-place-preserved : goal.loop-place-preserved
loop-place-preserved c = λ m at.
    let given = c.args.cut.now in
    let l = c.section-home.result in
    let here = ap (λ v. slice_get (all_sections (parsed v).objects) c.args.section) (sym c.objects.ensures.same) ∙ c.section-home.ensures in
    let tabled : IsTabled given l c.args.tails.now c.deref.result.now = record {
      faultless = c.recall_invariant.ensures.faultless;
      there = listed_at (parsed given).objects c.args.section l here;
      code = c.requires.code l here;
      table = c.requires.tails l here;
      offsets = subst (IsSortedOf (asking_offsets l.section)) (sym c.deref.ensures.value) c.in_ok-relocs.ensures;
    } in
    let start =
    start-here given l c.args.tails.now c.deref.result.now tabled c.places.result.now c.item_places-places.result.now (c.places.ensures l here) c.item_places-places.ensures c.loop-place.place-index
    c.loop-place-test.true _ c.place-item.result c.place-item.is in
    let p = c.place-item.result in
    c.in_ok-push_form.ensures
    ∙ bytes-more given l c.args.tails.now c.deref.result.now tabled c.places.result.now c.item_places-places.result.now (c.places.ensures l here) c.item_places-places.ensures c.loop-place.place-index
    c.loop-place-test.true _ p c.place-item.is c.loop-place.out.items c.own_bytes.result.now c.item_form-form.result (c.loop-place.invariant l here)
    (c.own_bytes.ensures ∙ ap (λ bytes. take p.size (drop p.offset bytes)) c.bytes-bytes.ensures) (c.item_form-form.ensures given l tabled start)
    ∙ ap (λ (s : IndexedSection). flat_map (item_bytes (removed_tails (parsed given) s) s.section) (take (c.loop-place.place-index + 1) (code_items (parsed given) s))) (same_Some l m (sym here ∙ at))

pub returns : goal.returns
returns c = λ m at.
    let given = c.args.cut.now in
    let l = c.section-home.result in
    let here = ap (λ v. slice_get (all_sections (parsed v).objects) c.args.section) (sym c.objects.ensures.same) ∙ c.section-home.ensures in
    let tabled : IsTabled given l c.args.tails.now c.in_ok-relocs.relocs.items = record {
      faultless = c.recall_invariant.ensures.faultless;
      there = listed_at (parsed given).objects c.args.section l here;
      code = c.requires.code l here;
      table = c.requires.tails l here;
      offsets = c.in_ok-relocs.ensures;
    } in
    c.loop-place.invariant l here
    ∙ all-bytes given l c.args.tails.now c.in_ok-relocs.relocs.items tabled c.places.result.now c.item_places-places.result.now (c.places.ensures l here) c.item_places-places.ensures c.loop-place.place-index c.loop-place-test.false
    ∙ ap (merged_bytes (parsed given)) (same_Some l m (sym here ∙ at))
