use Rattle.std.proofs.Common.{◌≡◌, Some, None, true, false, slice_get, sym, ap, ◌∙◌}
use Rattle.std.specs.List.{find}
use Rattle.std.specs.Option.{option_map}
use Rattle.std.proofs.lemmas.List.{take_all}
use Rattle.std.proofs.lemmas.Option.{slice_get-get_or}
use Rattle.psabi_sym.specs.Inputs.{parsed}
use Rattle.block_cut.specs.Items.{place_of}
use Rattle.block_cut.specs.declared.code_place.CodePlace.{CodePlace}
use Rattle.block_cut.proofs.ReachLaws.{first_next, first_on, is_out_at, none_next, place_own, row_of}
use Rattle.block_cut.proofs.reach.first_offset.Goals as goal

pub returns-then-is_out_of_reach : goal.returns-then-is_out_of_reach
returns-then-is_out_of_reach c = λ l found are row.
    let inputs = c.args.objects.now in
    let places = c.args.places.now in
    let k = c.loop-place.place-index in
    let p = c.place-item.result in
    let at : slice_get places k ≡ Some p = slice_get-get_or places k p c.loop-place-test.true ∙ ap Some (sym c.place-item.is) in
    let own = place_own (parsed inputs) l k p (ap (λ ps. slice_get ps k) (sym are) ∙ at) in
    let is : is_out_at (parsed inputs) l p ≡ true = sym (c.is_out_of_reach.ensures (place_of l p.offset) own (row_of (parsed inputs) l p.offset c.args.section.now found row)) ∙ c.if-is_out_of_reach.true in
    sym (first_on inputs l c.requires.faultless found
    ∙ ap (option_map (λ (x : CodePlace). place_of l x.offset)) (ap (find (is_out_at (parsed inputs) l)) (sym are) ∙ first_next (is_out_at (parsed inputs) l) places k p at (c.loop-place.invariant l found are row) is))

pub loop-place-preserved : goal.loop-place-preserved
loop-place-preserved c = λ l found are row.
    let inputs = c.args.objects.now in
    let places = c.args.places.now in
    let k = c.loop-place.place-index in
    let p = c.place-item.result in
    let at : slice_get places k ≡ Some p = slice_get-get_or places k p c.loop-place-test.true ∙ ap Some (sym c.place-item.is) in
    let own = place_own (parsed inputs) l k p (ap (λ ps. slice_get ps k) (sym are) ∙ at) in
    let is : is_out_at (parsed inputs) l p ≡ false = sym (c.is_out_of_reach.ensures (place_of l p.offset) own (row_of (parsed inputs) l p.offset c.args.section.now found row)) ∙ c.if-is_out_of_reach.false in
    none_next (is_out_at (parsed inputs) l) places k p at (c.loop-place.invariant l found are row) is

pub returns : goal.returns
returns c = λ l found are row.
    let inputs = c.args.objects.now in
    let places = c.args.places.now in
    let none : find (is_out_at (parsed inputs) l) places ≡ None =
    ap (find (is_out_at (parsed inputs) l)) (sym (take_all c.loop-place.place-index places c.loop-place-test.false)) ∙ c.loop-place.invariant l found are row in
    sym (first_on inputs l c.requires.faultless found ∙ ap (option_map (λ (x : CodePlace). place_of l x.offset)) (ap (find (is_out_at (parsed inputs) l)) (sym are) ∙ none))
