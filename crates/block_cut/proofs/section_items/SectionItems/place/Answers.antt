-- The number at the offset says where its place is.
use Rattle.std.proofs.Common.{◌≡◌, ◌≢◌, ◌<◌, ◌≤◌, ◌-◌, ℕ, List, Option, Some, None, true, false, length, slice_get, Bor, MatchOption, ap, ◌∙◌, arith}
use Rattle.std.specs.List.{HoldsAt}
use Rattle.std.proofs.lemmas.Option.{get_or_from_slice_get, slice_get_within}
use Rattle.psabi_sym.specs.Inputs.{Inputs, parsed}
use Rattle.psabi_sym.specs.Indexed.{IndexedSection}
use Rattle.block_cut.specs.Items.{is_target_at, place_of}
use Rattle.block_cut.specs.Places.{code_place, code_places}
use Rattle.block_cut.specs.declared.code_place.CodePlace.{CodePlace}
use Rattle.block_cut.proofs.TextLaws.{IsNumberOf, by_number, tables_of}
use Rattle.block_cut.proofs.section_items.SectionItems.place.Goals as goal

-- what is found is the place with the number
there : (inputs : Inputs) (l : IndexedSection) (n number : ℕ) (places : List CodePlace) → IsNumberOf inputs l n number → number ≢ 0 → places ≡ code_places (parsed inputs) l
    → (o : Option (Bor CodePlace)) → MatchOption o (length places ≤ number - 1) (λ x. (number - 1 < length places) × HoldsAt (λ y. x.now ≡ y) places (number - 1))
    → MatchOption o (is_target_at (parsed inputs).objects (place_of l n) ≡ false) (λ x. (is_target_at (parsed inputs).objects (place_of l n) ≡ true) × (x.now ≡ code_place (parsed inputs) l n))
there inputs l n number places is some are None past =
    let at : slice_get places (number - 1) ≡ Some (code_place (parsed inputs) l n) = ap (λ ps. slice_get ps (number - 1)) are ∙ (is.some some).1 in
    absurd (omega (arith, past, slice_get_within places (number - 1) (code_place (parsed inputs) l n) at))
there inputs l n number places is some are (Some x) got =
    let at : slice_get places (number - 1) ≡ Some (code_place (parsed inputs) l n) = ap (λ ps. slice_get ps (number - 1)) are ∙ (is.some some).1 in
    ((is.some some).0, got.1 x.now ∙ get_or_from_slice_get places (number - 1) (code_place (parsed inputs) l n) x.now at)

pub returns-then-number-eq0 : goal.returns-then-number-eq0
returns-then-number-eq0 c = λ inputs l none found is.
    let tables = tables_of (parsed inputs) l c.args.self.now is in
    let numbers = c.deref.ensures.value ∙ ap (λ t. t.numbers) c.self.view_is ∙ tables.numbers in
    (by_number inputs l c.args.offset c.number_at-number.result c.deref.result.now none found numbers c.number_at-number.ensures.value c.number_at-number.ensures.none).none c.if-number-eq0.true

pub returns : goal.returns
returns c = λ inputs l none found is.
    let tables = tables_of (parsed inputs) l c.args.self.now is in
    let numbers = c.deref.ensures.value ∙ ap (λ t. t.numbers) c.self.view_is ∙ tables.numbers in
    let own = by_number inputs l c.args.offset c.number_at-number.result c.deref.result.now none found numbers c.number_at-number.ensures.value c.number_at-number.ensures.none in
    there inputs l c.args.offset c.number_at-number.result c.deref-2.result.now own c.if-number-eq0.false (c.deref-2.ensures.value ∙ ap (λ t. t.places) c.self.view_is ∙ tables.places) c.get.result c.get.ensures.lookup.3
