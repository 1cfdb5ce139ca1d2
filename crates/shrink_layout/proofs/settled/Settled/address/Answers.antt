-- A place has an address if it has a number among all, and isn't inside a group.
use Rattle.std.proofs.Common.{◌≡◌, Option, Some, None, MatchOption, true, false, ap, subst, sym, ◌∙◌}
use Rattle.zc_base.specs.declared.place.Place.{Place}
use Rattle.std.proofs.lemmas.Bool.{false_from_ne_true}
use Rattle.psabi_sym.specs.Inputs.{Inputs, ParsedInputs, parsed}
use Rattle.block_cut.specs.Items.{is_target_at}
use Rattle.block_cut.specs.Places.{IsPlaceNumber}
use Rattle.block_cut.specs.declared.place_number.PlaceNumber.{PlaceNumber}
use Rattle.shrink_layout.specs.Settled.{SettledLayout, settled_address}
use Rattle.shrink_layout.specs.Units.{is_inside, is_listed_at}
use Rattle.shrink_layout.proofs.PlaceAddressLaws.{address_nowhere, address_there}
use Rattle.shrink_layout.proofs.RolePlaces.{inside_unlisted, listed_target, target_listed}
use Rattle.shrink_layout.proofs.settled.Settled.address.Goals as goal

-- what is known of a place by the number that was found, of equal inputs
abbrev IsFound : Inputs → Place → Option PlaceNumber → Type 0
IsFound inputs q found =
    MatchOption found (is_target_at (parsed inputs).objects q ≡ false) (λ n. (is_target_at (parsed inputs).objects q ≡ true) × IsPlaceNumber (parsed inputs).objects q n)

known : (x y : Inputs) (q : Place) (o p : Option PlaceNumber) → x ≡ y → o ≡ p → IsFound x q o → IsFound y q p
known x y q o p same is has = subst (IsFound y q) is (subst (λ z. IsFound z q o) same has)

-- where code may not lead, no place is listed
unlisted : (inputs : ParsedInputs) (q : Place) → is_target_at inputs.objects q ≡ false → is_listed_at inputs q ≡ false
unlisted inputs q other = false_from_ne_true (is_listed_at inputs q) (λ listed. cc (other, listed_target inputs q listed))

pub returns-in-None : goal.returns-in-None
returns-in-None c =
    let own = c.self.inside in
    let q = c.args.p in
    let has = known c.cut-cut.result.now own.planned q c.number.result None c.cut-cut.ensures.same c.in-None.is c.number.ensures in
    sym (address_nowhere (parsed own.planned) own.slots.items q (unlisted (parsed own.planned) q has))
    ∙ ap (λ (x : SettledLayout). settled_address (parsed x.inputs) x.slots q) c.self.view_is

pub returns-then-is_inside_by : goal.returns-then-is_inside_by
returns-then-is_inside_by c =
    let own = c.self.inside in
    let q = c.args.p in
    let same = ap (λ (x : SettledLayout). x.inputs) c.self.view_is in
    let has = known _ _ q _ _ (c.cut-cut.ensures.same ∙ same) c.in-Some.is c.number.ensures in
    let inside : is_inside (parsed own.planned) q ≡ true =
    ap (λ x. is_inside (parsed x) q) same ∙ sym (c.is_inside_by.ensures q has.0 has.1) ∙ c.if-is_inside_by.true in
    sym (address_nowhere (parsed own.planned) own.slots.items q (inside_unlisted own.planned c.self.invariant.faultless q inside))
    ∙ ap (λ (x : SettledLayout). settled_address (parsed x.inputs) x.slots q) c.self.view_is

pub returns-else-is_inside_by : goal.returns-else-is_inside_by
returns-else-is_inside_by c =
    let q = c.args.p in
    let same = ap (λ (x : SettledLayout). x.inputs) c.self.view_is in
    let has = known _ _ q _ _ (c.cut-cut.ensures.same ∙ same) c.in-Some.is c.number.ensures in
    let outside = sym (c.is_inside_by.ensures q has.0 has.1) ∙ c.if-is_inside_by.false in
    let given = parsed c.args.self.now.inputs in
    let there = address_there given c.args.self.now.slots q (target_listed given q has.0 outside) in
    ap Some (c.address_at.ensures q _ there has.1) ∙ sym there
