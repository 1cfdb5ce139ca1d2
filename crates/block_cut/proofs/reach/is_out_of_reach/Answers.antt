use Rattle.std.proofs.Common.{◌≡◌, ◌+◌, ◌≤◌, Bool, IfSome, Option, ℕ, None, Some, false, not, sym, ap, subst, ◌∙◌}
use Rattle.std.specs.Prelude.{◌||◌}
use Rattle.std.specs.Option.{option_map_or, unwrap_or}
use Rattle.zc_base.specs.declared.place.Place.{Place}
use Rattle.psabi_sym.specs.Faults.{gather_fault}
use Rattle.psabi_sym.specs.Inputs.{Inputs, parsed}
use Rattle.block_cut.specs.Faults.{distance_between, is_out_of_reach, leaves_fixed, reaches, way_place}
use Rattle.block_cut.specs.Items.{item_at, size_at}
use Rattle.block_cut.specs.Places.{place_there}
use Rattle.block_cut.specs.PlainLayout.{plain_address}
use Rattle.block_cut.specs.declared.code_place.CodePlace.{CodePlace}
use Rattle.block_cut.specs.declared.item.Item.{Item}
use Rattle.block_cut.proofs.ItemLaws.{item_found}
use Rattle.block_cut.proofs.PlainLaws.{item_placed}
use Rattle.block_cut.proofs.ReachLaws.{in_range, no_way, way_there}
use Rattle.block_cut.proofs.reach.is_out_of_reach.Goals as goal

pub returns-in_default-way_place : goal.returns-in_default-way_place
returns-in_default-way_place c = λ q same row.
    let inputs = c.args.objects.now in
    let i = c.in-Some.item in
    let at : item_at (parsed inputs) q ≡ Some i = sym (ap (λ w. w.item) same) ∙ c.in-Some.is in
    let size : c.args.place.now.size ≡ size_at (parsed inputs).objects q = ap (λ w. w.size) same in
    sym (no_way (parsed inputs) q i at (ap (λ n. way_place n i) (sym size) ∙ sym c.way_place.ensures ∙ c.in_default-way_place.is))

-- whether it is far, by the call's answer
far : (inputs : Inputs) (q to : Place) (place : CodePlace) (i : Item) (address : Option ℕ) (is : Bool) → gather_fault inputs ≡ None → place ≡ place_there (parsed inputs) q → place.item ≡ Some i
    → way_place place.size i ≡ Some to → address ≡ plain_address (parsed inputs) to
    → ((least : ℕ) → (least ≤ place.address) × (place.address ≤ least + 0x4_0000) → IfSome address (λ a. (least ≤ a) × (a ≤ least + 0x4_0000))
    → is ≡ option_map_or (λ d. not (reaches place.size i d)) (distance_between (Some place.address) address) false)
    → (is || leaves_fixed (parsed inputs) q to) ≡ is_out_of_reach (parsed inputs) q
far inputs q to place i address is none same some leads there tested =
    let Near : Option ℕ → Type 0 = λ o. IfSome o (λ a. (inputs.map.text ≤ a) × (a ≤ inputs.map.text + 0x4_0000)) in
    let at : item_at (parsed inputs) q ≡ Some i = sym (ap (λ w. w.item) same) ∙ some in
    let size : place.size ≡ size_at (parsed inputs).objects q = ap (λ w. w.size) same in
    let placed = item_placed (parsed inputs) q i (item_found (parsed inputs) q i at) in
    let from : plain_address (parsed inputs) q ≡ Some place.address = placed ∙ ap Some (sym (ap (λ w. w.address) same ∙ ap (λ o. unwrap_or o 0) placed)) in
    ap (λ b. b || leaves_fixed (parsed inputs) q to)
    (tested inputs.map.text (subst Near from (in_range inputs none q)) (subst Near (sym there) (in_range inputs none to))
    ∙ (λ j. option_map_or (λ d. not (reaches (size j) i d)) (distance_between (sym from j) (there j)) false))
    ∙ sym (way_there (parsed inputs) q to i at (ap (λ n. way_place n i) (sym size) ∙ leads))

pub returns-then-is_far : goal.returns-then-is_far
returns-then-is_far c = λ q same row.
    let inputs = c.args.objects.now in
    let to = c.in-Some-way_place.to in
    c.if-is_far.true ∙ ap (λ b. b || leaves_fixed (parsed inputs) q to) (sym c.if-is_far.true)
    ∙ far inputs q to c.args.place.now c.in-Some.item c.address.result c.is_far.result c.requires.faultless same c.in-Some.is (sym c.way_place.ensures ∙ c.in-Some-way_place.is) c.address.ensures c.is_far.ensures

pub returns-else-is_far : goal.returns-else-is_far
returns-else-is_far c = λ q same row.
    let inputs = c.args.objects.now in
    let to = c.in-Some-way_place.to in
    c.leaves_fixed.ensures (parsed inputs) q row ∙ ap (λ b. b || leaves_fixed (parsed inputs) q to) (sym c.if-is_far.false)
    ∙ far inputs q to c.args.place.now c.in-Some.item c.address.result c.is_far.result c.requires.faultless same c.in-Some.is (sym c.way_place.ensures ∙ c.in-Some-way_place.is) c.address.ensures c.is_far.ensures
