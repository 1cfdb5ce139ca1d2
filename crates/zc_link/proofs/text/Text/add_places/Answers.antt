-- Each turn takes a place: what is written for the item there, nothing inside a group, and if no item starts there the section ends.
use Rattle.std.proofs.Common.{◌≡◌, ℕ, ◌+◌, ◌++◌, ◌<◌, ◌^◌, List, [], ◌∷◌, length, None, Some, sym, ap, ◌∙◌, subst, arith, slice_get}
use Rattle.psabi_sym.specs.Faults.{gather_fault}
use Rattle.psabi_sym.specs.Inputs.{Inputs, parsed}
use Rattle.psabi_sym.specs.Indexed.{IndexedSection, all_sections}
use Rattle.zc_base.specs.declared.mem_map.MemMap.{MemMap}
use Rattle.zc_base.specs.declared.place.Place.{Place}
use Rattle.block_cut.specs.Places.{code_places}
use Rattle.block_cut.specs.declared.item.Item.{Item}
use Rattle.zc_link.specs.Codes.{code_bytes}
use Rattle.zc_link.specs.Standing.{StartsHere, UnitHere}
use Rattle.zc_link.specs.TextLayout.{TextLayout}
use Rattle.zc_link.specs.declared.text.Text.{Text}
use Rattle.zc_link.proofs.Standing.{gathered}
use Rattle.zc_link.proofs.Walk.{After, AtHand, OnWay, Walks, at_hand, at_end, index_few, text_small, turn_address, turn_ends, turn_inside, turn_starts, turn_steps, walk_begins}
use Rattle.zc_link.proofs.text.Text.add_places.Given as given
use Rattle.zc_link.proofs.text.Text.add_places.Goals as goal
use Rattle.zc_link.proofs.text.Text.add_places.Goals.{After-len, in-None+in_ok-push-in-None, in-Some+in-Some-unit_code+in_ok-push-in-Some+in_ok-add_to-in-Some, in-Some+in_default}

-- ---- a turn

module _ (g : given.Over) (c : After-len g) where
  abbrev L : TextLayout
  L = g.L.Layout.layout c.args.layout.now

  abbrev none : gather_fault L.inputs ≡ None
  none = gathered L.inputs c.cut-cut.ensures.ready.faultless

  abbrev i : ℕ
  i = c.loop-i.i

  abbrev text : List ℕ
  text = c.loop-i.self.text.items

  abbrev places : List (Place × ℕ)
  places = c.loop-i.self.places.items

  abbrev address : ℕ
  address = c.map-start.result.text + c.len.result

  address_is : L.inputs.map.text + length text ≡ address
  address_is =
      let map : c.map-start.result ≡ L.inputs.map = c.map-start.ensures.value ∙ ap (λ (x : Inputs). x.map) (c.objects-2.ensures.same ∙ c.cut-cut.ensures.same) in
      omega (arith, ap (λ (m : MemMap). m.text) map, c.len.ensures)

  -- its place
  abbrev here : Place
  here = record { object = c.object-object.result; section = c.index-index.result; offset = c.index-places-i.result.offset }

  hand : AtHand L c.args.k i text places c.object-object.result c.index-index.result c.section-section.result.section.bytes c.index-places-i.result
  hand =
      let asked = at_hand L none c.cut-cut.ensures.ready c.cut-cut.ensures.laid c.args.k i text places c.places-places.result.now c.section-section.result
      c.args.self.now.text.items c.args.self.now.places.items c.requires c.cut-cut.result.now c.objects.result.now c.cut-cut.ensures.same c.objects.ensures.same
      c.section-section.ensures c.places-places.ensures c.loop-i.invariant.after c.index-places-i.result c.index-places-i.is c.loop-i-test.true in
      subst (λ x. AtHand L c.args.k i text places x c.index-index.result c.section-section.result.section.bytes c.index-places-i.result) (sym c.object-object.ensures)
      (subst (λ x. AtHand L c.args.k i text places c.section-section.result.object x c.section-section.result.section.bytes c.index-places-i.result) (sym c.index-index.ensures) asked)

  few : i + 1 < 2 ^ 32
  few = (index_few L none c.cut-cut.ensures.ready c.cut-cut.ensures.laid c.args.k hand.section hand.at hand.code i text places hand.walks).1

  small : L.inputs.map.text + length text < 2 ^ 32
  small = text_small L none c.cut-cut.ensures.ready c.cut-cut.ensures.laid c.args.k hand.section hand.at hand.code i text places hand.walks

  -- the section ends here
  ends : c.index-places-i.result.item ≡ None → After L c.args.k hand.section (i + 1) text (places ++ (here, address) ∷ [])
  ends last =
      turn_ends L none c.cut-cut.ensures.ready c.cut-cut.ensures.laid c.args.k hand.section hand.at hand.code i text places hand.walks here
      c.section-section.result.section.bytes address hand.place_is hand.code_is address_is (sym hand.item_is ∙ last)

  -- the text ends at its address, if it has one
  address_of : (b : ℕ) → L.address here ≡ Some b → address ≡ b
  address_of =
      turn_address L none c.cut-cut.ensures.ready c.cut-cut.ensures.laid c.args.k hand.section hand.at hand.code i text places hand.walks here
      c.section-section.result.section.bytes address hand.place_is hand.code_is address_is

  -- or an item starts here
  module _ (item : Item) (is : c.index-places-i.result.item ≡ Some item) (own : List ℕ) (own_is : own ≡ c.section-section.result.section.bytes) where
    starts : StartsHere L (record { section = c.args.k; index = i }) own here item
    starts =
        turn_starts L none c.cut-cut.ensures.ready c.cut-cut.ensures.laid c.args.k hand.section hand.at hand.code i text places hand.walks here
        own address hand.place_is (hand.code_is ∙ sym own_is) address_is item (sym hand.item_is ∙ is)

    steps : (bytes : List ℕ) → UnitHere L own here address bytes → Walks L c.args.k hand.section (i + 1) (text ++ bytes) (places ++ (here, address) ∷ [])
    steps =
        turn_steps L none c.cut-cut.ensures.ready c.cut-cut.ensures.laid c.args.k hand.section hand.at hand.code i text places hand.walks here
        own address hand.place_is (hand.code_is ∙ sym own_is) address_is item (sym hand.item_is ∙ is)

    inside : L.address here ≡ None → Walks L c.args.k hand.section (i + 1) text places
    inside =
        turn_inside L none c.cut-cut.ensures.ready c.cut-cut.ensures.laid c.args.k hand.section hand.at hand.code i text places hand.walks here
        own address hand.place_is (hand.code_is ∙ sym own_is) address_is item (sym hand.item_is ∙ is)

  -- so far it is the walk after one place more, if its text and places are these
  after_turn :
      (more text_now : List ℕ) (places_more places_now : List (Place × ℕ)) → text_now ≡ more → places_now ≡ places_more
      → After L c.args.k hand.section (i + 1) more places_more
      → (m : IndexedSection) → slice_get (all_sections (parsed L.inputs).objects) c.args.k ≡ Some m → After L c.args.k m (i + 1) text_now places_now
  after_turn more text_now places_more places_now text_is places_are after m at =
      let same : hand.section ≡ m = cc (sym hand.at ∙ at) in
      subst (λ x. After L c.args.k x (i + 1) text_now places_now) same
      (subst (λ t. After L c.args.k hand.section (i + 1) t places_now) (sym text_is)
      (subst (λ ps. After L c.args.k hand.section (i + 1) more ps) (sym places_are) after))

-- ---- the goals

pub loop-i-init : goal.loop-i-init
loop-i-init g c =
    let L = g.L.Layout.layout c.args.layout.now in
    let cut = c.cut-cut.ensures in
    let none = gathered L.inputs cut.ready.faultless in
    record {
      after = λ m at code. OnWay (walk_begins L none cut.ready cut.laid c.args.k m at code c.args.self.now.text.items c.args.self.now.places.items c.requires);
    }

pub overflow_cast-address : goal.overflow_cast-address
overflow_cast-address g c = record { fits = omega (arith, small g (goal.at.overflow_cast-address g c).After-len, c.len.ensures) }

pub overflow_add-address : goal.overflow_add-address
overflow_add-address g c =
    let a = (goal.at.overflow_add-address g c).After-len in
    record { fits = omega (arith, small g a, address_is g a) }

pub overflow_cast-number : goal.overflow_cast-number
overflow_cast-number g c = record { fits = omega (arith, few g (goal.at.overflow_cast-number g c).After-len) }

pub unit_code-requires-clause-starts : goal.unit_code-requires-clause-starts
unit_code-requires-clause-starts g c =
    starts g (goal.at.unit_code-requires-clause-starts g c).After-len c.in-Some.item c.in-Some.is c.bytes.result.now c.bytes.ensures

pub unit_code-requires-clause-own : goal.unit_code-requires-clause-own
unit_code-requires-clause-own g c = (hand g (goal.at.unit_code-requires-clause-own g c).After-len).size_is

pub unit_code-requires-clause-address : goal.unit_code-requires-clause-address
unit_code-requires-clause-address g c = address_of g (goal.at.unit_code-requires-clause-address g c).After-len

pub loop-i-preserved : goal.loop-i-preserved
loop-i-preserved g c =
    let a = (goal.at.loop-i-preserved g c).After-len in
    elim c.match-place.branch [
      | in-None+in_ok-push-in-None w ↦ record {
        after = λ m at code.
            after_turn g a (text g a) c.match-place.self.text.items (places g a ++ (here g a, address g a) ∷ []) c.match-place.self.places.items (ap (λ (t : Text). t.text.items) w.self-is)
            (ap (λ (t : Text). t.places.items) w.self-is ∙ w.in_ok-push-in-None.ensures.items) (ends g a w.in-None.is) m at;
      }
      | in-Some+in-Some-unit_code+in_ok-push-in-Some+in_ok-add_to-in-Some w ↦
          let bytes = code_bytes w.in-Some-unit_code.code in
          record {
            after = λ m at code.
                after_turn g a (text g a ++ bytes) c.match-place.self.text.items (places g a ++ (here g a, address g a) ∷ []) c.match-place.self.places.items (ap (λ (t : Text). t.text.items) w.self-is ∙ w.in_ok-add_to-in-Some.ensures)
                (ap (λ (t : Text). t.places.items) w.self-is ∙ w.in_ok-push-in-Some.ensures.items)
                (OnWay (steps g a w.in-Some.item w.in-Some.is w.bytes.result.now w.bytes.ensures bytes w.in-Some-unit_code.ensures.written)) m at;
          }
      | in-Some+in_default w ↦ record {
        after = λ m at code.
            after_turn g a (text g a) c.match-place.self.text.items (places g a) c.match-place.self.places.items (ap (λ (t : Text). t.text.items) w.self-is) (ap (λ (t : Text). t.places.items) w.self-is)
            (OnWay (inside g a w.in-Some.item w.in-Some.is w.bytes.result.now w.bytes.ensures w.in_default.ensures.inside)) m at;
      }
    ]

pub returns : goal.returns
returns g c =
    let L = g.L.Layout.layout c.args.layout.now in
    let cut = c.cut-cut.ensures in
    let none = gathered L.inputs cut.ready.faultless in
    let l = c.requires.section in
    let at : slice_get (all_sections (parsed c.cut-cut.result.now).objects) c.args.k ≡ Some l = ap (λ (x : Inputs). slice_get (all_sections (parsed x).objects) c.args.k) cut.same ∙ c.requires.at in
    at_end L none cut.ready cut.laid c.args.k l c.requires.at c.requires.code c.loop-i.i c.loop-i.self.text.items c.loop-i.self.places.items c.places-places.result.now
    (c.loop-i.invariant.after l c.requires.at c.requires.code) (c.places-places.ensures l at ∙ ap (λ (x : Inputs). code_places (parsed x) l) cut.same) c.loop-i-test.false
