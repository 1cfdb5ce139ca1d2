-- What is written where an item starts: the item by itself, up to the next place (`alone_here`, `alone_next`), its group, up to the place behind that
-- (`group_here`), or a jump or call through the table (`site_here`).
use Rattle.std.proofs.Common.{◌≡◌, ℕ, ◌+◌, ◌<◌, ◌^◌, inl, List, length, Some, None, true, false, refl, sym, ap, ◌∙◌, subst, arith}
use Rattle.std.specs.Prelude.{slice_index}
use Rattle.std.specs.Option.{is_some, option_map_or}
use Rattle.std.proofs.lemmas.Bool.{lt-ltb}
use Rattle.std.proofs.lemmas.Option.{slice_get_within}
use Rattle.zc_base.specs.Fields.{half_bytes}
use Rattle.zc_base.specs.declared.place.Place.{Place}
use Rattle.psabi_sym.specs.Faults.{gather_fault}
use Rattle.psabi_sym.specs.Inputs.{ParsedInputs, parsed}
use Rattle.psabi_sym.specs.Indexed.{IndexedSection}
use Rattle.block_cut.specs.Items.{index_on, is_start_at, item_at, place_of, starts_on}
use Rattle.block_cut.specs.Places.{IsPlaceNumber}
use Rattle.block_cut.specs.declared.item.Item.{Item}
use Rattle.block_cut.specs.declared.place_number.PlaceNumber.{PlaceNumber}
use Rattle.frame_match.specs.declared.group.Group.{Group}
use Rattle.frame_match.specs.Invariants.Marks.{HasItem}
use Rattle.shrink_layout.specs.Invariants.Numbers.{HasPlace}
use Rattle.shrink_layout.specs.Pieces.{group_size}
use Rattle.shrink_layout.specs.Units.{OneGroup, OneItem, OneSite}
use Rattle.zc_decode.specs.declared.short.Short.TheVariants.{TableJump}
use Rattle.zc_encode.specs.Halves.{encoded16}
use Rattle.zc_encode.proofs.EncodingLaws.{encoding-table}
use Rattle.zc_link.specs.LaidOut.{IsLaidOut}
use Rattle.zc_link.specs.Standing.{IsReady, StandsHere, StartsHere, UnitHere, WrittenHere}
use Rattle.zc_link.specs.TextLayout.{TextLayout, behind, size_in}
use Rattle.zc_link.specs.Written.{IsGroupWritten, SpellsHalf}
use Rattle.zc_link.proofs.Adds.{half_are}
use Rattle.zc_link.proofs.GroupBytes.{half_spells}
use Rattle.zc_link.proofs.GroupHalves.{some_when}
use Rattle.zc_link.proofs.Walk.{GivesAddress, IsTarget, TakesHere, after, after_index, after_target, has_place, number_few, number_there, start_there, takes_here, there}

module _
    (L : TextLayout) (none : gather_fault L.inputs ≡ None) (ready : IsReady L.inputs) (laid : IsLaidOut L) (number : PlaceNumber) (code : List ℕ) (q : Place)
    (item : Item) (starts : StartsHere L number code q item) where
  abbrev p : ParsedInputs
  p = parsed L.inputs

  abbrev l : IndexedSection
  l = starts.section

  abbrev n : ℕ
  n = starts.offset

  pub is_here : item_at p (place_of l n) ≡ Some item
  is_here = ap (item_at p) starts.place ∙ starts.is

  begins : starts_on l.section n ≡ true
  begins = start_there L none ready laid number.section l starts.listed starts.code n item is_here

  pub alone_number : IsPlaceNumber p.objects q number
  alone_number =
      subst (λ r. IsPlaceNumber p.objects r number) starts.place
      (subst (λ m. IsPlaceNumber p.objects (place_of l n) (record { section = number.section; index = m })) (sym starts.index)
      (number_there L none ready laid number.section l starts.listed starts.code n (inl begins)))

  -- an item starts at the place
  pub alone_start : is_start_at p.objects q ≡ true
  alone_start =
      ap (is_start_at p.objects) (sym starts.place)
      ∙ ap (λ o. option_map_or (λ s. starts_on s n) o false) ((there L none ready laid number.section l starts.listed starts.code).at n) ∙ begins

  pub has_item : HasItem p.objects number
  has_item = (q, alone_start, alone_number)

  pub alone_few : number.index + 1 < 2 ^ 32
  alone_few = (number_few L none ready laid number.section l starts.listed starts.code number.index n starts.index (inl begins)).1

  abbrev next_target : IsTarget l.section (after L none ready laid number.section l starts.listed starts.code n item is_here)
  next_target = after_target L none ready laid number.section l starts.listed starts.code n item is_here

  next_index : number.index + 1 ≡ index_on l.section (after L none ready laid number.section l starts.listed starts.code n item is_here)
  next_index = after_index L none ready laid number.section l starts.listed starts.code n item is_here number.index starts.index

  pub alone_has : HasPlace p.objects (record { section = number.section; index = number.index + 1 })
  alone_has =
      has_place L none ready laid number.section l starts.listed starts.code (after L none ready laid number.section l starts.listed starts.code n item is_here)
      (number.index + 1) next_index next_target

  -- ---- an item by itself

  module _ (unit : L.unit q ≡ Some (OneItem item)) (a : ℕ) (listed : L.address q ≡ Some a) where
    pub takes : TakesHere L none ready laid number.section l starts.listed starts.code n item is_here (ap L.unit starts.place ∙ unit) a (ap L.address starts.place ∙ listed)
    takes = takes_here L none ready laid number.section l starts.listed starts.code n item is_here (ap L.unit starts.place ∙ unit) a (ap L.address starts.place ∙ listed)

    takes_in : takes.size ≡ size_in L q
    takes_in = sym takes.stands.takes ∙ ap (size_in L) starts.place

    -- the next place has the address behind it
    pub alone_next : (next : ℕ) → GivesAddress L number.section (number.index + 1) next → next ≡ a + size_in L q
    alone_next next found =
        let m = after L none ready laid number.section l starts.listed starts.code n item is_here in
        omega (
          arith,
          takes_in,
          found (place_of l m) (a + takes.size) takes.next
              (subst (λ i. IsPlaceNumber p.objects (place_of l m) (record { section = number.section; index = i })) (sym next_index)
              (number_there L none ready laid number.section l starts.listed starts.code m next_target)),
        )

    module _ (size : ℕ) (sized : size ≡ size_in L q) where
      size_is : takes.size ≡ size
      size_is = takes_in ∙ sym sized

      pub alone_stands : StandsHere L code q item a size
      alone_stands =
          subst (StandsHere L code q item a) size_is
          (subst (λ r. StandsHere L code r item a takes.size) starts.place (subst (λ c. StandsHere L c (place_of l n) item a takes.size) starts.own takes.stands))

      pub alone_here : (bytes : List ℕ) → WrittenHere L code q (OneItem item) a size bytes → UnitHere L code q a bytes
      alone_here bytes written =
          let long : size ≡ length bytes = sym written.long in
          let far : a + takes.size ≡ a + length bytes = omega (arith, size_is, written.long) in
          record {
            unit = OneItem item;
            is = unit;
            address = listed;
            next = ap (λ r. L.address (behind L r)) (sym starts.place) ∙ takes.behind_there ∙ ap Some far;
            written = subst (λ m. WrittenHere L code q (OneItem item) a m bytes) long written;
          }

-- ---- a group

module _ (L : TextLayout) (laid : IsLaidOut L) (code : List ℕ) (q : Place) (g : Group) (unit : L.unit q ≡ Some (OneGroup g)) (a : ℕ) (listed : L.address q ≡ Some a) where
  pub group_here :
      (bytes : List ℕ) → length bytes ≡ group_size g → IsGroupWritten (group_size g) g bytes → ((k : ℕ) → slice_index bytes k < 256) → UnitHere L code q a bytes
  group_here bytes long written octets =
      let lies = laid.each q a (OneGroup g) unit listed in
      let far : a + lies.size ≡ a + length bytes = omega (arith, lies.form, long) in
      record {
        unit = OneGroup g;
        is = unit;
        address = listed;
        next = lies.next ∙ ap Some far;
        written = record { long = refl; written = subst (λ m. IsGroupWritten m g bytes) (sym long) written; octets = octets };
      }

-- ---- a jump or call through the table

-- the number of a slot is small, so the jump through it has a halfword
pub site_some : (slot : ℕ) → slot < 256 → is_some (encoded16 (TableJump slot)) ≡ true
site_some slot few = some_when _ _ (lt-ltb slot 256 few)

pub site_spells : (slot half : ℕ) → encoded16 (TableJump slot) ≡ Some half → SpellsHalf (half_bytes half) (TableJump slot)
site_spells slot half is = half_spells (TableJump slot) half (tt, ap is_some is) is (encoding-table slot (Some half) is)

module _
    (L : TextLayout) (laid : IsLaidOut L) (code : List ℕ) (q : Place) (slot : ℕ) (unit : L.unit q ≡ Some (OneSite slot)) (a : ℕ)
    (listed : L.address q ≡ Some a) where
  pub site_few : slot < 256
  site_few =
      let site = (laid.each q a (OneSite slot) unit listed).is in
      let few = laid.few in
      omega (arith, few, slice_get_within L.slots slot (Some site.to) site.leads)

  pub site_here : (half : ℕ) → encoded16 (TableJump slot) ≡ Some half → UnitHere L code q a (half_bytes half)
  site_here half is =
      let lies = laid.each q a (OneSite slot) unit listed in
      let far : a + lies.size ≡ a + 2 = omega (arith, lies.form) in
      record {
        unit = OneSite slot;
        is = unit;
        address = listed;
        next = lies.next ∙ ap Some far;
        written = record { long = refl; written = site_spells slot half is; octets = half_are half };
      }
