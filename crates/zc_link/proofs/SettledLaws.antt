-- The settled layout is a layout of the code (`settled_is_laid_out`): an item lies between its place and the next in a form that it may
-- have there (`settled_lies`), and items with room of their own have addresses of their own, since numbers rise with places
-- (`settled_distinct`).
use Rattle.std.proofs.Common.{◌≡◌, ℕ, ◌+◌, ◌<◌, ◌≤◌, List, length, get_or, Bool, true, false, cond, eqb, Option, Some, None, refl, sym, ap, ◌∙◌, subst, arith, inl, inr}
use Rattle.std.specs.Prelude.{◌&&◌, slice_index}
use Rattle.std.specs.Option.{is_some, option_map_or, unwrap_or}
use Rattle.std.proofs.lemmas.Option.{get_or_from_slice_get, none-some, same_Some, slice_get_within}
use Rattle.zc_base.specs.MemMap.{IsMap}
use Rattle.zc_base.specs.Places.{is_before}
use Rattle.zc_base.specs.declared.place.Place.{Place}
use Rattle.elf32_read.specs.Parts.{ObjectParts}
use Rattle.psabi_sym.specs.Faults.{gather_fault}
use Rattle.psabi_sym.specs.Fixed.{is_fixed_at}
use Rattle.psabi_sym.specs.Inputs.{Inputs, parsed}
use Rattle.block_cut.specs.Faults.{first_fault}
use Rattle.block_cut.specs.Items.{after_items, is_start_at, item_at, size_at}
use Rattle.block_cut.specs.declared.item.Item.{Item}
use Rattle.block_cut.specs.declared.item.Item.TheVariants.{Op, Hi, Lo, PcHi, PcLo, Branch, Jump, Call, Align, Word, Raw, RawShort, RawPair}
use Rattle.block_cut.proofs.ItemLaws.{item_found}
use Rattle.block_cut.proofs.PlaceOrder.{same_or_before}
use Rattle.sym_machine.specs.Conditions.{is_solid}
use Rattle.shrink_layout.specs.declared.piece.Piece.{Piece}
use Rattle.shrink_layout.specs.declared.piece.Piece.TheVariants.{Fixed, WithOthers}
use Rattle.shrink_layout.specs.Halves.{fixed_instr}
use Rattle.shrink_layout.specs.Forms.{HasAlignment, IsForm, form_reaches, target, width}
use Rattle.shrink_layout.specs.Pieces.{group_size, instr_size, is_short, is_short_on, item_piece_at, piece_number_at, pieces_of, slot_at, unit_at, unit_piece}
use Rattle.shrink_layout.specs.Settled.{settled_address, settled_addresses, settled_end, settled_sizes}
use Rattle.frame_match.specs.declared.group.Group.{Group}
use Rattle.frame_match.specs.declared.role.Role.TheVariants.{Inside}
use Rattle.shrink_layout.specs.Units.{CodeUnit, OneGroup, OneItem, OneSite, is_within, jump_of, rest_instr, unit_items}
use Rattle.shrink_layout.proofs.AddressLaws.{fits_at, form_at, next_address}
use Rattle.shrink_layout.proofs.ChipLaws.{short_on-short}
use Rattle.shrink_layout.proofs.NumberLaws.{item_target, number_most, unit_there}
use Rattle.shrink_layout.proofs.GroupAddresses.{behind_address, group_ends, unit_address}
use Rattle.shrink_layout.proofs.OrderLaws.{number_rises_past}
use Rattle.shrink_layout.proofs.PlaceAddressLaws.{address_nowhere, start_some, unit_written}
use Rattle.shrink_layout.proofs.RolePlaces.{inside_unlisted, leader_listed, listed_target}
use Rattle.shrink_layout.proofs.UnitLaws.{found_start, role_found, unit_group, unit_item, unit_site}
use Rattle.shrink_layout.proofs.PremiseLaws.{all_aligned}
use Rattle.rv_decode.specs.declared.instr.Instr.{Instr}
use Rattle.zc_link.specs.LaidOut.{HasOwnHalf, IsLaidOut, LiesAt, ListsLeaders, text_end, linked_by}
use Rattle.zc_link.specs.Standing.{IsReady, ItemStands}
use Rattle.zc_link.specs.TextLayout.{behind, size_in, zc_layout}
use Rattle.zc_link.proofs.Faultless.{start_listed}
use Rattle.zc_link.proofs.GroupItems.{inside_role}
use Rattle.zc_link.proofs.ItemUnits.{single_inside}
use Rattle.zc_link.proofs.SlotLaws.{slot_leads}
use Rattle.zc_link.proofs.SizedPieces.{size_is}
use Rattle.zc_link.proofs.Standing.{gathered, item_own, item_stands}
use Rattle.zc_link.proofs.SettledLawsForms.{IsNear, has_form, known_short_on, own_half, width_some}
use Rattle.zc_link.proofs.SettledLawsPlaces.{address, address_rises, end_settled, forms, settled, settled_begins, settled_even, settled_few, settled_here, settled_high, settled_listed, settled_low, settled_short}

-- where a jump or a call leads
jump_listed :
    (A : Place → Option ℕ) (items : Place → Option Item) (one two : Option Instr) (item : Item) (rd : ℕ) (to : Place) → ItemStands A items one two item
    → jump_of item ≡ Some (rd, to) → is_some (A to) ≡ true
jump_listed A items one two (Op i) rd to h is = absurd (none-some (rd, to) is)
jump_listed A items one two (Hi i t) rd to h is = absurd (none-some (rd, to) is)
jump_listed A items one two (Lo i t) rd to h is = absurd (none-some (rd, to) is)
jump_listed A items one two (PcHi i t) rd to h is = absurd (none-some (rd, to) is)
jump_listed A items one two (PcLo i from) rd to h is = absurd (none-some (rd, to) is)
jump_listed A items one two (Branch op first second at) rd to h is = absurd (none-some (rd, to) is)
jump_listed A items one two (Jump r at) rd to h is =
    let same = same_Some (r, at) (rd, to) is in
    ap (λ (x : ℕ × Place). is_some (A x.1)) (sym same) ∙ ap is_some h.listed
jump_listed A items one two (Call r temp at) rd to h is =
    let same = same_Some (r, at) (rd, to) is in
    ap (λ (x : ℕ × Place). is_some (A x.1)) (sym same) ∙ ap is_some h.listed
jump_listed A items one two (Align n) rd to h is = absurd (none-some (rd, to) is)
jump_listed A items one two (Word t) rd to h is = absurd (none-some (rd, to) is)
jump_listed A items one two (Raw word) rd to h is = absurd (none-some (rd, to) is)
jump_listed A items one two (RawShort half) rd to h is = absurd (none-some (rd, to) is)
jump_listed A items one two (RawPair first second) rd to h is = absurd (none-some (rd, to) is)

module _ (inputs : Inputs) (faultless : first_fault inputs ≡ None) (is_map : IsMap inputs.map) (slots : List (Option Place)) (slots_few : length slots ≤ 256) where
  -- none stands between objects
  abbrev none : gather_fault inputs ≡ None
  none = gathered inputs faultless

  abbrev objects : List ObjectParts
  objects = (parsed inputs).objects

  abbrev A : Place → Option ℕ
  A = settled_address (parsed inputs) slots

  abbrev sizes : List ℕ
  sizes = settled_sizes (parsed inputs) slots

  abbrev pieces : List Piece
  pieces = pieces_of (parsed inputs) slots

  abbrev at_number : ℕ → ℕ
  at_number = address inputs none is_map slots slots_few

  -- ---- what is written

  -- the piece of a unit: its form, and where it ends
  record IsPiece (q : Place) (u : CodeUnit) : Type 0 where
    pub within : piece_number_at objects q < length pieces
    pub there : (d : Piece) → get_or pieces (piece_number_at objects q) d ≡ unit_piece (parsed inputs) q (Some u)
    pub form : IsForm (unit_piece (parsed inputs) q (Some u)) (slice_index sizes (piece_number_at objects q))
    pub ends :
        at_number (piece_number_at objects q + 1)
        ≡ at_number (piece_number_at objects q) + width (unit_piece (parsed inputs) q (Some u)) (slice_index sizes (piece_number_at objects q)) (at_number (piece_number_at objects q))

  piece_is : (q : Place) (u : CodeUnit) → unit_at (parsed inputs) slots q ≡ Some u → IsPiece q u
  piece_is q u is =
      let n = piece_number_at objects q in
      let got = unit_there inputs none slots q u is in
      let within = slice_get_within pieces n (unit_piece (parsed inputs) q (Some u)) got in
      let there : (d : Piece) → get_or pieces n d ≡ unit_piece (parsed inputs) q (Some u) = λ d. get_or_from_slice_get pieces n (unit_piece (parsed inputs) q (Some u)) d got in
      record {
        within = within;
        there = there;
        form = subst (λ p. IsForm p (slice_index sizes n)) (there (Fixed 0)) (form_at pieces sizes n (Fixed 0) within (forms inputs none is_map slots slots_few));
        ends = next_address inputs.map.text pieces sizes n (Fixed 0) within (forms inputs none is_map slots slots_few)
            ∙ ap (λ p. at_number n + width p (slice_index sizes n) (at_number n)) (there (Fixed 0));
      }

  -- a place's address is near the text's start
  near : (q : Place) (b : ℕ) → A q ≡ Some b → IsNear objects at_number inputs.map.text q b
  near q b is = record {
    number = settled_here inputs none is_map slots slots_few q b is;
    even = settled_even inputs none is_map slots slots_few q b is;
    low = omega (arith, settled_low inputs none is_map slots slots_few q b is);
    few = settled_few inputs none is_map slots slots_few q b is;
  }

  -- the place after what is written at a place is as many items on as the unit has
  behind_is : (q : Place) (u : CodeUnit) → unit_at (parsed inputs) slots q ≡ Some u → behind (zc_layout inputs slots) q ≡ after_items objects (unit_items u) q
  behind_is q u is = ap (λ o. after_items objects (option_map_or unit_items o 1) q) is

  -- an item lies between its place and the next
  lies : (q : Place) (a : ℕ) (item : Item) → unit_at (parsed inputs) slots q ≡ Some (OneItem item) → A q ≡ Some a → LiesAt (zc_layout inputs slots) q a (OneItem item)
  unfolding settled_addresses
  lies q a item is got =
      let own = piece_is q (OneItem item) is in
      let here = near q a got in
      let n = piece_number_at objects q in
      let size = slice_index sizes n in
      let p = item_piece_at (parsed inputs) q item in
      let there = own.there (Fixed 0) in
      let fits : form_reaches p size (at_number n) (at_number (target p)) ≡ true =
      ap (λ r. form_reaches r size (at_number n) (at_number (target r))) (sym there)
      ∙ fits_at inputs.map.text pieces sizes n (Fixed 0) own.within (forms inputs none is_map slots slots_few) (settled inputs none is_map slots slots_few).fits in
      let reach : form_reaches p size a (at_number (target p)) ≡ true = ap (λ x. form_reaches p size x (at_number (target p))) (sym here.number) ∙ fits in
      let aligned : HasAlignment p = subst HasAlignment there (all_aligned inputs none slots n (Fixed 0) own.within) in
      record {
        is = (unit_item (parsed inputs) (slot_at (parsed inputs) slots) q item is).1;
        size = width p size a;
        next = ap A (behind_is q (OneItem item) is) ∙ behind_address inputs none slots q (OneItem item) is ∙ ap Some own.ends ∙ ap (λ x. Some (x + width p size x)) here.number;
        form = has_form (parsed inputs) A at_number inputs.map.text (omega (arith, is_map.code, is_map.room)) near a here.even here.low here.few
            q item size aligned own.form reach;
        inside = single_inside (zc_layout inputs slots) q;
      }

  -- it takes the bytes of its piece
  item_width :
      (q : Place) (a : ℕ) (item : Item) → unit_at (parsed inputs) slots q ≡ Some (OneItem item) → A q ≡ Some a
      → size_in (zc_layout inputs slots) q ≡ width (item_piece_at (parsed inputs) q item) (slice_index sizes (piece_number_at objects q)) a
  unfolding lies settled_addresses
  item_width q a item is got =
      let at = lies q a item is got in
      size_is (zc_layout inputs slots) q a at.size got at.next

  -- in two bytes it has a short form that the chip has, if its instruction is known before the layout and its section isn't fixed
  pub item_short_on :
      (q : Place) (a : ℕ) (item : Item) (i : Instr) → is_fixed_at (parsed inputs) q.object q.section ≡ false
      → unit_at (parsed inputs) slots q ≡ Some (OneItem item) → A q ≡ Some a
      → size_in (zc_layout inputs slots) q ≡ 2 → fixed_instr item ≡ Some i → is_short_on inputs.map.extensions i ≡ true
  item_short_on q a item i free is got two known =
      known_short_on (parsed inputs) q item i (slice_index sizes (piece_number_at objects q)) a free known (piece_is q (OneItem item) is).form
      (sym (item_width q a item is got) ∙ two)

  pub item_short :
      (q : Place) (a : ℕ) (item : Item) (i : Instr) → is_fixed_at (parsed inputs) q.object q.section ≡ false
      → unit_at (parsed inputs) slots q ≡ Some (OneItem item) → A q ≡ Some a
      → size_in (zc_layout inputs slots) q ≡ 2 → fixed_instr item ≡ Some i → is_short i ≡ true
  item_short q a item i free is got two known = short_on-short inputs.map.extensions i (item_short_on q a item i free is got two known)

  -- in a fixed section it has two bytes of its own
  item_kept :
      (q : Place) (a : ℕ) (item : Item) → is_fixed_at (parsed inputs) q.object q.section ≡ true
      → unit_at (parsed inputs) slots q ≡ Some (OneItem item) → A q ≡ Some a → size_in (zc_layout inputs slots) q ≡ 2 → HasOwnHalf (size_at objects q) item
  item_kept q a item fixed is got two =
      own_half (parsed inputs) q item (slice_index sizes (piece_number_at objects q)) a fixed (piece_is q (OneItem item) is).form
      (sym (item_width q a item is got) ∙ two)

  -- a group lies up to the place after it, and the places inside it have no addresses
  group_lies : (q : Place) (a : ℕ) (g : Group) → unit_at (parsed inputs) slots q ≡ Some (OneGroup g) → A q ≡ Some a → LiesAt (zc_layout inputs slots) q a (OneGroup g)
  group_lies q a g is got =
      let role = unit_group (parsed inputs) (slot_at (parsed inputs) slots) q g is in
      record {
        is = role;
        size = group_size g;
        next = ap A (behind_is q (OneGroup g) is) ∙ group_ends inputs none slots q g a is got;
        form = refl;
        inside = λ k some few.
            let r = after_items objects k q in
            let inner = inside_role inputs none q g role k some few in (
              found_start (parsed inputs) r (role_found (parsed inputs) r Inside inner),
              address_nowhere (parsed inputs) slots r (inside_unlisted inputs none r (ap is_within inner)),
            );
      }

  ready : IsReady inputs
  ready = record { faultless = faultless; is_map = is_map }

  -- the places where a basic block begins have addresses
  leaders : ListsLeaders (parsed inputs) A
  leaders q target leader = settled_listed inputs none is_map slots slots_few q ∙ leader_listed inputs none q target leader

  -- a jump or call through the table lies up to the place after it
  site_lies : (q : Place) (a n : ℕ) → unit_at (parsed inputs) slots q ≡ Some (OneSite n) → A q ≡ Some a → LiesAt (zc_layout inputs slots) q a (OneSite n)
  unfolding settled_addresses
  site_lies q a n is got =
      let own = piece_is q (OneSite n) is in
      let here = near q a got in
      let served = slot_leads (parsed inputs) slots q n (unit_site (parsed inputs) (slot_at (parsed inputs) slots) q n is).1 in
      let found = item_found (parsed inputs) q served.item served.is in
      let stands = (item_stands inputs none ready A leaders q found.section found.code served.item served.is).0 in
      let k = piece_number_at objects q in
      let end : at_number (k + 1) ≡ a + 2 = omega (arith, own.ends, own.form, here.number) in
      record {
        is = record {
          item = served.item;
          is = served.is;
          to = served.to;
          goes = served.goes;
          leads = served.leads;
          listed = jump_listed A (item_at (parsed inputs)) _ _ served.item (linked_by n) served.to stands served.goes;
        };
        size = 2;
        next = ap A (behind_is q (OneSite n) is) ∙ behind_address inputs none slots q (OneSite n) is ∙ ap Some end;
        form = refl;
        inside = single_inside (zc_layout inputs slots) q;
      }

  settled_lies : (q : Place) (a : ℕ) (u : CodeUnit) → unit_at (parsed inputs) slots q ≡ Some u → A q ≡ Some a → LiesAt (zc_layout inputs slots) q a u
  settled_lies q a (OneItem item) unit got = lies q a item unit got
  settled_lies q a (OneGroup g) unit got = group_lies q a g unit got
  settled_lies q a (OneSite n) unit got = site_lies q a n unit got

  -- ---- addresses of their own

  -- what is written at the place of an item with room of its own
  record IsSolid (q : Place) : Type 0 where
    pub item : Item
    pub is : item_at (parsed inputs) q ≡ Some item
    pub unit : CodeUnit
    pub written : unit_at (parsed inputs) slots q ≡ Some unit
    pub some : (size a : ℕ) → IsForm (unit_piece (parsed inputs) q (Some unit)) size → 0 < width (unit_piece (parsed inputs) q (Some unit)) size a

  solid_found : (q : Place) (a : ℕ) → is_solid (item_at (parsed inputs) q) ≡ true → A q ≡ Some a → IsSolid q
  solid_found q a solid at = by (item_at (parsed inputs) q) refl solid
    where
      some_bytes : (g : Group) (size a : ℕ) → IsForm (WithOthers (group_size g)) size → 0 < width (WithOthers (group_size g)) size a
      some_bytes g size a form = either (eqb g.rest 0) form
        where
          either : (b : Bool) → size ≡ cond b 2 (2 + instr_size (rest_instr g)) → 0 < size
          either true is = omega (arith, is)
          either false is = omega (arith, is)

      unit_of : (item : Item) → item_at (parsed inputs) q ≡ Some item → is_solid (Some item) ≡ true → (u : CodeUnit) → unit_at (parsed inputs) slots q ≡ Some u → IsSolid q
      unit_of item is solid (OneItem i) unit =
          let same : item ≡ i = same_Some item i (sym is ∙ (unit_item (parsed inputs) (slot_at (parsed inputs) slots) q i unit).1) in
          record { item = item; is = is; unit = OneItem i; written = unit; some = λ size a form. width_some (parsed inputs) q i size a (ap (λ x. is_solid (Some x)) (sym same) ∙ solid) (item_own inputs none ready A leaders q i (is ∙ ap Some same)) form }
      unit_of item is solid (OneGroup g) unit = record { item = item; is = is; unit = OneGroup g; written = unit; some = some_bytes g }
      unit_of item is solid (OneSite n) unit = record { item = item; is = is; unit = OneSite n; written = unit; some = λ size a form. omega (arith, form) }

      by : (o : Option Item) → item_at (parsed inputs) q ≡ o → is_solid o ≡ true → IsSolid q
      by None is solid = absurd cc
      by (Some item) is solid =
          let start : is_start_at objects q ≡ true = sym (start_some (parsed inputs) q) ∙ ap is_some is in
          let some : is_some (unit_at (parsed inputs) slots q) ≡ true = unit_written inputs none slots q ∙ (λ j. is_some (at j) && start j) in
          written (unit_at (parsed inputs) slots q) refl some
        where
          written : (o : Option CodeUnit) → unit_at (parsed inputs) slots q ≡ o → is_some (unit_at (parsed inputs) slots q) ≡ true → IsSolid q
          written None at some = absurd (cc (some, ap is_some at))
          written (Some u) at some = unit_of item is solid u at

  -- what comes after it has a greater address
  beyond : (q r : Place) → IsSolid q → IsSolid r → is_before q r ≡ true → at_number (piece_number_at objects q) < at_number (piece_number_at objects r)
  beyond q r x y before =
      let own = piece_is q x.unit x.written in
      let k = piece_number_at objects q in
      omega (
        arith,
        own.ends,
        x.some (slice_index sizes k) (at_number k) own.form,
        address_rises inputs none is_map slots slots_few (k + 1) (piece_number_at objects r)
            (omega (arith, number_rises_past (parsed inputs) q r x.item x.is (item_target (parsed inputs) r y.item y.is) before)) (number_most (parsed inputs) slots r),
      )

  -- two such places with one address are one
  settled_distinct :
      (q r : Place) (a : ℕ) → is_solid (item_at (parsed inputs) q) ≡ true → is_solid (item_at (parsed inputs) r) ≡ true
      → A q ≡ Some a → A r ≡ Some a → q ≡ r
  settled_distinct q r a one two at at' =
      let x = solid_found q a one at in
      let y = solid_found r a two at' in
      let same : at_number (piece_number_at objects q) ≡ at_number (piece_number_at objects r) = (near q a at).number ∙ sym (near r a at').number in
      elim (same_or_before q r) [
        | inl before ↦ absurd (omega (arith, same, beyond q r x y before))
        | inr (inl after) ↦ absurd (omega (arith, same, beyond r q y x after))
        | inr (inr it) ↦ it
      ]

-- ---- the layout

module _ (inputs : Inputs) (faultless : first_fault inputs ≡ None) (is_map : IsMap inputs.map) (slots : List (Option Place)) (few : length slots ≤ 256) where
  pub settled_is_laid_out : IsLaidOut (zc_layout inputs slots)
  settled_is_laid_out =
      let none = gathered inputs faultless in
      let A = settled_address (parsed inputs) slots in
      let led = leaders inputs faultless is_map slots few in
      let start = start_listed inputs A faultless led in
      record {
        only = λ q some. listed_target (parsed inputs) q (sym (settled_listed inputs none is_map slots few q) ∙ some);
        leaders = led;
        written = unit_written inputs none slots;
        start = start.1 ∙ ap Some (sym (ap (λ o. unwrap_or o inputs.map.text) start.1));
        few = few;
        even = settled_even inputs none is_map slots few;
        low = settled_low inputs none is_map slots few;
        high = settled_high inputs none is_map slots few;
        short = settled_short inputs none is_map slots few;
        each = settled_lies inputs faultless is_map slots few;
        kept = λ q item fixed unit two.
            item_kept inputs faultless is_map slots few q (slice_index (settled_addresses (parsed inputs) slots) (piece_number_at (parsed inputs).objects q)) item fixed unit
            (unit_address inputs none slots q (OneItem item) unit) two;
        begins = settled_begins inputs none is_map slots few;
        distinct = settled_distinct inputs faultless is_map slots few;
      }

  -- the text ends where the last piece does
  pub settled_end_is : text_end (zc_layout inputs slots) ≡ settled_end (parsed inputs) slots
  settled_end_is = end_settled inputs (gathered inputs faultless) is_map slots few
