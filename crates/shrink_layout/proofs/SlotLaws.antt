-- The slots of jumps and calls, by what is kept of a table: the first slot of each place is found by the number of its piece (`slot_noted`), and whether
-- a jump or call has one by its piece and its bytes without the table (`slot_by_width`).
use Rattle.std.proofs.Common.{◌≡◌, ◌∙◌, ℕ, ◌+◌, ◌<◌, zero, suc, List, [], ◌∷◌, drop, length, replicate, set, get_or, get_or-set_same, get_or-set_other, Bool, true, false, cond, Option, Some, None, slice_index, refl, sym, ap, subst, arith, eqb, ltb}
use Rattle.std.specs.Prelude.{◌&&◌, pos}
use Rattle.std.specs.Option.{is_some, option_and_then}
use Rattle.std.proofs.lemmas.Bool.{le-ltb, lt-ltb, ne_eqb}
use Rattle.std.proofs.lemmas.List.{drop_more}
use Rattle.std.proofs.lemmas.Option.{none-some, same_Some}
use Rattle.zc_base.specs.Places.{same_place}
use Rattle.zc_base.specs.declared.place.Place.{Place}
use Rattle.zc_base.proofs.PlaceLaws.{same_place-refl}
use Rattle.elf32_read.specs.Parts.{ObjectParts}
use Rattle.psabi_sym.specs.Faults.{gather_fault}
use Rattle.psabi_sym.specs.Fixed.{is_fixed_at}
use Rattle.psabi_sym.specs.Inputs.{Inputs, ParsedInputs, parsed}
use Rattle.block_cut.specs.Items.{is_target_at, item_at, size_at}
use Rattle.block_cut.specs.declared.item.Item.{Item}
use Rattle.block_cut.specs.declared.item.Item.TheVariants as item
use Rattle.block_cut.proofs.LedLaws.{same_is}
use Rattle.frame_match.specs.Groups.{role_at}
use Rattle.zc_encode.specs.Halves.{jump_half}
use Rattle.shrink_layout.specs.Invariants.Sites.{is_four}
use Rattle.shrink_layout.specs.Invariants.Slots.{AreFirstSlots, first_piece, put_unit}
use Rattle.shrink_layout.specs.Pieces.{is_short_jump, item_piece_at, jump_piece, kept_piece, piece_number_at, piece_of, site_at, slot_at, unit_at, unit_piece}
use Rattle.shrink_layout.specs.Settled.{settled_size, settled_widths}
use Rattle.shrink_layout.specs.Units.{CodeUnit, OneGroup, OneItem, OneSite, item_unit, jump_of, role_unit, slot_for, slot_from}
use Rattle.shrink_layout.specs.declared.piece.Piece.TheVariants.{Jump}
use Rattle.shrink_layout.proofs.KeptLaws.{width_is}
use Rattle.shrink_layout.proofs.NumberLaws.{number_below}
use Rattle.shrink_layout.proofs.OrderLaws.{numbers_apart}
use Rattle.shrink_layout.proofs.PlaceAddressLaws.{size_there}
use Rattle.shrink_layout.proofs.SiteLaws.{site-no_jump_there, site_by_size, site_found, site_unit, slot_found, slot_nowhere}
use Rattle.shrink_layout.proofs.UnitLaws.{unit_item}

-- ---- the first slot of each place

-- one slot more at the front is the first slot of its place, and of no other
pub slot_noted : (inputs : Inputs) → gather_fault inputs ≡ None → (firsts : List (Option ℕ)) (n : ℕ) (part : List (Option Place)) (p : Place)
    → is_target_at (parsed inputs).objects p ≡ true → piece_number_at (parsed inputs).objects p < length firsts → AreFirstSlots (parsed inputs).objects (n + 1) part firsts
    → AreFirstSlots (parsed inputs).objects n (Some p ∷ part) (set firsts (piece_number_at (parsed inputs).objects p) (Some n))
slot_noted inputs none firsts n part p target within are q = by (same_place p q) refl
  where
    objects : List ObjectParts
    objects = (parsed inputs).objects

    number : Place → ℕ
    number = piece_number_at objects

    new : List (Option ℕ)
    new = set firsts (number p) (Some n)

    by : (b : Bool) → same_place p q ≡ b → get_or new (number q) None ≡ cond b (Some n) (slot_from (n + 1) q part)
    by true same =
        let parts = same_is p q same in
        let is : p ≡ q = λ j. record { object = parts.0 j; section = parts.1 j; offset = parts.2 j } in
        ap (λ k. get_or new k None) (sym (ap number is)) ∙ get_or-set_same firsts (number p) (Some n) None within
    by false other =
        get_or-set_other firsts (number p) (number q) (Some n) None
        (λ same. let is = numbers_apart inputs none p q target (sym same) in cc (other, ap (λ r. same_place p r) (sym is), same_place-refl p))
        ∙ are q

-- before any is noted there is none
pub none_noted : (n k : ℕ) → ◌≡◌ {A = Option ℕ} (get_or (replicate n None) k None) None
none_noted zero k = refl
none_noted (suc n) zero = refl
none_noted (suc n) (suc k) = none_noted n k

module _ (inputs : Inputs) (none : gather_fault inputs ≡ None) (firsts : List (Option ℕ)) (n : ℕ) (part : List (Option Place)) (k : ℕ) (within : k < length part)
    (are : AreFirstSlots (parsed inputs).objects (n + (k + 1)) (drop (k + 1) part) firsts) where
  abbrev all : List ObjectParts
  all = (parsed inputs).objects

  before : AreFirstSlots all (n + k + 1) (drop (k + 1) part) firsts
  before = let e : n + (k + 1) ≡ n + k + 1 = omega arith in subst (λ m. AreFirstSlots all m (drop (k + 1) part) firsts) e are

  -- the first slots with one slot more of a part
  pub firsts_more : (p : Place) → get_or part k None ≡ Some p → is_target_at all p ≡ true → piece_number_at all p < length firsts
      → AreFirstSlots all (n + k) (drop k part) (set firsts (piece_number_at all p) (Some (n + k)))
  firsts_more p is target there =
      subst (λ ps. AreFirstSlots all (n + k) ps (set firsts (piece_number_at all p) (Some (n + k)))) (sym (drop_more part k None within ∙ ap (λ x. x ∷ drop (k + 1) part) is))
      (slot_noted inputs none firsts (n + k) (drop (k + 1) part) p target there before)

  -- or with a hole
  pub firsts_same : get_or part k None ≡ None → AreFirstSlots all (n + k) (drop k part) firsts
  firsts_same is =
      subst (λ ps. AreFirstSlots all (n + k) ps firsts) (sym (drop_more part k None within ∙ ap (λ x. x ∷ drop (k + 1) part) is)) before

-- ---- jumps and calls

-- without slots none has one
pub no_slot_for : (o : Option (ℕ × Place)) → option_and_then (slot_for []) o ≡ None
no_slot_for None = refl
no_slot_for (Some jump) = by (eqb jump.0 0)
  where
    by : (b : Bool) → cond {A = Option ℕ} b None None ≡ None
    by true = refl
    by false = refl

-- the slot of a jump or call is that of its target in any table
pub slot_is : (inputs : ParsedInputs) (slots : List (Option Place)) (q : Place) → slot_at inputs slots q ≡ option_and_then (slot_for slots) (site_at inputs q)
unfolding slot_at
slot_is inputs [] q = sym (no_slot_for (site_at inputs q))
slot_is inputs (slot ∷ slots) q = refl

-- another item has no slot
pub no_jump_slot : (inputs : ParsedInputs) (slots : List (Option Place)) (q : Place) → option_and_then jump_of (item_at inputs q) ≡ None → slot_at inputs slots q ≡ None
no_jump_slot inputs slots q other = slot_nowhere inputs slots q (site-no_jump_there inputs q other)

-- ---- the slot of one, by its piece without the table

-- a jump or call has a short form if it links no register or ra
short_jump : (rd : ℕ) → is_short_jump rd ≡ ltb rd 2
short_jump zero = refl
short_jump (suc zero) = refl
short_jump (suc (suc n)) =
    let other : (k : ℕ) → k < 2 → eqb (suc (suc n)) k ≡ false = λ k lt. ne_eqb (suc (suc n)) k (λ e. omega (arith, lt, e)) in
    (λ j. is_some (cond (other 1 (omega arith) j) (jump_half 0b001_01 (pos 0)) (cond (other 0 (omega arith) j) (jump_half 0b101_01 (pos 0)) None)))
    ∙ sym (le-ltb (suc (suc n)) 2 (omega arith))

-- the piece of one leads to its target
piece_of_jump : (inputs : ParsedInputs) (i : Item) (jump : ℕ × Place) → jump_of i ≡ Some jump → piece_of inputs i ≡ jump_piece inputs.objects jump.1 (is_short_jump jump.0)
piece_of_jump inputs (item.Op i) jump leads = absurd (none-some jump leads)
piece_of_jump inputs (item.Hi i t) jump leads = absurd (none-some jump leads)
piece_of_jump inputs (item.Lo i t) jump leads = absurd (none-some jump leads)
piece_of_jump inputs (item.PcHi i t) jump leads = absurd (none-some jump leads)
piece_of_jump inputs (item.PcLo i q) jump leads = absurd (none-some jump leads)
piece_of_jump inputs (item.Branch op first second to) jump leads = absurd (none-some jump leads)
piece_of_jump inputs (item.Jump rd to) jump leads = ap (λ (x : ℕ × Place). jump_piece inputs.objects x.1 (is_short_jump x.0)) (same_Some (rd, to) jump leads)
piece_of_jump inputs (item.Call rd temp to) jump leads = ap (λ (x : ℕ × Place). jump_piece inputs.objects x.1 (is_short_jump x.0)) (same_Some (rd, to) jump leads)
piece_of_jump inputs (item.Align bytes) jump leads = absurd (none-some jump leads)
piece_of_jump inputs (item.Word t) jump leads = absurd (none-some jump leads)
piece_of_jump inputs (item.Raw word) jump leads = absurd (none-some jump leads)
piece_of_jump inputs (item.RawShort half) jump leads = absurd (none-some jump leads)
piece_of_jump inputs (item.RawPair first second) jump leads = absurd (none-some jump leads)

module _ (inputs : Inputs) (none : gather_fault inputs ≡ None) (q : Place) where
  abbrev given : ParsedInputs
  given = parsed inputs

  -- what is written with a table differs from what is written without it just where a jump or call has a slot
  pub unit_put : (slots : List (Option Place)) → unit_at given slots q ≡ put_unit (slot_at given slots q) (unit_at given [] q)
  unfolding slot_at
  unit_put slots = by (slot_at given slots q) refl
    where
      by : (n : Option ℕ) → slot_at given slots q ≡ n → unit_at given slots q ≡ put_unit n (unit_at given [] q)
      by None at = ap (λ n. option_and_then (role_unit n (item_at given q)) (role_at given q)) at
      by (Some n) at =
          let slot = slot_found given slots q n at in
          let site = site_found given q slot.jump slot.site in
          site_unit inputs none q slot.jump site (slot_at given slots) ∙ ap (λ m. Some (item_unit m site.item)) at

  -- outside fixed sections the piece of an item is that of its kind
  free_piece : is_fixed_at given q.object q.section ≡ false → (i : Item) → item_piece_at given q i ≡ piece_of given i
  free_piece free i = ap (λ b. cond b (kept_piece given (size_at given.objects q) i) (piece_of given i)) free

  -- the piece of a site without the table is that of a jump to its target
  site_piece : is_fixed_at given q.object q.section ≡ false → (jump : ℕ × Place) → site_at given q ≡ Some jump → first_piece given q ≡ Jump (piece_number_at given.objects jump.1)
  unfolding slot_at
  site_piece free jump at =
      let site = site_found given q jump at in
      ap (unit_piece given q) (site_unit inputs none q jump site (slot_at given []))
      ∙ free_piece free site.item
      ∙ piece_of_jump given site.item jump site.leads
      ∙ ap (jump_piece given.objects jump.1) (short_jump jump.0 ∙ lt-ltb jump.0 2 site.links)

  -- where the piece is another one, there is no slot
  pub slot_elsewhere : is_fixed_at given q.object q.section ≡ false → (slots : List (Option Place)) → ((n : ℕ) → first_piece given q ≡ Jump n → ⊥) → slot_at given slots q ≡ None
  slot_elsewhere free slots other = by (site_at given q) refl
    where
      by : (o : Option (ℕ × Place)) → site_at given q ≡ o → slot_at given slots q ≡ None
      by None at = slot_nowhere given slots q at
      by (Some jump) at = absurd (other (piece_number_at given.objects jump.1) (site_piece free jump at))

  module _ (free : is_fixed_at given q.object q.section ≡ false) (i : Item) (is : item_at given q ≡ Some i) (jump : ℕ × Place) (leads : jump_of i ≡ Some jump) (n : ℕ) (piece : first_piece given q ≡ Jump n) where
    -- where it is, a jump or call is written by itself, which links no register or ra
    pub record IsShortJump : Type 0 where
      pub unit : unit_at given [] q ≡ Some (OneItem i)
      pub links : ltb jump.0 2 ≡ true
      pub target : n ≡ piece_number_at given.objects jump.1

    pub short_there : IsShortJump
    unfolding slot_at
    short_there = by (unit_at given [] q) refl piece
      where
        item : (b : Bool) → is_short_jump jump.0 ≡ b → jump_piece given.objects jump.1 b ≡ Jump n → (ltb jump.0 2 ≡ true) × (n ≡ piece_number_at given.objects jump.1)
        item true short same = (sym (short_jump jump.0) ∙ short, cc same)
        item false long same = absurd cc

        by : (o : Option CodeUnit) → unit_at given [] q ≡ o → unit_piece given q o ≡ Jump n → IsShortJump
        by None at same = absurd cc
        by (Some (OneItem j)) at same =
            let own : j ≡ i = same_Some j i (sym (unit_item given (slot_at given []) q j at).1 ∙ is) in
            let two = item (is_short_jump jump.0) refl (sym (piece_of_jump given i jump leads) ∙ ap (piece_of given) (sym own) ∙ sym (free_piece free j) ∙ same) in
            record { unit = at ∙ ap (λ k. Some (OneItem k)) own; links = two.0; target = two.1 }
        by (Some (OneGroup g)) at same = absurd cc
        by (Some (OneSite m)) at same = absurd cc

    -- a site has a slot if it takes four bytes and its target has one
    pub slot_by_width : (slots : List (Option Place)) (width : ℕ) → width ≡ slice_index (settled_widths given []) (piece_number_at given.objects q)
        → slot_at given slots q ≡ option_and_then (slot_for slots) (cond (eqb width 4) (Some jump) None)
    slot_by_width slots width read =
        let taken = read ∙ width_is given [] (piece_number_at given.objects q) (number_below inputs none [] q i is) in
        let four : is_four (settled_size given [] q) ≡ eqb width 4 = ap is_four (size_there given [] q (OneItem i) short_there.unit) ∙ ap (λ k. eqb k 4) (sym taken) in
        slot_is given slots q
        ∙ ap (option_and_then (slot_for slots))
        (site_by_size inputs none q i is jump leads
        ∙ (λ k. cond (free k) None (cond (four k && short_there.links k) (Some jump) None))
        ∙ and_yes (eqb width 4))
      where
        and_yes : (b : Bool) → cond (b && true) (Some jump) None ≡ cond b (Some jump) None
        and_yes true = refl
        and_yes false = refl
