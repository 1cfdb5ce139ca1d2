-- Fixed sections keep their distances (`kept_sections`). The plan:
-- 1. While its pieces have the sizes of the object, each place of a fixed section is as far from the section's start as in the plain layout (`as_far`).
-- 2. A branch or a short jump leads within the section, or it would be a fault, and so its form reaches; so no piece of the section grows (`stay_own`).
-- 3. In the first round the sizes are those of the object (`first_own`), so they are in each round, and in the layout (`settled_own`).
use Rattle.std.proofs.Common.{◌≡◌, ◌∙◌, ◌⊎◌, inl, inr, ℕ, zero, suc, ◌+◌, ◌-◌, ◌*◌, ◌/◌, ◌%◌, ◌<◌, ◌≤◌, pos, negsuc, List, [], ◌∷◌, ◌++◌, length, filter, map, max, Bool, true, false, cond, Option, Some, None, slice_get, slice_index, refl, sym, ap, subst, arith, eqb, ltb, eq-eqb}
use Rattle.std.specs.Prelude.{◌&&◌, ◌||◌, not}
use Rattle.std.specs.List.{find, flat_map, list_all, list_any, sum_by}
use Rattle.std.specs.Option.{option_map, option_map_or}
use Rattle.std.proofs.Math.Nat.{add-mod-mod, add-mul-mod_self_left, mod-add-div, mod-lt, mod-mod_of_dvd, mod_self, zero-mod}
use Rattle.std.proofs.lemmas.Bool.{and_parts, cases_lt, eqb-true, not-false, or_cases, or_parts}
use Rattle.std.proofs.lemmas.List.{length-append}
use Rattle.std.proofs.lemmas.Nat.Gcd.{dvd_of_mod-eq-zero}
use Rattle.std.proofs.lemmas.Option.{get_or_from_slice_get, same_Some, slice_get_within}
use Rattle.zc_base.proofs.ListLaws.{get_map}
use Rattle.zc_base.specs.declared.place.Place.{Place}
use Rattle.elf32_read.specs.Parts.{ObjectParts, SectionParts, is_code_section}
use Rattle.psabi_sym.specs.Blocks.{aligned_up}
use Rattle.psabi_sym.specs.Data.{is_of_kin}
use Rattle.psabi_sym.specs.Faults.{gather_fault, power_above}
use Rattle.psabi_sym.specs.Fixed.{is_fixed, is_fixed_at}
use Rattle.psabi_sym.specs.Inputs.{Inputs, ParsedInputs, parsed}
use Rattle.psabi_sym.specs.Indexed.{IndexedSection, sections_before}
use Rattle.psabi_sym.proofs.FaultLaws.{neither}
use Rattle.rv_decode.specs.declared.instr.BranchOp.{BranchOp}
use Rattle.block_cut.specs.Faults.{distance_between, entry_fault, first_fault, is_far, is_out_of_reach, leaves_fixed, plain_distance, range_fault, reaches, relocs_fault, way_place}
use Rattle.block_cut.specs.Items.{all_places, code_at, is_end_at, is_start_at, is_target_at, item_at, item_in, place_of, places_of, size_at, size_on, starts_in, starts_on}
use Rattle.block_cut.specs.PlainLayout.{after_item, after_starts, plain_address, plain_end_of, plain_start}
use Rattle.block_cut.specs.Whole.{IsWhole}
use Rattle.block_cut.specs.declared.item.Item.{Item}
use Rattle.block_cut.specs.declared.item.Item.TheVariants as item
use Rattle.block_cut.proofs.ListedLaws.{cut_at}
use Rattle.block_cut.proofs.PlainLaws.{at_offset, offset_next, offset_rises, place_address, target_on}
use Rattle.block_cut.proofs.RoomLaws.{items_in-code}
use Rattle.block_cut.proofs.StartLaws.{Among, Here, There, along, among, among_first, among_later, before_first_none, before_next_start, is_among, start_first}
use Rattle.block_cut.proofs.WholeLaws.{inputs_whole}
use Rattle.frame_match.specs.Groups.{may_have_groups, role_at}
use Rattle.frame_match.specs.declared.role.Role.TheVariants.{Alone}
use Rattle.frame_match.proofs.BeginLaws.{role_without}
use Rattle.shrink_layout.specs.FixedSections.{IsAsFar, IsFixedSection, KeepsFixed, allows_padding, is_well_aligned}
use Rattle.shrink_layout.specs.Forms.{distance, form_reaches, longer, shortest, width}
use Rattle.shrink_layout.specs.Invariants.Blocks.{grown_size, nth_piece}
use Rattle.shrink_layout.specs.Layout.{addresses_of, form_reaches_at, next_sizes, round, sizes_of}
use Rattle.shrink_layout.specs.Least.{AreForms}
use Rattle.shrink_layout.specs.Pieces.{alignment_of, is_short_branch, is_short_jump, jump_piece, kept_piece, piece_at, piece_count, piece_number_at, piece_of, pieces_before, pieces_by, pieces_of, section_alignment, slot_at, unit_piece}
use Rattle.shrink_layout.specs.Settled.{settled_address, settled_addresses, settled_sizes}
use Rattle.shrink_layout.specs.Units.{OneItem, front_size, is_listed_at, item_unit, unit_by}
use Rattle.shrink_layout.specs.declared.piece.Piece.{Piece}
use Rattle.shrink_layout.specs.declared.piece.Piece.TheVariants.{Fixed, Align, Branch}
use Rattle.shrink_layout.proofs.AddressLaws.{next_address}
use Rattle.shrink_layout.proofs.Distances.{distance_back, distance_on}
use Rattle.shrink_layout.proofs.GrownLaws.{grown_at}
use Rattle.shrink_layout.proofs.KeptLaws.{settled_forms}
use Rattle.shrink_layout.proofs.NumberLaws.{behind, cut_into, item_target, laid_in, length-laid_in, number-code, place_piece}
use Rattle.shrink_layout.proofs.OwnSizes.{IsOwn, IsOwnBranch, IsOwnJump, own_is}
use Rattle.shrink_layout.proofs.PlaceAddressLaws.{address_there}
use Rattle.shrink_layout.proofs.PremiseLaws.{power_is}
use Rattle.shrink_layout.proofs.RolePlaces.{end_listed, role_there, unit_listed}
use Rattle.shrink_layout.proofs.RoundLaws.{length_forms, round_forms}
use Rattle.shrink_layout.proofs.SiteLaws.{site-fixed, slot_nowhere}
use Rattle.shrink_layout.proofs.TargetLaws.{LeadsWell, item_leads, mapped_none, no_gather_fault}
use Rattle.shrink_layout.proofs.UnitLaws.{held_start, there, unit-alone}

-- ---- remainders

-- what is added changes no remainder if it is a multiple
shift : (n a x : ℕ) → x % n ≡ 0 → (a + x) % n ≡ a % n
shift n a x multiple =
    let same : a + 0 ≡ a = omega arith in
    sym (add-mod-mod a x n) ∙ ap (λ k. (a + k) % n) multiple ∙ ap (λ k. k % n) same

-- two addresses that are as far from multiples of an alignment have the same remainder
congruent : (n align a p x y : ℕ) → align % n ≡ 0 → x % align ≡ 0 → y % align ≡ 0 → a + x ≡ y + p → a % n ≡ p % n
congruent n align a p x y covered one two far =
    let multiple : (z : ℕ) → z % align ≡ 0 → z % n ≡ 0 = λ z none. sym (mod-mod_of_dvd n z (dvd_of_mod-eq-zero n covered)) ∙ ap (λ k. k % n) none ∙ zero-mod n in
    let turned : a + x ≡ p + y = omega (arith, far) in
    sym (shift n a x (multiple x one)) ∙ ap (λ k. k % n) turned ∙ shift n p y (multiple y two)

-- a number that is rounded up is a multiple
up_multiple : (n at : ℕ) → 0 < n → (at + (n - at % n) % n) % n ≡ 0
up_multiple n at some =
    let sum : at + (n - at % n) ≡ n + n * (at / n) = by (at % n) (n * (at / n)) (mod-add-div at n) (mod-lt at some) in
    add-mod-mod at (n - at % n) n ∙ ap (λ k. k % n) sum ∙ add-mul-mod_self_left n n (at / n) ∙ mod_self n
  where
    by : (r m : ℕ) → r + m ≡ at → r < n → at + (n - r) ≡ n + m
    by r m is lt = omega (arith, is, lt)

up_is : (n at : ℕ) → 0 < n → aligned_up n at ≡ at + (n - at % n) % n
unfolding aligned_up
up_is n at some =
    let same : max 1 n ≡ n = omega (arith, some) in
    ap (λ k. at + (k - at % k) % k) same

-- two addresses that go on by as much are as far as before
far_on : (a a' w p p' x y : ℕ) → a + x ≡ y + p → a' ≡ a + w → p' ≡ p + w → a' + x ≡ y + p'
far_on a a' w p p' x y far one two = omega (arith, far, one, two)

-- two pairs of addresses that are as far from the same two are as far from each other
far_both : (a b p q x y : ℕ) → a + x ≡ y + p → b + x ≡ y + q → a + q ≡ p + b
far_both a b p q x y one two = omega (arith, one, two)

-- what is as far from another address
far_is : (a p x y : ℕ) → a + x ≡ y + p → x ≤ p → a ≡ y + (p - x)
far_is a p x y far le = omega (arith, far, le)

-- distances are the same if two addresses are as far from each other as two others
same_way : (a b p q : ℕ) → a + q ≡ p + b → distance a b ≡ distance p q
same_way a b p q far = elim (cases_lt b a) [
  | inl back ↦
      let also : q < p = omega (arith, far, back) in
      let same : a - b - 1 ≡ p - q - 1 = omega (arith, far, back) in
      distance_back a b back ∙ ap negsuc same ∙ sym (distance_back p q also)
  | inr on ↦
      let also : p ≤ q = omega (arith, far, on) in
      let same : b - a ≡ q - p = omega (arith, far, on) in
      distance_on a b on ∙ ap pos same ∙ sym (distance_on p q also)
]

-- ---- items

-- a piece that leads somewhere begins with its form in the object
short_is : (n : ℕ) (short : Bool) → n ≡ 2 → short ≡ true → (eqb n 2 && short) ≡ true
short_is n short two is = λ j. eqb (two j) 2 && is j

long_is : (n : ℕ) (short : Bool) → n ≡ 4 → (eqb n 2 && short) ≡ false
long_is n short four = ap (λ k. eqb k 2 && short) four

module _ (inputs : ParsedInputs) where
  -- an item that keeps its size goes on as in the plain layout: padding goes up to a multiple, so that only the remainder of its address counts
  advance : (x : Item) (n a p : ℕ) → IsOwn x n → ((bytes : ℕ) → x ≡ item.Align bytes → a % power_above bytes ≡ p % power_above bytes)
      → after_item p n x ≡ p + width (kept_piece inputs n x) (shortest (kept_piece inputs n x)) a
  advance (item.Op i) n a p own up = refl
  advance (item.Hi i t) n a p own up = ap (λ k. p + k) own
  advance (item.Lo i t) n a p own up = ap (λ k. p + k) own
  advance (item.PcHi i t) n a p own up = ap (λ k. p + k) own
  advance (item.PcLo i q) n a p own up = ap (λ k. p + k) own
  advance (item.Branch op first second to) n a p own up = by own
    where
      number : ℕ
      number = piece_number_at inputs.objects to

      by : IsOwnBranch op first second n → p + n ≡ p + shortest (Branch number (eqb n 2 && is_short_branch op first second))
      by (inl two) = ap (λ k. p + k) two.0 ∙ sym (ap (λ b. p + shortest (Branch number b)) (short_is n (is_short_branch op first second) two.0 two.1))
      by (inr four) = ap (λ k. p + k) four ∙ sym (ap (λ b. p + shortest (Branch number b)) (long_is n (is_short_branch op first second) four))
  advance (item.Jump rd to) n a p own up = by own
    where
      piece : Bool → Piece
      piece b = jump_piece inputs.objects to b

      by : IsOwnJump rd n → p + n ≡ p + width (piece (eqb n 2 && is_short_jump rd)) (shortest (piece (eqb n 2 && is_short_jump rd))) a
      by (inl two) = ap (λ k. p + k) two.0 ∙ sym (ap (λ b. p + width (piece b) (shortest (piece b)) a) (short_is n (is_short_jump rd) two.0 two.1))
      by (inr four) = ap (λ k. p + k) four ∙ sym (ap (λ b. p + width (piece b) (shortest (piece b)) a) (long_is n (is_short_jump rd) four))
  advance (item.Call rd temp to) n a p own up = ap (λ k. p + k) own
  advance (item.Align bytes) n a p own up =
      let m = power_above bytes in
      up_is m p (power_is bytes).some ∙ ap (λ r. p + (m - r) % m) (sym (up bytes refl))
  advance (item.Word t) n a p own up = ap (λ k. p + k) own
  advance (item.Raw word) n a p own up = ap (λ k. p + k) own
  advance (item.RawShort half) n a p own up = ap (λ k. p + k) own
  advance (item.RawPair first second) n a p own up = ap (λ k. p + k) own

  -- what reaches in the plain layout reaches in the form that it has there
  branch_reaches : (op : BranchOp) (first second : ℕ) (to : Place) (n from at : ℕ) → IsOwnBranch op first second n → reaches n (item.Branch op first second to) (distance from at) ≡ true
      → let piece = kept_piece inputs n (item.Branch op first second to) in form_reaches piece (shortest piece) from at ≡ true
  branch_reaches op first second to n from at own reached = by own
    where
      fits : Bool → Bool
      fits b = form_reaches (Branch (piece_number_at inputs.objects to) b) (shortest (Branch (piece_number_at inputs.objects to) b)) from at

      by : IsOwnBranch op first second n → fits (eqb n 2 && is_short_branch op first second) ≡ true
      by (inl two) =
          ap fits (short_is n (is_short_branch op first second) two.0 two.1)
          ∙ ap (λ k. reaches k (item.Branch op first second to) (distance from at)) (sym two.0) ∙ reached
      by (inr four) =
          ap fits (long_is n (is_short_branch op first second) four)
          ∙ ap (λ k. reaches k (item.Branch op first second to) (distance from at)) (sym four) ∙ reached

-- ---- searches that find nothing

module _ {X : Type 0} (test : X → Bool) where
  step_none : (x : X) (rest : Option X) → cond (test x) (Some x) rest ≡ None → (test x ≡ false) × (rest ≡ None)
  step_none x rest = by (test x)
    where
      by : (b : Bool) → cond b (Some x) rest ≡ None → (b ≡ false) × (rest ≡ None)
      by true h = absurd cc
      by false h = (refl, h)

  find_append : (xs ys : List X) → find test (xs ++ ys) ≡ None → (find test xs ≡ None) × (find test ys ≡ None)
  find_append [] ys h = (refl, h)
  find_append (x ∷ xs) ys h =
      let first = step_none x (find test (xs ++ ys)) h in
      let rest = find_append xs ys first.1 in
      (ap (λ b. cond b (Some x) (find test xs)) first.0 ∙ rest.0, rest.1)

  -- nothing is found in a part
  find_flat : {Y : Type 0} (f : Y → List X) (front rest : List Y) (y : Y) → find test (flat_map f (front ++ y ∷ rest)) ≡ None → find test (f y) ≡ None
  find_flat f [] rest y h = (find_append (f y) (flat_map f rest) h).0
  find_flat f (z ∷ zs) rest y h = find_flat f zs rest y (find_append (f z) (flat_map f (zs ++ y ∷ rest)) h).1

  -- so none passes
  find_among : (f : ℕ → X) (ns : List ℕ) (n : ℕ) → find test (map f ns) ≡ None → is_among n ns ≡ true → test (f n) ≡ false
  find_among f [] n h is = absurd cc
  find_among f (m ∷ ms) n h is =
      let first = step_none (f m) (find test (map f ms)) h in
      by first.0 (find_among f ms n first.1) (among m n ms is)
    where
      by : test (f m) ≡ false → (is_among n ms ≡ true → test (f n) ≡ false) → Among m n ms → test (f n) ≡ false
      by first rest (Here e) = ap (λ k. test (f k)) (sym e) ∙ first
      by first rest (There later) = rest later

  -- all pass
  all_among : (f : ℕ → X) (ns : List ℕ) (n : ℕ) → list_all test (map f ns) ≡ true → is_among n ns ≡ true → test (f n) ≡ true
  all_among f [] n h is = absurd cc
  all_among f (m ∷ ms) n h is =
      let first = and_parts (test (f m)) (list_all test (map f ms)) h in
      by first.0 (all_among f ms n first.1) (among m n ms is)
    where
      by : test (f m) ≡ true → (is_among n ms ≡ true → test (f n) ≡ true) → Among m n ms → test (f n) ≡ true
      by first rest (Here e) = ap (λ k. test (f k)) (sym e) ∙ first
      by first rest (There later) = rest later

-- ---- a fixed section

module _ (inputs : Inputs) (faultless : first_fault inputs ≡ None) (slots : List (Option Place)) (l : IndexedSection) (is : IsFixedSection (parsed inputs) l) where
  abbrev given : ParsedInputs
  given = parsed inputs

  abbrev objects : List ObjectParts
  objects = given.objects

  abbrev s : SectionParts
  s = l.section

  -- its alignment
  abbrev align : ℕ
  align = max 4 l.section.align

  none : gather_fault inputs ≡ None
  none = no_gather_fault inputs faultless

  code : is_code_section s ≡ true
  code = (and_parts (is_code_section s) (list_any (λ name. is_of_kin name s.name) given.fixed) is.fixed).0

  whole : IsWhole s
  whole = inputs_whole inputs l.object l.index s none is.here code

  fixed : is_fixed_at given l.object l.index ≡ true
  fixed = ap (λ o. option_map_or (is_fixed given.fixed) o false) is.here ∙ is.fixed

  here : (n : ℕ) → code_at objects (place_of l n) ≡ Some s
  here n = there given l is.here code n

  -- ---- its pieces

  -- the item at an offset, its piece, and its number
  abbrev item_on : ℕ → Item
  item_on n = item_in given s (place_of l n)

  abbrev kept : ℕ → Piece
  kept n = kept_piece given (size_on s n) (item_on n)

  abbrev number : ℕ → ℕ
  number n = pieces_before objects l.object l.index s n

  number_is : (n : ℕ) → is_target_at objects (place_of l n) ≡ true → piece_number_at objects (place_of l n) ≡ number n
  number_is n to = number-code objects (place_of l n) s to (here n)

  start_item : (n : ℕ) → starts_on s n ≡ true → item_at given (place_of l n) ≡ Some (item_on n)
  start_item n start = held_start given l is.here code n start

  start_target : (n : ℕ) → starts_on s n ≡ true → is_target_at objects (place_of l n) ≡ true
  start_target n start = item_target given (place_of l n) (item_on n) (start_item n start)

  -- it has no groups, and no jumps or calls through the table
  start_unit : (n : ℕ) → starts_on s n ≡ true → unit_by given (slot_at given slots) (place_of l n) ≡ Some (OneItem (item_on n))
  start_unit n start =
      let q = place_of l n in
      let lacks : may_have_groups given l.object l.index ≡ false = ap (λ b. given.map.extensions.zcmp && not b) fixed ∙ and_false given.map.extensions.zcmp in
      let role = role_there given q (item_on n) (start_item n start) in
      let alone : role_at given q ≡ Some Alone = role.1 ∙ ap Some (role_without given q role.0 lacks role.1) in
      let slot : slot_at given slots q ≡ None = slot_nowhere given slots q (site-fixed given q fixed) in
      unit-alone given (slot_at given slots) q alone ∙ (λ j. option_map (item_unit (slot j)) (start_item n start j))
    where
      and_false : (b : Bool) → (b && false) ≡ false
      and_false true = refl
      and_false false = refl

  size_is : (n : ℕ) → size_at objects (place_of l n) ≡ size_on s n
  size_is n = ap (λ o. option_map_or (λ t. size_on t n) o 4) (here n)

  piece_there : (n : ℕ) → starts_on s n ≡ true → slice_get (pieces_of given slots) (number n) ≡ Some (kept n)
  piece_there n start =
      let q = place_of l n in
      ap (slice_get (pieces_of given slots)) (sym (number_is n (start_target n start)))
      ∙ place_piece inputs none slots q (item_on n) (start_item n start)
      ∙ ap (λ u. Some (unit_piece given q u)) (start_unit n start)
      ∙ (λ j. Some (cond (fixed j) (kept_piece given (size_is n j) (item_on n)) (piece_of given (item_on n))))

  -- the number of its padding
  abbrev before : ℕ
  before = 1 + sum_by piece_count (sections_before objects l.object l.index)

  padding_there : slice_get (pieces_of given slots) before ≡ Some (Align align)
  unfolding pieces_by pieces_of
  padding_there =
      let pad : IndexedSection → Piece = λ m. Align (section_alignment given m) in
      let f = piece_at given (slot_at given slots) in
      let cut = cut_into pad f objects l.object l.index s is.here code in
      let front = Fixed (front_size slots) ∷ laid_in pad f (sections_before objects l.object l.index) in
      let long : before ≡ length front = omega (arith, length-laid_in pad f (sections_before objects l.object l.index)) in
      (λ j. slice_get (Fixed (front_size slots) ∷ cut.are j) (long j))
      ∙ behind front (pad l) _
      ∙ ap (λ b. Some (Align (alignment_of b l.section.align))) fixed

  first_number : number 0 ≡ before + 1
  first_number = omega (arith, ap length (before_first_none s code whole))

  next_number : (n : ℕ) → starts_on s n ≡ true → number (n + size_on s n) ≡ number n + 1
  next_number n start = omega (arith, ap length (before_next_start s code whole n start), length-append (filter (λ m. ltb m n) (starts_in s)) (n ∷ []))

  -- ---- its plain addresses

  abbrev plain : ℕ → ℕ
  plain n = at_offset given (place_of l 0) s code whole n

  -- the place at an offset that is an item's start or the end
  abbrev IsPlace : ℕ → Type 0
  IsPlace n = (starts_on s n ≡ true) ⊎ (n ≡ length s.bytes)

  plain_there : (n : ℕ) → IsPlace n → plain_address given (place_of l n) ≡ Some (plain n)
  plain_there n at = place_address given (place_of l n) s (here n) at

  some_align : 0 < align
  some_align = omega arith

  plain_aligned : plain 0 % align ≡ 0
  plain_aligned =
      let begin = plain_end_of given (sections_before objects l.object l.index) in
      ap (λ ns. after_starts given l (plain_start given l.object l.index s) ns % align) (before_first_none s code whole)
      ∙ ap (λ n. n % align) (up_is align begin some_align) ∙ up_multiple align begin some_align

  -- an offset where code may lead is one
  is_place : (n : ℕ) → is_target_at objects (place_of l n) ≡ true → IsPlace n
  is_place n to = by (or_cases (starts_on s n) (eqb n (length s.bytes)) (sym (target_on objects (place_of l n) s (here n)) ∙ to))
    where
      by : (starts_on s n ≡ true) ⊎ (eqb n (length s.bytes) ≡ true) → IsPlace n
      by (inl start) = inl start
      by (inr end) = inr (eqb-true n (length s.bytes) end)

  end_is : (n : ℕ) → n ≡ length s.bytes → is_end_at objects (place_of l n) ≡ true
  end_is n end = ap (λ o. option_map_or (λ t. eqb n (length t.bytes)) o false) (here n) ∙ eq-eqb n (length s.bytes) end

  place_target : (n : ℕ) → IsPlace n → is_target_at objects (place_of l n) ≡ true
  place_target n (inl start) = start_target n start
  place_target n (inr end) = ap (λ b. is_start_at objects (place_of l n) || b) (end_is n end) ∙ or_true (is_start_at objects (place_of l n))
    where
      or_true : (b : Bool) → (b || true) ≡ true
      or_true true = refl
      or_true false = refl

  -- ---- its faults

  no_range_fault : range_fault given ≡ None
  unfolding first_fault
  no_range_fault =
      let one = neither (gather_fault inputs) _ faultless in
      let two = neither (relocs_fault given) _ one.1 in
      let three = neither (entry_fault given) _ two.1 in
      (neither (range_fault given) _ three.1).0

  none_far : find (is_out_of_reach given) (all_places objects) ≡ None
  unfolding range_fault
  none_far = mapped_none _ (find (is_out_of_reach given) (all_places objects)) no_range_fault

  no_fault_at : (n : ℕ) → starts_on s n ≡ true → is_out_of_reach given (place_of l n) ≡ false
  no_fault_at n start =
      let test = is_out_of_reach given in
      let front = sections_before objects l.object l.index in
      let cut = cut_at objects l.object l.index s is.here in
      let all : find test (flat_map places_of (front ++ l ∷ cut.rest)) ≡ None = ap (λ ls. find test (flat_map places_of ls)) (sym cut.all_are) ∙ none_far in
      find_among test (place_of l) (starts_in s) n
      (sym (ap (λ b. find test (cond b (map (place_of l) (starts_in s)) [])) code) ∙ find_flat test places_of front cut.rest l all) start

  -- an item of `size` bytes at a place is out of reach, or leads out of the section
  abbrev is_out : Place → ℕ → Option Item → Bool
  is_out q size o = option_map_or (λ i. option_map_or (λ t. is_far given q size i t || leaves_fixed given q t) (way_place size i) false) o false

  -- the plain distance to a place within it
  plain_way : (n : ℕ) → starts_on s n ≡ true → (to : Place) → to ≡ place_of l to.offset → IsPlace to.offset → plain_distance given (place_of l n) to ≡ Some (distance (plain n) (plain to.offset))
  plain_way n start to same at = λ j. distance_between (plain_there n (inl start) j) ((ap (plain_address given) same ∙ plain_there to.offset at) j)

  -- ---- in a round

  -- the sizes of its pieces are those of the object
  abbrev HasOwn : List ℕ → Type 0
  HasOwn sizes = (n : ℕ) → starts_on s n ≡ true → slice_index sizes (number n) ≡ shortest (kept n)

  abbrev pieces : List Piece
  pieces = pieces_of given slots

  abbrev text : ℕ
  text = given.map.text

  module _ (sizes : List ℕ) (forms : AreForms pieces sizes) where
    abbrev address : ℕ → ℕ
    address k = slice_index (addresses_of text pieces sizes) k

    -- the next address is after the piece's bytes
    ends : (k : ℕ) (p : Piece) → slice_get pieces k ≡ Some p → address (k + 1) ≡ address k + width p (slice_index sizes k) (address k)
    ends k p got =
        next_address text pieces sizes k (Fixed 0) (slice_get_within pieces k p got) forms
        ∙ ap (λ x. address k + width x (slice_index sizes k) (address k)) (get_or_from_slice_get pieces k p (Fixed 0) got)

    -- it begins at a multiple of its alignment
    aligned : address (number 0) % align ≡ 0
    aligned = ap (λ k. address k % align) first_number ∙ ap (λ n. n % align) (ends before (Align align) padding_there) ∙ up_multiple align (address before) some_align

    module _ (own : HasOwn sizes) (well : is_well_aligned given l ≡ true) where
      -- an offset is as far from the start as in the plain layout
      abbrev Far : ℕ → Type 0
      Far n = address (number n) + plain 0 ≡ address (number 0) + plain n

      covered : (n : ℕ) → starts_on s n ≡ true → (bytes : ℕ) → item_on n ≡ item.Align bytes → align % power_above bytes ≡ 0
      covered n start bytes e =
          let all : list_all (allows_padding align) (map item_on (starts_in s)) ≡ true = ap (list_all (allows_padding align)) (sym (items_in-code given l code)) ∙ well in
          eqb-true (align % power_above bytes) 0 (ap (allows_padding align) (sym e) ∙ all_among (allows_padding align) item_on (starts_in s) n all start)

      far_next : (n : ℕ) → starts_on s n ≡ true → Far n → Far (n + size_on s n)
      far_next n start far =
          let a = address (number n) in
          let same : (bytes : ℕ) → item_on n ≡ item.Align bytes → a % power_above bytes ≡ plain n % power_above bytes =
          λ bytes e. congruent (power_above bytes) align a (plain n) (plain 0) (address (number 0)) (covered n start bytes e) plain_aligned aligned far in
          far_on a (address (number (n + size_on s n))) (width (kept n) (shortest (kept n)) a) (plain n) (plain (n + size_on s n)) (plain 0) (address (number 0)) far
          (ap address (next_number n start) ∙ ends (number n) (kept n) (piece_there n start) ∙ ap (λ size. a + width (kept n) size a) (own n start))
          (offset_next given (place_of l 0) s code whole n start ∙ advance given (item_on n) (size_on s n) a (plain n) (own_is given s (place_of l n) code) same)

      as_far : (n : ℕ) → IsPlace n → Far n
      as_far n at =
          along s code whole (λ k xs. ((m : ℕ) → is_among m xs ≡ true → starts_on s m ≡ true) → Far k → (m : ℕ) → (is_among m xs ≡ true) ⊎ (m ≡ length s.bytes) → Far m)
          (λ starts far m to. last m far to)
          (λ k xs lt words st above rest starts far m to.
          more k xs starts far (rest (λ j among. starts j (among_later k j xs among)) (far_next k (starts k (among_first k k xs refl)) far)) m to)
          (λ m among. among) refl n at
        where
          last : (m : ℕ) → Far (length s.bytes) → (is_among m [] ≡ true) ⊎ (m ≡ length s.bytes) → Far m
          last m far (inl none) = absurd cc
          last m far (inr end) = subst Far (sym end) far

          more : (k : ℕ) (xs : List ℕ) → ((m : ℕ) → is_among m (k ∷ xs) ≡ true → starts_on s m ≡ true) → Far k → ((m : ℕ) → (is_among m xs ≡ true) ⊎ (m ≡ length s.bytes) → Far m)
              → (m : ℕ) → (is_among m (k ∷ xs) ≡ true) ⊎ (m ≡ length s.bytes) → Far m
          more k xs starts far rest m (inr end) = rest m (inr end)
          more k xs starts far rest m (inl among') = by (among k m xs among')
            where
              by : Among k m xs → Far m
              by (Here e) = subst Far e far
              by (There later) = rest m (inl later)

      -- ---- what reaches

      -- distances within it are those of the plain layout
      same_distance : (n m : ℕ) → IsPlace n → IsPlace m → distance (address (number n)) (address (number m)) ≡ distance (plain n) (plain m)
      same_distance n m from to = same_way (address (number n)) (address (number m)) (plain n) (plain m)
          (far_both (address (number n)) (address (number m)) (plain n) (plain m) (plain 0) (address (number 0)) (as_far n from) (as_far m to))

      -- what an item that may be out of its range leads to
      record IsWithin (n : ℕ) (to : Place) : Type 0 where
        place : IsPlace to.offset
        number_to : piece_number_at objects to ≡ number to.offset
        reached : reaches (size_on s n) (item_on n) (distance (plain n) (plain to.offset)) ≡ true

      within : (n : ℕ) → starts_on s n ≡ true → (to : Place) → way_place (size_on s n) (item_on n) ≡ Some to → is_target_at objects to ≡ true → IsWithin n to
      within n start to way leads =
          let q = place_of l n in
          let fine : is_out q (size_on s n) (Some (item_on n)) ≡ false = (λ j. is_out q (sym (size_is n) j) (sym (start_item n start) j)) ∙ no_fault_at n start in
          let two : (is_far given q (size_on s n) (item_on n) to ≡ false) × (leaves_fixed given q to ≡ false) =
          or_parts (is_far given q (size_on s n) (item_on n) to) (leaves_fixed given q to)
          (ap (λ o. option_map_or (λ t. is_far given q (size_on s n) (item_on n) t || leaves_fixed given q t) o false) (sym way) ∙ fine) in
          let stays : (eqb l.object to.object && eqb l.index to.section) ≡ true =
          not-false (eqb l.object to.object && eqb l.index to.section) (ap (λ b. b && not (eqb l.object to.object && eqb l.index to.section)) (sym fixed) ∙ two.1) in
          let parts = and_parts (eqb l.object to.object) (eqb l.index to.section) stays in
          let same : to ≡ place_of l to.offset =
          λ j. record { object = sym (eqb-true l.object to.object parts.0) j; section = sym (eqb-true l.index to.section parts.1) j; offset = to.offset } in
          let target' : is_target_at objects (place_of l to.offset) ≡ true = ap (is_target_at objects) (sym same) ∙ leads in
          let place = is_place to.offset target' in
          let far : option_map_or (λ d. not (reaches (size_on s n) (item_on n) d)) (Some (distance (plain n) (plain to.offset))) false ≡ false =
          ap (λ o. option_map_or (λ d. not (reaches (size_on s n) (item_on n) d)) o false) (sym (plain_way n start to same place)) ∙ two.0 in
          record {
            place = place;
            number_to = ap (piece_number_at objects) same ∙ number_is to.offset target';
            reached = not-false (reaches (size_on s n) (item_on n) (distance (plain n) (plain to.offset))) far;
          }

      -- what its item leads to, if it is that of a branch or a short jump, is in reach of it
      reaches_to : (n : ℕ) → starts_on s n ≡ true → (x : Item) → item_on n ≡ x → (to : Place) → way_place (size_on s n) x ≡ Some to → is_target_at objects to ≡ true
          → reaches (size_on s n) x (distance (address (number n)) (address (piece_number_at objects to))) ≡ true
      reaches_to n start x e to way leads =
          let at = within n start to (ap (way_place (size_on s n)) e ∙ way) leads in
          let same = ap (λ k. distance (address (number n)) (address k)) at.number_to ∙ same_distance n to.offset (inl start) at.place in
          (λ j. reaches (size_on s n) (sym e j) (same j)) ∙ at.reached

      reaches_own : (n : ℕ) → starts_on s n ≡ true → (x : Item) → item_on n ≡ x → IsOwn x (size_on s n) → LeadsWell objects x
          → let piece = kept_piece given (size_on s n) x in form_reaches_at (addresses_of text pieces sizes) (number n) piece (shortest piece) ≡ true
      reaches_own n start (item.Op i) e own' leads = refl
      reaches_own n start (item.Hi i t) e own' leads = refl
      reaches_own n start (item.Lo i t) e own' leads = refl
      reaches_own n start (item.PcHi i t) e own' leads = refl
      reaches_own n start (item.PcLo i q) e own' leads = refl
      reaches_own n start (item.Branch op first second to) e own' leads =
          branch_reaches given op first second to (size_on s n) (address (number n)) (address (piece_number_at objects to)) own'
          (reaches_to n start (item.Branch op first second to) e to refl leads)
      reaches_own n start (item.Jump rd to) e own' leads = by own'
        where
          fits : Bool → Bool
          fits b = form_reaches_at (addresses_of text pieces sizes) (number n) (jump_piece objects to b) (shortest (jump_piece objects to b))

          by : IsOwnJump rd (size_on s n) → fits (eqb (size_on s n) 2 && is_short_jump rd) ≡ true
          by (inl two) =
              ap fits (short_is (size_on s n) (is_short_jump rd) two.0 two.1)
              ∙ ap (λ k. reaches k (item.Jump rd to) (distance (address (number n)) (address (piece_number_at objects to)))) (sym two.0)
              ∙ reaches_to n start (item.Jump rd to) e to (ap (λ k. cond (eqb k 2) (Some to) None) two.0) leads
          by (inr four) = ap fits (long_is (size_on s n) (is_short_jump rd) four)
      reaches_own n start (item.Call rd temp to) e own' leads = refl
      reaches_own n start (item.Align bytes) e own' leads = refl
      reaches_own n start (item.Word t) e own' leads = refl
      reaches_own n start (item.Raw word) e own' leads = refl
      reaches_own n start (item.RawShort half) e own' leads = refl
      reaches_own n start (item.RawPair first second) e own' leads = refl

      -- so no piece of it grows
      stay_own : HasOwn (next_sizes text pieces sizes)
      stay_own n start =
          let a = addresses_of text pieces sizes in
          let k = number n in
          let got = piece_there n start in
          let first : 0 + k ≡ k = omega arith in
          let piece : nth_piece pieces k ≡ kept n = get_or_from_slice_get pieces k (kept n) (Fixed 0) got in
          let reached =
          reaches_own n start (item_on n) refl (own_is given s (place_of l n) code) (item_leads inputs faultless (place_of l n) (item_on n) (start_item n start)) in
          grown_at a 0 pieces sizes k (slice_get_within pieces k (kept n) got) (length_forms pieces sizes forms)
          ∙ (λ j. grown_size a (first j) (piece j) (own n start j))
          ∙ ap (λ b. cond b (shortest (kept n)) (longer (kept n) (shortest (kept n)))) reached

  -- ---- in each round

  first_own : HasOwn (map shortest pieces)
  first_own n start = get_or_from_slice_get (map shortest pieces) (number n) (shortest (kept n)) 0 (get_map shortest pieces (number n) (kept n) (piece_there n start))

  module _ (well : is_well_aligned given l ≡ true) where
    round_own : (r : ℕ) → HasOwn (round text pieces r)
    round_own zero = first_own
    round_own (suc r) = stay_own (round text pieces r) (round_forms text pieces r) (round_own r) well

    settled_own : HasOwn (settled_sizes given slots)
    unfolding settled_sizes sizes_of
    settled_own = round_own (2 * length pieces)

  -- ---- in the layout

  abbrev settled : ℕ → ℕ
  settled n = address (settled_sizes given slots) (settled_forms given slots) (number n)

  -- images list each of its places
  listed_there : (n : ℕ) → IsPlace n → is_listed_at given (place_of l n) ≡ true
  listed_there n (inl start) = unit_listed given (place_of l n) (slot_at given slots) (OneItem (item_on n)) (start_unit n start)
  listed_there n (inr end) = end_listed given (place_of l n) (end_is n end)

  settled_there : (n : ℕ) → IsPlace n → settled_address given slots (place_of l n) ≡ Some (settled n)
  unfolding settled_addresses
  settled_there n at =
      address_there given slots (place_of l n) (listed_there n at)
      ∙ ap (λ k. Some (slice_index (settled_addresses given slots) k)) (number_is n (place_target n at))

  first_place : IsPlace 0
  first_place = start_first s code whole

  begins_aligned : (a : ℕ) → settled_address given slots (place_of l 0) ≡ Some a → a % align ≡ 0
  begins_aligned a at =
      ap (λ n. n % align) (same_Some a (settled 0) (sym at ∙ settled_there 0 first_place)) ∙ aligned (settled_sizes given slots) (settled_forms given slots)

  keeps_far : is_well_aligned given l ≡ true → (n : ℕ) → is_target_at objects (place_of l n) ≡ true → IsAsFar given (settled_address given slots) l n
  keeps_far well n to =
      let at = is_place n to in
      let far = as_far (settled_sizes given slots) (settled_forms given slots) (settled_own well) well n at in
      let rises = offset_rises given (place_of l 0) s code whole 0 n (omega arith) in
      let one : settled n ≡ settled 0 + (plain n - plain 0) = far_is (settled n) (plain n) (plain 0) (settled 0) far rises in
      let two : plain n ≡ plain 0 + (plain n - plain 0) = far_is (plain n) (plain n) (plain 0) (plain 0) (omega arith) rises in
      record {
        start = settled 0;
        plain_start = plain 0;
        distance = plain n - plain 0;
        starts = settled_there 0 first_place;
        plain_starts = plain_there 0 first_place;
        there = settled_there n at ∙ ap Some one;
        plain_there = plain_there n at ∙ ap Some two;
      }

-- ---- all fixed sections

pub kept_sections : (inputs : Inputs) → first_fault inputs ≡ None → (slots : List (Option Place)) → KeepsFixed (parsed inputs) (settled_address (parsed inputs) slots)
kept_sections inputs faultless slots = record {
  begins = λ l is a at. begins_aligned inputs faultless slots l is a at;
  keeps = λ l n is well to. keeps_far inputs faultless slots l is well n to;
}
