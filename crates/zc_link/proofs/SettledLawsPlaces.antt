-- Addresses of places in the settled layout: those that images list have one (`settled_there`,
-- `settled_here`), it is even (`settled_even`), and the code before a section ends where that section's padding begins (`ends_before`).
use Rattle.std.proofs.Common.{◌≡◌, ℕ, ◌+◌, ◌%◌, ◌≤◌, ◌⊎◌, List, [], ◌∷◌, length, Bool, true, false, cond, Option, Some, None, refl, sym, ap, ◌∙◌, arith, eqb, inl, inr, eq-eqb}
use Rattle.std.specs.Prelude.{◌||◌, slice_index, is_some}
use Rattle.std.specs.List.{sum_by}
use Rattle.std.specs.Option.{option_map_or, unwrap_or}
use Rattle.std.proofs.lemmas.List.Sums.{fold-append}
use Rattle.zc_base.specs.MemMap.{IsMap}
use Rattle.zc_base.specs.declared.place.Place.{Place}
use Rattle.elf32_read.specs.Parts.{ObjectParts, SectionParts, is_code_section}
use Rattle.psabi_sym.specs.Faults.{gather_fault}
use Rattle.psabi_sym.specs.Inputs.{Inputs, ParsedInputs, parsed}
use Rattle.psabi_sym.specs.Indexed.{IndexedSection, section_at, sections_before}
use Rattle.block_cut.specs.Invariants.Cut.{place_at}
use Rattle.block_cut.specs.Items.{code_at, is_target_at, starts_in, starts_on}
use Rattle.block_cut.proofs.ListedLaws.{before_more, listed}
use Rattle.block_cut.proofs.PlainLaws.{target_on}
use Rattle.block_cut.proofs.StartLaws.{start_first}
use Rattle.block_cut.proofs.WholeLaws.{inputs_whole}
use Rattle.shrink_layout.specs.declared.piece.Piece.{Piece}
use Rattle.shrink_layout.specs.declared.piece.Piece.TheVariants.{Fixed}
use Rattle.shrink_layout.specs.Layout.{IsLayout, addresses_of}
use Rattle.shrink_layout.specs.Least.{AreForms}
use Rattle.shrink_layout.specs.Pieces.{piece_count, piece_number_at, pieces_before, pieces_by, pieces_of}
use Rattle.shrink_layout.specs.Settled.{settled_address, settled_addresses, settled_end, settled_sizes}
use Rattle.shrink_layout.specs.Units.{front_size, is_listed_at}
use Rattle.shrink_layout.proofs.AddressLaws.{ascending, even_address, first_address, form_at, last_address, layout_forms, next_address}
use Rattle.shrink_layout.proofs.NumberEnds.{padding_number, padding_number-next, number-end, number-start, start_within}
use Rattle.shrink_layout.proofs.NumberLaws.{length-pieces_of, number-code, number_most}
use Rattle.shrink_layout.proofs.PlaceAddressLaws.{address_target, address_there}
use Rattle.shrink_layout.proofs.RolePlaces.{end_listed, leader_listed, listed_target}
use Rattle.shrink_layout.proofs.SizesLaws.{sizes_layout}
use Rattle.shrink_layout.proofs.TargetLaws.{number_some}
use Rattle.shrink_layout.proofs.PremiseLaws.{all_aligned, all_even, room_few}
use Rattle.zc_link.specs.LaidOut.{code_end_after, laid_section_end, text_end}
use Rattle.zc_link.specs.TextLayout.{TextLayout, front_end, zc_layout}
use Rattle.zc_link.proofs.EachSection.{before_each, of_all}
use Rattle.moved_runs.proofs.Led.{first_leader}
use Rattle.zc_link.proofs.PlainEnds.{code_found}

-- ---- targets

-- where an item starts or the section ends code may lead
target_there :
    (objects : List ObjectParts) (q : Place) (s : SectionParts) → code_at objects q ≡ Some s
    → (starts_on s q.offset ≡ true) ⊎ (q.offset ≡ length s.bytes) → is_target_at objects q ≡ true
target_there objects q s at target = target_on objects q s at ∙ by target
  where
    or_true : (b : Bool) → (b || true) ≡ true
    or_true true = refl
    or_true false = refl

    by : (starts_on s q.offset ≡ true) ⊎ (q.offset ≡ length s.bytes) → (starts_on s q.offset || eqb q.offset (length s.bytes)) ≡ true
    by (inl start) = ap (λ b. b || eqb q.offset (length s.bytes)) start
    by (inr end) = ap (λ b. starts_on s q.offset || b) (eq-eqb q.offset (length s.bytes) end) ∙ or_true (starts_on s q.offset)

-- ---- addresses

-- what is known of a choice that gave something
chosen : (b : Bool) (x a : ℕ) → cond b (Some x) None ≡ Some a → x ≡ a
chosen true x a is = cc
chosen false x a is = absurd cc

chosen_some : (b : Bool) (x : ℕ) → is_some (cond b (Some x) None) ≡ b
chosen_some true x = refl
chosen_some false x = refl

module _ (inputs : Inputs) (none : gather_fault inputs ≡ None) (is_map : IsMap inputs.map) (slots : List (Option Place)) (slots_few : length slots ≤ 256) where
  abbrev p : ParsedInputs
  p = parsed inputs

  abbrev L : TextLayout
  L = zc_layout inputs slots

  abbrev objects : List ObjectParts
  objects = p.objects

  abbrev A : Place → Option ℕ
  A = settled_address p slots

  abbrev pieces : List Piece
  pieces = pieces_of p slots

  abbrev sizes : List ℕ
  sizes = settled_sizes p slots

  -- the sizes are those of the first round that fits
  pub settled : IsLayout inputs.map.text pieces sizes
  unfolding settled_sizes
  settled = sizes_layout inputs.map.text pieces

  -- the address of the piece with a number
  abbrev pub address : ℕ → ℕ
  address k = slice_index (addresses_of inputs.map.text pieces sizes) k

  pub forms : AreForms pieces sizes
  forms = layout_forms inputs.map.text pieces sizes settled

  -- addresses are given to the places that images list, and to no others
  pub settled_listed : (q : Place) → is_some (A q) ≡ is_listed_at p q
  unfolding settled_address
  settled_listed q = chosen_some (is_listed_at p q) (slice_index (settled_addresses p slots) (piece_number_at objects q))

  -- a place that images list has the address of its number
  settled_there :
      (q : Place) (s : SectionParts) → code_at objects q ≡ Some s → is_listed_at p q ≡ true
      → A q ≡ Some (address (pieces_before objects q.object q.section s q.offset))
  unfolding settled_addresses
  settled_there q s at listed =
      address_there p slots q listed
      ∙ ap (λ n. Some (address n)) (number-code objects q s (listed_target p q listed) at)

  -- the end of a section is one
  end_there : (q : Place) (s : SectionParts) → code_at objects q ≡ Some s → q.offset ≡ length s.bytes → is_listed_at p q ≡ true
  end_there q s at end =
      end_listed p q
      (ap (λ o. option_map_or (λ t. eqb q.offset (length t.bytes)) o false) at ∙ eq-eqb q.offset (length s.bytes) end)

  -- the first place of a section is listed, since a basic block begins there
  first_there : (q : Place) (s : SectionParts) → code_at objects q ≡ Some s → (starts_on s q.offset ≡ true) ⊎ (q.offset ≡ length s.bytes) → q.offset ≡ 0
      → is_listed_at p q ≡ true
  first_there q s at target first =
      let led = target_there objects q s at target in
      leader_listed inputs none q led (first_leader p q first led)

  -- a place with an address has that of its number
  pub settled_here : (q : Place) (a : ℕ) → A q ≡ Some a → address (piece_number_at objects q) ≡ a
  unfolding settled_address settled_addresses
  settled_here q a is = chosen (is_listed_at p q) (address (piece_number_at objects q)) a is

  -- the first piece is what stands in front of the first section
  front_ends : address 1 ≡ front_end L
  unfolding pieces_by pieces_of
  front_ends =
      let size : slice_index sizes 0 ≡ front_size slots = form_at pieces sizes 0 (Fixed 0) (omega arith) forms in
      omega (
        arith,
        next_address inputs.map.text pieces sizes 0 (Fixed 0) (omega arith) forms,
        size,
        first_address inputs.map.text pieces sizes,
      )

  -- the table and its stub are short
  front_few : front_size slots ≤ 0x1000
  front_few = by slots slots_few
    where
      by : (all : List (Option Place)) → length all ≤ 256 → front_size all ≤ 0x1000
      by [] few = omega arith
      by (slot ∷ all) few = omega (arith, few)

  -- ---- bounds

  address_even : (k : ℕ) → address k % 2 ≡ 0
  address_even k = even_address inputs.map.text pieces sizes (all_even inputs none slots) forms (omega (arith, is_map.text_page)) k

  pub address_rises : (j k : ℕ) → j ≤ k → k ≤ length pieces → address j ≤ address k
  address_rises j k le within = ascending inputs.map.text pieces sizes forms j k le within

  address_low : (k : ℕ) → 1 ≤ k → k ≤ length pieces → front_end L ≤ address k
  address_low k some within = omega (arith, address_rises 1 k some within, front_ends)

  address_few : (k : ℕ) → k ≤ length pieces → address k ≤ inputs.map.text + 0x9_0000
  address_few k within =
      omega (
        arith,
        address_rises k (length pieces) within (omega arith),
        last_address inputs.map.text pieces sizes (all_aligned inputs none slots) forms,
        room_few inputs none slots,
        front_few,
      )

  pub settled_even : (q : Place) (a : ℕ) → A q ≡ Some a → a % 2 ≡ 0
  settled_even q a is = ap (λ n. n % 2) (sym (settled_here q a is)) ∙ address_even (piece_number_at objects q)

  pub settled_low : (q : Place) (a : ℕ) → A q ≡ Some a → front_end L ≤ a
  settled_low q a is =
      let some = number_some objects q (address_target p slots q a is) in
      omega (arith, settled_here q a is, address_low (piece_number_at objects q) (omega (arith, some)) (number_most p slots q))

  pub settled_few : (q : Place) (a : ℕ) → A q ≡ Some a → a ≤ inputs.map.text + 0x9_0000
  settled_few q a is = omega (arith, settled_here q a is, address_few (piece_number_at objects q) (number_most p slots q))

  -- ---- ends

  -- the code of these sections ends where the piece after theirs begins
  abbrev EndsThere : List IndexedSection → Type 0
  EndsThere ls = code_end_after L ls ≡ address (1 + sum_by piece_count ls)

  -- the end of the code with one section more
  ends_more :
      (o i : ℕ) (s : SectionParts) → section_at objects o i ≡ Some s → EndsThere (sections_before objects o i)
      → EndsThere (sections_before objects o (i + 1))
  ends_more o i s found before =
      ap (code_end_after L) (before_more objects o i s found)
      ∙ fold-append (laid_section_end L) (front_end L) (sections_before objects o i) (listed o i s ∷ [])
      ∙ by (is_code_section s) refl
    where
      end : ℕ
      end = code_end_after L (sections_before objects o i)

      by : (b : Bool) → is_code_section s ≡ b → laid_section_end L end (listed o i s) ≡ address (padding_number objects o (i + 1))
      by true code =
          let last = place_at o i (length s.bytes) in
          ap (λ b. cond b (unwrap_or (A last) end) end) code
          ∙ ap (λ x. unwrap_or x end) (settled_there last s (code_found p o i (length s.bytes) s found code) (end_there last s (code_found p o i (length s.bytes) s found code) refl))
          ∙ ap address (number-end objects o i s found code (inputs_whole inputs o i s none found code))
      by false other =
          let nothing : piece_count (listed o i s) ≡ 0 = ap (λ b. cond {A = ℕ} b (1 + length (starts_in s)) 0) other in
          let same : padding_number objects o i ≡ padding_number objects o (i + 1) = omega (arith, padding_number-next objects o i s found, nothing) in
          ap (λ b. cond b (unwrap_or (A (place_at o i (length s.bytes))) end) end) other ∙ before ∙ ap address same

  -- the end of the code of the sections before one
  ends_before :
      (o i : ℕ) (s : SectionParts) → section_at objects o i ≡ Some s
      → code_end_after L (sections_before objects o i) ≡ address (padding_number objects o i)
  ends_before = before_each objects EndsThere (sym front_ends) ends_more

  -- all code ends where the last piece does
  text_ends : text_end L ≡ address (length pieces)
  text_ends = of_all objects EndsThere (sym front_ends) ends_more ∙ ap address (sym (length-pieces_of p slots))

  pub end_settled : text_end L ≡ settled_end p slots
  unfolding settled_end settled_addresses
  end_settled = text_ends

  pub settled_high : (q : Place) (a : ℕ) → A q ≡ Some a → a ≤ text_end L
  settled_high q a is =
      omega (arith, settled_here q a is, text_ends, address_rises (piece_number_at objects q) (length pieces) (number_most p slots q) (omega arith))

  pub settled_short : text_end L ≤ inputs.map.text + 0x9_0000
  settled_short = omega (arith, text_ends, address_few (length pieces) (omega arith))

  -- a section begins no earlier than those before it end
  pub settled_begins :
      (o i : ℕ) (s : SectionParts) → section_at objects o i ≡ Some s → is_code_section s ≡ true
      → code_end_after L (sections_before objects o i) ≤ unwrap_or (A (place_at o i 0)) 0
  settled_begins o i s found code =
      let whole = inputs_whole inputs o i s none found code in
      let here = code_found p o i 0 s found code in
      let first : unwrap_or (A (place_at o i 0)) 0 ≡ address (padding_number objects o i + 1) =
      ap (λ x. unwrap_or x 0) (settled_there (place_at o i 0) s here (first_there (place_at o i 0) s here (start_first s code whole) refl))
      ∙ ap address (number-start objects o i s found code whole) in
      omega (
        arith,
        first,
        ends_before o i s found,
        address_rises (padding_number objects o i) (padding_number objects o i + 1) (omega arith) (start_within p slots o i s found code whole),
      )
