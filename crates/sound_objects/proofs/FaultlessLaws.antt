-- Sound inputs have no fault: none of their files, their sums, their names, their data, their relocations, their start and their branches has one.
use Rattle.std.proofs.Common.{◌≡◌, ℕ, suc, ◌+◌, List, [], ◌∷◌, length, get_or, map, take, Bool, true, false, cond, Some, None, refl, sym, ap, subst, ◌∙◌, arith, eqb, eq-eqb}
use Rattle.std.specs.Prelude.{All, ◌||◌, nat_lt}
use Rattle.std.specs.List.{find, range_with_len}
use Rattle.std.specs.Option.{option_map, option_or}
use Rattle.std.proofs.lemmas.Bool.{le-ltb, or_from}
use Rattle.std.proofs.lemmas.List.Elements.{All-head, All-map, All-nil, All-tail}
use Rattle.std.proofs.lemmas.List.Folds.{list_any_at}
use Rattle.std.proofs.lemmas.List.Sums.{sum_by-take-le}
use Rattle.zc_base.specs.declared.place.Place.{Place}
use Rattle.elf32_read.specs.declared.fault.Fault.{Fault}
use Rattle.elf32_read.specs.declared.fault.Fault.TheVariants.{TooLarge}
use Rattle.elf32_read.specs.Object.{object_fault}
use Rattle.elf32_read.specs.Parts.{is_code_section, object_parts}
use Rattle.psabi_sym.specs.Faults.{are_too_large, fault_from, gather_fault, most_objects, object_code, object_data, sum_fault, sums_of}
use Rattle.psabi_sym.specs.Indexed.{IndexedSection, all_sections}
use Rattle.psabi_sym.specs.Inputs.{Inputs, parsed}
use Rattle.psabi_sym.proofs.Gathered.{has_room}
use Rattle.block_cut.specs.Faults.{first_fault, is_out_of_reach, reloc_fault, relocs_fault, section_fault}
use Rattle.block_cut.specs.Items.{all_places, place_of, places_of, starts_in}
use Rattle.block_cut.proofs.FaultLaws.{no_fault}
use Rattle.sound_objects.specs.WellFormed.{AreSmall, HasSection, IsWellFormed}
use Rattle.sound_objects.proofs.ListLaws.{all_flat, all_range, find_none, first_none}
use Rattle.sound_objects.proofs.ListedLaws.{all_by_section}
use Rattle.sound_objects.proofs.NameLaws.{no_duplicate, no_undefined}

-- ---- files

no_file : (i : ℕ) (files : List (List ℕ)) → All (λ f. object_fault f ≡ None) files → fault_from i files ≡ None
no_file i [] all = refl
no_file i (f ∷ fs) all =
    ap (λ o. option_or (option_map {U = ℕ × Fault} (λ fault. (i, fault)) o) (fault_from (suc i) fs)) (All-head (λ g. object_fault g ≡ None) f fs all)
    ∙ no_file (suc i) fs (All-tail (λ g. object_fault g ≡ None) f fs all)

-- the sums over the first files are no larger than those over all
small_first : (files : List (List ℕ)) → AreSmall (sums_of files) → (k : ℕ) → are_too_large (sums_of (take k files)) ≡ false
small_first files small k =
    let s = sums_of (take k files) in
    or_from (nat_lt 0x200_0000 s.file_bytes || nat_lt 0x4_0000 s.code_room) (nat_lt 0x40_0000 (s.data_room + 96))
    (or_from (nat_lt 0x200_0000 s.file_bytes) (nat_lt 0x4_0000 s.code_room)
    (le-ltb 0x200_0000 s.file_bytes (omega (arith, small.file_bytes, sum_by-take-le length files k)))
    (le-ltb 0x4_0000 s.code_room (omega (arith, small.code_room, sum_by-take-le (λ f. object_code (object_parts f)) files k))))
    (le-ltb 0x40_0000 (s.data_room + 96) (omega (arith, small.data_room, sum_by-take-le (λ f. object_data (object_parts f)) files k)))

no_sum : (files : List (List ℕ)) → AreSmall (sums_of files) → sum_fault files ≡ None
unfolding sum_fault
no_sum files small =
    let test = λ (i : ℕ). are_too_large (sums_of (take (i + 1) files)) in
    ap (option_map {U = ℕ × Fault} (λ (i : ℕ). (i, TooLarge)))
    (find_none test (range_with_len 0 (length files)) (all_range (λ i. test i ≡ false) 0 (length files) (λ i lt. small_first files small (0 + i + 1))))

-- ---- sections

module _ (inputs : Inputs) (sound : IsWellFormed inputs) where
  no_gather : gather_fault inputs ≡ None
  unfolding gather_fault
  no_gather =
      let count : nat_lt most_objects (length inputs.files) ≡ false = le-ltb most_objects (length inputs.files) sound.few in
      λ j. option_or (cond (count j) (Some (most_objects, TooLarge)) None)
      (option_or (no_file 0 inputs.files sound.readable j)
      (option_or (no_sum inputs.files sound.small j)
      (option_or (option_or (no_duplicate (parsed inputs).objects sound.single j) (option_or (no_undefined (parsed inputs) sound.defined j) None))
      (option_or (has_room (parsed inputs) sound.room j) None))))

  no_reloc : relocs_fault (parsed inputs) ≡ None
  unfolding relocs_fault
  no_reloc =
      first_none (section_fault (parsed inputs)) (all_sections (parsed inputs).objects)
      (all_by_section (parsed inputs).objects (λ l. section_fault (parsed inputs) l ≡ None) (λ l has.
      ap (option_map {U = ℕ × Fault} (λ (fault : Fault). (l.object, fault))) (first_none (reloc_fault (parsed inputs) l) l.section.relocs (sound.relocs l has))))

  -- a place where an item starts
  abbrev IsNear : Place → Type 0
  IsNear q = is_out_of_reach (parsed inputs) q ≡ false

  near_in : (l : IndexedSection) → HasSection (parsed inputs).objects l → All IsNear (places_of l)
  near_in l has = by (is_code_section l.section) refl
    where
      by : (b : Bool) → is_code_section l.section ≡ b → All IsNear (places_of l)
      by true code =
          let places : places_of l ≡ map (place_of l) (starts_in l.section) = ap (λ b. cond b (map (place_of l) (starts_in l.section)) []) code in
          subst (All IsNear) (sym places) (All-map IsNear (place_of l) (starts_in l.section) (λ k d lt.
          let n : ℕ = get_or (starts_in l.section) k d in
          sound.near no_gather l has code n (list_any_at (λ m. eqb m n) (starts_in l.section) k d lt (eq-eqb n n refl))))
      by false other =
          let places : places_of l ≡ [] = ap (λ b. cond b (map (place_of l) (starts_in l.section)) []) other in
          subst (All IsNear) (sym places) (All-nil IsNear)

  no_range : find (is_out_of_reach (parsed inputs)) (all_places (parsed inputs).objects) ≡ None
  no_range =
      find_none (is_out_of_reach (parsed inputs)) (all_places (parsed inputs).objects)
      (all_flat IsNear places_of (all_sections (parsed inputs).objects) (all_by_section (parsed inputs).objects (λ l. All IsNear (places_of l)) near_in))

pub well_formed_faultless : (inputs : Inputs) → IsWellFormed inputs → first_fault inputs ≡ None
well_formed_faultless inputs sound =
    no_fault inputs sound.entry (no_gather inputs sound) (no_reloc inputs sound) sound.entry_found (no_range inputs sound)
