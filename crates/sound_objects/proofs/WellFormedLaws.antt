-- Inputs without a fault are well-formed: what is given objects without a fault knows all that it has to show of those that it makes.
use Rattle.std.proofs.Common.{◌≡◌, ℕ, suc, ◌+◌, List, [], ◌∷◌, length, map, take, true, false, cond, None, sym, ap, subst, ◌∙◌, arith}
use Rattle.std.specs.Prelude.{All, ◌||◌, nat_lt}
use Rattle.std.specs.List.{find, range_with_len}
use Rattle.std.specs.Option.{option_map, option_or}
use Rattle.std.proofs.lemmas.Bool.{ltb-false, or_parts}
use Rattle.std.proofs.lemmas.List.{take_all}
use Rattle.std.proofs.lemmas.List.Elements.{All-cons, All-head, All-nil, All-tail}
use Rattle.zc_base.specs.declared.place.Place.{Place}
use Rattle.elf32_read.specs.declared.fault.Fault.{Fault}
use Rattle.elf32_read.specs.declared.fault.Fault.TheVariants.{TooLarge}
use Rattle.elf32_read.specs.Object.{object_fault}
use Rattle.elf32_read.specs.Parts.{is_code_section}
use Rattle.psabi_sym.specs.Faults.{are_too_large, duplicate_fault, fault_from, sum_fault, sums_of, undefined_fault}
use Rattle.psabi_sym.specs.Indexed.{IndexedSection, all_sections}
use Rattle.psabi_sym.specs.Inputs.{Inputs, ParsedInputs, parsed}
use Rattle.psabi_sym.proofs.FaultLaws.{neither}
use Rattle.psabi_sym.proofs.Gathered.{all_none, data_below}
use Rattle.block_cut.specs.Faults.{first_fault, is_out_of_reach, reloc_fault, relocs_fault, section_fault}
use Rattle.block_cut.specs.Items.{all_places, place_of, places_of, starts_in}
use Rattle.block_cut.proofs.FaultLaws.{faultless}
use Rattle.block_cut.proofs.StartLaws.{Among, among, is_among}
use Rattle.block_cut.proofs.StartLaws.Among.{Here, There}
use Rattle.sound_objects.specs.WellFormed.{AreSmall, BranchesReach, HasSection, IsWellFormed, RelocsAreRight}
use Rattle.sound_objects.proofs.ListLaws.{flat_all, map_all, none_first, none_found, range_all, unmapped}
use Rattle.sound_objects.proofs.ListedLaws.{section_by_all}
use Rattle.sound_objects.proofs.NameLaws.{no_duplicate_single, no_undefined_defined}

-- ---- files

readable_all : (i : ℕ) (files : List (List ℕ)) → fault_from i files ≡ None → All (λ f. object_fault f ≡ None) files
readable_all i [] none = All-nil (λ f. object_fault f ≡ None)
readable_all i (f ∷ fs) none =
    let two = neither (option_map {U = ℕ × Fault} (λ fault. (i, fault)) (object_fault f)) (fault_from (suc i) fs) none in
    All-cons (λ g. object_fault g ≡ None) f fs (unmapped {Y = ℕ × Fault} (λ fault. (i, fault)) (object_fault f) two.0) (readable_all (suc i) fs two.1)

small_all : (files : List (List ℕ)) → sum_fault files ≡ None → AreSmall (sums_of files)
unfolding sum_fault
small_all [] none = record { file_bytes = omega arith; code_room = omega arith; data_room = omega arith }
small_all (f ∷ fs) none =
    let files = f ∷ fs in
    let test = λ (i : ℕ). are_too_large (sums_of (take (i + 1) files)) in
    let fails = none_found test (range_with_len 0 (length files)) (unmapped {Y = ℕ × Fault} (λ i. (i, TooLarge)) (find test (range_with_len 0 (length files))) none) in
    let last : test (0 + length fs) ≡ false = range_all (λ i. test i ≡ false) 0 (length files) (length fs) (omega arith) fails in
    let all : take (0 + length fs + 1) files ≡ files = take_all (0 + length fs + 1) files (omega arith) in
    let fine : are_too_large (sums_of files) ≡ false = sym (ap (λ l. are_too_large (sums_of l)) all) ∙ last in
    let s = sums_of files in
    let two = or_parts (nat_lt 0x200_0000 s.file_bytes || nat_lt 0x4_0000 s.code_room) (nat_lt 0x40_0000 (s.data_room + 96)) fine in
    let one = or_parts (nat_lt 0x200_0000 s.file_bytes) (nat_lt 0x4_0000 s.code_room) two.0 in
    record {
      file_bytes = ltb-false 0x200_0000 s.file_bytes one.0;
      code_room = ltb-false 0x4_0000 s.code_room one.1;
      data_room = ltb-false 0x40_0000 (s.data_room + 96) two.1;
    }

-- ---- sections

module _ (inputs : ParsedInputs) (l : IndexedSection) (has : HasSection inputs.objects l) where
  relocs_right : relocs_fault inputs ≡ None → RelocsAreRight inputs l
  unfolding relocs_fault
  relocs_right none =
      let here : section_fault inputs l ≡ None =
      section_by_all inputs.objects (λ m. section_fault inputs m ≡ None) (none_first (section_fault inputs) (all_sections inputs.objects) none) l has in
      none_first (reloc_fault inputs l) l.section.relocs (unmapped {Y = ℕ × Fault} (λ fault. (l.object, fault)) _ here)

  among_all : (P : ℕ → Type 0) (xs : List ℕ) (n : ℕ) → All P xs → is_among n xs ≡ true → P n
  among_all P [] n all is = absurd cc
  among_all P (x ∷ xs) n all is = by (among x n xs is) (among_all P xs n (All-tail P x xs all))
    where
      by : Among x n xs → (is_among n xs ≡ true → P n) → P n
      by (Here e) rest = subst P e (All-head P x xs all)
      by (There more) rest = rest more

  near_here : find (is_out_of_reach inputs) (all_places inputs.objects) ≡ None → is_code_section l.section ≡ true → BranchesReach inputs l
  near_here none code n start =
      let IsNear = λ (q : Place). is_out_of_reach inputs q ≡ false in
      let all = flat_all IsNear places_of (all_sections inputs.objects) (none_found (is_out_of_reach inputs) (all_places inputs.objects) none) in
      let places : places_of l ≡ map (place_of l) (starts_in l.section) = ap (λ b. cond b (map (place_of l) (starts_in l.section)) []) code in
      let own = section_by_all inputs.objects (λ m. All IsNear (places_of m)) all l has in
      among_all (λ m. IsNear (place_of l m)) (starts_in l.section) n (map_all IsNear (place_of l) (starts_in l.section) (subst (All IsNear) places own)) start

-- ---- the whole

pub faultless_well_formed : (inputs : Inputs) → first_fault inputs ≡ None → IsWellFormed inputs
faultless_well_formed inputs none =
    let is = faultless inputs none in
    let gathered = all_none inputs is.gathered in
    let names = neither (duplicate_fault (parsed inputs).objects) (option_or (undefined_fault (parsed inputs)) None) gathered.names in
    record {
      few = gathered.few;
      readable = readable_all 0 inputs.files gathered.readable;
      small = small_all inputs.files gathered.sums;
      single = no_duplicate_single (parsed inputs).objects names.0;
      defined = no_undefined_defined (parsed inputs) (neither (undefined_fault (parsed inputs)) None names.1).0;
      room = data_below (parsed inputs) gathered.room;
      relocs = λ l has. relocs_right (parsed inputs) l has is.relocs;
      entry = is.entry;
      entry_found = is.entry_found;
      near = λ gathers l has code. near_here (parsed inputs) l has is.near code;
    }
