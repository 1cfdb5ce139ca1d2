-- The words of data by relocations that are decided. A section of data ends where all data end or before, and a relocation without a fault
-- changes bytes of its section, so the word that it fills in lies there as well.
use Rattle.std.proofs.Common.{◌≡◌, ℕ, ℤ, ◌+◌, ◌≤◌, List, [], ◌∷◌, ◌++◌, get_or, map, filter, take, Bool, true, false, cond, eqb, not, Option, Some, None, slice_get, refl, sym, ap, ◌∙◌, arith}
use Rattle.std.specs.Prelude.{All, ◌&&◌, ◌||◌, nat_lt}
use Rattle.std.specs.List.{flat_map}
use Rattle.std.specs.Option.{option_map, option_map_or, option_or}
use Rattle.std.proofs.lemmas.Bool.{ltb-false, or_parts}
use Rattle.std.proofs.lemmas.Grind.{flat_map-append}
use Rattle.std.proofs.lemmas.List.{append-nil}
use Rattle.std.proofs.lemmas.List.Elements.{All-filter, All-map}
use Rattle.std.proofs.lemmas.Option.{slice_get-get_or}
use Rattle.elf32_read.specs.Parts.{SectionParts}
use Rattle.elf32_read.specs.declared.fault.Fault.{Fault}
use Rattle.elf32_read.specs.declared.fault.Fault.TheVariants.{BadTarget, LoPair, RelocKind as KindFault, RelocPlace}
use Rattle.elf32_read.specs.declared.reloc.Reloc.{Reloc}
use Rattle.psabi_reloc.specs.Kinds.{field_length, kind_of}
use Rattle.psabi_reloc.specs.declared.kind.RelocKind.{RelocKind}
use Rattle.psabi_reloc.specs.declared.kind.RelocKind.TheVariants as kind
use Rattle.psabi_sym.specs.Data.{address_in, data_address, data_end, role_of}
use Rattle.psabi_sym.specs.Inputs.{ParsedInputs}
use Rattle.psabi_sym.specs.Indexed.{IndexedSection, all_sections, section_at}
use Rattle.psabi_sym.specs.declared.data_class.DataClass.{DataClass}
use Rattle.psabi_sym.specs.declared.section_row.SectionRole.TheVariants.{Code, InClass, Dropped}
use Rattle.psabi_sym.specs.declared.section_row.SectionRole.{SectionRole}
use Rattle.psabi_sym.proofs.ContentLaws.{address_of_data, none_of_code, none_of_dropped}
use Rattle.psabi_sym.proofs.EndLaws.{ends_in_data}
use Rattle.block_cut.specs.Faults.{has_bad_target, if_so, is_stray, lacks_pcrel_hi, reloc_fault, section_fault}
use Rattle.block_cut.specs.Relocs.{is_bad_kind, is_bad_place, overlaps_another, is_ignored, is_placed, is_word}
use Rattle.block_cut.specs.DataWords.{data_word, data_words, held_address, resolved_word, data_words_in}
use Rattle.block_cut.specs.Resolved.{asks, resolved_reloc, resolved_relocs}
use Rattle.block_cut.specs.declared.data_word.DataWord.{DataWord}
use Rattle.block_cut.specs.declared.resolved_reloc.ResolvedReloc.{ResolvedReloc}
use Rattle.block_cut.proofs.FirstLaws.{none_at}
use Rattle.block_cut.proofs.ListedLaws.{listed}
use Rattle.block_cut.proofs.TakeLaws.{take_next}

-- what holds of neither of two tests, and isn't the first
second : (a b c : Bool) (f g : Fault) (x : Option Fault) → option_or (if_so a f) (option_or (if_so (b || c) g) x) ≡ None → b ≡ false
second a false c f g x none = refl
second true true c f g x none = absurd cc
second false true c f g x none = absurd cc

-- a field of a word that ends in its section has four bytes there
word_fits : (k : Option RelocKind) (size start : ℕ) (addend : ℤ) (rest : Bool) → is_word k ≡ true
    → (not (is_ignored k) && (nat_lt size (start + field_length k addend) || rest)) ≡ false → start + 4 ≤ size
word_fits (Some kind.Word) size start addend rest word fine = ltb-false size (start + 4) (or_parts (nat_lt size (start + 4)) rest fine).0
word_fits None size start addend rest word fine = absurd cc
word_fits (Some k) size start addend rest word fine = absurd cc

module _ (inputs : ParsedInputs) (o i : ℕ) (s : SectionParts) (found : section_at inputs.objects o i ≡ Some s) where
  -- ---- relocations without a fault

  none_mapped : (x : Option Fault) → option_map {U = ℕ × Fault} (λ fault. (o, fault)) x ≡ None → x ≡ None
  none_mapped None none = refl
  none_mapped (Some fault) none = absurd cc

  -- if none of the section has a fault, this one doesn't
  pub reloc_none : section_fault inputs (listed o i s) ≡ None → (k : ℕ) (r : Reloc) → slice_get s.relocs k ≡ Some r → reloc_fault inputs (listed o i s) r ≡ None
  reloc_none none k r at = none_at (reloc_fault inputs (listed o i s)) s.relocs k r at (none_mapped _ none)

  -- a relocation without a fault has a place that it can have
  place_none : (r : Reloc) → reloc_fault inputs (listed o i s) r ≡ None → is_bad_place s r ≡ false
  place_none r none = second (is_bad_kind s (kind_of r.kind)) (is_bad_place s r) (is_stray s r) (KindFault i r.offset) (RelocPlace i r.offset) (option_or (if_so (lacks_pcrel_hi inputs (listed o i s) r) (LoPair i r.offset)) (option_or (if_so (has_bad_target inputs (listed o i s) r) (BadTarget i r.offset)) None)) none

  -- the word that a relocation without a fault fills in lies in its section
  pub word_inside : (r : Reloc) → reloc_fault inputs (listed o i s) r ≡ None → is_word (kind_of r.kind) ≡ true → r.offset + 4 ≤ s.size
  word_inside r none word = word_fits (kind_of r.kind) s.size r.offset r.addend (not (is_placed s r) || overlaps_another s.relocs r) word (place_none r none)

-- ---- the words of a section

-- a section of data that a file holds begins at an address
pub record IsHeld (inputs : ParsedInputs) (l : IndexedSection) (at : ℕ) : Type 0 where
  pub class : DataClass
  pub role : role_of l.section ≡ InClass class
  pub address : data_address inputs l.object l.index ≡ Some at
  pub at_is : at ≡ address_in inputs l.object l.index l.section class
  pub held : eqb l.section.kind 8 ≡ false

module _ (inputs : ParsedInputs) (l : IndexedSection) where
  pub held_is : section_at inputs.objects l.object l.index ≡ Some l.section → (at : ℕ) → held_address inputs l ≡ Some at → IsHeld inputs l at
  held_is found at is = by (eqb l.section.kind 8) refl is
    where
      of : eqb l.section.kind 8 ≡ false → (r : SectionRole) → role_of l.section ≡ r → data_address inputs l.object l.index ≡ Some at → IsHeld inputs l at
      of held Code role address = absurd (cc (none_of_code inputs l.object l.index l.section found role, address))
      of held Dropped role address = absurd (cc (none_of_dropped inputs l.object l.index l.section found role, address))
      of held (InClass class) role address =
          let two : Some at ≡ Some (address_in inputs l.object l.index l.section class) = sym address ∙ address_of_data inputs l.object l.index l.section found class role in
          record { class = class; role = role; address = address; at_is = cc; held = held }

      by : (b : Bool) → eqb l.section.kind 8 ≡ b → cond b None (data_address inputs l.object l.index) ≡ Some at → IsHeld inputs l at
      by true kind is = absurd cc
      by false kind is = of kind (role_of l.section) refl is

  -- no file holds it, or it is code or dropped, so it has no words
  pub words_unheld : held_address inputs l ≡ None → data_words_in inputs l ≡ []
  words_unheld none = by (eqb l.section.kind 8) (data_address inputs l.object l.index) none
    where
      by : (b : Bool) (o : Option ℕ) → cond b None o ≡ None → cond b [] (option_map_or (λ at. map (data_word inputs l at) (filter (λ (r : Reloc). is_word (kind_of r.kind)) l.section.relocs)) o []) ≡ []
      by true o none = refl
      by false None none = refl
      by false (Some at) none = absurd cc

  -- the words by relocations as they come are those by relocations that are decided
  words_decided : (at : ℕ) (rs : List Reloc) → map (resolved_word at) (filter (λ d. is_word d.kind) (map (resolved_reloc inputs l) (filter asks rs))) ≡ map (data_word inputs l at) (filter (λ r. is_word (kind_of r.kind)) rs)
  words_decided at [] = refl
  words_decided at (r ∷ rs) = by (asks r) (is_word (kind_of r.kind)) refl (asked (kind_of r.kind)) (words_decided at rs)
    where
      kept : List ResolvedReloc → List DataWord
      kept ds = map (resolved_word at) (filter (λ d. is_word d.kind) ds)

      own : List Reloc
      own = filter (λ r. is_word (kind_of r.kind)) rs

      decided : List ResolvedReloc
      decided = map (resolved_reloc inputs l) (filter asks rs)

      asked : (k : Option RelocKind) → is_word k ≡ true → not (is_ignored k) ≡ true
      asked None word = absurd cc
      asked (Some kind.Ignored) word = absurd cc
      asked (Some k) word = refl

      first : (b : Bool) → is_word (kind_of r.kind) ≡ b → kept decided ≡ map (data_word inputs l at) own → kept (resolved_reloc inputs l r ∷ decided) ≡ map (data_word inputs l at) (cond b (r ∷ own) own)
      first true word rest = ap (λ b. map (resolved_word at) (cond b (resolved_reloc inputs l r ∷ filter (λ d. is_word d.kind) decided) (filter (λ d. is_word d.kind) decided))) word ∙ ap (λ t. data_word inputs l at r ∷ t) rest
      first false word rest = ap (λ b. map (resolved_word at) (cond b (resolved_reloc inputs l r ∷ filter (λ d. is_word d.kind) decided) (filter (λ d. is_word d.kind) decided))) word ∙ rest

      by : (a w : Bool) → is_word (kind_of r.kind) ≡ w → (w ≡ true → a ≡ true) → kept decided ≡ map (data_word inputs l at) own
          → kept (map (resolved_reloc inputs l) (cond a (r ∷ filter asks rs) (filter asks rs))) ≡ map (data_word inputs l at) (cond w (r ∷ own) own)
      by true w word asks rest = first w word rest
      by false true word asks rest = absurd (cc (asks refl))
      by false false word asks rest = rest

  -- else these are its words
  pub words_held : (at : ℕ) → IsHeld inputs l at → data_words_in inputs l ≡ map (resolved_word at) (filter (λ d. is_word d.kind) (resolved_relocs inputs l))
  words_held at is =
      (λ j. cond (is.held j) [] (option_map_or (λ at. map (data_word inputs l at) (filter (λ (r : Reloc). is_word (kind_of r.kind)) l.section.relocs)) (is.address j) []))
      ∙ sym (words_decided at l.section.relocs)

  -- each of them lies before the end of all data
  pub words_low : section_at inputs.objects l.object l.index ≡ Some l.section → section_fault inputs l ≡ None → (at : ℕ) → IsHeld inputs l at
      → All (λ d. is_word d.kind ≡ true → at + d.offset ≤ data_end inputs) (resolved_relocs inputs l)
  words_low found none at is =
      All-map (λ d. is_word d.kind ≡ true → at + d.offset ≤ data_end inputs) (resolved_reloc inputs l) (filter asks l.section.relocs)
      (All-filter asks (λ r. is_word (kind_of r.kind) ≡ true → at + r.offset ≤ data_end inputs) l.section.relocs
      (λ k d lt word.
      let r = get_or l.section.relocs k d in
      let fine = reloc_none inputs l.object l.index l.section found none k r (slice_get-get_or l.section.relocs k d lt) in
      omega (arith, is.at_is, ends_in_data inputs l.object l.index l.section found is.class is.role, word_inside inputs l.object l.index l.section found r fine word)))

-- ---- one section after another

-- the words of one section more
pub words_next : (inputs : ParsedInputs) (k : ℕ) (l : IndexedSection) → slice_get (all_sections inputs.objects) k ≡ Some l
    → flat_map (data_words_in inputs) (take (k + 1) (all_sections inputs.objects)) ≡ flat_map (data_words_in inputs) (take k (all_sections inputs.objects)) ++ data_words_in inputs l
words_next inputs k l at =
    ap (flat_map (data_words_in inputs)) (take_next (all_sections inputs.objects) k l at)
    ∙ flat_map-append (data_words_in inputs) (take k (all_sections inputs.objects)) (l ∷ [])
    ∙ ap (λ m. flat_map (data_words_in inputs) (take k (all_sections inputs.objects)) ++ m) (append-nil (data_words_in inputs l))

-- the words of all sections are the words of data
pub all_words : (inputs : ParsedInputs) → flat_map (data_words_in inputs) (all_sections inputs.objects) ≡ data_words inputs
unfolding data_words
all_words inputs = refl
