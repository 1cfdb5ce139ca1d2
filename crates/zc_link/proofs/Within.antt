-- Words of data lie among the bytes that files hold: sections with content stand in the classes that come first.
use Rattle.std.proofs.Common.{◌≡◌, ℕ, ◌+◌, ◌≤◌, List, [], ◌∷◌, map, filter, Option, Some, None, Bool, true, false, cond, eqb, ltb, refl, sym, ap, ◌∙◌, subst, arith}
use Rattle.std.specs.Prelude.{All, ℤ, ◌&&◌, ◌||◌, not, slice_get}
use Rattle.std.specs.List.{flat_map, list_any}
use Rattle.std.specs.Option.{option_and_then, option_map_or}
use Rattle.std.proofs.lemmas.Bool.{ltb-false, or_left, or_parts, or_right}
use Rattle.std.proofs.lemmas.List.Elements.{All-append, All-cons, All-head, All-nil, All-tail}
use Rattle.std.proofs.lemmas.Option.{same_Some}
use Rattle.elf32_read.specs.Kept.{has_flags}
use Rattle.elf32_read.specs.Parts.{ObjectParts, SectionParts, is_code_section, is_kept_section}
use Rattle.elf32_read.specs.declared.reloc.Reloc.{Reloc}
use Rattle.psabi_reloc.specs.Kinds.{field_length, kind_of}
use Rattle.psabi_reloc.specs.declared.kind.RelocKind.{RelocKind}
use Rattle.psabi_reloc.specs.declared.kind.RelocKind.TheVariants as kind
use Rattle.psabi_sym.specs.Blocks.{aligned_up, end_from}
use Rattle.psabi_sym.specs.Data.{address_in, blocks_of, class_end, class_of, class_start, data_address, data_file_end, role_address, role_of}
use Rattle.psabi_sym.specs.Faults.{first_some}
use Rattle.psabi_sym.specs.Inputs.{Inputs, ParsedInputs, parsed}
use Rattle.psabi_sym.specs.Indexed.{IndexedSection, all_sections, section_at}
use Rattle.psabi_sym.specs.declared.data_class.DataClass.{DataClass}
use Rattle.psabi_sym.specs.declared.data_class.DataClass.TheVariants.{ReadOnly, Data, SmallData, SmallZero, Zero}
use Rattle.psabi_sym.specs.declared.section_row.SectionRole.{SectionRole}
use Rattle.psabi_sym.specs.declared.section_row.SectionRole.TheVariants.{Code, InClass, Dropped}
use Rattle.psabi_sym.proofs.BlockLaws.{aligned_up-ge, end_from-ge}
use Rattle.psabi_sym.proofs.ContentLaws.{address_in-ge}
use Rattle.psabi_sym.proofs.EndLaws.{in_class}
use Rattle.psabi_sym.proofs.FaultLaws.{neither}
use Rattle.block_cut.specs.DataWords.{data_word, data_words, data_words_in}
use Rattle.block_cut.specs.Faults.{first_fault, reloc_fault}
use Rattle.block_cut.specs.Relocs.{overlaps_another, is_ignored, is_placed, is_word}
use Rattle.block_cut.specs.declared.data_word.DataWord.{DataWord}
use Rattle.block_cut.proofs.ListedLaws.{listed}
use Rattle.zc_link.proofs.ListedLaws.{all_listed}
use Rattle.moved_runs.proofs.Faultless.{IsGood, good, section_none}

none_some : {X : Type 0} {x : X} → None ≡ Some x → ⊥
none_some h = cc

-- ---- classes with content

later : {a b c : ℕ} → a ≤ b → b ≤ c → a ≤ c
later first second = omega (arith, first, second)

module _ (p : ParsedInputs) where
  -- each begins where the one before it ends
  data_after : class_end p Data ≡ end_from (aligned_up 16 (class_end p ReadOnly)) (blocks_of p.objects Data)
  unfolding class_end class_start
  data_after = refl

  small_after : class_end p SmallData ≡ end_from (aligned_up 16 (class_end p Data)) (blocks_of p.objects SmallData)
  unfolding class_end class_start
  small_after = refl

  data_first : class_end p Data ≤ class_end p SmallData
  data_first =
      subst (λ n. class_end p Data ≤ n) (sym small_after)
      (later (aligned_up-ge 16 (class_end p Data)) (end_from-ge (aligned_up 16 (class_end p Data)) (blocks_of p.objects SmallData)))

  read_only_first : class_end p ReadOnly ≤ class_end p SmallData
  read_only_first =
      later (subst (λ n. class_end p ReadOnly ≤ n) (sym data_after)
      (later (aligned_up-ge 16 (class_end p ReadOnly)) (end_from-ge (aligned_up 16 (class_end p ReadOnly)) (blocks_of p.objects Data)))) data_first

-- a class whose sections have content
data IsFirst (class : DataClass) : Type 0 where
  First : class ≡ ReadOnly → IsFirst class
  Second : class ≡ Data → IsFirst class
  Third : class ≡ SmallData → IsFirst class

class_first : (s : SectionParts) → eqb s.kind 8 ≡ false → IsFirst (class_of s)
class_first s content = by (eqb s.kind 8) _ (not (has_flags 1 s.flags)) _ content
  where
    by : (zeros small read_only own : Bool) → zeros ≡ false → IsFirst (cond zeros (cond small SmallZero Zero) (cond read_only ReadOnly (cond own SmallData Data)))
    by true small read_only own none = absurd cc
    by false small true own none = First refl
    by false small false true none = Third refl
    by false small false false none = Second refl

content_class : (s : SectionParts) (class : DataClass) → eqb s.kind 8 ≡ false → role_of s ≡ InClass class → IsFirst class
unfolding role_of
content_class s class content is = by (is_code_section s) (is_kept_section s) (class_of s) class (class_first s content) is
  where
    by : (code kept : Bool) (own class : DataClass) → IsFirst own → cond code Code (cond kept (InClass own) Dropped) ≡ InClass class → IsFirst class
    by true kept own class first is = absurd cc
    by false false own class first is = absurd cc
    by false true own class first is = let same : own ≡ class = cc in subst IsFirst same first

module _ (p : ParsedInputs) where
  -- the content of a section of such a class ends before the bytes that files hold do
  class_within : (o i : ℕ) (s : SectionParts) (class : DataClass) → section_at p.objects o i ≡ Some s → role_of s ≡ InClass class → IsFirst class
      → address_in p o i s class + s.size ≤ data_file_end p
  class_within o i s class found role (First e) =
      later (in_class p o i s found class role) (subst (λ c. class_end p c ≤ data_file_end p) (sym e) (read_only_first p))
  class_within o i s class found role (Second e) =
      later (in_class p o i s found class role) (subst (λ c. class_end p c ≤ data_file_end p) (sym e) (data_first p))
  class_within o i s class found role (Third e) = subst (λ c. address_in p o i s class + s.size ≤ class_end p c) e (in_class p o i s found class role)

  -- a section that has content ends before the data of files does
  pub content_within : (o i at : ℕ) (s : SectionParts) → section_at p.objects o i ≡ Some s → eqb s.kind 8 ≡ false → data_address p o i ≡ Some at → (p.map.data_low ≤ at) × (at + s.size ≤ data_file_end p)
  unfolding data_address
  content_within o i at s found content address =
      by (role_of s) refl (sym (ap (option_and_then (λ (t : SectionParts). role_address p o i t (role_of t))) found) ∙ address)
    where
      by : (role : SectionRole) → role_of s ≡ role → role_address p o i s role ≡ Some at → (p.map.data_low ≤ at) × (at + s.size ≤ data_file_end p)
      by Code is h = absurd (none_some h)
      by Dropped is h = absurd (none_some h)
      by (InClass class) is h =
          subst (λ n. (p.map.data_low ≤ n) × (n + s.size ≤ data_file_end p)) (same_Some (address_in p o i s class) at h)
          (address_in-ge p o i s class, class_within o i s class found is (content_class s class content is))

-- ---- words of data

-- what holds of each element that is taken, if none of them has a fault, holds of all
module _
    {X Y Z : Type 0} (P : Y → Type 0) (fault : X → Option Z) (taken : X → Bool) (word : X → Y) (all : List X)
    (each : (x : X) → taken x ≡ true → fault x ≡ None → ((test : X → Bool) → test x ≡ true → list_any test all ≡ true) → P (word x)) where
  all_kept : (xs : List X) → first_some (map fault xs) ≡ None → ((test : X → Bool) → list_any test xs ≡ true → list_any test all ≡ true) → All P (map word (filter taken xs))
  all_kept [] fine more = All-nil P
  all_kept (x ∷ xs) fine more =
      let parts = neither (fault x) (first_some (map fault xs)) fine in
      by (taken x) refl parts.0 (all_kept xs parts.1 (λ test h. more test (or_right (test x) (list_any test xs) h)))
    where
      by : (b : Bool) → taken x ≡ b → fault x ≡ None → All P (map word (filter taken xs)) → All P (map word (cond b (x ∷ filter taken xs) (filter taken xs)))
      by true is fine rest = All-cons P (word x) (map word (filter taken xs)) (each x is fine (λ test h. more test (or_left (test x) (list_any test xs) h))) rest
      by false is fine rest = rest

-- what holds at the address that a section has holds of its words
all_placed : {Y : Type 0} (P : Y → Type 0) (zeros : Bool) (a : Option ℕ) (of : ℕ → List Y) → (zeros ≡ false → (at : ℕ) → a ≡ Some at → All P (of at)) → All P (cond zeros [] (option_map_or of a []))
all_placed P true a of each = All-nil P
all_placed P false None of each = All-nil P
all_placed P false (Some at) of each = each refl at refl

-- what holds of each word of data, by its section and its relocation, holds of all
module _ (inputs : Inputs) (none : first_fault inputs ≡ None) (P : DataWord → Type 0) where
  abbrev p1 : ParsedInputs
  p1 = parsed inputs

  abbrev Each : Type 0
  Each = (o i at : ℕ) (s : SectionParts) (r : Reloc) → section_at p1.objects o i ≡ Some s → eqb s.kind 8 ≡ false → data_address p1 o i ≡ Some at → is_word (kind_of r.kind) ≡ true → IsGood p1 (listed o i s) r
      → ((test : Reloc → Bool) → test r ≡ true → list_any test s.relocs ≡ true) → P (data_word p1 (listed o i s) at r)

  listed_words : Each → (o i : ℕ) (s : SectionParts) → section_at p1.objects o i ≡ Some s → All P (data_words_in p1 (listed o i s))
  listed_words each o i s found =
      all_placed P (eqb s.kind 8) (data_address p1 o i) (λ at. map (data_word p1 (listed o i s) at) (filter (λ r. is_word (kind_of r.kind)) s.relocs))
      (λ content at is.
      all_kept P (reloc_fault p1 (listed o i s)) (λ r. is_word (kind_of r.kind)) (data_word p1 (listed o i s) at) s.relocs
      (λ r word fine among. each o i at s r found content is word (good p1 (listed o i s) r fine) among) s.relocs (section_none inputs none o i s found) (λ test h. h))

  flat_all : (ls : List IndexedSection) → All (λ l. All P (data_words_in p1 l)) ls → All P (flat_map (data_words_in p1) ls)
  flat_all [] all = All-nil P
  flat_all (l ∷ ls) all = All-append P (data_words_in p1 l) (flat_map (data_words_in p1) ls) (All-head (λ m. All P (data_words_in p1 m)) l ls all) (flat_all ls (All-tail (λ m. All P (data_words_in p1 m)) l ls all))

  pub all_words : Each → All P (data_words p1)
  unfolding data_words
  all_words each = flat_all (all_sections p1.objects) (all_listed (λ l. All P (data_words_in p1 l)) p1.objects
      (λ o i object s at is. listed_words each o i s (ap (option_and_then (λ (x : ObjectParts). slice_get x.sections i)) at ∙ is)))

-- a word lies among the bytes that files hold
abbrev pub IsWithin : ParsedInputs → DataWord → Type 0
IsWithin p w = (p.map.data_low ≤ w.at) × (w.at + 4 ≤ data_file_end p)

-- a word's relocation changes four bytes of its section
pub word_field : (p : ParsedInputs) (l : IndexedSection) (r : Reloc) → is_word (kind_of r.kind) ≡ true → IsGood p l r → r.offset + 4 ≤ l.section.size
word_field p l r word fine =
    by l.section.size r.offset r.addend (not (is_placed l.section r) || overlaps_another l.section.relocs r) (kind_of r.kind) word fine.placed
  where
    by : (size offset : ℕ) (addend : ℤ) (other : Bool) (k : Option RelocKind) → is_word k ≡ true → (not (is_ignored k) && (ltb size (offset + field_length k addend) || other)) ≡ false
        → offset + 4 ≤ size
    by size offset addend other (Some kind.Word) word placed = omega (arith, ltb-false size (offset + 4) (or_parts (ltb size (offset + 4)) other placed).0)
    by size offset addend other k word placed = absurd cc

-- a word lies where its section does
field_within : (low end at size offset : ℕ) → (low ≤ at) × (at + size ≤ end) → offset + 4 ≤ size → (low ≤ at + offset) × (at + offset + 4 ≤ end)
field_within low end at size offset within field = (omega (arith, within.0), omega (arith, within.1, field))

pub words_within : (inputs : Inputs) → first_fault inputs ≡ None → All (IsWithin (parsed inputs)) (data_words (parsed inputs))
words_within inputs none = all_words inputs none (IsWithin (parsed inputs)) (λ o i at s r found content address word fine among.
    field_within inputs.map.data_low (data_file_end (parsed inputs)) at s.size r.offset (content_within (parsed inputs) o i at s found content address)
    (word_field (parsed inputs) (listed o i s) r word fine))
