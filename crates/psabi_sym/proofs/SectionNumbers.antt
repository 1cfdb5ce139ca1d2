-- Sections by their numbers among all: the object and the index of the one with a number, and what stands before it.
use Rattle.std.proofs.Common.{◌≡◌, ℕ, zero, suc, ◌+◌, ◌-◌, ◌*◌, ◌<◌, ◌≤◌, map, List, [], ◌∷◌, ◌++◌, length, get_or, take, refl, sym, ap, ◌∙◌, arith, Option, Some, None, slice_get, inl, inr, false}
use Rattle.std.specs.List.{enumerate_from, flat_map}
use Rattle.std.specs.Option.{option_and_then, option_map}
use Rattle.std.proofs.lemmas.Bool.{cases_lt, ltb-false}
use Rattle.std.proofs.lemmas.List.{length-append, length-map}
use Rattle.std.proofs.lemmas.Option.{get_or_from_slice_get, slice_get-get_or, slice_get-map, slice_get_within}
use Rattle.elf32_read.specs.Header.{section_count}
use Rattle.elf32_read.specs.Parts.{ObjectParts, SectionParts, object_parts, section_parts}
use Rattle.elf32_read.proofs.Faultless.{no_fault}
use Rattle.psabi_sym.specs.Faults.{gather_fault}
use Rattle.psabi_sym.specs.Inputs.{Inputs, parsed}
use Rattle.psabi_sym.specs.Indexed.{IndexedSection, all_sections, section_at, sections_before, sections_in}
use Rattle.psabi_sym.specs.Invariants.Rows.{section_starts}
use Rattle.psabi_sym.proofs.Gathered.{few_gathered, readable}
use Rattle.psabi_sym.proofs.PartLaws.{length-sections_in, section_count_is, section_got, section_listed}
use Rattle.psabi_sym.proofs.PlaceLaws.{before_there, listed_there}

-- ---- what all objects have, by number

-- what stands at a number is one object's
record IsFrom {X : Type 0} (f : ℕ × ObjectParts → List X) (n : ℕ) (objects : List ObjectParts) (k : ℕ) (x : X) : Type 0 where
  pub o : ℕ
  pub j : ℕ
  pub object : ObjectParts
  pub at : slice_get objects o ≡ Some object
  pub is : slice_get (f (n + o, object)) j ≡ Some x
  pub place : k ≡ length (flat_map f (enumerate_from n (take o objects))) + j

-- in the first of two lists, or in the second
in_first : {X : Type 0} (xs ys : List X) (k : ℕ) → k < length xs → slice_get (xs ++ ys) k ≡ slice_get xs k
in_first [] ys k lt = absurd (omega arith)
in_first (x ∷ xs) ys zero lt = refl
in_first (x ∷ xs) ys (suc k) lt = in_first xs ys k (omega arith)

in_second : {X : Type 0} (xs ys : List X) (k : ℕ) → slice_get (xs ++ ys) (length xs + k) ≡ slice_get ys k
in_second [] ys k = ap (slice_get ys) (omega arith)
in_second (x ∷ xs) ys k =
    let one : suc (length xs) + k ≡ suc (length xs + k) = omega arith in
    ap (slice_get (x ∷ (xs ++ ys))) one ∙ in_second xs ys k

from : {X : Type 0} (f : ℕ × ObjectParts → List X) (n : ℕ) (objects : List ObjectParts) (k : ℕ) (x : X) → slice_get (flat_map f (enumerate_from n objects)) k ≡ Some x → IsFrom f n objects k x
from f n [] k x is = absurd cc
from f n (first ∷ rest) k x is = elim (cases_lt k (length (f (n, first)))) [
  | inl here ↦ record {
    o = 0;
    j = k;
    object = first;
    at = refl;
    is = ap (λ m. slice_get (f (m, first)) k) (omega arith) ∙ sym (in_first (f (n, first)) (flat_map f (enumerate_from (n + 1) rest)) k here) ∙ is;
    place = omega arith;
  }
  | inr past ↦
      let j = k - length (f (n, first)) in
      let same : length (f (n, first)) + j ≡ k = omega (arith, past) in
      let own = f (n, first) in
      let others = flat_map f (enumerate_from (n + 1) rest) in
      let is_later : slice_get others j ≡ Some x = rw (← in_second own others j, same) is in
      let later = from f (n + 1) rest j x is_later in
      let next : n + suc later.o ≡ n + 1 + later.o = omega arith in
      record {
        o = suc later.o;
        j = later.j;
        object = later.object;
        at = later.at;
        is = ap (λ m. slice_get (f (m, later.object)) later.j) next ∙ later.is;
        place = omega (arith, same, later.place, length-append (f (n, first)) (flat_map f (enumerate_from (n + 1) (take later.o rest))));
      }
]

-- ---- sections

no_section : SectionParts
no_section = record { name = []; kind = 0; flags = 0; align = 0; size = 0; bytes = []; relocs = []; compressed = false }

-- a section with a number: its object, and where it stands in it
pub record HasNumber (objects : List ObjectParts) (k : ℕ) (l : IndexedSection) : Type 0 where
  pub object : ObjectParts
  pub at : slice_get objects l.object ≡ Some object
  pub is : slice_get object.sections l.index ≡ Some l.section
  pub place : k ≡ section_starts objects l.object + l.index

-- the section of an object with this index
of_object : (o j : ℕ) (object : ObjectParts) (l : IndexedSection) → slice_get (sections_in (o, object)) j ≡ Some l
    → (l.object ≡ o) × (l.index ≡ j) × (slice_get object.sections j ≡ Some l.section)
of_object o j object l is =
    let listed : j < length (sections_in (o, object)) = slice_get_within (sections_in (o, object)) j l is in
    let inside : j < length object.sections = omega (arith, listed, length-sections_in o object) in
    let same : l ≡ record { object = o; index = j; section = get_or object.sections j no_section } = sym (get_or_from_slice_get (sections_in (o, object)) j l l is) ∙ section_listed o object j no_section l inside in
    (ap (λ m. m.object) same, ap (λ m. m.index) same, slice_get-get_or object.sections j no_section inside ∙ ap (λ m. Some m.section) (sym same))

pub has_number : (objects : List ObjectParts) (k : ℕ) (l : IndexedSection) → slice_get (all_sections objects) k ≡ Some l → HasNumber objects k l
unfolding all_sections
has_number objects k l is =
    let there = from sections_in 0 objects k l is in
    let none : 0 + there.o ≡ there.o = omega arith in
    let own = of_object there.o there.j there.object l (ap (λ o. slice_get (sections_in (o, there.object)) there.j) (sym none) ∙ there.is) in
    record {
      object = there.object;
      at = ap (slice_get objects) own.0 ∙ there.at;
      is = ap (slice_get there.object.sections) own.1 ∙ own.2;
      place = there.place ∙ (λ j. section_starts objects (sym own.0 j) + sym own.1 j);
    }

-- the section with a number is the one of its object with its index
pub listed_at : (objects : List ObjectParts) (k : ℕ) (l : IndexedSection) → slice_get (all_sections objects) k ≡ Some l → section_at objects l.object l.index ≡ Some l.section
listed_at objects k l is =
    let there = has_number objects k l is in
    ap (option_and_then (λ (object : ObjectParts). slice_get object.sections l.index)) there.at ∙ there.is

-- before it stand those with smaller numbers
pub before_number : (objects : List ObjectParts) (k : ℕ) (l : IndexedSection) → slice_get (all_sections objects) k ≡ Some l → sections_before objects l.object l.index ≡ take k (all_sections objects)
before_number objects k l is =
    let there = has_number objects k l is in
    sym (before_there objects l.object l.index there.object l.section there.at there.is) ∙ ap (λ n. take n (all_sections objects)) (sym there.place)

-- two numbers with the same object and index are one
pub same_number : (objects : List ObjectParts) (j k : ℕ) (l m : IndexedSection) → slice_get (all_sections objects) j ≡ Some l → slice_get (all_sections objects) k ≡ Some m
    → l.object ≡ m.object → l.index ≡ m.index → j ≡ k
same_number objects j k l m l_is m_is object index =
    (has_number objects j l l_is).place ∙ (λ i. section_starts objects (object i) + index i) ∙ sym (has_number objects k m m_is).place

-- each section has a number
pub number_of_section : (objects : List ObjectParts) (o i : ℕ) (s : SectionParts) → section_at objects o i ≡ Some s
    → (k : ℕ) × (slice_get (all_sections objects) k ≡ Some (record { object = o; index = i; section = s }))
number_of_section objects o i s is = by (slice_get objects o) refl is
  where
    by : (found : Option ObjectParts) → slice_get objects o ≡ found → option_and_then (λ (object : ObjectParts). slice_get object.sections i) found ≡ Some s
        → (k : ℕ) × (slice_get (all_sections objects) k ≡ Some (record { object = o; index = i; section = s }))
    by None at there = absurd cc
    by (Some object) at there = (section_starts objects o + i, listed_there objects o i object s at there)

-- ---- sections of files

-- a section of a file
pub record IsOfFile (files : List (List ℕ)) (l : IndexedSection) : Type 0 where
  pub file : List ℕ
  pub at : slice_get files l.object ≡ Some file
  pub within : l.index < section_count file
  pub is : l.section ≡ section_parts file l.index

pub of_file : (files : List (List ℕ)) (k : ℕ) (l : IndexedSection) → slice_get (all_sections (map object_parts files)) k ≡ Some l → IsOfFile files l
of_file files k l is = by (slice_get files l.object) refl
  where
    there : HasNumber (map object_parts files) k l
    there = has_number (map object_parts files) k l is

    by : (file : Option (List ℕ)) → slice_get files l.object ≡ file → IsOfFile files l
    by None at = absurd (cc (there.at, slice_get-map object_parts files l.object ∙ ap (option_map object_parts) at))
    by (Some file) at =
        let same : there.object ≡ object_parts file = cc (there.at, slice_get-map object_parts files l.object ∙ ap (option_map object_parts) at) in
        let section : slice_get (object_parts file).sections l.index ≡ Some l.section = ap (λ (o : ObjectParts). slice_get o.sections l.index) (sym same) ∙ there.is in
        let within : l.index < section_count file = omega (arith, slice_get_within (object_parts file).sections l.index l.section section, section_count_is file) in
        let parts : section_parts file l.index ≡ l.section = cc (section, section_got file l.index within) in
        record { file = file; at = at; within = within; is = sym parts }

-- files without a fault have few sections
few_in : (n : ℕ) (objects : List ObjectParts) → ((k : ℕ) (object : ObjectParts) → slice_get objects k ≡ Some object → length object.sections ≤ 4096)
    → length (flat_map sections_in (enumerate_from n objects)) ≤ 4096 * length objects
few_in n [] few = omega arith
few_in n (object ∷ rest) few =
    omega (
      arith,
      length-append (sections_in (n, object)) (flat_map sections_in (enumerate_from (n + 1) rest)),
      length-sections_in n object,
      few 0 object refl,
      few_in (n + 1) rest (λ k later. few (suc k) later),
    )

pub few_sections : (inputs : Inputs) → gather_fault inputs ≡ None → length (all_sections (parsed inputs).objects) ≤ 1048576
unfolding all_sections
few_sections inputs faultless =
    omega (arith, few_in 0 (map object_parts inputs.files) few, length-map inputs.files object_parts, few_gathered inputs faultless)
  where
    few : (k : ℕ) (object : ObjectParts) → slice_get (map object_parts inputs.files) k ≡ Some object → length object.sections ≤ 4096
    few k object at = by (slice_get inputs.files k) refl
      where
        by : (file : Option (List ℕ)) → slice_get inputs.files k ≡ file → length object.sections ≤ 4096
        by None none = absurd (cc (at, slice_get-map object_parts inputs.files k ∙ ap (option_map object_parts) none))
        by (Some file) is =
            let same : object ≡ object_parts file = cc (at, slice_get-map object_parts inputs.files k ∙ ap (option_map object_parts) is) in
            let count = ltb-false 4096 (section_count file) (no_fault file (readable inputs k file faultless is)).few in
            omega (arith, count, section_count_is file, ap (λ (o : ObjectParts). length o.sections) same)
