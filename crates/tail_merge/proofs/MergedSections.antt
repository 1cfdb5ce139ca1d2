-- A section of the result that is what sharing equal tails makes of a section of code: it is whole code, and its relocations, items and
-- their sizes are the given ones, moved.
use Rattle.std.proofs.Common.{◌≡◌, ℕ, ◌%◌, List, filter, length, map, true, false, Some, None, refl, sym, ap, ◌∙◌, subst, arith, eqb, get_or}
use Rattle.std.specs.Prelude.{◌&&◌, not, All, Contains}
use Rattle.std.specs.List.{find}
use Rattle.std.specs.Option.{option_map}
use Rattle.std.proofs.lemmas.Bool.{and_parts, not-true}
use Rattle.elf32_read.specs.Parts.{SectionParts, is_code_section}
use Rattle.elf32_read.specs.declared.reloc.Reloc.{Reloc}
use Rattle.psabi_reloc.specs.Kinds.{kind_of}
use Rattle.psabi_sym.specs.Inputs.{ParsedInputs}
use Rattle.psabi_sym.specs.Indexed.{IndexedSection}
use Rattle.block_cut.specs.CodeSizes.{code_step}
use Rattle.block_cut.specs.Faults.{is_stray}
use Rattle.block_cut.specs.Items.{size_on, starts_in, starts_on}
use Rattle.block_cut.specs.Relocs.{is_bad_kind, is_bad_place, is_ignored, is_sound, reloc_on}
use Rattle.block_cut.specs.Resolved.{asks}
use Rattle.block_cut.specs.Whole.{IsWhole}
use Rattle.tail_merge.specs.Tails.{Removed, covers, moved_down, removed_tails, tail_start}
use Rattle.tail_merge.specs.Merged.{merged_bytes, merged_reloc, merged_section}
use Rattle.tail_merge.proofs.OffsetLaws.{Outside, down-low}
use Rattle.tail_merge.proofs.ItemsLaws.{removed-apart}
use Rattle.tail_merge.proofs.CoveredLaws.{outside-stays, stays_at, tails-found, tails-start}
use Rattle.tail_merge.proofs.MergedRelocs.{IsGoodCode, end-outside, length-moved, merged-code, merged_code, moved-field, moved-steps, reloc-merged, sound-merged}
use Rattle.tail_merge.proofs.MergedSizes.{reloc-first, size-first, size-kept}
use Rattle.tail_merge.proofs.MergedStarts.{end-merged, start-from, start-merged, starts-merged}

module _ (inputs : ParsedInputs) (l : IndexedSection) (good : IsGoodCode inputs l) where
  abbrev s : SectionParts
  s = l.section

  abbrev t : SectionParts
  t = merged_code inputs l

  abbrev rs : List Removed
  rs = removed_tails inputs l

  abbrev D : ℕ → ℕ
  D n = moved_down rs n

  abbrev F : Reloc → Reloc
  F r = merged_reloc inputs l.object rs r

  -- ---- no relocation that asks for something gets a fault of its kind or place

  kind-stays : (r : Reloc) → Contains s.relocs r → asks r ≡ true → (is_bad_kind t (kind_of r.kind) ≡ false) × (is_bad_place t (F r) ≡ false)
  kind-stays r there asking =
      let sound : is_sound t (F r) ≡ true = sound-merged inputs l good r there asking ∙ good.sound r there asking in
      let both = and_parts (not (is_bad_kind t (kind_of r.kind))) (not (is_bad_place t (F r))) (and_parts (not (is_ignored (kind_of r.kind))) _ sound).1 in
      (not-true (is_bad_kind t (kind_of r.kind)) both.0, not-true (is_bad_place t (F r)) both.1)

  stray-none : (r : Reloc) → Contains s.relocs r → asks r ≡ true → is_stray t (F r) ≡ false
  stray-none r there asking =
      let start : starts_on t (D r.offset) ≡ true = start-merged inputs l good r.offset (moved-field inputs l good r there asking).outside ∙ good.starts r there asking in
      λ i. good.code i && (asking i && not (start i))

  whole-code : IsWhole t
  whole-code = record {
    bytes = refl;
    words = ap (λ n. n % code_step s.compressed) (length-moved inputs l good) ∙ moved-steps inputs l good (length s.bytes) (end-outside inputs l good) good.whole.words;
    short =
        let end = length-moved inputs l good in
        let low = down-low 0 rs (length s.bytes) (removed-apart inputs l) (end-outside inputs l good) in
        let short = good.whole.short in
        omega (arith, end, low, short);
    low = good.whole.low;
    aligned = good.whole.aligned;
  }

  -- ---- of the section of the result

  module _ (new : SectionParts) (is : new ≡ merged_section inputs l.object l.index s) where
    new-is : t ≡ new
    new-is = sym (is ∙ merged-code inputs l good.at good.code)

    pub new-code : is_code_section new ≡ true
    new-code = ap is_code_section (sym new-is) ∙ good.code

    pub new-whole : IsWhole new
    new-whole = subst IsWhole new-is whole-code

    pub new-bytes : new.bytes ≡ merged_bytes inputs l
    new-bytes = ap (λ (x : SectionParts). x.bytes) (sym new-is)

    -- the relocation at an offset outside of removed tails
    pub new-reloc : (n : ℕ) → Outside rs n → reloc_on new (D n) ≡ option_map F (reloc_on s n)
    new-reloc n out = ap (λ x. reloc_on x (D n)) (sym new-is) ∙ reloc-merged inputs l good n out

    pub new-reloc-none : (n : ℕ) → starts_on s n ≡ true → (r : Removed) → find (covers n) rs ≡ Some r → n ≡ tail_start r → reloc_on new (D n) ≡ None
    new-reloc-none n start r found first = ap (λ x. reloc_on x (D n)) (sym new-is) ∙ reloc-first inputs l good n start r found first

    -- sizes
    pub new-size : (n : ℕ) → starts_on s n ≡ true → find (covers n) rs ≡ None → size_on new (D n) ≡ size_on s n
    new-size n start none = ap (λ x. size_on x (D n)) (sym new-is) ∙ size-kept inputs l good n start none

    pub new-size-jump : (n : ℕ) → starts_on s n ≡ true → (r : Removed) → find (covers n) rs ≡ Some r → n ≡ tail_start r → size_on new (D n) ≡ 4
    new-size-jump n start r found first = ap (λ x. size_on x (D n)) (sym new-is) ∙ size-first inputs l good n start r found first

    -- the jumps in place of removed tails have no relocation, and 4 bytes
    pub new-jumps : All (λ (r : Removed). (reloc_on new (D (tail_start r)) ≡ None) × (size_on new (D (tail_start r)) ≡ 4)) rs
    new-jumps = λ k d lt.
        let r = get_or rs k d in
        let start = tails-start inputs l k d lt in
        let found = tails-found 0 rs (removed-apart inputs l) k d lt in
        (new-reloc-none (tail_start r) start r found refl, new-size-jump (tail_start r) start r found refl)

    -- starts
    pub new-starts : starts_in new ≡ map D (filter (stays_at rs) (starts_in s))
    new-starts = ap starts_in (sym new-is) ∙ starts-merged inputs l good

    pub new-start : (n : ℕ) → Outside rs n → starts_on new (D n) ≡ starts_on s n
    new-start n out = ap (λ x. starts_on x (D n)) (sym new-is) ∙ start-merged inputs l good n out

    pub new-start-from : (m : ℕ) → starts_on new m ≡ true → (n : ℕ) × (starts_on s n ≡ true) × (Outside rs n) × (D n ≡ m)
    new-start-from m start =
        let from = start-from inputs l good m (ap (λ x. starts_on x m) new-is ∙ start) in
        (from.0, from.1, outside-stays rs from.0 from.2, from.3)

    pub new-end : (n : ℕ) → Outside rs n → eqb (D n) (length new.bytes) ≡ eqb n (length s.bytes)
    new-end n out = ap (λ x. eqb (D n) (length x.bytes)) (sym new-is) ∙ end-merged inputs l good n out

    -- relocations that ask for something are all right by themselves
    pub new-kind : (r : Reloc) → Contains s.relocs r → asks r ≡ true → is_bad_kind new (kind_of (F r).kind) ≡ false
    new-kind r there asking = ap (λ x. is_bad_kind x (kind_of r.kind)) (sym new-is) ∙ (kind-stays r there asking).0

    pub new-place : (r : Reloc) → Contains s.relocs r → asks r ≡ true → is_bad_place new (F r) ≡ false
    new-place r there asking = ap (λ x. is_bad_place x (F r)) (sym new-is) ∙ (kind-stays r there asking).1

    pub new-stray : (r : Reloc) → Contains s.relocs r → asks r ≡ true → is_stray new (F r) ≡ false
    new-stray r there asking = ap (λ x. is_stray x (F r)) (sym new-is) ∙ stray-none r there asking
