-- Merged objects have as many bytes of code less than the given ones as their removed tails save.
use Rattle.std.proofs.Common.{◌≡◌, ℕ, ◌+◌, List, [], ◌∷◌, Bool, true, false, cond, None, refl, sym, ap, ◌∙◌, arith, length, map, filter}
use Rattle.std.specs.Prelude.{◌&&◌, All}
use Rattle.std.specs.List.{AllZip, flat_map, sum_by}
use Rattle.std.proofs.lemmas.Bool.{and_parts}
use Rattle.std.proofs.lemmas.List.Elements.{All-head, All-tail}
use Rattle.std.proofs.lemmas.List.Concat.{flat_map-cons}
use Rattle.std.proofs.lemmas.List.Sums.{sum_by-append, sum_by-cons}
use Rattle.elf32_read.specs.Kept.{has_flags}
use Rattle.elf32_read.specs.Parts.{SectionParts, is_code_section, is_kept_section}
use Rattle.elf32_write.specs.Writable.{IsObjectOf}
use Rattle.psabi_sym.specs.Indexed.{IndexedSection, all_sections}
use Rattle.psabi_sym.specs.Inputs.{Inputs, ParsedInputs, parsed}
use Rattle.block_cut.specs.Faults.{first_fault}
use Rattle.moved_runs.specs.Passes.{KeepsSection, with_files}
use Rattle.moved_runs.proofs.PassListed.{IsThere, all-there}
use Rattle.moved_runs.proofs.PassSections.{is_kept_listed, kept-all, kept-same, passed}
use Rattle.object_passes.specs.Written.{without_marks}
use Rattle.tail_merge.specs.Merged.{byte_count, merged, merged_bytes, merged_section, removed_in}
use Rattle.tail_merge.specs.Merging.{bytes_of_code}
use Rattle.tail_merge.specs.Tails.{Removed, removed_tails, bytes_saved_by, saved_bytes}
use Rattle.tail_merge.proofs.HeldLaws.{bytes-saved}
use Rattle.tail_merge.proofs.InputsLaws.{inputs-merged}
use Rattle.tail_merge.proofs.MergedRelocs.{good-code, merged-code}
use Rattle.tail_merge.proofs.MergingLaws.{merged-keeps, merging}

-- ---- the code among sections

abbrev is_code : IndexedSection → Bool
is_code l = is_code_section l.section

abbrev own_size : IndexedSection → ℕ
own_size l = l.section.size

abbrev code_size : List IndexedSection → ℕ
code_size ls = sum_by own_size (filter is_code ls)

-- code is kept
kept-code : (ls : List IndexedSection) → code_size ls ≡ code_size (filter is_kept_listed ls)
kept-code [] = refl
kept-code (l ∷ ls) = by (kept-code ls) (is_kept_section l.section) (is_code_section l.section) refl refl
  where
    by : code_size ls ≡ code_size (filter is_kept_listed ls) → (k c : Bool) → is_kept_section l.section ≡ k → is_code_section l.section ≡ c
        → sum_by own_size (cond c (l ∷ filter is_code ls) (filter is_code ls)) ≡ code_size (cond k (l ∷ filter is_kept_listed ls) (filter is_kept_listed ls))
    by rest true true kept code =
        sum_by-cons own_size l (filter is_code ls) ∙ ap (λ n. own_size l + n) rest ∙ sym (sum_by-cons own_size l (filter is_code (filter is_kept_listed ls)))
        ∙ ap (λ b. sum_by own_size (cond b (l ∷ filter is_code (filter is_kept_listed ls)) (filter is_code (filter is_kept_listed ls)))) (sym code)
    by rest true false kept plain =
        rest ∙ ap (λ b. sum_by own_size (cond b (l ∷ filter is_code (filter is_kept_listed ls)) (filter is_code (filter is_kept_listed ls)))) (sym plain)
    by rest false true dropped code = absurd (let parts = (and_parts (is_kept_section l.section) (has_flags 4 l.section.flags) code).0 in cc)
    by rest false false dropped plain = rest

-- a section that keeps what it is, is code if the given one is
code-same : (s t : SectionParts) → KeepsSection s t → is_code_section t ≡ is_code_section s
code-same s t k =
    let kept = kept-same s t k in
    let flags = k.flags in
    λ i. kept i && has_flags 4 (flags i)

-- ---- what becomes of it

abbrev removed_of : ParsedInputs → List IndexedSection → List Removed
removed_of inputs ls = flat_map (removed_in inputs) ls

module _ (inputs : Inputs) (none : first_fault inputs ≡ None) where
  abbrev given : ParsedInputs
  given = parsed inputs

  abbrev there : IndexedSection → Type 0
  there l = IsThere given.objects l

  new-size : (l : IndexedSection) → there l → is_code_section l.section ≡ true → (merged_section given l.object l.index l.section).size + saved_bytes (removed_tails given l) ≡ l.section.size
  new-size l at code =
      let good = good-code inputs none l at code in
      let size : (merged_section given l.object l.index l.section).size ≡ length (merged_bytes given l) = ap (λ (s : SectionParts). s.size) (merged-code given l at code) in
      let saved = bytes-saved given l code good.whole in
      let bytes = good.whole.bytes in
      omega (arith, size, saved, bytes)

  abbrev new_code : List IndexedSection → ℕ
  new_code ls = code_size (map (passed (merging given)) (filter is_kept_listed ls))

  -- one section more
  size-more : (l : IndexedSection) (ls : List IndexedSection) → there l → new_code ls + saved_bytes (removed_of given ls) ≡ code_size ls → new_code (l ∷ ls) + (saved_bytes (removed_in given l) + saved_bytes (removed_of given ls)) ≡ code_size (l ∷ ls)
  size-more l ls at so = by (is_kept_section l.section) (is_code_section l.section) refl refl
    where
      new : IndexedSection
      new = passed (merging given) l

      rest : List IndexedSection
      rest = map (passed (merging given)) (filter is_kept_listed ls)

      same : is_code_section new.section ≡ is_code_section l.section
      same = code-same l.section new.section (merged-keeps given l.object l.index l.section)

      by : (k c : Bool) → is_kept_section l.section ≡ k → is_code_section l.section ≡ c
          → code_size (map (passed (merging given)) (cond k (l ∷ filter is_kept_listed ls) (filter is_kept_listed ls))) + (saved_bytes (cond c (removed_tails given l) []) + saved_bytes (removed_of given ls))
          ≡ sum_by own_size (cond c (l ∷ filter is_code ls) (filter is_code ls))
      by true true kept code =
          let first = ap (λ b. sum_by own_size (cond b (new ∷ filter is_code rest) (filter is_code rest))) (same ∙ code) ∙ sum_by-cons own_size new (filter is_code rest) in
          omega (arith, so, first, new-size l at code, sum_by-cons own_size l (filter is_code ls))
      by true false kept plain =
          let first = ap (λ b. sum_by own_size (cond b (new ∷ filter is_code rest) (filter is_code rest))) (same ∙ plain) in
          omega (arith, so, first)
      by false true dropped code = absurd (let parts = (and_parts (is_kept_section l.section) (has_flags 4 l.section.flags) code).0 in cc)
      by false false dropped plain = omega (arith, so)

  sizes : (ls : List IndexedSection) → All there ls → new_code ls + saved_bytes (removed_of given ls) ≡ code_size ls
  sizes [] all = refl
  sizes (l ∷ ls) all =
      let sum = ap saved_bytes (flat_map-cons (removed_in given) l ls) ∙ sum_by-append bytes_saved_by (removed_in given l) (removed_of given ls) in
      let more = size-more l ls (All-head there l ls all) (sizes ls (All-tail there l ls all)) in
      ap (λ n. new_code (l ∷ ls) + n) sum ∙ more

  -- the files' objects have the bytes of code of the given ones, less those that removed tails save
  pub merged-fewer : (files : List (List ℕ)) → AllZip IsObjectOf (map without_marks (merged given)) files → bytes_of_code (parsed (with_files inputs files)).objects + byte_count given ≡ bytes_of_code given.objects
  merged-fewer files read =
      let result = (parsed (with_files inputs files)).objects in
      let moved = kept-all (merging given) given.objects result (inputs-merged inputs files none read).objects in
      let new = kept-code (all_sections result) ∙ ap code_size moved in
      ap (λ n. n + byte_count given) new ∙ sizes (all_sections given.objects) (all-there given.objects)
