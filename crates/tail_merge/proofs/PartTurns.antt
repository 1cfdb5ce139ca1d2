-- The parts of an object, section after section.
use Rattle.std.proofs.Common.{◌≡◌, ℕ, ◌+◌, ◌≤◌, List, [], ◌∷◌, ◌++◌, length, map, filter, take, true, cond, Some, None, slice_get, sym, ap, ◌∙◌, arith}
use Rattle.std.specs.List.{enumerate_from}
use Rattle.std.proofs.lemmas.List.{take_all}
use Rattle.std.proofs.lemmas.List.FromFn.{length-enumerate_from}
use Rattle.elf32_read.specs.Parts.{SectionParts, is_code_section, is_kept_section}
use Rattle.psabi_sym.specs.Faults.{gather_fault}
use Rattle.psabi_sym.specs.Indexed.{IndexedSection, all_sections}
use Rattle.psabi_sym.specs.Inputs.{Inputs, parsed}
use Rattle.psabi_sym.proofs.BridgeLaws.{map-map}
use Rattle.psabi_sym.proofs.SectionNumbers.{listed_at}
use Rattle.block_cut.proofs.WholeLaws.{inputs_whole}
use Rattle.moved_runs.specs.Passes.{passed_from}
use Rattle.object_passes.specs.Written.{without_mark}
use Rattle.object_passes.proofs.ListLaws.{entry-at, picked-more}
use Rattle.tail_merge.specs.Merged.{merged_bytes}
use Rattle.tail_merge.proofs.HeldLaws.{bytes-saved}

-- code without its removed tails is no longer than a file
pub merged-short : (inputs : Inputs) (k : ℕ) (l : IndexedSection) → gather_fault inputs ≡ None → slice_get (all_sections (parsed inputs).objects) k ≡ Some l → is_code_section l.section ≡ true → length (merged_bytes (parsed inputs) l) ≤ 0x40_0000
merged-short inputs k l none at code =
    let whole = inputs_whole inputs l.object l.index l.section none (listed_at (parsed inputs).objects k l at) code in
    let saved = bytes-saved (parsed inputs) l code whole in
    let short = whole.short in
    omega (arith, saved, short)

-- what becomes of the kept ones of the first sections
abbrev pub parts_before : (ℕ → SectionParts → SectionParts) → List SectionParts → ℕ → List SectionParts
parts_before f ss i = map (λ e. without_mark (f e.0 e.1)) (filter (λ e. is_kept_section e.1) (take i (enumerate_from 0 ss)))

-- one section more
pub parts-turn : (f : ℕ → SectionParts → SectionParts) (ss : List SectionParts) (i : ℕ) (s : SectionParts) (old : List SectionParts) → slice_get ss i ≡ Some s → old ≡ parts_before f ss i
    → old ++ cond (is_kept_section s) (without_mark (f i s) ∷ []) [] ≡ parts_before f ss (i + 1)
parts-turn f ss i s old at before = picked-more (λ e. without_mark (f e.0 e.1)) (λ e. is_kept_section e.1) (enumerate_from 0 ss) i (i, s) old (entry-at ss i s at) before

-- all of them
pub parts-whole : (f : ℕ → SectionParts → SectionParts) (ss : List SectionParts) (i : ℕ) (old : List SectionParts) → length ss ≤ i → old ≡ parts_before f ss i → old ≡ map without_mark (passed_from f 0 ss)
parts-whole f ss i old many before =
    before
    ∙ ap (λ es. map (λ e. without_mark (f e.0 e.1)) (filter (λ e. is_kept_section e.1) es)) (take_all i (enumerate_from 0 ss) (omega (arith, many, length-enumerate_from 0 ss)))
    ∙ sym (map-map without_mark (λ e. f e.0 e.1) (filter (λ e. is_kept_section e.1) (enumerate_from 0 ss)))
