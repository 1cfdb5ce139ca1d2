-- What is written of parts is the same whether or not they say that their object is compressed.
use Rattle.std.proofs.Common.{◌≡◌, ℕ, ◌+◌, List, [], ◌∷◌, ◌++◌, length, map, refl, sym, ap, ap₂, ◌∙◌, filter, Bool, true, false, cond, ltb, subst}
use Rattle.std.specs.Prelude.{All, codes, ◌<◌, ◌^◌}
use Rattle.std.specs.List.{enumerate_from, flat_map}
use Rattle.std.proofs.lemmas.List.{length-map}
use Rattle.std.proofs.lemmas.List.Elements.{All-cons, All-head, All-nil, All-tail}
use Rattle.elf32_read.specs.Object.{object_fault}
use Rattle.elf32_read.specs.Parts.{ObjectParts, SectionParts, SymbolParts}
use Rattle.elf32_write.specs.Entries.{strtab_names}
use Rattle.elf32_write.specs.FileSections.{FileSection, added_sections, file_sections, given_section, given_sections, names_of_sections, rela_section, rela_sections, strtab_section, symtab_index, symtab_section}
use Rattle.elf32_write.specs.Image.{section_bytes}
use Rattle.elf32_write.specs.ObjectFile.{contents, headers_for, object_bytes, object_header}
use Rattle.elf32_write.specs.Writable.{IsWritable, IsWritableSection}
use Rattle.object_passes.specs.Written.{without_marks, without_mark}

-- ---- the sections of the file

given-same : (ss : List SectionParts) → given_sections (map without_mark ss) ≡ given_sections ss
given-same [] = refl
given-same (s ∷ ss) = ap (λ fs. given_section s ∷ fs) (given-same ss)

abbrev entry_without_mark : ℕ × SectionParts → ℕ × SectionParts
entry_without_mark e = (e.0, without_mark e.1)

abbrev has_relocs : ℕ × SectionParts → Bool
has_relocs e = ltb 0 (length e.1.relocs)

relocated-from : (n : ℕ) (ss : List SectionParts) → filter has_relocs (enumerate_from n (map without_mark ss)) ≡ map entry_without_mark (filter has_relocs (enumerate_from n ss))
relocated-from n [] = refl
relocated-from n (s ∷ ss) = ap (λ t. cond (has_relocs (n, s)) ((n, without_mark s) ∷ t) t) (relocated-from (n + 1) ss) ∙ by (has_relocs (n, s))
  where
    by : (b : Bool) → cond b (entry_without_mark (n, s) ∷ map entry_without_mark (filter has_relocs (enumerate_from (n + 1) ss))) (map entry_without_mark (filter has_relocs (enumerate_from (n + 1) ss)))
        ≡ map entry_without_mark (cond b ((n, s) ∷ filter has_relocs (enumerate_from (n + 1) ss)) (filter has_relocs (enumerate_from (n + 1) ss)))
    by true = refl
    by false = refl

index-same : (ss : List SectionParts) → symtab_index (map without_mark ss) ≡ symtab_index ss
index-same ss =
    ap₂ (λ m n. 1 + m + n) (length-map ss without_mark) (ap length (relocated-from 1 ss) ∙ length-map (filter has_relocs (enumerate_from 1 ss)) entry_without_mark)

relas-same : (ss : List SectionParts) → rela_sections (map without_mark ss) ≡ rela_sections ss
relas-same ss = ap₂ (λ n es. map (rela_section n) es) (index-same ss) (relocated-from 1 ss) ∙ each (filter has_relocs (enumerate_from 1 ss))
  where
    each : (es : List (ℕ × SectionParts)) → map (rela_section (symtab_index ss)) (map entry_without_mark es) ≡ map (rela_section (symtab_index ss)) es
    each [] = refl
    each (e ∷ es) = ap (λ fs. rela_section (symtab_index ss) e ∷ fs) (each es)

pub added-same : (ss : List SectionParts) (symbols : List SymbolParts) → added_sections (map without_mark ss) symbols ≡ added_sections ss symbols
unfolding added_sections
added-same ss symbols =
    let given = given-same ss in
    let relas = relas-same ss in
    let index = index-same ss in
    λ i. relas i
    ++ symtab_section (index i) symbols
    ∷ strtab_section (codes ".strtab") (strtab_names symbols)
    ∷ strtab_section (codes ".shstrtab") (names_of_sections (given i ++ relas i) ++ codes ".symtab" ∷ codes ".strtab" ∷ codes ".shstrtab" ∷ []) ∷ []

pub sections-same : (ss : List SectionParts) (symbols : List SymbolParts) → file_sections (map without_mark ss) symbols ≡ file_sections ss symbols
unfolding file_sections
sections-same ss symbols = ap₂ (λ xs ys. xs ++ ys) (given-same ss) (added-same ss symbols)

-- ---- the file

abbrev file_of : ℕ → List FileSection → List ℕ
file_of flags fs =
    object_header (52 + length (contents fs)) flags (1 + length fs) ++ (contents fs ++ flat_map section_bytes (headers_for fs))

pub bytes-same : (parts : ObjectParts) → object_bytes (without_marks parts) ≡ object_bytes parts
unfolding object_bytes
bytes-same parts = ap (file_of parts.flags) (sections-same parts.sections parts.symbols)

-- what can be written can be so either way
pub without_marks-writable : (parts : ObjectParts) → IsWritable parts → IsWritable (without_marks parts)
without_marks-writable parts w = record {
  faultless = ap object_fault (bytes-same parts) ∙ w.faultless;
  count = subst (λ fs. 1 + length fs < 2 ^ 16) (sym (sections-same parts.sections parts.symbols)) w.count;
  sections = each parts.sections w.sections;
  symbols = w.symbols;
}
  where
    each : (ss : List SectionParts) → All IsWritableSection ss → All IsWritableSection (map without_mark ss)
    each [] all = All-nil IsWritableSection
    each (s ∷ ss) all =
        let head = All-head IsWritableSection s ss all in
        All-cons IsWritableSection (without_mark s) (map without_mark ss)
        (record { name = head.name; bytes = head.bytes; dropped = head.dropped; relocs = head.relocs })
        (each ss (All-tail IsWritableSection s ss all))
