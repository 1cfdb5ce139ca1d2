-- Room for sections is room for the first of them.
use Rattle.std.proofs.Common.{◌≡◌, ℕ, ◌+◌, ◌^◌, ◌<◌, ◌≤◌, List, [], ◌∷◌, ◌++◌, length, map, replicate, take, drop, true, sym, ap, ◌∙◌, arith, length-append, append-nil, take-append-drop, append_assoc, get_or, nat_lt, cond}
use Rattle.std.proofs.lemmas.List.{map-append}
use Rattle.std.proofs.lemmas.List.Concat.{flat_map-append}
use Rattle.elf32_write.specs.Image.{pad, padded}
use Rattle.elf32_write.specs.NameTable.{name_table}
use Rattle.elf32_read.specs.Parts.{SectionParts}
use Rattle.elf32_write.specs.FileSections.{FileSection, given_section, names_of_sections, rela_section, relocated}
use Rattle.elf32_write.specs.ObjectFile.{contents}
use Rattle.elf32_write.specs.SectionTable.{ContentsFit, HasOffsets, HoldsSections}
use Rattle.elf32_write.specs.declared.section_table.SectionTable.{SectionTable}
use Rattle.elf32_write.proofs.Relocated.{relocated_more, relocated_split}
use Rattle.elf32_write.proofs.SymbolsMore.{name_table_within}

pub contents_within : (xs ys : List FileSection) → length (contents (xs ++ ys)) ≡ length (contents xs) + length (contents ys)
contents_within xs ys = ap length (flat_map-append (λ s. padded s.content) xs ys) ∙ length-append (contents xs) (contents ys)

pub room_within : (xs ys all : List FileSection) → all ≡ xs ++ ys → ContentsFit all → ContentsFit xs
room_within xs ys all e room =
    let names : names_of_sections all ≡ names_of_sections xs ++ names_of_sections ys = ap names_of_sections e ∙ map-append (λ (s : FileSection). s.name) xs ys in
    record {
      contents_fit = omega (arith, room.contents_fit, contents_within xs ys, ap (λ l. length (contents l)) e);
      names_fit = omega (arith, room.names_fit, name_table_within (names_of_sections xs) (names_of_sections ys), ap (λ l. length (name_table l)) names);
    }

-- a table of sections with room takes offsets that have room in a word
pub room_offsets : (sections : List FileSection) (table : SectionTable) → HoldsSections sections table → ContentsFit sections → HasOffsets 0 table
room_offsets sections table held room = record {
  contents_end = omega (arith, room.contents_fit, ap length held.contents_held);
  names_end = omega (arith, room.names_fit, ap length held.names_held);
}

-- contents are no shorter than the last
pub length-last : (xs : List FileSection) (s : FileSection) → length (contents xs) + length s.content ≤ length (contents (xs ++ s ∷ []))
length-last xs s =
    let one = ap length (append-nil (padded s.content)) in
    let whole = length-append s.content (replicate (pad (length s.content)) 0) in
    omega (arith, contents_within xs (s ∷ []), one, whole)

-- the content of the last has room
pub room_last : (xs : List FileSection) (s : FileSection) → ContentsFit (xs ++ s ∷ []) → length s.content < 2 ^ 32
room_last xs s room = omega (arith, room.contents_fit, length-last xs s)

-- the given sections up to an index
pub room_given : (xs : List SectionParts) (i : ℕ) → ContentsFit (map given_section xs) → ContentsFit (map given_section (take i xs))
room_given xs i room =
    let cut = ap (map given_section) (sym (take-append-drop i xs)) ∙ map-append given_section (take i xs) (drop i xs) in
    room_within (map given_section (take i xs)) (map given_section (drop i xs)) (map given_section xs) cut room

-- the relocations of the sections up to an index
pub room_relas : (symtab : ℕ) (before : List FileSection) (xs : List SectionParts) (i : ℕ) → ContentsFit (before ++ map (rela_section symtab) (relocated xs)) → ContentsFit (before ++ map (rela_section symtab) (relocated (take i xs)))
room_relas symtab before xs i room =
    let split = relocated_split xs i in
    let front = map (rela_section symtab) (relocated (take i xs)) in
    let rest = map (rela_section symtab) split.0 in
    let cut = ap (λ l. before ++ map (rela_section symtab) l) split.1 ∙ ap (λ l. before ++ l) (map-append (rela_section symtab) (relocated (take i xs)) split.0) ∙ sym (append_assoc before front rest) in
    room_within (before ++ front) rest (before ++ map (rela_section symtab) (relocated xs)) cut room

-- one more section with relocations
pub relas_more : (symtab : ℕ) (before : List FileSection) (xs : List SectionParts) (i : ℕ) (s : SectionParts) → i < length xs → s ≡ get_or xs i s → nat_lt 0 (length s.relocs) ≡ true → before ++ map (rela_section symtab) (relocated (take (i + 1) xs)) ≡ (before ++ map (rela_section symtab) (relocated (take i xs))) ++ rela_section symtab (1 + i, s) ∷ []
relas_more symtab before xs i s lt is some =
    let one : relocated (take (i + 1) xs) ≡ relocated (take i xs) ++ (1 + i, s) ∷ [] = relocated_more xs i s lt is ∙ ap (λ b. relocated (take i xs) ++ cond b ((1 + i, s) ∷ []) []) some in
    ap (λ l. before ++ map (rela_section symtab) l) one
    ∙ ap (λ l. before ++ l) (map-append (rela_section symtab) (relocated (take i xs)) ((1 + i, s) ∷ []))
    ∙ sym (append_assoc before (map (rela_section symtab) (relocated (take i xs))) (rela_section symtab (1 + i, s) ∷ []))
