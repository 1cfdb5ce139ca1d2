-- All sections of a file, as they are added: the given ones, their relocations, the symbols, their names, and the sections'
-- names.
use Rattle.std.proofs.Common.{◌≡◌, ℕ, ◌+◌, ◌<◌, List, [], ◌∷◌, ◌++◌, length, codes, suc, ◌*◌, ◌^◌, refl, sym, ap, ◌∙◌, arith, length-append, append_assoc}
use Rattle.std.specs.List.{flat_map}
use Rattle.std.proofs.lemmas.List.{map-append, length-map}
use Rattle.elf32_read.specs.Parts.{SectionParts, SymbolParts}
use Rattle.elf32_read.specs.declared.symbol_entry.SymbolEntry.{SymbolEntry}
use Rattle.elf32_write.specs.NameTable.{name_bytes, name_table}
use Rattle.elf32_write.specs.EachAfter.{each_after}
use Rattle.elf32_write.specs.Entries.{strtab_names, symbol_bytes, written_entries, written_entry}
use Rattle.elf32_write.specs.FileSections.{FileSection, added_sections, file_sections, given_section, given_sections, names_of_sections, rela_section, rela_sections, relocated, shstrtab_names, strtab_section, symtab_index, symtab_section}
use Rattle.elf32_write.specs.SectionTable.{ContentsFit, HasOffsets, HoldsSections, with_names, with_relas, with_symbols}
use Rattle.elf32_write.specs.declared.section_table.SectionTable.{SectionTable}
use Rattle.elf32_write.proofs.EachAfter.{name_table_push}
use Rattle.elf32_write.proofs.Room.{room_last, room_offsets, room_within}

-- the last section has the names of those before it and its own
pub names_so_far : (xs : List SectionParts) (ys : List SymbolParts) → names_of_sections (with_names xs ys) ++ codes ".shstrtab" ∷ [] ≡ shstrtab_names xs
unfolding with_names with_symbols with_relas
names_so_far xs ys =
    let s : FileSection = symtab_section (symtab_index xs) ys in
    let t : FileSection = strtab_section (codes ".strtab") (strtab_names ys) in
    let name : FileSection → List ℕ = λ b. b.name in
    let front = given_sections xs ++ rela_sections xs in
    ap (λ l. l ++ codes ".shstrtab" ∷ []) (map-append name (front ++ s ∷ []) (t ∷ []) ∙ ap (λ l. l ++ codes ".strtab" ∷ []) (map-append name front (s ∷ [])))
    ∙ ap (λ l. l ++ codes ".shstrtab" ∷ []) (append_assoc (names_of_sections front) (codes ".symtab" ∷ []) (codes ".strtab" ∷ []))
    ∙ append_assoc (names_of_sections front) (codes ".symtab" ∷ codes ".strtab" ∷ []) (codes ".shstrtab" ∷ [])

-- all sections, by stages
pub stages : (xs : List SectionParts) (ys : List SymbolParts) → with_names xs ys ++ strtab_section (codes ".shstrtab") (shstrtab_names xs) ∷ [] ≡ file_sections xs ys
unfolding with_names with_symbols with_relas file_sections added_sections
stages xs ys =
    let s : FileSection = symtab_section (symtab_index xs) ys in
    let t : FileSection = strtab_section (codes ".strtab") (strtab_names ys) in
    let u : FileSection = strtab_section (codes ".shstrtab") (shstrtab_names xs) in
    let front = given_sections xs ++ rela_sections xs in
    ap (λ l. l ++ u ∷ []) (append_assoc front (s ∷ []) (t ∷ []))
    ∙ append_assoc front (s ∷ t ∷ []) (u ∷ [])
    ∙ append_assoc (given_sections xs) (rela_sections xs) (s ∷ t ∷ u ∷ [])

pub room_names_stage : (xs : List SectionParts) (ys : List SymbolParts) → ContentsFit (file_sections xs ys) → ContentsFit (with_names xs ys)
room_names_stage xs ys room = room_within (with_names xs ys) (strtab_section (codes ".shstrtab") (shstrtab_names xs) ∷ []) (file_sections xs ys) (sym (stages xs ys)) room

pub room_symbols_stage : (xs : List SectionParts) (ys : List SymbolParts) → ContentsFit (file_sections xs ys) → ContentsFit (with_symbols xs ys)
unfolding with_names
room_symbols_stage xs ys room = room_within (with_symbols xs ys) (strtab_section (codes ".strtab") (strtab_names ys) ∷ []) (with_names xs ys) refl (room_names_stage xs ys room)

pub room_relas_stage : (xs : List SectionParts) (ys : List SymbolParts) → ContentsFit (file_sections xs ys) → ContentsFit (with_relas xs)
unfolding with_symbols
room_relas_stage xs ys room = room_within (with_relas xs) (symtab_section (symtab_index xs) ys ∷ []) (with_symbols xs ys) refl (room_symbols_stage xs ys room)

pub room_given_stage : (xs : List SectionParts) (ys : List SymbolParts) → ContentsFit (file_sections xs ys) → ContentsFit (given_sections xs)
unfolding with_relas
room_given_stage xs ys room = room_within (given_sections xs) (rela_sections xs) (with_relas xs) refl (room_relas_stage xs ys room)

-- the number of sections
pub length-file_sections : (xs : List SectionParts) (ys : List SymbolParts) → length (file_sections xs ys) ≡ length xs + length (relocated xs) + 3
unfolding file_sections added_sections
length-file_sections xs ys =
    let added : List FileSection = rela_sections xs ++ symtab_section (symtab_index xs) ys ∷ strtab_section (codes ".strtab") (strtab_names ys) ∷ strtab_section (codes ".shstrtab") (shstrtab_names xs) ∷ [] in
    let whole = length-append (given_sections xs) added in
    let three = length-append (rela_sections xs) (symtab_section (symtab_index xs) ys ∷ strtab_section (codes ".strtab") (strtab_names ys) ∷ strtab_section (codes ".shstrtab") (shstrtab_names xs) ∷ []) in
    let given : length (given_sections xs) ≡ length xs = length-map xs given_section in
    let relas : length (rela_sections xs) ≡ length (relocated xs) = length-map (relocated xs) (rela_section (symtab_index xs)) in
    omega (arith, whole, three, given, relas)

-- the symbols and their names fit
pub room_symbols : (xs : List SectionParts) (ys : List SymbolParts) → ContentsFit (file_sections xs ys) → length (flat_map symbol_bytes (written_entries ys)) < 2 ^ 32
unfolding with_symbols
room_symbols xs ys room = room_last (with_relas xs) (symtab_section (symtab_index xs) ys) (room_symbols_stage xs ys room)

pub room_strtab_names : (xs : List SectionParts) (ys : List SymbolParts) → ContentsFit (file_sections xs ys) → length (name_table (strtab_names ys)) < 2 ^ 32
unfolding with_names
room_strtab_names xs ys room = room_last (with_symbols xs ys) (strtab_section (codes ".strtab") (strtab_names ys)) (room_names_stage xs ys room)

-- the last section has room as well
pub room_last_section : (xs : List SectionParts) (ys : List SymbolParts) (table : SectionTable) → HoldsSections (with_names xs ys) table → ContentsFit (file_sections xs ys) → HasOffsets 10 table
room_last_section xs ys table held room =
    let own : FileSection = strtab_section (codes ".shstrtab") (shstrtab_names xs) in
    let front = names_of_sections (with_names xs ys) in
    let names : names_of_sections (file_sections xs ys) ≡ front ++ codes ".shstrtab" ∷ [] =
    ap names_of_sections (sym (stages xs ys)) ∙ map-append (λ (b : FileSection). b.name) (with_names xs ys) (own ∷ []) in
    let longer = ap length (ap name_table names ∙ name_table_push front (codes ".shstrtab")) ∙ length-append (name_table front) (name_bytes (codes ".shstrtab")) in
    record {
      contents_end = (room_offsets (with_names xs ys) table held (room_names_stage xs ys room)).contents_end;
      names_end = omega (arith, room.names_fit, longer, ap length held.names_held);
    }

-- each entry has 16 bytes
pub length-symbol_bytes : (entries : List SymbolEntry) → length (flat_map symbol_bytes entries) ≡ 16 * length entries
length-symbol_bytes [] = refl
length-symbol_bytes (e ∷ entries) = let rest = length-symbol_bytes entries in omega (arith, rest)

pub length-each_after : {X Y : Type 0} (f : List X → X → Y) (before xs : List X) → length (each_after f before xs) ≡ length xs
length-each_after f before [] = refl
length-each_after f before (x ∷ xs) = ap (λ n. suc n) (length-each_after f (before ++ x ∷ []) xs)

pub length-symbols : (ys : List SymbolParts) → length (flat_map symbol_bytes (written_entries ys)) ≡ 16 * (1 + length ys)
length-symbols ys = omega (arith, length-symbol_bytes (written_entries ys), length-each_after written_entry [] ys)
