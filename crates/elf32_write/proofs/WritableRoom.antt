-- Parts that can be written have room in their file.
use Rattle.std.proofs.Common.{◌≡◌, ◌+◌, ◌*◌, ◌^◌, ◌<◌, ◌≤◌, List, [], ◌∷◌, length, All, codes, sym, ap, ◌∙◌, arith}
use Rattle.std.proofs.lemmas.Bool.{ltb-false}
use Rattle.std.proofs.lemmas.List.{map-append}
use Rattle.std.proofs.lemmas.List.Elements.{All-weaker}
use Rattle.elf32_read.specs.Header.{section_count}
use Rattle.elf32_read.specs.Parts.{ObjectParts, SectionParts, SymbolParts}
use Rattle.elf32_read.proofs.Faultless.{no_fault}
use Rattle.elf32_write.specs.NameTable.{name_table}
use Rattle.elf32_write.specs.Entries.{HasInfo, strtab_names}
use Rattle.elf32_write.specs.FileSections.{FileSection, file_sections, names_of_sections, shstrtab_names, strtab_section, symtab_index, symtab_section}
use Rattle.elf32_write.specs.ObjectFile.{contents, object_bytes, object_size, section_total}
use Rattle.elf32_write.specs.SectionTable.{ContentsFit, PartsFit, with_names, with_relas, with_symbols}
use Rattle.elf32_write.specs.Writable.{IsWritable, IsWritableSection, IsWritableSymbol}
use Rattle.elf32_write.proofs.FileHeaderBack.{count_back, length-object_bytes}
use Rattle.elf32_write.proofs.Room.{length-last}
use Rattle.elf32_write.proofs.Stages.{length-symbols, names_so_far, stages}

-- the names of all sections are the content of the last
pub names_of_all : (xs : List SectionParts) (ys : List SymbolParts) → names_of_sections (file_sections xs ys) ≡ shstrtab_names xs
names_of_all xs ys =
    let own : FileSection = strtab_section (codes ".shstrtab") (shstrtab_names xs) in
    ap names_of_sections (sym (stages xs ys)) ∙ map-append (λ (b : FileSection). b.name) (with_names xs ys) (own ∷ []) ∙ names_so_far xs ys

-- the contents are no shorter than the sections' names
pub section_names_within : (xs : List SectionParts) (ys : List SymbolParts) → length (name_table (shstrtab_names xs)) ≤ length (contents (file_sections xs ys))
section_names_within xs ys =
    let own : FileSection = strtab_section (codes ".shstrtab") (shstrtab_names xs) in
    omega (arith, ap (λ l. length (contents l)) (stages xs ys), length-last (with_names xs ys) own)

-- nor than the symbols
pub symbols_within : (xs : List SectionParts) (ys : List SymbolParts) → 16 * (1 + length ys) ≤ length (contents (file_sections xs ys))
unfolding with_symbols with_names
symbols_within xs ys =
    let s : FileSection = symtab_section (symtab_index xs) ys in
    let t : FileSection = strtab_section (codes ".strtab") (strtab_names ys) in
    let u : FileSection = strtab_section (codes ".shstrtab") (shstrtab_names xs) in
    omega (arith, length-symbols ys, length-last (with_relas xs) s, length-last (with_symbols xs ys) t, length-last (with_names xs ys) u, ap (λ l. length (contents l)) (stages xs ys))

-- ---- what a file without a fault says of its parts

pub writable_size : (parts : ObjectParts) → IsWritable parts → object_size parts ≤ 0x40_0000
writable_size parts w =
    let long = ltb-false 0x40_0000 (length (object_bytes parts)) (no_fault (object_bytes parts) w.faultless).short in
    omega (arith, long, length-object_bytes parts)

writable_count : (parts : ObjectParts) → IsWritable parts → section_total parts ≤ 4096
writable_count parts w =
    let few = ltb-false 4096 (section_count (object_bytes parts)) (no_fault (object_bytes parts) w.faultless).few in
    omega (arith, few, count_back parts w.count)

-- ---- room in the file

pub sized_room : (parts : ObjectParts) → object_size parts ≤ 0x40_0000 → ContentsFit (file_sections parts.sections parts.symbols)
sized_room parts size =
    let names = ap (λ l. length (name_table l)) (names_of_all parts.sections parts.symbols) in
    let within = section_names_within parts.sections parts.symbols in
    record {
      contents_fit = omega (arith, size);
      names_fit = omega (arith, size, names, within);
    }

pub writable_fits : (parts : ObjectParts) → IsWritable parts → PartsFit parts.sections parts.symbols
writable_fits parts w = record {
  count = omega (arith, writable_count parts w);
  room = sized_room parts (writable_size parts w);
  relocs = All-weaker IsWritableSection (λ s. All (λ r. r.symbol < 2 ^ 24) s.relocs) (λ s h. h.relocs) parts.sections w.sections;
  info = All-weaker IsWritableSymbol HasInfo (λ s h. h.info) parts.symbols w.symbols;
}
