-- Words of data that hold addresses (RISC-V ELF psABI, "Relocations": R_RISCV_32).
use Rattle.std.specs.Prelude.{ℕ, ◌+◌, ◌==◌, if◌then◌else◌, List, [], map, filter, Option, None}
use Rattle.std.specs.List.{flat_map}
use Rattle.std.specs.Option.{option_map_or}
use Rattle.elf32_read.specs.declared.reloc.Reloc.{Reloc}
use Rattle.psabi_sym.specs.Data.{data_address}
use Rattle.psabi_sym.specs.Inputs.{ParsedInputs}
use Rattle.psabi_sym.specs.Indexed.{IndexedSection, all_sections}
use Rattle.psabi_reloc.specs.Kinds.{kind_of}
use Rattle.block_cut.specs.Items.{target_of}
use Rattle.block_cut.specs.Relocs.{is_word}
use Rattle.block_cut.specs.declared.data_word.DataWord.{DataWord}
use Rattle.block_cut.specs.declared.resolved_reloc.ResolvedReloc.{ResolvedReloc}

-- the word that a relocation fills in, in a section of data that begins at an address
abbrev pub data_word : ParsedInputs → IndexedSection → ℕ → Reloc → DataWord
data_word inputs l at r = record { at = at + r.offset; target = target_of inputs l.object r }

-- the words that a section's relocations fill in, in their order; code has none, and in NOBITS (8) nothing is filled in
abbrev pub data_words_in : ParsedInputs → IndexedSection → List DataWord
data_words_in inputs l =
    if l.section.kind == 8 then []
    else option_map_or (λ at. map (data_word inputs l at) (filter (λ r. is_word (kind_of r.kind)) l.section.relocs)) (data_address inputs l.object l.index) []

-- the words of all data, by object, section and relocation
unfoldable pub data_words : ParsedInputs → List DataWord
data_words inputs = flat_map (data_words_in inputs) (all_sections inputs.objects)

-- ---- by relocations that are decided

-- the address of a section of data that a file holds
abbrev pub held_address : ParsedInputs → IndexedSection → Option ℕ
held_address inputs l = if l.section.kind == 8 then None else data_address inputs l.object l.index

-- the word that a resolved relocation fills in, in a section of data that begins at an address
abbrev pub resolved_word : ℕ → ResolvedReloc → DataWord
resolved_word at d = record { at = at + d.offset; target = d.target }
