use Rattle.std.proofs.Common.{◌≡◌, map, take, true}
use Rattle.elf32_read.specs.Parts.{SectionParts, is_code_section}
use Rattle.block_cut.specs.Invariants.HalfwordTables.{by_halfword, number_on}
use Rattle.block_cut.specs.Resolved.{placed_reloc}
use Rattle.block_cut.specs.Whole.{IsWhole}
use Rattle.block_cut.proofs.halfword_tables.place_relocs.Given as goal

abbrev pub invariant-loop-reloc : goal.invariant-loop-reloc
invariant-loop-reloc l = (s : SectionParts) → is_code_section s ≡ true → IsWhole s → l.numbers ≡ by_halfword (number_on s) s → l.placed.items ≡ map (placed_reloc s) (take l.reloc-index l.fn.relocs.items)
