use Rattle.std.proofs.Common.{◌≡◌, ◌*◌, ◌+◌, ◌/◌, ◌≤◌, true, length, map}
use Rattle.std.specs.List.{range_with_len}
use Rattle.elf32_read.specs.Parts.{is_code_section}
use Rattle.psabi_sym.specs.Inputs.{ParsedInputs}
use Rattle.psabi_sym.specs.Indexed.{IndexedSection}
use Rattle.block_cut.specs.PlainLayout.{starts_before}
use Rattle.block_cut.specs.Resolved.{resolved_relocs}
use Rattle.block_cut.specs.Invariants.HalfwordTables.{IsRelocTable, number_on}
use Rattle.block_cut.specs.Whole.{IsWhole}
use Rattle.block_cut.proofs.WordLaws.{IsNext}
use Rattle.block_cut.proofs.halfword_tables.place_numbers.Given as goal

abbrev pub invariant-loop-k : goal.invariant-loop-k
invariant-loop-k l = record {
  most : l.before ≤ l.k;
  each : (inputs : ParsedInputs) (m : IndexedSection) → is_code_section m.section ≡ true → IsWhole m.section → l.content.bytes ≡ m.section.bytes → l.content.compressed ≡ m.section.compressed → l.relocs ≡ resolved_relocs inputs m → IsRelocTable l.relocs (length m.section.bytes / 2 + 1) l.table
      → (l.numbers.items ≡ map (λ k. number_on m.section (2 * k)) (range_with_len 0 l.k))
      × (l.k ≤ length m.section.bytes / 2 → IsNext m.section (2 * l.k) (2 * l.k + l.left) × (l.before ≡ length (starts_before m.section (2 * l.k))));
}
