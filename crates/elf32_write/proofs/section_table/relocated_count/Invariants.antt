use Rattle.std.proofs.Common.{◌≡◌, ◌≤◌, length, take}
use Rattle.elf32_write.specs.FileSections.{relocated}
use Rattle.elf32_write.proofs.section_table.relocated_count.Given as goal

abbrev pub invariant-loop-section : goal.invariant-loop-section
invariant-loop-section l =
    (l.count ≡ length (relocated (take l.section-index l.sections))) × (l.count ≤ l.section-index)
