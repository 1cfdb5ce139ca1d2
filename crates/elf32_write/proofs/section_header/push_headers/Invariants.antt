use Rattle.std.proofs.Common.{◌≡◌, ◌++◌, take}
use Rattle.std.specs.List.{flat_map}
use Rattle.elf32_write.specs.Image.{section_bytes}
use Rattle.elf32_write.proofs.section_header.push_headers.Given as goal

abbrev pub invariant-loop-section : goal.invariant-loop-section
invariant-loop-section l =
    l.out.items ≡ l.initial.out.items ++ flat_map section_bytes (take l.section-index l.sections)
