use Rattle.std.proofs.Common.{◌≡◌, All, take}
use Rattle.std.specs.List.{flat_map}
use Rattle.elf32_write.specs.Entries.{reloc_bytes}
use Rattle.elf32_write.specs.Ranges.{IsRelocSized}
use Rattle.elf32_write.proofs.relocs.reloc_table.Given as goal

abbrev pub invariant-loop-reloc : goal.invariant-loop-reloc
invariant-loop-reloc l =
    (l.table.items ≡ flat_map reloc_bytes (take l.reloc-index l.relocs)) × All IsRelocSized (take l.reloc-index l.relocs)
