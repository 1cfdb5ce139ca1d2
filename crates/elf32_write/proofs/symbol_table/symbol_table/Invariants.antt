use Rattle.std.proofs.Common.{◌≡◌, All, take}
use Rattle.std.specs.List.{flat_map}
use Rattle.elf32_write.specs.NameTable.{name_table}
use Rattle.elf32_write.specs.Entries.{strtab_names, symbol_bytes, written_entries}
use Rattle.elf32_write.specs.Ranges.{IsSymbolSized}
use Rattle.elf32_write.proofs.symbol_table.symbol_table.Given as goal

abbrev pub invariant-loop-symbol : goal.invariant-loop-symbol
invariant-loop-symbol l =
    (l.names.items ≡ name_table (strtab_names (take l.symbol-index l.symbols)))
    × ((l.entries.items ≡ flat_map symbol_bytes (written_entries (take l.symbol-index l.symbols)))
    × All IsSymbolSized (take l.symbol-index l.symbols))
