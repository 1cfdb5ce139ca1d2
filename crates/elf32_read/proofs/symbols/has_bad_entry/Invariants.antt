use Rattle.std.proofs.Common.{◌≡◌, map, drop, false}
use Rattle.std.specs.List.{list_any, range_with_len}
use Rattle.elf32_read.specs.Object.{is_bad_symbol}
use Rattle.elf32_read.specs.Symbols.{symbol_entry_at}
use Rattle.elf32_read.proofs.symbols.has_bad_entry.Given as goal

abbrev pub invariant-loop-i : goal.invariant-loop-i
invariant-loop-i l = list_any (is_bad_symbol l.sections) (drop 1 (map (symbol_entry_at l.entries) (range_with_len 0 l.i))) ≡ false
