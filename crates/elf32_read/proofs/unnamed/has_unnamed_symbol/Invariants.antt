use Rattle.std.proofs.Common.{◌≡◌, map, false}
use Rattle.std.specs.Prelude.{not}
use Rattle.std.specs.List.{list_any, range_with_len}
use Rattle.elf32_read.specs.Names.{has_end}
use Rattle.elf32_read.specs.Symbols.{symbol_entry_at}
use Rattle.elf32_read.proofs.unnamed.has_unnamed_symbol.Given as goal

abbrev pub invariant-loop-i : goal.invariant-loop-i
invariant-loop-i l =
    list_any (λ e. not (has_end l.symbols.names.now e.name)) (map (symbol_entry_at l.symbols.entries.now) (range_with_len 0 l.i)) ≡ false
