use Rattle.std.proofs.Common.{◌≡◌, map, false}
use Rattle.std.specs.Prelude.{nat_le}
use Rattle.std.specs.List.{list_any, range_with_len}
use Rattle.elf32_read.specs.Relocs.{reloc_at}
use Rattle.elf32_read.proofs.relas.has_symbol_from.Given as goal

abbrev pub invariant-loop-k : goal.invariant-loop-k
invariant-loop-k l = list_any (λ r. nat_le l.count r.symbol) (map (reloc_at l.content) (range_with_len 0 l.k)) ≡ false
