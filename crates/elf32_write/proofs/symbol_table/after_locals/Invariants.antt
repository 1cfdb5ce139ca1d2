use Rattle.std.proofs.Common.{◌≡◌, ◌+◌, ◌≤◌, take}
use Rattle.elf32_write.specs.Entries.{after_locals}
use Rattle.elf32_write.proofs.symbol_table.after_locals.Given as goal

abbrev pub invariant-loop-i : goal.invariant-loop-i
invariant-loop-i l = (l.end ≡ after_locals (take l.i l.symbols)) × (l.end ≤ l.i + 1)
