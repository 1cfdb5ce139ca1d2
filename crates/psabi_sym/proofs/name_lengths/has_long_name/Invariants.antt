use Rattle.std.proofs.Common.{◌<◌, ◌≤◌, ◌-◌, ℕ, length}
use Rattle.elf32_read.specs.Names.{name_at}
use Rattle.psabi_sym.proofs.name_lengths.has_long_name.Given as goal

abbrev pub invariant-loop-at : goal.invariant-loop-at
invariant-loop-at l = record { within : l.at ≤ length l.table; short : (k : ℕ) → k < l.at → length (name_at l.table k) < 64 }

abbrev pub decreases-loop-at : goal.decreases-loop-at
decreases-loop-at l = length l.table - l.at
