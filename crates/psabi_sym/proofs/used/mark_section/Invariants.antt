use Rattle.std.proofs.Common.{◌≡◌, ◌<◌, ◌||◌, ℕ, false, length, slice_index_or, take}
use Rattle.psabi_sym.specs.Faults.{names}
use Rattle.psabi_sym.proofs.used.mark_section.Given as goal

abbrev pub invariant-loop-k : goal.invariant-loop-k
invariant-loop-k l =
    (s : ℕ) → s < length l.fn.marks → slice_index_or l.marks s false ≡ (slice_index_or l.fn.marks s false || names s (take l.k l.relocs))
