use Rattle.std.proofs.Common.{◌≡◌, ◌<◌, ◌||◌, ℕ, false, length, slice_index_or, take}
use Rattle.std.specs.List.{list_any}
use Rattle.elf32_read.specs.Parts.{object_parts}
use Rattle.psabi_sym.specs.Faults.{names}
use Rattle.psabi_sym.proofs.used.mark_object.Given as goal

abbrev pub invariant-loop-i : goal.invariant-loop-i
invariant-loop-i l =
    (s : ℕ) → s < length l.fn.marks → slice_index_or l.marks s false
    ≡ (slice_index_or l.fn.marks s false || list_any (λ t. names s t.relocs) (take l.i (object_parts l.loaded).sections))
