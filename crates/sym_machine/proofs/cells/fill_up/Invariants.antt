use Rattle.std.proofs.Common.{◌≡◌, ℕ, ◌<◌, length}
use Rattle.std.specs.Prelude.{slice_index_or}
use Rattle.rv_decode.specs.Memory.{written}
use Rattle.sym_machine.specs.declared.word.SymByte.{SymByte}
use Rattle.sym_machine.specs.declared.word.SymByte.TheVariants.{Undef}
use Rattle.sym_machine.proofs.cells.fill_up.Given as goal

abbrev pub invariant-loop-k : goal.invariant-loop-k
invariant-loop-k l =
    (length l.cells ≡ length l.fn.cells)
    × ((j : ℕ) (d : SymByte) → j < length l.fn.cells → slice_index_or l.cells j d ≡ written l.start l.k (λ _. Undef) j (slice_index_or l.fn.cells j d))
