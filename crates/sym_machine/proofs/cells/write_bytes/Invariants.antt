use Rattle.std.proofs.Common.{◌≡◌, ℕ, ◌<◌, length}
use Rattle.std.specs.Prelude.{slice_index, slice_index_or}
use Rattle.rv_decode.specs.Memory.{written}
use Rattle.sym_machine.proofs.cells.write_bytes.Given as goal

abbrev pub invariant-loop-k : goal.invariant-loop-k
invariant-loop-k l =
    (length l.held ≡ length l.fn.held)
    × ((j : ℕ) (d : ℕ) → j < length l.fn.held → slice_index_or l.held j d ≡ written l.start l.k (λ i. slice_index l.bytes i) j (slice_index_or l.fn.held j d))
