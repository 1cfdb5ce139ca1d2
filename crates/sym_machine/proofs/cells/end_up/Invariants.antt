use Rattle.std.proofs.Common.{◌≡◌, ℕ, ◌<◌, Bool, false, length}
use Rattle.std.specs.Prelude.{slice_index_or}
use Rattle.rv_decode.specs.Memory.{written}
use Rattle.sym_machine.proofs.cells.end_up.Given as goal

abbrev pub invariant-loop-k : goal.invariant-loop-k
invariant-loop-k l =
    (length l.live ≡ length l.fn.live)
    × ((j : ℕ) (d : Bool) → j < length l.fn.live → slice_index_or l.live j d ≡ written l.start l.k (λ _. false) j (slice_index_or l.fn.live j d))
