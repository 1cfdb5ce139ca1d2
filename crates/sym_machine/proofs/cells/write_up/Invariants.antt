use Rattle.std.proofs.Common.{◌≡◌, ℕ, ◌<◌, length, map}
use Rattle.std.specs.Prelude.{slice_index_or}
use Rattle.rv_decode.specs.Memory.{written}
use Rattle.sym_machine.specs.declared.word.SymByte.{SymByte}
use Rattle.sym_machine.specs.declared.word.SymByte.TheVariants.{Num, Undef}
use Rattle.sym_machine.proofs.cells.write_up.Given as goal

abbrev pub invariant-loop-k : goal.invariant-loop-k
invariant-loop-k l =
    (length l.cells ≡ length l.fn.cells)
    × ((j : ℕ) (d : SymByte) → j < length l.fn.cells → slice_index_or l.cells j d ≡ written l.start l.k (λ i. slice_index_or (map Num l.numbers) i Undef) j (slice_index_or l.fn.cells j d))
