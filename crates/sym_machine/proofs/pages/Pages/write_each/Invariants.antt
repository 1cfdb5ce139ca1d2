use Rattle.std.proofs.Common.{◌≡◌, ℕ, ◌<◌, length}
use Rattle.std.specs.Prelude.{slice_index_or}
use Rattle.rv_decode.specs.Memory.{written}
use Rattle.sym_machine.specs.declared.word.SymByte.{SymByte}
use Rattle.sym_machine.specs.declared.word.SymByte.TheVariants.{Undef}
use Rattle.sym_machine.proofs.pages.Pages.write_each.Given as goal

abbrev pub invariant-loop-k : goal.invariant-loop-k
invariant-loop-k l =
    (length l.self ≡ length l.fn.self)
    × ((j : ℕ) (d : SymByte) → j < length l.fn.self
    → slice_index_or l.self j d ≡ written l.i l.k (λ m. slice_index_or l.cells m Undef) j (slice_index_or l.fn.self j d))
