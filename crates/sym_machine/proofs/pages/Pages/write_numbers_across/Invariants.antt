use Rattle.std.proofs.Common.{◌≡◌, ℕ, ◌-◌, ◌<◌, ◌≤◌, length, map}
use Rattle.std.specs.Prelude.{slice_index_or}
use Rattle.rv_decode.specs.Memory.{written}
use Rattle.sym_machine.specs.declared.word.SymByte.{SymByte}
use Rattle.sym_machine.specs.declared.word.SymByte.TheVariants.{Num, Undef}
use Rattle.sym_machine.proofs.pages.Pages.write_numbers_across.Given as goal

abbrev pub invariant-loop-done : goal.invariant-loop-done
invariant-loop-done l = record {
  within : l.done ≤ length l.numbers;
  long : length l.self ≡ length l.initial.self;
  each : (j : ℕ) (d : SymByte) → j < length l.initial.self
      → slice_index_or l.self j d ≡ written l.i l.done (λ k. slice_index_or (map Num l.numbers) k Undef) j (slice_index_or l.initial.self j d);
}

abbrev pub decreases-loop-done : goal.decreases-loop-done
decreases-loop-done l = length l.numbers - l.done
