use Rattle.std.proofs.Common.{◌≡◌, ◌<◌, ℕ, not, true, eqb, get_or}
use Rattle.psabi_sym.proofs.name_lengths.short_length.Given as goal

abbrev pub invariant-loop-k : goal.invariant-loop-k
invariant-loop-k l = (j d : ℕ) → j < l.k → not (eqb (get_or l.bytes j d) 0) ≡ true
