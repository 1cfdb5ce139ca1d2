use Rattle.std.proofs.Common.{◌≡◌, ℕ, ◌<◌, [], false, get_or, map}
use Rattle.psabi_sym.specs.Names.{same_name}
use Rattle.psabi_sym.specs.Start.{start_name}
use Rattle.psabi_sym.proofs.start.start_meaning.Given as goal

abbrev pub invariant-loop-k : goal.invariant-loop-k
invariant-loop-k l = (j : ℕ) → j < l.k → same_name start_name (get_or (map (λ name. name.now) l.names) j []) ≡ false
