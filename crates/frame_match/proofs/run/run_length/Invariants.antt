use Rattle.std.proofs.Common.{◌≡◌, ℕ, ◌<◌, Some, true}
use Rattle.std.specs.Prelude.{◌==◌}
use Rattle.std.specs.List.{slice_get}
use Rattle.std.specs.Option.{is_some}
use Rattle.psabi_sym.specs.Inputs.{parsed}
use Rattle.block_cut.specs.declared.code_place.CodePlace.{CodePlace}
use Rattle.frame_match.specs.Groups.{spot_on}
use Rattle.frame_match.specs.Invariants.Runs.{joins, op_in}
use Rattle.frame_match.proofs.run.run_length.Given as goal

abbrev pub invariant-loop-n : goal.invariant-loop-n
invariant-loop-n l =
    (k : ℕ) (p : CodePlace) → k < l.n → slice_get l.places k ≡ Some p
    → (is_some (op_in p) ≡ true) × (joins (k == 0) (spot_on (parsed l.cut) l.section p.offset) ≡ true)
