use Rattle.std.proofs.Common.{◌≡◌, ℕ, ◌+◌, ◌<◌, true}
use Rattle.std.specs.List.{slice_get}
use Rattle.std.specs.Option.{is_some}
use Rattle.frame_match.specs.Read.{slot_accessed}
use Rattle.frame_match.specs.declared.slot.Access.TheVariants.{Restores}
use Rattle.frame_match.proofs.pops.loads.Given as goal

abbrev pub invariant-loop-n : goal.invariant-loop-n
invariant-loop-n l = (m : ℕ) → m < l.n → is_some (slot_accessed Restores (slice_get l.run (l.from + m))) ≡ true
