use Rattle.std.proofs.Common.{◌≡◌, ℕ, ◌<◌, true, false, get_or}
use Rattle.frame_match.proofs.Seen.{Seen}
use Rattle.frame_match.proofs.slots.fills.Given as goal

abbrev pub invariant-loop-m : goal.invariant-loop-m
invariant-loop-m l = Seen l.which l.frame.bytes l.frame.left_out l.run l.from l.seen l.m

abbrev pub invariant-loop-j : goal.invariant-loop-j
invariant-loop-j l = (k : ℕ) → k < l.j → get_or l.seen k false ≡ true
