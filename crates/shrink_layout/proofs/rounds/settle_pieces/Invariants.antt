use Rattle.std.proofs.Common.{◌≡◌}
use Rattle.shrink_layout.proofs.RoundLaws.{slack_of}
use Rattle.shrink_layout.proofs.SizesLaws.{AreOfRound}
use Rattle.shrink_layout.proofs.rounds.settle_pieces.Given as goal

abbrev pub invariant-loop-rounds : goal.invariant-loop-rounds
invariant-loop-rounds l = record {
  text_same : l.rounds.text ≡ l.text;
  pieces_same : l.rounds.pieces ≡ l.pieces;
  round : AreOfRound l.rounds;
}

abbrev pub decreases-loop-rounds : goal.decreases-loop-rounds
decreases-loop-rounds l = slack_of l.rounds.pieces l.rounds.sizes
