use Rattle.std.proofs.Common.{◌≡◌, ◌+◌, ◌≤◌, drop}
use Rattle.shrink_layout.specs.Counted.{count_from, is_long_piece, is_short_piece, pieces_with}
use Rattle.shrink_layout.proofs.settled.count_sizes.Given as goal

abbrev pub invariant-loop-k : goal.invariant-loop-k
invariant-loop-k l = record {
  short : l.short + count_from is_short_piece l.sizes l.k (drop l.k l.pieces) ≡ pieces_with is_short_piece l.pieces l.sizes;
  long : l.long + count_from is_long_piece l.sizes l.k (drop l.k l.pieces) ≡ pieces_with is_long_piece l.pieces l.sizes;
  few_short : l.short ≤ l.k;
  few_long : l.long ≤ l.k;
}
