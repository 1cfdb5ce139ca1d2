use Rattle.std.proofs.Common.{◌≡◌, ◌*◌, length, min}
use Rattle.shrink_layout.specs.Invariants.Blocks.{block_size}
use Rattle.shrink_layout.specs.Invariants.Widths.{addresses_in}
use Rattle.shrink_layout.proofs.TestLaws.{AreGrown}
use Rattle.shrink_layout.proofs.round.grow.Given as goal

abbrev pub invariant-loop-block : goal.invariant-loop-block
invariant-loop-block l = record {
  multiples_same : l.blocks.multiples.items ≡ l.initial.blocks.multiples.items;
  grown : AreGrown (addresses_in l.widths) l.pieces l.initial.sizes l.sizes l.initial.blocks.lows.items l.blocks.lows.items l.initial.blocks.highs.items l.blocks.highs.items l.blocks.grown.items l.block (min (length l.pieces) (block_size * l.block)) l.fitted;
}
