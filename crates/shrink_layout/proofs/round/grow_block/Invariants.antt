use Rattle.std.proofs.Common.{◌≡◌, ◌*◌}
use Rattle.std.specs.Prelude.{slice_index}
use Rattle.shrink_layout.specs.Invariants.Blocks.{HaveGrownIn, block_size}
use Rattle.shrink_layout.specs.Invariants.Widths.{addresses_in}
use Rattle.shrink_layout.proofs.round.grow_block.Given as goal

abbrev pub invariant-loop-k : goal.invariant-loop-k
invariant-loop-k l = record {
  at_is : l.at ≡ slice_index (addresses_in l.widths) l.k;
  grown : HaveGrownIn (addresses_in l.widths) l.pieces l.initial.sizes l.sizes (l.block * block_size) l.k l.fitted l.low l.high;
}
