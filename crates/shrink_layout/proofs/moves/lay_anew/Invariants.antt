use Rattle.std.proofs.Common.{◌*◌}
use Rattle.std.specs.Prelude.{slice_index}
use Rattle.shrink_layout.specs.Invariants.Blocks.{block_size}
use Rattle.shrink_layout.proofs.AnewLaws.{IsLaidTo}
use Rattle.shrink_layout.proofs.moves.lay_anew.Given as goal

abbrev pub invariant-loop-k : goal.invariant-loop-k
invariant-loop-k l = IsLaidTo (slice_index l.initial.widths.starts.items 0) l.pieces l.sizes l.initial.widths l.widths (l.block * block_size) l.k l.at l.changed
