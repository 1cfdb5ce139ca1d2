use Rattle.std.proofs.Common.{◌*◌, length, min}
use Rattle.shrink_layout.specs.Invariants.Blocks.{block_size}
use Rattle.shrink_layout.proofs.MoveLaws.{IsMovedOn}
use Rattle.shrink_layout.proofs.moves.move_on.Given as goal

abbrev pub invariant-loop-block : goal.invariant-loop-block
invariant-loop-block l = IsMovedOn l.pieces l.sizes l.initial.widths l.widths l.block (min (length l.pieces) (l.block * block_size)) l.here
