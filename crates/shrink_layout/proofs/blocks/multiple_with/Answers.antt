use Rattle.shrink_layout.proofs.BlockLaws.{moved_through}
use Rattle.shrink_layout.proofs.blocks.multiple_with.Goals as goal

pub returns-then-alignment-multiple-eq0-clause-before :
    goal.returns-then-alignment-multiple-eq0-clause-before
returns-then-alignment-multiple-eq0-clause-before c some p moved = moved_through c.args.multiple c.args.alignment p c.if-alignment-multiple-eq0.true moved
