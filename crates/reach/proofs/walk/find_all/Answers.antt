use Rattle.std.proofs.lemmas.List.{take_more}
use Rattle.reach.proofs.WalkLaws.{noted-more}
use Rattle.reach.proofs.walk.find_all.Goals as goal

pub loop-node-preserved : goal.loop-node-preserved
loop-node-preserved c = noted-more c.args.nodes.now c.loop-node.node-index _ _ _ _ (take_more c.args.nodes.now c.loop-node.node-index 0 c.loop-node-test.true) c.loop-node.invariant c.in_ok-find.ensures
