use Rattle.tail_merge.specs.HostTree.{IsAdding}
use Rattle.tail_merge.proofs.host_tree.HostTree.add.Given as goal

abbrev pub invariant-loop-k : goal.invariant-loop-k
invariant-loop-k l = IsAdding l.fn.self l.self l.run l.host l.k l.node
