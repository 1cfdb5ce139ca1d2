-- The words so far have a node.
use Rattle.std.proofs.Common.{◌≡◌, ◌-◌, Some, drop, length}
use Rattle.tail_merge.specs.HostTree.{child_in, words_node, item_words}
use Rattle.tail_merge.proofs.host_tree.HostTree.deepest.Given as goal

abbrev pub invariant-loop-k : goal.invariant-loop-k
invariant-loop-k l = words_node (child_in l.self.children) (drop (length l.tail - l.k) (item_words l.tail)) ≡ Some l.node
