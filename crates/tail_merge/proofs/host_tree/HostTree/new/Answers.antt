use Rattle.std.proofs.Common.{arith, ap, length, ◌∙◌, ◌++◌, ◌∷◌, []}
use Rattle.tail_merge.specs.HostTree.{child_in}
use Rattle.tail_merge.proofs.TreeLaws.{childless-map, holds-none, nodes-none}
use Rattle.tail_merge.proofs.host_tree.HostTree.new.Goals as goal

pub returns-clause-tree : goal.returns-clause-tree
returns-clause-tree c =
    let one = ap length (c.in_ok-push.ensures.items ∙ ap (λ es. es ++ 0 ∷ []) c.new-hosts.ensures.items) in
    nodes-none (child_in c.new.result) (childless-map c.new.result c.new.ensures.empty) (length c.push.new.self.items) (omega (arith, one))

pub returns-clause-hosts : goal.returns-clause-hosts
returns-clause-hosts c = holds-none (child_in c.new.result) (childless-map c.new.result c.new.ensures.empty) c.push.new.self.items
