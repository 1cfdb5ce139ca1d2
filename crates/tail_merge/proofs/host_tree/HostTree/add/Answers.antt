use Rattle.std.proofs.Common.{arith, sym, ◌∙◌, subst, ◌+◌}
use Rattle.tail_merge.specs.HostTree.{IsAdding}
use Rattle.tail_merge.proofs.TreeLaws.{adding-added, adding-begun, adding-done, adding-found}
use Rattle.tail_merge.proofs.host_tree.HostTree.add.Goals as goal
use Rattle.tail_merge.proofs.host_tree.HostTree.add.Goals.{in-Some, in-None+in_ok-node-in-None}

pub loop-k-init : goal.loop-k-init
loop-k-init c = adding-begun c.args.self.now c.args.run.now c.args.host c.requires.tree

pub loop-k-preserved : goal.loop-k-preserved
loop-k-preserved c =
    let start = c.args.self.now in
    let run = c.args.run.now in
    let host = c.args.host in
    let k = c.loop-k.k in
    elim c.match-child.branch [
      | in-Some w ↦
          subst (λ t. IsAdding start t run host (k + 1) c.match-child.node) (sym w.self-is)
          (subst (λ n. IsAdding start c.loop-k.self run host (k + 1) n) (sym w.node-is)
          (adding-found start c.loop-k.self run host k c.loop-k.node w.in-Some.child _ c.loop-k.invariant c.loop-k-test.true (sym c.child.ensures ∙ w.in-Some.is)))
      | in-None+in_ok-node-in-None w ↦
          subst (λ t. IsAdding start t run host (k + 1) c.match-child.node) (sym w.self-is)
          (subst (λ n. IsAdding start w.add_child.new.self run host (k + 1) n) (sym w.node-is)
          (adding-added start c.loop-k.self w.add_child.new.self run host k c.loop-k.node w.in_ok-node-in-None.node _ c.loop-k.invariant c.loop-k-test.true (sym c.child.ensures ∙ w.in-None.is) w.in_ok-node-in-None.ensures))
    ]

pub returns-clause-tree : goal.returns-clause-tree
returns-clause-tree c = c.loop-k.invariant.tree

pub returns-clause-hosts : goal.returns-clause-hosts
returns-clause-hosts c = adding-done c.args.self.now c.loop-k.self c.args.run.now c.args.host c.loop-k.k c.loop-k.node c.loop-k.invariant (omega (arith, c.loop-k-test.false))
