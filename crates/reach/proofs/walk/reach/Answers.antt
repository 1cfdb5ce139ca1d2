use Rattle.std.proofs.Common.{rules, refl, sym, ◌∙◌, subst}
use Rattle.reach.specs.Invariants.{Found, is_among}
use Rattle.reach.proofs.WalkLaws.{all-inside, begun, finished, less, no-items, pending-inside, pending-inside-is, turned}
use Rattle.reach.proofs.walk.reach.Goals as goal

pub loop-node-preserved : goal.loop-node-preserved
loop-node-preserved c =
    let w = c.loop-node.walk in
    let edges = pending-inside-is c.args.graph.now c.args.roots.now w c.in-Some.node c.pop.new.self.items c.index-graph-node.result c.loop-node.invariant c.in-Some.ensures.items c.index-graph-node.is ∙ sym c.deref.ensures.value in
    turned c.args.graph.now c.args.roots.now w (record w { pending = c.pop.new.self }) c.find_all-in-Some.new.walk c.in-Some.node c.loop-node.invariant refl c.in-Some.ensures.items
    (subst (λ nodes. Found (is_among nodes) (record w { pending = c.pop.new.self }) c.find_all-in-Some.new.walk) (sym edges) c.in_ok-find_all-2.ensures)

pub loop-node-smaller : goal.loop-node-smaller
loop-node-smaller c =
    let w = c.loop-node.walk in
    let edges = pending-inside-is c.args.graph.now c.args.roots.now w c.in-Some.node c.pop.new.self.items c.index-graph-node.result c.loop-node.invariant c.in-Some.ensures.items c.index-graph-node.is ∙ sym c.deref.ensures.value in
    less c.args.graph.now c.args.roots.now w (record w { pending = c.pop.new.self }) c.find_all-in-Some.new.walk c.in-Some.node refl c.in-Some.ensures.items
    (subst (λ nodes. Found (is_among nodes) (record w { pending = c.pop.new.self }) c.find_all-in-Some.new.walk) (sym edges) c.in_ok-find_all-2.ensures)

pub find_all-requires-in-Some : goal.find_all-requires-in-Some
find_all-requires-in-Some c =
    all-inside c.args.graph.now c.args.roots.now c.loop-node.walk c.in-Some.node c.deref.result.now c.loop-node.invariant c.requires.edges
    (pending-inside-is c.args.graph.now c.args.roots.now c.loop-node.walk c.in-Some.node c.pop.new.self.items c.index-graph-node.result c.loop-node.invariant c.in-Some.ensures.items c.index-graph-node.is ∙ sym c.deref.ensures.value)

pub bounds-graph-node : goal.bounds-graph-node
bounds-graph-node c = pending-inside c.args.graph.now c.args.roots.now c.loop-node.walk c.in-Some.node c.pop.new.self.items c.loop-node.invariant c.in-Some.ensures.items

pub loop-node-init : goal.loop-node-init
loop-node-init c = begun c.args.graph.now c.args.roots.now _ c.find_all.new.walk (c.in_ok-vec.ensures.items_if_clones_equal (λ y e. e)) c.new.ensures.items c.in_ok-find_all.ensures

pub returns : goal.returns
returns c = finished c.args.graph.now c.args.roots.now c.loop-node.walk c.loop-node.invariant (let k = c.loop-node.walk.pending.ok in let z = c.in_default.ensures.cases.0 in no-items c.loop-node.walk.pending.items (search rules))
