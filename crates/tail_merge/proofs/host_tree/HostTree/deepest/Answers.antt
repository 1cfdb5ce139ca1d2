use Rattle.std.proofs.Common.{arith, sym, ap, ◌∙◌, drop, length, ◌-◌, subst}
use Rattle.std.proofs.lemmas.Grind.{get_or_default_zero}
use Rattle.tail_merge.specs.HostTree.{IsDeepest, child_in, words_node, item_words}
use Rattle.tail_merge.proofs.TreeLaws.{deepest-all, deepest-none, found-index, node-more, no-words, words-step}
use Rattle.tail_merge.proofs.host_tree.HostTree.deepest.Goals as goal

pub loop-k-init : goal.loop-k-init
loop-k-init c = ap (words_node (child_in c.args.self.now.children)) (no-words c.args.tail.now (length c.args.tail.now - 0) (omega arith))

pub index-requires : goal.index-requires
index-requires c = let low = found-index c.args.self.now c.requires.tree (drop (length c.args.tail.now - c.loop-k.k) (item_words c.args.tail.now)) c.loop-k.node c.loop-k.invariant in omega (arith, low)

pub returns-in-None-clause-deepest : goal.returns-in-None-clause-deepest
returns-in-None-clause-deepest c = λ hosts holds.
    let low = found-index c.args.self.now c.requires.tree (drop (length c.args.tail.now - c.loop-k.k) (item_words c.args.tail.now)) c.loop-k.node c.loop-k.invariant in
    let host = c.index.ensures ∙ get_or_default_zero c.args.self.now.hosts.items c.loop-k.node c.index.result.now low in
    subst (λ h. IsDeepest hosts (item_words c.args.tail.now) (record { host = h; count = c.loop-k.k })) (sym host)
    (deepest-none c.args.self.now c.args.tail.now c.loop-k.k c.loop-k.node _ c.loop-k.invariant c.loop-k-test.true (sym c.child.ensures ∙ c.in-None.is) hosts holds)

pub loop-k-preserved : goal.loop-k-preserved
loop-k-preserved c =
    ap (words_node (child_in c.args.self.now.children)) (words-step c.args.tail.now c.loop-k.k _ c.loop-k-test.true)
    ∙ node-more (child_in c.args.self.now.children) c.loop-k.node _ (drop (length c.args.tail.now - c.loop-k.k) (item_words c.args.tail.now)) _ c.loop-k.invariant (sym c.child.ensures ∙ c.in-Some.is)

pub index-requires-2 : goal.index-requires-2
index-requires-2 c = let low = found-index c.args.self.now c.requires.tree (drop (length c.args.tail.now - c.loop-k.k) (item_words c.args.tail.now)) c.loop-k.node c.loop-k.invariant in omega (arith, low)

pub returns-clause-deepest : goal.returns-clause-deepest
returns-clause-deepest c = λ hosts holds.
    let low = found-index c.args.self.now c.requires.tree (drop (length c.args.tail.now - c.loop-k.k) (item_words c.args.tail.now)) c.loop-k.node c.loop-k.invariant in
    let host = c.index-2.ensures ∙ get_or_default_zero c.args.self.now.hosts.items c.loop-k.node c.index-2.result.now low in
    subst (λ h. IsDeepest hosts (item_words c.args.tail.now) (record { host = h; count = length c.args.tail.now })) (sym host)
    (deepest-all c.args.self.now c.args.tail.now c.loop-k.k c.loop-k.node c.loop-k.invariant c.loop-k-test.false hosts holds)
