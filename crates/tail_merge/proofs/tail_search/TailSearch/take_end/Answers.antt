use Rattle.std.proofs.Common.{◌∙◌, ◌≤◌, ◌+◌, sym, arith, subst}
use Rattle.tail_merge.specs.TailSearch.{AreFoundUpTo}
use Rattle.tail_merge.proofs.SearchLaws.{end-added, end-removed}
use Rattle.tail_merge.proofs.tail_search.TailSearch.take_end.Goals as goal

pub returns-in_ok-push-clause-found : goal.returns-in_ok-push-clause-found
returns-in_ok-push-clause-found c = λ cs same own at found.
    let state = c.requires.state in
    let items = c.args.items.now in
    let best = c.deepest-found.result in
    let few : best.count ≤ c.args.end + 1 = omega arith in
    subst (AreFoundUpTo cs (c.args.end + 1) c.args.self.now.tree) (sym c.in_ok-push.ensures.items)
    (end-removed items cs same own c.args.end state.inside at c.args.self.now.tree c.args.self.now.removed.items found best c.args.self.now.block state.block_low state.tail_is few c.deepest-found.ensures.deepest (sym c.is_long.ensures ∙ c.if-is_long.true))

pub returns-in_ok-add-clause-found : goal.returns-in_ok-add-clause-found
returns-in_ok-add-clause-found c = λ cs same own at found.
    let state = c.requires.state in
    let items = c.args.items.now in
    let best = c.deepest-found.result in
    let few : best.count ≤ c.args.end + 1 = omega arith in
    end-added items cs same own c.args.end state.inside at c.args.self.now.tree c.args.self.now.removed.items found best c.args.self.now.block state.block_low state.tail_is few c.deepest-found.ensures.deepest
    c.args.self.now.run state.run_low state.run_is (sym c.is_long.ensures ∙ c.if-is_long.false) c.add.new.self c.in_ok-add.ensures.hosts
