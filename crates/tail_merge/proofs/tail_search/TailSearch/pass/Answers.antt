use Rattle.std.proofs.Common.{sym, subst, ◌+◌}
use Rattle.tail_merge.specs.TailSearch.{AreFoundUpTo}
use Rattle.tail_merge.proofs.SearchLaws.{is-end, no-end}
use Rattle.tail_merge.proofs.tail_search.TailSearch.pass.Goals as goal
use Rattle.tail_merge.proofs.tail_search.TailSearch.pass.Goals.{then-item, else-item, then-item-2+in_ok-take_end, else-item-2}

pub returns-clause-found : goal.returns-clause-found
returns-clause-found c = λ cs same own found.
    let items = c.args.items.now in
    let at = c.args.at in
    let before : AreFoundUpTo cs at c.if-item.self.tree c.if-item.self.removed.items =
    elim c.if-item.branch [
      | then-item w ↦ subst (λ s. AreFoundUpTo cs at s.tree s.removed.items) (sym w.self-is) found
      | else-item w ↦ subst (λ s. AreFoundUpTo cs at s.tree s.removed.items) (sym w.self-is) found
    ] in
    elim c.if-item-2.branch [
      | then-item-2+in_ok-take_end w ↦
          subst (λ s. AreFoundUpTo cs (at + 1) s.tree s.removed.items) (sym w.self-is)
          (w.in_ok-take_end.ensures.found cs same own (is-end items cs same at c.requires.inside _ w.if-item-2.true) before)
      | else-item-2 w ↦
          subst (λ s. AreFoundUpTo cs (at + 1) s.tree s.removed.items) (sym w.self-is)
          (no-end items cs same at c.requires.inside _ w.if-item-2.false c.if-item.self.tree c.if-item.self.removed.items before)
    ]
