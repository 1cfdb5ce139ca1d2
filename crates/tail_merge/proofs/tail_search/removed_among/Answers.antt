use Rattle.tail_merge.proofs.tail_search.removed_among.Goals as goal

pub loop-at-init : goal.loop-at-init
loop-at-init c = record { state = c.in_ok-search.ensures.start c.args.items.now; found = λ cs same own. c.in_ok-search.ensures.found cs }
