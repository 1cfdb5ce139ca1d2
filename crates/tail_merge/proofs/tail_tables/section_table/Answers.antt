use Rattle.std.proofs.Common.{◌+◌, arith, subst, sym}
use Rattle.psabi_sym.specs.Inputs.{parsed}
use Rattle.tail_merge.proofs.TailTableLaws.{IsTableSoFar, fit-of, turn-of}
use Rattle.tail_merge.proofs.tail_tables.section_table.Goals as goal

pub entry-entry-requires-clause-end : goal.entry-entry-requires-clause-end
entry-entry-requires-clause-end c =
    (fit-of c.args.cut.now c.recall_invariant.ensures.gathered c.args.section c.requires.section c.args.list.now c.requires.removed c.places-places.result.now c.places-places.ensures c.loop-tail.tail-index (omega (arith, c.loop-tail-test.true, c.loop-tail.auto.tail-index-end)) c.loop-tail.table.items c.loop-tail.saved c.loop-tail.invariant (record { end = 0; host = 0; count = 0 })).end

pub entry-entry-requires-clause-few : goal.entry-entry-requires-clause-few
entry-entry-requires-clause-few c =
    (fit-of c.args.cut.now c.recall_invariant.ensures.gathered c.args.section c.requires.section c.args.list.now c.requires.removed c.places-places.result.now c.places-places.ensures c.loop-tail.tail-index (omega (arith, c.loop-tail-test.true, c.loop-tail.auto.tail-index-end)) c.loop-tail.table.items c.loop-tail.saved c.loop-tail.invariant (record { end = 0; host = 0; count = 0 })).few

pub entry-entry-requires-clause-host : goal.entry-entry-requires-clause-host
entry-entry-requires-clause-host c =
    (fit-of c.args.cut.now c.recall_invariant.ensures.gathered c.args.section c.requires.section c.args.list.now c.requires.removed c.places-places.result.now c.places-places.ensures c.loop-tail.tail-index (omega (arith, c.loop-tail-test.true, c.loop-tail.auto.tail-index-end)) c.loop-tail.table.items c.loop-tail.saved c.loop-tail.invariant (record { end = 0; host = 0; count = 0 })).host

pub entry-entry-requires-clause-some : goal.entry-entry-requires-clause-some
entry-entry-requires-clause-some c =
    (fit-of c.args.cut.now c.recall_invariant.ensures.gathered c.args.section c.requires.section c.args.list.now c.requires.removed c.places-places.result.now c.places-places.ensures c.loop-tail.tail-index (omega (arith, c.loop-tail-test.true, c.loop-tail.auto.tail-index-end)) c.loop-tail.table.items c.loop-tail.saved c.loop-tail.invariant (record { end = 0; host = 0; count = 0 })).some

pub entry-entry-requires-clause-count : goal.entry-entry-requires-clause-count
entry-entry-requires-clause-count c =
    (fit-of c.args.cut.now c.recall_invariant.ensures.gathered c.args.section c.requires.section c.args.list.now c.requires.removed c.places-places.result.now c.places-places.ensures c.loop-tail.tail-index (omega (arith, c.loop-tail-test.true, c.loop-tail.auto.tail-index-end)) c.loop-tail.table.items c.loop-tail.saved c.loop-tail.invariant (record { end = 0; host = 0; count = 0 })).count

pub entry-entry-requires-clause-long : goal.entry-entry-requires-clause-long
entry-entry-requires-clause-long c =
    (fit-of c.args.cut.now c.recall_invariant.ensures.gathered c.args.section c.requires.section c.args.list.now c.requires.removed c.places-places.result.now c.places-places.ensures c.loop-tail.tail-index (omega (arith, c.loop-tail-test.true, c.loop-tail.auto.tail-index-end)) c.loop-tail.table.items c.loop-tail.saved c.loop-tail.invariant (record { end = 0; host = 0; count = 0 })).long

pub entry-entry-requires-clause-saved : goal.entry-entry-requires-clause-saved
entry-entry-requires-clause-saved c =
    (fit-of c.args.cut.now c.recall_invariant.ensures.gathered c.args.section c.requires.section c.args.list.now c.requires.removed c.places-places.result.now c.places-places.ensures c.loop-tail.tail-index (omega (arith, c.loop-tail-test.true, c.loop-tail.auto.tail-index-end)) c.loop-tail.table.items c.loop-tail.saved c.loop-tail.invariant (record { end = 0; host = 0; count = 0 })).saved_low

pub loop-tail-preserved : goal.loop-tail-preserved
loop-tail-preserved c = λ m at.
    subst (λ items. IsTableSoFar (parsed c.args.cut.now) m c.args.list.now (c.loop-tail.tail-index + 1) items c.entry-entry.result.saved) (sym c.in_ok-push.ensures.items)
    (turn-of c.args.cut.now c.recall_invariant.ensures.gathered c.args.section c.requires.section c.args.list.now c.requires.removed c.places-places.result.now c.places-places.ensures c.loop-tail.tail-index (omega (arith, c.loop-tail-test.true, c.loop-tail.auto.tail-index-end)) c.loop-tail.table.items c.loop-tail.saved c.loop-tail.invariant (record { end = 0; host = 0; count = 0 }) c.entry-entry.result c.entry-entry.ensures m at)
