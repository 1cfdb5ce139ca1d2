use Rattle.std.proofs.Common.{◌+◌, length, ap, ◌∙◌, arith}
use Rattle.load_maker.specs.Statements.{size_of}
use Rattle.load_maker.proofs.GatherLaws.{call_step, few_so_far, gathers_none, moved, named_end, plain_step, relocs_end, result_step, stays_within}
use Rattle.load_maker.proofs.NamedLaws.{with_few}
use Rattle.load_maker.proofs.sections.relocs_of.Goals as goal
use Rattle.load_maker.proofs.sections.relocs_of.Goals.{in-Plain, in-Call+in_ok-k-in-Call+in_ok-push-in-Call, in-WithAddress+in_ok-push-in-WithAddress}

pub loop-statement-preserved : goal.loop-statement-preserved
loop-statement-preserved c =
    let others = c.args.others in
    let first = c.args.named.now.keys in
    let statements = c.args.statements.now in
    let k = c.loop-statement.statement-index in
    let at = c.loop-statement.at in
    let named = c.loop-statement.named.keys in
    let relocs = c.loop-statement.relocs.items in
    let s = c.statement-item.result in
    elim c.match-statement.branch [
      | in-Plain w ↦
          moved others first statements named _ relocs _ (at + 4) _ _ (ap (λ n. n.keys) w.named-is) (ap (λ v. v.items) w.relocs-is) w.at-is
          (plain_step others first statements named relocs at k s (omega arith) c.statement-item.is c.loop-statement.invariant w.in-Plain.field-0 w.in-Plain.is)
      | in-Call+in_ok-k-in-Call+in_ok-push-in-Call w ↦
          moved others first statements _ _ _ _ (at + 8) _ _ (ap (λ n. n.keys) w.named-is ∙ w.in_ok-k-in-Call.ensures.keys) (ap (λ v. v.items) w.relocs-is ∙ w.in_ok-push-in-Call.ensures.items) w.at-is
          (call_step others first statements named relocs at k s (omega arith) c.statement-item.is c.loop-statement.invariant w.in-Call.function _ w.in-Call.is
          (ap (λ n. 1 + others + n) w.in_ok-k-in-Call.ensures.index))
      | in-WithAddress+in_ok-push-in-WithAddress w ↦
          moved others first statements named _ _ _ (at + 4) _ _ (ap (λ n. n.keys) w.named-is) (ap (λ v. v.items) w.relocs-is ∙ w.in_ok-push-in-WithAddress.ensures.items) w.at-is
          (result_step others first statements named relocs at k s (omega arith) c.statement-item.is c.loop-statement.invariant w.in-WithAddress.kind w.in-WithAddress.field-1 w.in-WithAddress.is)
    ]

pub loop-statement-init : goal.loop-statement-init
loop-statement-init c = gathers_none c.args.others c.args.named.now.keys c.args.statements.now c.new-relocs.result.items c.new-relocs.ensures.items

pub overflow_add-at : goal.overflow_add-at
overflow_add-at c =
    let l = c.loop-statement in
    omega (
      arith,
      stays_within c.args.others c.args.named.now.keys c.args.statements.now l.named.keys l.relocs.items l.at l.statement-index c.statement-item.result c.loop-statement-test.true c.statement-item.is l.invariant,
      ap size_of c.in-Plain.is,
      c.requires.size,
    )

pub overflow_add-others : goal.overflow_add-others
overflow_add-others c = omega (arith, c.requires.symbols)

pub overflow_cast-k : goal.overflow_cast-k
overflow_cast-k c =
    let l = c.loop-statement in
    omega (
      arith,
      few_so_far c.args.others c.args.named.now.keys c.args.statements.now l.named.keys l.relocs.items l.at l.statement-index c.statement-item.result c.loop-statement-test.true c.statement-item.is l.invariant,
      c.in_ok-k-in-Call.ensures.within,
      ap length c.in_ok-k-in-Call.ensures.keys,
      with_few l.named.keys c.in-Call.function,
      c.requires.symbols,
    )

pub overflow_add-others-in-Call : goal.overflow_add-others-in-Call
overflow_add-others-in-Call c =
    let l = c.loop-statement in
    omega (
      arith,
      few_so_far c.args.others c.args.named.now.keys c.args.statements.now l.named.keys l.relocs.items l.at l.statement-index c.statement-item.result c.loop-statement-test.true c.statement-item.is l.invariant,
      c.in_ok-k-in-Call.ensures.within,
      ap length c.in_ok-k-in-Call.ensures.keys,
      with_few l.named.keys c.in-Call.function,
      c.requires.symbols,
    )

pub overflow_add-at-in-Call : goal.overflow_add-at-in-Call
overflow_add-at-in-Call c =
    let l = c.loop-statement in
    omega (
      arith,
      stays_within c.args.others c.args.named.now.keys c.args.statements.now l.named.keys l.relocs.items l.at l.statement-index c.statement-item.result c.loop-statement-test.true c.statement-item.is l.invariant,
      ap size_of c.in-Call.is,
      c.requires.size,
    )

pub overflow_add-at-in-WithAddress : goal.overflow_add-at-in-WithAddress
overflow_add-at-in-WithAddress c =
    let l = c.loop-statement in
    omega (
      arith,
      stays_within c.args.others c.args.named.now.keys c.args.statements.now l.named.keys l.relocs.items l.at l.statement-index c.statement-item.result c.loop-statement-test.true c.statement-item.is l.invariant,
      ap size_of c.in-WithAddress.is,
      c.requires.size,
    )

pub returns-clause-named : goal.returns-clause-named
returns-clause-named c =
    let l = c.loop-statement in
    named_end c.args.others c.args.named.now.keys c.args.statements.now l.named.keys l.relocs.items l.at l.statement-index c.loop-statement-test.false l.invariant

pub returns-clause-relocs : goal.returns-clause-relocs
returns-clause-relocs c =
    let l = c.loop-statement in
    relocs_end c.args.others c.args.named.now.keys c.args.statements.now l.named.keys l.relocs.items l.at l.statement-index c.loop-statement-test.false l.invariant
