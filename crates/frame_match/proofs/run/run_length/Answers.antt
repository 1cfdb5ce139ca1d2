use Rattle.std.proofs.Common.{◌≡◌, ◌∙◌, Some, length, true, false, arith, sym, ap, refl, subst, ⊎_elim}
use Rattle.std.specs.Prelude.{◌==◌}
use Rattle.std.specs.List.{slice_get}
use Rattle.std.specs.Option.{is_some}
use Rattle.std.proofs.lemmas.Bool.{cases_eq}
use Rattle.std.proofs.lemmas.Option.{same_Some, slice_get_read, slice_get_within}
use Rattle.psabi_sym.specs.Inputs.{parsed}
use Rattle.block_cut.specs.declared.code_place.CodePlace.{CodePlace}
use Rattle.frame_match.specs.Groups.{spot_on}
use Rattle.frame_match.specs.Invariants.Runs.{joins, op_in}
use Rattle.frame_match.proofs.RunLaws.{joined_ops, joined_run}
use Rattle.frame_match.proofs.run.run_length.Goals as goal

pub returns-then-not-joins-clause-ops : goal.returns-then-not-joins-clause-ops
returns-then-not-joins-clause-ops c =
    joined_ops (parsed c.args.cut.now) c.args.section.now c.args.places.now c.loop-n.n c.loop-n.invariant

pub returns-then-not-joins-clause-run : goal.returns-then-not-joins-clause-run
returns-then-not-joins-clause-run c =
    let ps = c.args.places.now in
    let n = c.loop-n.n in
    let read : slice_get ps n ≡ Some c.index-places-n.result = slice_get_read ps (length ps) n c.index-places-n.result refl (omega arith) c.index-places-n.is in
    let stops = sym c.joins.ensures.joins ∙ c.if-not-joins.true in
    joined_run (parsed c.args.cut.now) c.args.section.now ps n (omega arith) (omega arith) c.loop-n.invariant
    (λ p lt g. subst (λ (q : CodePlace). joins (n == 0) (spot_on (parsed c.args.cut.now) c.args.section.now q.offset) ≡ false) (same_Some _ _ (sym read ∙ g)) stops)

pub loop-n-preserved : goal.loop-n-preserved
loop-n-preserved c k p lt g =
    let ps = c.args.places.now in
    let n = c.loop-n.n in
    let read : slice_get ps n ≡ Some c.index-places-n.result = slice_get_read ps (length ps) n c.index-places-n.result refl (omega arith) c.index-places-n.is in
    let joined = c.if-not-joins.false in
    ⊎_elim
    (λ (e : k ≡ n).
    let same : c.index-places-n.result ≡ p = same_Some _ _ (sym read ∙ ap (slice_get ps) (sym e) ∙ g) in
    subst (λ m. (is_some (op_in p) ≡ true) × (joins (m == 0) (spot_on (parsed c.args.cut.now) c.args.section.now p.offset) ≡ true)) (sym e)
    (subst (λ (q : CodePlace). (is_some (op_in q) ≡ true) × (joins (n == 0) (spot_on (parsed c.args.cut.now) c.args.section.now q.offset) ≡ true)) same (c.joins.ensures.op joined, sym c.joins.ensures.joins ∙ joined)))
    (λ (ne : k ≡ n → ⊥). c.loop-n.invariant k p (omega (arith, lt, ne)) g)
    (cases_eq k n)

pub returns-clause-ops : goal.returns-clause-ops
returns-clause-ops c =
    joined_ops (parsed c.args.cut.now) c.args.section.now c.args.places.now c.min-limit.result (λ k p lt g. c.loop-n.invariant k p (omega (arith, lt)) g)

pub returns-clause-run : goal.returns-clause-run
returns-clause-run c =
    let ps = c.args.places.now in
    joined_run (parsed c.args.cut.now) c.args.section.now ps c.min-limit.result (omega arith) (omega arith) (λ k p lt g. c.loop-n.invariant k p (omega (arith, lt)) g)
    (λ p lt g. let w = slice_get_within ps c.min-limit.result p g in absurd (omega (arith, w, lt)))
