use Rattle.std.proofs.Common.{◌≡◌, ◌∙◌, ◌-◌, Some, sym, ap, arith, subst}
use Rattle.std.proofs.lemmas.Bool.{both_ways}
use Rattle.std.proofs.lemmas.Option.{none-some}
use Rattle.frame_match.specs.declared.pops.Tail.{Tail}
use Rattle.frame_match.specs.declared.slot.Access.TheVariants.{Restores}
use Rattle.frame_match.specs.Invariants.Kinds.{IsFramed, IsPop}
use Rattle.frame_match.proofs.PopLaws.{found_best, pop_beats, pop_made, told, told_found, told_tail}
use Rattle.frame_match.proofs.pops.pop.Goals as goal
use Rattle.frame_match.proofs.pops.pop.Goals.{then-count-eq0-via-then-count-eq0, then-count-eq0-via-else-count-eq0+then-count-eq12, then-count-eq0-via-else-count-eq0+else-count-eq12+then-count-eq14}

pub returns-then-count-eq0-clause-each : goal.returns-then-count-eq0-clause-each
returns-then-count-eq0-clause-each c g p =
    let l = c.loads-count in
    let t = told c.args.run.now c.get.result c.is_zero-zeroed.result c.first_load-from.result l.result c.get.ensures c.is_zero-zeroed.ensures c.first_load-from.ensures l.ensures.loads l.ensures.stops in
    let x = told_found c.args.run.now g c.is_zero-zeroed.result c.first_load-from.result l.result t p in
    let s = x.size in
    let m = x.known.small in
    let k = x.known.other in
    elim c.then-count-eq0.branch [
      | then-count-eq0-via-then-count-eq0 w ↦ absurd (omega (arith, w.if-count-eq0.true))
      | then-count-eq0-via-else-count-eq0+then-count-eq12 w ↦ absurd (k (omega (arith, s, w.if-count-eq12.true)))
      | then-count-eq0-via-else-count-eq0+else-count-eq12+then-count-eq14 w ↦ absurd (omega (arith, w.if-count-eq14.true))
    ]

pub returns-in_err-tail-clause-each : goal.returns-in_err-tail-clause-each
returns-in_err-tail-clause-each c g p =
    let run = c.args.run.now in
    let l = c.loads-count in
    let t = told run c.get.result c.is_zero-zeroed.result c.first_load-from.result l.result c.get.ensures c.is_zero-zeroed.ensures c.first_load-from.ensures l.ensures.loads l.ensures.stops in
    let x = told_found run g c.is_zero-zeroed.result c.first_load-from.result l.result t p in
    let none = c.in_err-tail.ensures ∙ told_tail run c.is_zero-zeroed.result c.first_load-from.result l.result c.from.result t c.from.ensures in
    absurd (none-some _ (none ∙ (found_best run g l.result x).is))

pub returns-then-is_framed-clause-known : goal.returns-then-is_framed-clause-known
returns-then-is_framed-clause-known c =
    let run = c.args.run.now in
    let l = c.loads-count in
    let few = l.ensures.few in
    let a = c.if-count-eq0.false in
    let b = c.if-count-eq12.false in
    let d = c.if-count-eq14.false in
    let t = told run c.get.result c.is_zero-zeroed.result c.first_load-from.result l.result c.get.ensures c.is_zero-zeroed.ensures c.first_load-from.ensures l.ensures.loads l.ensures.stops in
    let is = c.in_ok-tail.ensures ∙ told_tail run c.is_zero-zeroed.result c.first_load-from.result l.result c.from.result t c.from.ensures in
    let framed = subst (λ n. IsFramed Restores c.in_ok-tail.tail.bytes (13 - l.result) run n) t.from_is (c.is_framed.ensures.0 c.if-is_framed.true) in
    subst (IsPop run) (sym c.popped.ensures)
    (pop_made run l.result (13 - l.result) c.in_ok-tail.tail (record { small = omega (arith, a); other = λ e. omega (arith, b, e) }) (omega (arith, few, d)) is framed)

pub returns-then-is_framed-clause-each : goal.returns-then-is_framed-clause-each
returns-then-is_framed-clause-each c g p =
    let run = c.args.run.now in
    let l = c.loads-count in
    let few = l.ensures.few in
    let d = c.if-count-eq14.false in
    let t = told run c.get.result c.is_zero-zeroed.result c.first_load-from.result l.result c.get.ensures c.is_zero-zeroed.ensures c.first_load-from.ensures l.ensures.loads l.ensures.stops in
    let x = told_found run g c.is_zero-zeroed.result c.first_load-from.result l.result t p in
    let is = c.in_ok-tail.ensures ∙ told_tail run c.is_zero-zeroed.result c.first_load-from.result l.result c.from.result t c.from.ensures in
    pop_beats run g l.result (13 - l.result) c.in_ok-tail.tail c.popped.result x (omega (arith, few, d)) is c.popped.ensures

pub returns-else-is_framed-clause-each : goal.returns-else-is_framed-clause-each
returns-else-is_framed-clause-each c g p =
    let run = c.args.run.now in
    let l = c.loads-count in
    let few = l.ensures.few in
    let d = c.if-count-eq14.false in
    let t = told run c.get.result c.is_zero-zeroed.result c.first_load-from.result l.result c.get.ensures c.is_zero-zeroed.ensures c.first_load-from.ensures l.ensures.loads l.ensures.stops in
    let x = told_found run g c.is_zero-zeroed.result c.first_load-from.result l.result t p in
    let is = c.in_ok-tail.ensures ∙ told_tail run c.is_zero-zeroed.result c.first_load-from.result l.result c.from.result t c.from.ensures in
    let b = found_best run g l.result x in
    let e : Some c.in_ok-tail.tail ≡ Some (record { ending = b.best; bytes = x.bytes }) = is ∙ b.is in
    let same : c.in_ok-tail.tail ≡ record { ending = b.best; bytes = x.bytes } = cc in
    let bytes : x.bytes ≡ c.in_ok-tail.tail.bytes = sym (ap (λ (u : Tail). u.bytes) same) in
    let size = x.size in
    let out : x.left_out ≡ 13 - l.result = omega (arith, size) in
    let framed = subst (λ n. IsFramed Restores c.in_ok-tail.tail.bytes n run c.first_load-from.result) out
    (subst (λ f. IsFramed Restores f x.left_out run c.first_load-from.result) bytes (subst (λ n. IsFramed Restores x.bytes x.left_out run n) (sym t.from_is) x.framed)) in
    absurd (both_ways _ c.if-is_framed.false (c.is_framed.ensures.1 framed))
