use Rattle.std.proofs.Common.{Bool, List, true, cond, ◌≡◌, [], ◌∷◌, ◌++◌, length, map, ap, inr, sym, ◌∙◌, length-append, arith}
use Rattle.std.specs.Option.{option_map}
use Rattle.std.proofs.lemmas.Bool.{cond-true}
use Rattle.std.proofs.lemmas.List.{map-append}
use Rattle.interrupt_plan.proofs.EntryLaws.{step_bad, step_late, step_more}
use Rattle.interrupt_plan.proofs.read_lines.read_lines.Goals as goal

-- a push that was made
made : {K : Type 0} (cuts new : List K) (cut : K) (pushed : Bool) → new ≡ cond pushed (cuts ++ cut ∷ []) cuts → pushed ≡ true → new ≡ cuts ++ cut ∷ []
made cuts new cut pushed is done = is ∙ cond-true pushed (cuts ++ cut ∷ []) cuts done

pub returns-in_default-2-clause-err : goal.returns-in_default-2-clause-err
returns-in_default-2-clause-err g c =
    inr (c.loop-rest.invariant.so_far
    ∙ step_bad g.K.FromLine.grammar (map g.K.FromLine.entry c.loop-rest.cuts.items) c.loop-rest.number c.loop-rest.low c.loop-rest.rest.now c.in-Some.line.now c.in-Some.behind.now c.in-Some.ensures.lines (sym c.in_ok-cut.ensures ∙ ap (option_map g.K.FromLine.entry) c.in_default-2.is))

pub returns-then-at-low-clause-err : goal.returns-then-at-low-clause-err
returns-then-at-low-clause-err g c =
    inr (c.loop-rest.invariant.so_far
    ∙ step_late g.K.FromLine.grammar (map g.K.FromLine.entry c.loop-rest.cuts.items) c.loop-rest.number c.loop-rest.low c.loop-rest.rest.now c.in-Some.line.now c.in-Some.behind.now c.in-Some.ensures.lines (g.K.FromLine.entry c.in-Some-2.cut) (sym c.in_ok-cut.ensures ∙ ap (option_map g.K.FromLine.entry) c.in-Some-2.is) (omega (arith, c.commit-at.ensures, c.if-at-low.true)))

pub loop-rest-preserved : goal.loop-rest-preserved
loop-rest-preserved g c =
    let cuts = c.loop-rest.cuts.items in
    let es = map g.K.FromLine.entry cuts in
    let cut = c.in-Some-2.cut in
    let e = g.K.FromLine.entry cut in
    let pushed : c.push.new.self.items ≡ cuts ++ (cut ∷ []) = made cuts c.push.new.self.items cut _ c.push.ensures.items c.if-is_err.ensures.negation in
    let more : map g.K.FromLine.entry c.push.new.self.items ≡ es ++ (e ∷ []) = ap (map g.K.FromLine.entry) pushed ∙ map-append g.K.FromLine.entry cuts (cut ∷ []) in
    let size = ap length pushed in
    let one = length-append cuts (cut ∷ []) in
    let line = ap length c.in-Some.ensures.whole in
    let parts = length-append c.in-Some.line.now (10 ∷ c.in-Some.behind.now) in
    record {
      so_far = c.loop-rest.invariant.so_far
          ∙ step_more g.K.FromLine.grammar es c.loop-rest.number c.loop-rest.low c.loop-rest.rest.now c.in-Some.line.now c.in-Some.behind.now c.in-Some.ensures.lines e c.commit-at.result (map g.K.FromLine.entry c.push.new.self.items) (sym c.in_ok-cut.ensures ∙ ap (option_map g.K.FromLine.entry) c.in-Some-2.is) (sym c.commit-at.ensures) c.if-at-low.false more;
      count = omega (arith, size, one, c.loop-rest.invariant.count);
      room = omega (arith, size, one, line, parts, c.loop-rest.invariant.room);
    }
