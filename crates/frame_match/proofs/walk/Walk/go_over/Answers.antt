use Rattle.std.proofs.Common.{arith, ◌∙◌, ap, subst, sym}
use Rattle.std.proofs.lemmas.List.{drop-drop, take_rest}
use Rattle.psabi_sym.specs.Inputs.{parsed}
use Rattle.frame_match.specs.Invariants.Marks.{groups_after, marks_after, WalksOn}
use Rattle.frame_match.specs.Invariants.Runs.{spots_of}
use Rattle.frame_match.proofs.walk.Walk.go_over.Goals as goal

pub loop-k-preserved : goal.loop-k-preserved
loop-k-preserved c =
    let inputs = parsed c.args.cut.now in
    let l = c.args.section.now in
    let ps = c.args.places.now in
    let k = c.loop-k.k in
    let new = c.next.new.self in
    let on = subst (λ qs. WalksOn inputs l qs c.loop-k.self new) (take_rest ps k) c.in_ok-next.ensures.on in
    let rest = drop-drop 1 k ps in
    record {
      marks = ap (λ qs. marks_after new (spots_of inputs l qs)) (sym rest) ∙ on.marks ∙ c.loop-k.invariant.marks;
      groups = ap (λ qs. groups_after new (spots_of inputs l qs)) (sym rest) ∙ on.groups ∙ c.loop-k.invariant.groups;
      few = omega (arith, c.in_ok-next.ensures.few, c.loop-k.invariant.few);
    }
