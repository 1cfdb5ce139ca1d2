use Rattle.std.proofs.Common.{◌∙◌, ap, arith, sym, refl}
use Rattle.frame_match.specs.Read.{slot_accessed}
use Rattle.frame_match.proofs.Seen.{seen_more}
use Rattle.frame_match.proofs.slots.fills.Goals as goal

pub returns-in-None : goal.returns-in-None
returns-in-None c = (
  λ h. absurd cc,
  λ f.
      let w = f.each c.loop-m.m (omega arith) in
      let e = c.in-None.ensures.each w.0 (w.1.0, ap (slot_accessed c.args.which) c.get.ensures ∙ w.1.1) in
      absurd cc,
)

pub loop-m-preserved : goal.loop-m-preserved
loop-m-preserved c =
    let e = ap (slot_accessed c.args.which) c.get.ensures in
    let k = c.in-Some.ensures.known in
    seen_more c.args.which c.args.frame.bytes c.args.frame.left_out c.args.run.now c.args.from c.loop-m.seen c.loop-m.m c.in-Some.j c.loop-m.invariant
    (k.0, sym e ∙ k.1) (λ n i. sym (c.in-Some.ensures.each n (i.0, e ∙ i.1)))

pub returns-then-not-seen-j : goal.returns-then-not-seen-j
returns-then-not-seen-j c = (
  λ h. absurd cc,
  λ f.
      let w = f.all c.loop-j.j (omega arith) in
      let t = c.loop-m.invariant.marked w.0 c.loop-j.j (omega (arith, w.1)) w.2 in
      let u = c.if-not-seen-j.true in
      absurd cc,
)

pub returns : goal.returns
returns c = (
  λ _. record {
    each = λ m h. c.loop-m.invariant.each m (omega arith);
    all = λ j h. let w = c.loop-m.invariant.source j h (c.loop-j.invariant j (omega arith)) in (w.0, omega (arith, w.1), w.2);
  },
  λ _. refl,
)
