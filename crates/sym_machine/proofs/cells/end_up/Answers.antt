use Rattle.std.proofs.Common.{◌+◌, ◌<◌, false, length, get_or, sym, ◌∙◌, refl, arith, length-set}
use Rattle.sym_machine.proofs.WrittenLaws.{set_more, written_none}
use Rattle.sym_machine.proofs.cells.end_up.Goals as goal

pub loop-k-init : goal.loop-k-init
loop-k-init c = (refl, λ j d lt. sym (written_none c.args.start (λ _. false) j (get_or c.args.live.now j d)))

pub loop-k-preserved : goal.loop-k-preserved
loop-k-preserved c =
    let k = c.loop-k.k in
    let few : k < c.args.count = c.loop-k-test.true in
    let inside : c.args.start + k < length c.loop-k.live = omega (arith, few, c.loop-k.invariant.0, c.requires) in (
      length-set c.loop-k.live (c.args.start + k) false ∙ c.loop-k.invariant.0,
      set_more c.args.start k (λ _. false) false c.args.live.now c.loop-k.live refl inside c.loop-k.invariant.0 c.loop-k.invariant.1,
    )
