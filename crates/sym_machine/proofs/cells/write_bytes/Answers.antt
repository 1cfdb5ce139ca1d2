use Rattle.std.proofs.Common.{◌+◌, ◌<◌, length, get_or, sym, ◌∙◌, refl, arith, length-set}
use Rattle.std.specs.Prelude.{slice_index}
use Rattle.sym_machine.proofs.WrittenLaws.{set_more, written_none}
use Rattle.sym_machine.proofs.cells.write_bytes.Goals as goal

pub loop-k-init : goal.loop-k-init
loop-k-init c = (refl, λ j d lt. sym (written_none c.args.start (λ i. slice_index c.args.bytes.now i) j (get_or c.args.held.now j d)))

pub loop-k-preserved : goal.loop-k-preserved
loop-k-preserved c =
    let k = c.loop-k.k in
    let few : k < length c.args.bytes.now = c.loop-k-test.true in
    let inside : c.args.start + k < length c.loop-k.held = omega (arith, few, c.loop-k.invariant.0, c.requires) in (
      length-set c.loop-k.held (c.args.start + k) (get_or c.args.bytes.now k 0) ∙ c.loop-k.invariant.0,
      set_more c.args.start k (λ i. slice_index c.args.bytes.now i) (get_or c.args.bytes.now k 0) c.args.held.now c.loop-k.held refl inside c.loop-k.invariant.0 c.loop-k.invariant.1,
    )
