use Rattle.std.proofs.Common.{◌+◌, ◌<◌, length, get_or, sym, ◌∙◌, refl, arith, length-set}
use Rattle.sym_machine.specs.declared.word.SymByte.TheVariants.{Undef}
use Rattle.sym_machine.proofs.WrittenLaws.{set_more, written_none}
use Rattle.sym_machine.proofs.cells.fill_up.Goals as goal

pub loop-k-init : goal.loop-k-init
loop-k-init c = (refl, λ j d lt. sym (written_none c.args.start (λ _. Undef) j (get_or c.args.cells.now j d)))

pub loop-k-preserved : goal.loop-k-preserved
loop-k-preserved c =
    let k = c.loop-k.k in
    let few : k < c.args.count = c.loop-k-test.true in
    let inside : c.args.start + k < length c.loop-k.cells = omega (arith, few, c.loop-k.invariant.0, c.requires) in (
      length-set c.loop-k.cells (c.args.start + k) (Undef) ∙ c.loop-k.invariant.0,
      set_more c.args.start k (λ _. Undef) (Undef) c.args.cells.now c.loop-k.cells refl inside c.loop-k.invariant.0 c.loop-k.invariant.1,
    )
