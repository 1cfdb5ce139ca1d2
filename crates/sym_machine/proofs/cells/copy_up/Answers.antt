use Rattle.std.proofs.Common.{◌+◌, ◌<◌, length, get_or, sym, ◌∙◌, refl, arith, length-set}
use Rattle.std.specs.Prelude.{slice_index_or}
use Rattle.std.proofs.lemmas.List.{get_or_default}
use Rattle.sym_machine.specs.declared.word.SymByte.TheVariants.{Num, Undef}
use Rattle.sym_machine.proofs.WrittenLaws.{set_more, written_none}
use Rattle.sym_machine.proofs.cells.copy_up.Goals as goal

pub loop-k-init : goal.loop-k-init
loop-k-init c = (refl, λ j d lt. sym (written_none c.args.start (λ i. slice_index_or c.args.given.now i Undef) j (get_or c.args.cells.now j d)))

pub loop-k-preserved : goal.loop-k-preserved
loop-k-preserved c =
    let k = c.loop-k.k in
    let few : k < length c.args.given.now = c.loop-k-test.true in
    let inside : c.args.start + k < length c.loop-k.cells = omega (arith, few, c.loop-k.invariant.0, c.requires) in (
      length-set c.loop-k.cells (c.args.start + k) (get_or c.args.given.now k (Num 0)) ∙ c.loop-k.invariant.0,
      set_more c.args.start k (λ i. slice_index_or c.args.given.now i Undef) (get_or c.args.given.now k (Num 0)) c.args.cells.now c.loop-k.cells (get_or_default c.args.given.now k (Num 0) Undef few) inside c.loop-k.invariant.0 c.loop-k.invariant.1,
    )
