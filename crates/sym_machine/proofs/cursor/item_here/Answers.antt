use Rattle.std.proofs.Common.{◌≡◌, ◌+◌, ◌∙◌, Some, sym, ap, arith}
use Rattle.psabi_sym.specs.Inputs.{parsed}
use Rattle.block_cut.specs.Items.{item_at}
use Rattle.block_cut.proofs.FaultLaws.{faultless}
use Rattle.block_cut.proofs.SizeLaws.{item_sized}
use Rattle.sym_machine.specs.Objects.{program_of}
use Rattle.sym_machine.proofs.cursor.item_here.Goals as goal

pub overflow_add-next : goal.overflow_add-next
overflow_add-next c =
    let inputs = c.args.cut.now in
    let q = c.args.p in
    let none = (faultless inputs c.recall_invariant.ensures.faultless).gathered in
    let there = c.requires in
    let here : item_at (parsed inputs) q ≡ Some c.in-Some.item = sym (ap (λ w. w.item) there) ∙ c.in-Some.is in
    omega (arith, (item_sized inputs none q c.in-Some.item here).inside, c.from.ensures, ap (λ w. w.size) there)

pub returns-clause-item : goal.returns-clause-item
unfolding program_of
returns-clause-item c = sym (ap (λ w. w.item) (c.requires)) ∙ c.in-Some.is

pub returns-clause-next : goal.returns-clause-next
unfolding program_of
returns-clause-next c =
    let q = c.args.p in
    let there = c.requires in
    λ j. record { object = q.object; section = q.section; offset = q.offset + sym (c.from.ensures ∙ ap (λ w. w.size) there) j }
