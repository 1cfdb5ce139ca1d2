use Rattle.std.proofs.Common.{[], Some, Ok, subst, sym}
use Rattle.psabi_sym.specs.Inputs.{parsed}
use Rattle.block_cut.specs.declared.item.Item.{Item}
use Rattle.sym_machine.specs.Answer.{Makes}
use Rattle.sym_machine.specs.Objects.{program_of}
use Rattle.sym_machine.specs.Step.{item_step}
use Rattle.sym_machine.proofs.state.State.step_item.Goals as goal

pub returns-in-RawShort : goal.returns-in-RawShort
returns-in-RawShort c =
    let p = program_of (parsed c.args.cut.now) in
    let s = c.args.self.now in
    subst (λ (i : Item). Makes (Ok c.step_short.result) (item_step [] s.map p (Some i) s.core c.args.next) s.core c.step_short.new.self.core) (sym c.in-RawShort.is) (c.step_short.ensures p)
