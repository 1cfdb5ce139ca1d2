use Rattle.std.proofs.Common.{◌≡◌, [], Some, Ok, true, Result, ap, ◌∙◌, subst, sym, arith}
use Rattle.std.specs.declared.alloc.AllocError.{AllocError}
use Rattle.zc_base.specs.declared.place.Place.{Place}
use Rattle.psabi_sym.specs.Inputs.{parsed}
use Rattle.block_cut.specs.declared.item.Item.{Item}
use Rattle.sym_machine.specs.declared.answer.SymStep.{SymStep}
use Rattle.sym_machine.specs.declared.answer.SymStep.TheVariants as answer
use Rattle.sym_machine.specs.Answer.{Makes, RunsOn}
use Rattle.sym_machine.specs.Kept.{Working}
use Rattle.sym_machine.specs.Objects.{program_of}
use Rattle.sym_machine.specs.Program.{Program}
use Rattle.sym_machine.specs.Step.{is_set, item_step}
use Rattle.sym_machine.proofs.RunLaws.{RunsTo-made}
use Rattle.sym_machine.proofs.StepLaws.{set_stays}
use Rattle.sym_machine.proofs.state.State.advance.Goals as goal
use Rattle.sym_machine.proofs.state.State.advance.Goals.{then-not-quick_item+in-Ok-Done+in-Ok-step_item-3+in-Wrote-1, then-not-quick_item+in-Ok-Done+in-Ok-step_item-3+in-Done-1, then-not-quick_item+in-Ok-Done+in-Err-1, else-not-quick_item}

-- the item's step: the quick way changed nothing, and the slow one is done
slow :
    (p : Program) (s t s' : Working) (item : Item) (next : Place) (r : Result SymStep AllocError) (a : SymStep) → t ≡ s
    → Makes r (item_step [] t.map p (Some item) t.core next) t.core s'.core → r ≡ Ok a → a ≡ answer.Done
    → RunsOn (item_step [] s.map p (Some item) s.core next) [] s.core s'.core
slow p s t s' item next r a same made is done =
    subst (λ (w : Working). RunsOn (item_step [] w.map p (Some item) w.core next) [] w.core s'.core) same
    (subst (λ (q : Result SymStep AllocError). Makes q (item_step [] t.map p (Some item) t.core next) t.core s'.core) (is ∙ ap Ok done) made)

pub loop-made-preserved : goal.loop-made-preserved
loop-made-preserved c =
    let p : Program = program_of (parsed c.args.cut.now) in
    let s : Working = c.loop-made.self in
    let item : Item = c.in-Some-item_here.item.now in
    let next : Place = c.in-Some-item_here.next in
    let so_far = c.loop-made.invariant.runs in
    let step = c.place-place.ensures.step p so_far.of (so_far.exit ∙ c.requires.running) c.loop-made.invariant.set in
    let ends : Working → Type 0 = λ s'. RunsOn (item_step [] s.map p (Some item) s.core next) [] s.core s'.core in
    let made : ends c.if-not-quick_item.self =
    elim c.if-not-quick_item.branch [
      | then-not-quick_item+in-Ok-Done+in-Ok-step_item-3+in-Wrote-1 w ↦ subst ends (sym w.self-is)
          (slow p s c.quick_item.new.self w.step_item.new.self item next w.step_item.result w.in-Ok-Done.field-0 w.if-not-quick_item.ensures.same w.step_item.ensures w.in-Ok-Done.is w.in-Ok-Done.field-0-is)
      | then-not-quick_item+in-Ok-Done+in-Ok-step_item-3+in-Done-1 w ↦ subst ends (sym w.self-is)
          (slow p s c.quick_item.new.self w.step_item.new.self item next w.step_item.result w.in-Ok-Done.field-0 w.if-not-quick_item.ensures.same w.step_item.ensures w.in-Ok-Done.is w.in-Ok-Done.field-0-is)
      | then-not-quick_item+in-Ok-Done+in-Err-1 w ↦ subst ends (sym w.self-is)
          (slow p s c.quick_item.new.self w.step_item.new.self item next w.step_item.result w.in-Ok-Done.field-0 w.if-not-quick_item.ensures.same w.step_item.ensures w.in-Ok-Done.is w.in-Ok-Done.field-0-is)
      | else-not-quick_item w ↦ subst ends (sym w.self-is) (w.if-not-quick_item.ensures.made p)
    ] in
    let after = c.if-not-quick_item.self.core in
    let went = step ∙ (λ j. item_step [] s.map p (c.in-Some-item_here.ensures.item j) s.core (c.in-Some-item_here.ensures.next j)) ∙ made.2 in
    record {
      within = omega (arith, c.loop-made-test.true);
      set = set_stays [] p s.core after [] went c.loop-made.invariant.set;
      cursor = c.next-cursor.ensures (parsed c.args.cut.now) c.in-Some-find.ensures.cursor;
      runs = RunsTo-made p s.map c.args.self.now.core s.core c.if-not-quick_item.self.core c.loop-made.made c.place-place.result next item
          step c.in-Some-item_here.ensures.item c.in-Some-item_here.ensures.next made so_far;
    }

pub step_item-requires-clause-stack : goal.step_item-requires-clause-stack
step_item-requires-clause-stack c = λ needs.
    let p : Program = program_of (parsed c.args.cut.now) in
    subst (λ (w : Working). is_set w.map w.core ≡ true) (sym c.if-not-quick_item.ensures.same) (sym (c.place-place.ensures.set p c.loop-made.invariant.runs.of) ∙ c.loop-made.invariant.set)

pub step-requires : goal.step-requires
step-requires c = c.requires.of

pub find-requires : goal.find-requires
find-requires c = c.loop-made.invariant.cursor

pub returns : goal.returns
returns c = record {
  within = c.loop-made.invariant.within;
  advanced = record { last = c.loop-made.self.core; runs = c.loop-made.invariant.runs; makes = c.step-2.ensures };
}
