use Rattle.std.proofs.Common.{◌-◌, ◌*◌, ℕ, List, length, slice_index, ap, ◌∙◌, arith}
use Rattle.std.proofs.lemmas.Bool.{le-leb}
use Rattle.zc_machine.proofs.FrameLaws.{free_at, restored_at, zero_taken}
use Rattle.zc_machine.proofs.machine.Machine.restore_together.Goals as goal

pub invariant_of-self : goal.invariant_of-self
invariant_of-self c =
    ap (λ (regs : List ℕ). slice_index regs 0) c.take_words.ensures
    ∙ zero_taken c.args.registers.now (4 * length c.args.registers.now) c.reach-cells.result.now c.self.inside.regs c.requires.known
    ∙ c.self.invariant

pub returns-clause-why : goal.returns-clause-why
returns-clause-why c = λ _.
    let end = 4 * length c.args.registers.now in
    free_at c.args.registers.now (c.args.top - end) end c.args.top _ c.args.self.now (omega arith) (omega arith) (omega arith) (omega arith) c.self.view_is
    (λ some. c.reach-cells.ensures.lies end some (omega (arith, c.reach-cells.ensures.within)) ∙ le-leb end (length c.reach-cells.result.now) (omega arith))

pub returns-clause-after : goal.returns-clause-after
returns-clause-after c =
    let end = 4 * length c.args.registers.now in
    restored_at c.args.registers.now (c.args.top - end) end c.args.top c.reach-cells.result.now c.take_words.new.regs _ c.args.self.now (omega arith) (omega arith) (omega arith) (omega arith) c.requires.known c.reach-cells.ensures c.self.view_is c.take_words.ensures
