use Rattle.std.proofs.Common.{ap, ◌∙◌}
use Rattle.rv_decode.specs.State.{ZcCore}
use Rattle.zc_decode.specs.Accesses.{words_below}
use Rattle.zc_machine.proofs.FrameLaws.{commits-saved, commits-saved_if}
use Rattle.zc_machine.proofs.machine.Machine.save.Goals as goal

pub returns-then-save_together-clause-commits : goal.returns-then-save_together-clause-commits
returns-then-save_together-clause-commits c = commits-saved_if c.save_together.result (words_below c.args.top c.args.registers.now) c.save_together.new.self c.args.self.now c.save_together.ensures.after

pub returns-then-is_none-clause-commits : goal.returns-then-is_none-clause-commits
returns-then-is_none-clause-commits c =
    let words = words_below c.args.top c.args.registers.now in
    ap (λ (y : ZcCore). y.commits) c.save_each.ensures
    ∙ commits-saved words c.save_together.new.self
    ∙ commits-saved_if c.save_together.result words c.save_together.new.self c.args.self.now c.save_together.ensures.after
