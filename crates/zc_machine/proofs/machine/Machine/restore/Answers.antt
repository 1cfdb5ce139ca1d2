use Rattle.std.proofs.Common.{ap, ◌∙◌}
use Rattle.rv_decode.specs.State.{ZcCore}
use Rattle.zc_decode.specs.Accesses.{words_below}
use Rattle.zc_machine.proofs.FrameLaws.{commits-restored, commits-restored_if}
use Rattle.zc_machine.proofs.machine.Machine.restore.Goals as goal

pub returns-then-restore_together-clause-commits : goal.returns-then-restore_together-clause-commits
returns-then-restore_together-clause-commits c = commits-restored_if c.restore_together.result (words_below c.args.top c.args.registers.now) c.restore_together.new.self c.args.self.now c.restore_together.ensures.after

pub returns-then-is_none-clause-commits : goal.returns-then-is_none-clause-commits
returns-then-is_none-clause-commits c =
    let words = words_below c.args.top c.args.registers.now in
    ap (λ (y : ZcCore). y.commits) c.restore_each.ensures
    ∙ commits-restored words c.restore_together.new.self
    ∙ commits-restored_if c.restore_together.result words c.restore_together.new.self c.args.self.now c.restore_together.ensures.after
