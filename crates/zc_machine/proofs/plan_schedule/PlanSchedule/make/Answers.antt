use Rattle.std.proofs.Common.{ap, ◌∙◌}
use Rattle.rv_decode.specs.State.{ZcCore}
use Rattle.zc_machine.proofs.CutLaws.{cut_keeps}
use Rattle.zc_machine.proofs.plan_schedule.PlanSchedule.make.Goals as goal

pub returns-clause-commits : goal.returns-clause-commits
returns-clause-commits c = ap (λ (z : ZcCore). z.commits) c.cut-2.ensures ∙ (cut_keeps (record { done = c.as_slice.result.now; dirt = c.as_slice-2.result.now }) c.args.machine.now).commits

pub returns-clause-exit : goal.returns-clause-exit
returns-clause-exit c = ap (λ (z : ZcCore). z.exit) c.cut-2.ensures ∙ (cut_keeps (record { done = c.as_slice.result.now; dirt = c.as_slice-2.result.now }) c.args.machine.now).exit
