use Rattle.std.proofs.Common.{refl}
use Rattle.interrupt_plan.specs.Plan.{Entry}
use Rattle.zc_machine.proofs.ScheduleLaws.{in_order_mapped, timed_entry}
use Rattle.zc_machine.proofs.plan_schedule.PlanSchedule.count.Goals as goal

pub returns-clause-in_order : goal.returns-clause-in_order
returns-clause-in_order c = in_order_mapped timed_entry (λ (e : Entry). e.at) c.args.self.now (λ e. refl) c.cut_count.ensures.in_order
