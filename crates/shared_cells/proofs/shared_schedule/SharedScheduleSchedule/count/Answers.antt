use Rattle.std.proofs.Common.{refl}
use Rattle.interrupt_plan.specs.SharedPlan.{SharedEntry}
use Rattle.zc_machine.proofs.ScheduleLaws.{in_order_mapped}
use Rattle.shared_cells.proofs.SharedLaws.{shared_entry}
use Rattle.shared_cells.proofs.shared_schedule.SharedScheduleSchedule.count.Goals as goal

pub returns-clause-in_order : goal.returns-clause-in_order
returns-clause-in_order c =
    in_order_mapped (shared_entry c.args.self.now.ranges) (λ (e : SharedEntry). e.entry.at) c.args.self.now.plan.now (λ e. refl) c.cut_count.ensures.in_order
