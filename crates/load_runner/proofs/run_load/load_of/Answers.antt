use Rattle.std.proofs.Common.{sym, subst}
use Rattle.interrupt_plan.specs.Plan.{IsPlan}
use Rattle.interrupt_plan.proofs.MadeLaws.{IsPlan-made}
use Rattle.load_runner.specs.declared.run_load.TheConstants.{LOAD_CUTS}
use Rattle.load_runner.proofs.run_load.load_of.Goals as goal

pub run_all-requires-clause-plan : goal.run_all-requires-clause-plan
run_all-requires-clause-plan c = subst IsPlan (sym c.in_ok-cuts.ensures) (IsPlan-made c.args.number LOAD_CUTS)
