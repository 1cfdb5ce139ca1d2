use Rattle.psabi_sym.specs.Inputs.{parsed}
use Rattle.sym_machine.specs.Objects.{program_of}
use Rattle.sym_machine.proofs.DeviceLaws.{answers_with}
use Rattle.sym_machine.proofs.run.ask_if_stuck.Goals as goal

pub returns-in_default : goal.returns-in_default
returns-in_default c s told =
    answers_with c.args.devices.now.all (program_of (parsed c.args.cut.now)) c.args.step.now s c.args.sym.now (λ place why. c.in_default.not-Stuck place why) told
