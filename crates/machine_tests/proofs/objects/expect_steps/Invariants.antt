use Rattle.psabi_sym.specs.Inputs.{parsed}
use Rattle.sym_machine.specs.Kept.{IsOf}
use Rattle.sym_machine.specs.Objects.{program_of}
use Rattle.machine_tests.proofs.objects.expect_steps.Given as goal

abbrev pub invariant-loop-want : goal.invariant-loop-want
invariant-loop-want g l = IsOf (program_of (parsed l.cut)) l.sym
