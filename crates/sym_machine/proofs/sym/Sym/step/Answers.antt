use Rattle.std.proofs.Common.{subst, sym}
use Rattle.psabi_sym.specs.Inputs.{parsed}
use Rattle.sym_machine.specs.Kept.{IsOf}
use Rattle.sym_machine.specs.Objects.{program_of}
use Rattle.sym_machine.proofs.StepLaws.{of_again}
use Rattle.sym_machine.proofs.sym.Sym.step.Goals as goal

pub returns-clause-of : goal.returns-clause-of
returns-clause-of c =
    let p = program_of (parsed c.args.cut.now) in
    of_again p c.step.result c.self.inside.state.core c.step.new.self.core c.step.ensures (subst (IsOf p) (sym c.self.view_is) c.requires)
