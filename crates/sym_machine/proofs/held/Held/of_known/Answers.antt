use Rattle.std.proofs.Common.{sym, ◌∙◌}
use Rattle.sym_machine.proofs.WordLaws.{code_is}
use Rattle.sym_machine.proofs.held.Held.of_known.Goals as goal

pub returns-in-Some : goal.returns-in-Some
returns-in-Some c = code_is c.args.bytes c.in-Some.q (sym c.code.ensures ∙ c.in-Some.is)
