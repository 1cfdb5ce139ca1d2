use Rattle.std.proofs.Common.{length, ap, sym, ◌∙◌}
use Rattle.sym_machine.specs.Stack.{Strips}
use Rattle.sym_machine.proofs.StackLaws.{length-stack}
use Rattle.sym_machine.proofs.stack.Stack.len.Goals as goal

pub returns-clause-value : goal.returns-clause-value
returns-clause-value c = c.len.ensures.value ∙ ap (λ (s : Strips). length s.cells) c.self.view_is ∙ sym (length-stack c.args.self.now)
