use Rattle.block_cut.proofs.TextLaws.{code_added, none_added}
use Rattle.block_cut.proofs.code_span.CodeSpan.with.Goals as goal

pub returns-in-None : goal.returns-in-None
returns-in-None c = λ inputs k l none at are is. none_added inputs none k l at c.args.self c.args.places.now are c.in-None.ensures.value is

pub returns-in-Some : goal.returns-in-Some
returns-in-Some c = λ inputs k l none at are is. code_added inputs none k l at c.args.self c.args.places.now c.in-Some.end.now are c.in-Some.ensures.value is
