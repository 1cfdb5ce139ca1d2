use Rattle.psabi_sym.specs.Inputs.{inputs_in}
use Rattle.psabi_sym.specs.Objects.{contents_of}
use Rattle.tail_merge.proofs.merge.merge.Goals as goal

pub returns-in-Err-clause-err : goal.returns-in-Err-clause-err
returns-in-Err-clause-err c = c.of_given.ensures (inputs_in c.args.options.now (contents_of c.args.bytes.now)) c.in-Err.ensures.err
