use Rattle.psabi_sym.specs.Inputs.{inputs_in}
use Rattle.psabi_sym.specs.Objects.{contents_of}
use Rattle.object_passes.proofs.FileLaws.{gather_first}
use Rattle.object_passes.proofs.judge.cut_files.Goals as goal

pub returns-in-Err-clause-err : goal.returns-in-Err-clause-err
returns-in-Err-clause-err c = gather_first (inputs_in c.args.options.now (contents_of c.args.files.now)) c.in-Err.fault c.in-Err.ensures.err
