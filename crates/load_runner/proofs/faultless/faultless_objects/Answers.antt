use Rattle.std.proofs.Common.{rules}
use Rattle.load_runner.specs.Runs.{standard_inputs}
use Rattle.psabi_sym.specs.Objects.{contents_of}
use Rattle.load_runner.proofs.ExitLaws.{none_refused}
use Rattle.load_runner.proofs.faultless.faultless_objects.Goals as goal

pub want_of_memory-requires : goal.want_of_memory-requires
want_of_memory-requires c = none_refused (standard_inputs (contents_of c.args.files.now)) c.in-Err.fault c.requires (search rules)
