use Rattle.std.proofs.Common.{refl}
use Rattle.psabi_sym.specs.Objects.{contents_of}
use Rattle.load_runner.specs.declared.load_end.LoadEnd.TheVariants.{OutOfMemory}
use Rattle.zcld.specs.Make.{IsUnloaded}
use Rattle.zcld.proofs.MakeFacts.{memory_alone}
use Rattle.zcld.proofs.make.load.Goals as goal

-- there was no memory for the text
pub returns-in_err-summary-clause-err : goal.returns-in_err-summary-clause-err
returns-in_err-summary-clause-err c =
    memory_alone (λ o. IsUnloaded c.args.number (contents_of c.args.objects.now) o) c.from_residual-in_err-summary.result
    (record { end = OutOfMemory; cause = tt; outcome_is = refl }) c.from_residual-in_err-summary.ensures.1
