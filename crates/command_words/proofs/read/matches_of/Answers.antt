use Rattle.std.proofs.Common.{◌∙◌, sym}
use Rattle.command_words.specs.Command.{texts}
use Rattle.command_words.proofs.ReadLaws.{err_reads_none, ok_reads}
use Rattle.command_words.proofs.read.matches_of.Goals as goal

pub returns-in-Ok : goal.returns-in-Ok
returns-in-Ok c =
    sym (ok_reads _ (texts c.args.words.now) c.in-Ok.matches c.in_ok-program_app.ensures c.in-Ok.ensures.kinds c.in-Ok.ensures.matches)

pub returns : goal.returns
returns c =
    sym
    (err_reads_none _ (texts c.args.words.now) c.in-Err.error c.in_ok-program_app.ensures c.in-Err.ensures.kinds
    (λ memory. c.in_default.not-OutOfMemory (c.kind.ensures ∙ memory)))
