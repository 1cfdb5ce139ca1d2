-- What was read is refused when it is gathered. The check finds the other cases.
use Rattle.command_words.specs.Command.{texts}
use Rattle.psabi_sym.specs.Objects.{contents_of}
use Rattle.zcld.proofs.MakeFacts.{if_err}
use Rattle.zcld.proofs.WithObjects.{ungathered}
use Rattle.zcld.proofs.objects.gather_named.Goals as goal

pub returns-in-Ok-clause-err : goal.returns-in-Ok-clause-err
returns-in-Ok-clause-err g c =
    let kept = c.in-Ok.ensures.ok in
    if_err c.gather.result
    (λ ending is. ungathered c.args.options.now (texts c.args.names.now) (contents_of ending.files.items) (g.S.Store.shown c.args.store.now) (g.S.Store.shown c.read_all.new.store) kept.files ending.outcome kept.read (is kept.files kept.kept))
    c.gather.ensures.err
