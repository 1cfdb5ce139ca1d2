-- All that was read is kept, or it is refused by the bytes of all.
use Rattle.std.proofs.Common.{subst}
use Rattle.command_words.specs.Command.{texts}
use Rattle.zc_outside.specs.Wanted.{AreRead}
use Rattle.zcld.specs.Objects.{objects_wanted}
use Rattle.zcld.specs.Outcome.{link_outcome}
use Rattle.zcld.proofs.Refusals.{names_in_none, names_none}
use Rattle.zcld.proofs.WithObjects.{gather_refused}
use Rattle.zcld.proofs.objects.read_objects.Goals as goal

pub returns-in-None-clause-ok : goal.returns-in-None-clause-ok
returns-in-None-clause-ok g c =
    let kept = c.in_ok-reading.ensures.ok in
    subst (λ read. AreRead (g.S.Store.shown c.args.store.now).files (objects_wanted (texts c.args.names.now)) read)
    (c.refusal.ensures.none c.in-None.is kept.files kept.kept) kept.read

pub returns-in-Some-clause-err : goal.returns-in-Some-clause-err
returns-in-Some-clause-err g c =
    let kept = c.in_ok-reading.ensures.ok in
    let before = g.S.Store.shown c.args.store.now in
    let after = g.S.Store.shown c.read_all.new.store in
    let fault = c.in-Some.fault in
    let is = c.in-Some.ensures.some kept.files kept.kept in
    rw c.from.ensures
    (λ options left. gather_refused options (texts c.args.names.now) left before after kept.files fault kept.read (is options).0 (names_in_none (link_outcome fault) left kept.files (names_none fault (is options).1)))
