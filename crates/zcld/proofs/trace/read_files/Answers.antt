-- The objects were read, and then the devices; or reading stopped before.
use Rattle.std.proofs.Common.{refl, subst}
use Rattle.std.specs.Option.{option_copied}
use Rattle.std.proofs.lemmas.Result.{err_from_is_err_and}
use Rattle.command_words.specs.Command.{texts}
use Rattle.zc_outside.proofs.Wanted.{ReadsAll-append, ReadsAll-front}
use Rattle.zc_outside.specs.Wanted.{AreRead, ReadsAll}
use Rattle.zcld.specs.Given.{devices_wanted, text_file, text_held}
use Rattle.zcld.specs.Objects.{objects_wanted}
use Rattle.zcld.specs.Outcome.{read_outcome}
use Rattle.zcld.specs.Task.{UnreadCause}
use Rattle.zcld.proofs.GivenFacts.{front_unread, rest_read, rest_unread}
use Rattle.zcld.proofs.Refusals.{unread}
use Rattle.zcld.proofs.trace.read_files.Goals as goal

pub returns-in_err-objects-clause-err : goal.returns-in_err-objects-clause-err
returns-in_err-objects-clause-err g c =
    let args = c.args.args.now in
    let p = err_from_is_err_and c.from_residual.result c.from_residual.ensures.1 in
    let before = g.S.Store.shown c.args.store.now in
    let after = g.S.Store.shown c.read_all.new.store in
    let o = c.in_err-objects.field-0.0 in
    let cause = subst (λ objects. UnreadCause (objects_wanted (texts objects)) before after o) c.as_slice.ensures.value c.in_err-objects.ensures.err in
    rw (p.1, p.2) (front_unread (objects_wanted (texts args.objects.items)) (devices_wanted (option_copied args.devices)) before after o cause)

pub returns-in_err-objects-clause-reads : goal.returns-in_err-objects-clause-reads
returns-in_err-objects-clause-reads g c =
    let args = c.args.args.now in
    let before = g.S.Store.shown c.args.store.now in
    let after = g.S.Store.shown c.read_all.new.store in
    ReadsAll-front (devices_wanted (option_copied args.devices))
    (subst (λ objects. ReadsAll (objects_wanted (texts objects)) before after) c.as_slice.ensures.value c.read_all.ensures.reads)

pub returns-in_err-devices-clause-err : goal.returns-in_err-devices-clause-err
returns-in_err-devices-clause-err g c =
    let args = c.args.args.now in
    let p = err_from_is_err_and c.from_residual-in_err-devices.result c.from_residual-in_err-devices.ensures.1 in
    let devices = devices_wanted (option_copied args.devices) in
    let before = g.S.Store.shown c.args.store.now in
    let between = g.S.Store.shown c.read_all.new.store in
    let after = g.S.Store.shown c.read_given.new.store in
    let first = subst (λ objects. ReadsAll (objects_wanted (texts objects)) before between) c.as_slice.ensures.value c.read_all.ensures.reads in
    let fault = c.in_err-devices.field-0.0 in
    rw (p.1, p.2)
    (rest_unread (objects_wanted (texts args.objects.items)) devices before between after first (read_outcome fault)
    (unread devices between after fault (read_outcome fault) refl c.in_err-devices.ensures.cause))

pub returns-in_err-devices-clause-reads : goal.returns-in_err-devices-clause-reads
returns-in_err-devices-clause-reads g c =
    let before = g.S.Store.shown c.args.store.now in
    let between = g.S.Store.shown c.read_all.new.store in
    let first = subst (λ objects. ReadsAll (objects_wanted (texts objects)) before between) c.as_slice.ensures.value c.read_all.ensures.reads in
    ReadsAll-append first c.read_given.ensures.reads

pub returns-clause-ok : goal.returns-clause-ok
returns-clause-ok g c =
    let args = c.args.args.now in
    let kept = c.in_ok-objects.ensures.ok in
    let before = g.S.Store.shown c.args.store.now in
    let between = g.S.Store.shown c.read_all.new.store in
    let first = subst (λ objects. ReadsAll (objects_wanted (texts objects)) before between) c.as_slice.ensures.value c.read_all.ensures.reads in
    let read = subst (λ objects. AreRead before.files (objects_wanted (texts objects)) kept.files) c.as_slice.ensures.value kept.read in (
      kept.files,
      kept.kept,
      rest_read (objects_wanted (texts args.objects.items)) (devices_wanted (option_copied args.devices)) before between between first kept.files
          (text_file (text_held c.in_ok-devices.devices)) read c.in_ok-devices.ensures.ok,
    )

pub returns-clause-reads : goal.returns-clause-reads
returns-clause-reads g c =
    let before = g.S.Store.shown c.args.store.now in
    let between = g.S.Store.shown c.read_all.new.store in
    let first = subst (λ objects. ReadsAll (objects_wanted (texts objects)) before between) c.as_slice.ensures.value c.read_all.ensures.reads in
    ReadsAll-append first c.read_given.ensures.reads
