-- The image was read, then the devices, then the plan; or reading stopped before.
use Rattle.std.proofs.Common.{ℕ, List, ◌∷◌, ◌++◌, [], refl}
use Rattle.std.specs.Option.{option_copied}
use Rattle.std.proofs.lemmas.Result.{err_from_is_err_and}
use Rattle.zc_outside.proofs.Wanted.{ReadsAll-append}
use Rattle.zc_outside.specs.Wanted.{Wanted}
use Rattle.zcld.specs.Given.{devices_wanted}
use Rattle.zcld.specs.Outcome.{read_outcome}
use Rattle.zcld.specs.Run.{plan_wanted}
use Rattle.zcld.specs.declared.limits.TheConstants.{IMAGE_LIMIT}
use Rattle.zcld.proofs.GivenFacts.{front_unread, rest_unread}
use Rattle.zcld.proofs.Refusals.{unread}
use Rattle.zcld.proofs.run.read_files.Goals as goal

abbrev image_wanted : List ℕ → List Wanted
image_wanted image = record { name = image; limit = IMAGE_LIMIT } ∷ []

pub returns-in_err-devices-clause-err : goal.returns-in_err-devices-clause-err
returns-in_err-devices-clause-err g c =
    let args = c.args.args in
    let p = err_from_is_err_and c.from_residual-in_err-devices.result c.from_residual-in_err-devices.ensures.1 in
    let devices = devices_wanted (option_copied args.devices) in
    let plan = plan_wanted (option_copied args.plan) in
    let before = g.S.Store.shown c.args.store.now in
    let between = g.S.Store.shown c.read_file.new.store in
    let after = g.S.Store.shown c.read_given.new.store in
    let fault = c.in_err-devices.field-0.0 in
    rw (p.1, p.2)
    (rest_unread (image_wanted args.image.now) (devices ++ plan) before between after c.read_file.ensures.reads (read_outcome fault)
    (front_unread devices plan between after (read_outcome fault) (unread devices between after fault (read_outcome fault) refl c.in_err-devices.ensures.cause)))

pub returns-in_err-plan-clause-err : goal.returns-in_err-plan-clause-err
returns-in_err-plan-clause-err g c =
    let args = c.args.args in
    let p = err_from_is_err_and c.from_residual-in_err-plan.result c.from_residual-in_err-plan.ensures.1 in
    let devices = devices_wanted (option_copied args.devices) in
    let plan = plan_wanted (option_copied args.plan) in
    let before = g.S.Store.shown c.args.store.now in
    let between = g.S.Store.shown c.read_file.new.store in
    let then = g.S.Store.shown c.read_given.new.store in
    let after = g.S.Store.shown c.read_given-2.new.store in
    let fault = c.in_err-plan.field-0.0 in
    rw (p.1, p.2)
    (rest_unread (image_wanted args.image.now) (devices ++ plan) before between after c.read_file.ensures.reads (read_outcome fault)
    (rest_unread devices plan between then after c.read_given.ensures.reads (read_outcome fault) (unread plan then after fault (read_outcome fault) refl c.in_err-plan.ensures.cause)))

pub returns-in_err-plan-clause-reads : goal.returns-in_err-plan-clause-reads
returns-in_err-plan-clause-reads g c = ReadsAll-append c.read_file.ensures.reads (ReadsAll-append c.read_given.ensures.reads c.read_given-2.ensures.reads)
