-- The files can't be had, or they are refused, or the image ran that is the objects' link.
use Rattle.std.proofs.Common.{◌≡◌, ◌⊎◌, None, Some, refl, sym, subst}
use Rattle.std.specs.Option.{option_or}
use Rattle.block_cut.specs.Faults.{first_fault}
use Rattle.command_words.specs.Command.{share_meant, texts}
use Rattle.interrupt_plan.specs.Text.{shared_in}
use Rattle.psabi_sym.specs.Inputs.{Inputs, inputs_in}
use Rattle.psabi_sym.specs.Objects.{contents_of}
use Rattle.zc_outside.specs.World.{world}
use Rattle.load_runner.proofs.ExitLaws.{image_faultless}
use Rattle.elf32_read.specs.Image.{image_fault}
use Rattle.zcld.specs.Call.{DoesWith}
use Rattle.zcld.specs.Objects.{refused_for}
use Rattle.zcld.specs.Run.{plan_refusal}
use Rattle.zcld.specs.Share.{IsReadyToShare}
use Rattle.zcld.specs.declared.outcome.Outcome.{Outcome}
use Rattle.zcld.specs.declared.outcome.Outcome.TheVariants.{OutOfMemory}
use Rattle.zcld.proofs.ShareFacts.{shared_ran, ungathered_files, unshared_files, without_files}
use Rattle.zcld.proofs.share.share.Goals as goal

pub returns-in-Err : goal.returns-in-Err
returns-in-Err g c =
    let args = c.args.args.now in
    let desk = g.C.Console.shown c.args.console.now in
    let before = world (g.S.Store.shown c.args.store.now) desk in
    let after = world (g.S.Store.shown c.read_files.new.store) desk in
    let left = contents_of c.alone.result.files.items in
    subst (λ (outcome : Outcome). DoesWith (Some (share_meant args)) left outcome before after) (sym c.alone.ensures.outcome)
    (without_files args.options args.out.now args.plan.now args.steps (texts args.objects.items) left c.in-Err.outcome before after (record { shelf = c.read_files.ensures.reads; desk = refl }) c.in-Err.ensures.err)

pub returns-in-Err-gather : goal.returns-in-Err-gather
returns-in-Err-gather g c =
    let args = c.args.args.now in
    let read = c.in-Ok.ensures.ok in
    let desk = g.C.Console.shown c.args.console.now in
    let before = world (g.S.Store.shown c.args.store.now) desk in
    let after = world (g.S.Store.shown c.read_files.new.store) desk in
    let ending = c.in-Err-gather.ending in
    let left = contents_of ending.files.items in
    ungathered_files args.options args.out.now args.plan.now args.steps (texts args.objects.items) read.0 c.in-Ok.files.plan.items before after
    (record { shelf = c.read_files.ensures.reads; desk = refl }) read.2 left ending.outcome (c.in-Err-gather.ensures.err read.0 read.1)

pub put_and_run-requires-clause-faultless : goal.put_and_run-requires-clause-faultless
put_and_run-requires-clause-faultless g c =
    let args = c.args.args.now in
    let read = c.in-Ok.ensures.ok in
    let gathered = c.in-Ok-gather.ensures.ok read.0 read.1 in
    let ready = c.in-Ok-shared_image.ensures.ok in
    let image = ready.linked.image in
    subst (λ file. image_fault file args.options.map ≡ None) (sym ready.image_is)
    (subst (λ (is : Inputs). image_fault ready.link.elf is.map ≡ None) gathered.0 (image_faultless ready.link.elf c.in-Ok-gather.objects.map image.loaded image.read))

pub returns-in-Ok-shared_image : goal.returns-in-Ok-shared_image
returns-in-Ok-shared_image g c =
    let args = c.args.args.now in
    let read = c.in-Ok.ensures.ok in
    let gathered = c.in-Ok-gather.ensures.ok read.0 read.1 in
    let text = c.in-Ok.files.plan.items in
    let shared = c.in-Ok-shared_image.shared in
    let desk = g.C.Console.shown c.args.console.now in
    let before = world (g.S.Store.shown c.args.store.now) desk in
    let after = world (g.S.Store.shown c.read_files.new.store) desk in
    let end = world (g.S.Store.shown c.put_and_run.new.store) (g.C.Console.shown c.put_and_run.new.console) in
    let left = contents_of c.alone-in-Ok-shared_image.result.files.items in
    let ready = subst (λ (is : Inputs). IsReadyToShare is c.as_slice.result.now shared) gathered.0 c.in-Ok-shared_image.ensures.ok in
    subst (λ (outcome : Outcome). DoesWith (Some (share_meant args)) left outcome before end) (sym c.alone-in-Ok-shared_image.ensures.outcome)
    (shared_ran args.options args.out.now args.plan.now args.steps (texts args.objects.items) read.0 text before after (record { shelf = c.read_files.ensures.reads; desk = refl }) read.2
    left c.put_and_run.result shared end c.put_and_run.ensures.line (subst (λ t. IsReadyToShare (inputs_in args.options read.0) t shared) c.as_slice.ensures.value ready) c.put_and_run.ensures.runs)

pub returns : goal.returns
returns g c =
    let args = c.args.args.now in
    let read = c.in-Ok.ensures.ok in
    let gathered = c.in-Ok-gather.ensures.ok read.0 read.1 in
    let text = c.in-Ok.files.plan.items in
    let outcome = c.in-Err-shared_image.outcome in
    let desk = g.C.Console.shown c.args.console.now in
    let before = world (g.S.Store.shown c.args.store.now) desk in
    let after = world (g.S.Store.shown c.read_files.new.store) desk in
    let left = contents_of c.alone-in-Err-shared_image.result.files.items in
    let why =
    subst (λ t. (outcome ≡ OutOfMemory) ⊎ (option_or (refused_for (first_fault (inputs_in args.options read.0))) (plan_refusal (shared_in t)) ≡ Some outcome)) c.as_slice.ensures.value
    (subst (λ (is : Inputs). (outcome ≡ OutOfMemory) ⊎ (option_or (refused_for (first_fault is)) (plan_refusal (shared_in c.as_slice.result.now)) ≡ Some outcome)) gathered.0 c.in-Err-shared_image.ensures.err) in
    subst (λ (outcome : Outcome). DoesWith (Some (share_meant args)) left outcome before after) (sym c.alone-in-Err-shared_image.ensures.outcome)
    (unshared_files args.options args.out.now args.plan.now args.steps (texts args.objects.items) read.0 text before after (record { shelf = c.read_files.ensures.reads; desk = refl }) read.2
    left outcome c.in-Err-shared_image.ensures.line why)
