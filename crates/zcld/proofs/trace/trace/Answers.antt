-- The files can't be had, or the objects or the devices are refused, or the machine runs the objects' program.
use Rattle.std.proofs.Common.{◌≡◌, ◌∙◌, ◌⊎◌, Ok, Some, refl, sym, ap, subst}
use Rattle.std.specs.Prelude.{not}
use Rattle.std.specs.Option.{option_copied, option_or}
use Rattle.block_cut.specs.Faults.{first_fault}
use Rattle.command_words.specs.Command.{texts, trace_meant}
use Rattle.devices.specs.Lines.{starts_reset}
use Rattle.psabi_sym.specs.Inputs.{Inputs, parsed}
use Rattle.psabi_sym.specs.Objects.{contents_of}
use Rattle.sym_machine.specs.Objects.{program_of}
use Rattle.zc_outside.specs.World.{world}
use Rattle.zcld.specs.Call.{DoesWith}
use Rattle.zcld.specs.Given.{devices_refusal, lines_given, text_held}
use Rattle.zcld.specs.Machines.{AnswersOrTakes}
use Rattle.zcld.specs.Objects.{refused_for}
use Rattle.zcld.specs.Trace.{Traces}
use Rattle.zcld.specs.declared.outcome.Outcome.{Outcome}
use Rattle.zcld.specs.declared.outcome.Outcome.TheVariants.{OutOfMemory}
use Rattle.zcld.proofs.TraceFacts.{traced_ran, ungathered_files, unready_files, without_files}
use Rattle.zcld.proofs.trace.trace.Goals as goal

pub returns-in-Err : goal.returns-in-Err
returns-in-Err g c =
    let args = c.args.args.now in
    let desk = g.C.Console.shown c.args.console.now in
    let before = world (g.S.Store.shown c.args.store.now) desk in
    let after = world (g.S.Store.shown c.read_files.new.store) desk in
    let left = contents_of c.alone.result.files.items in
    subst (λ (outcome : Outcome). DoesWith (Some (trace_meant args)) left outcome before after) (sym c.alone.ensures.outcome)
    (without_files args.options (option_copied args.devices) args.steps (texts args.objects.items) left c.in-Err.outcome before after (record { shelf = c.read_files.ensures.reads; desk = refl }) c.in-Err.ensures.err)

pub returns-in-Err-gather : goal.returns-in-Err-gather
returns-in-Err-gather g c =
    let args = c.args.args.now in
    let read = c.in-Ok.ensures.ok in
    let desk = g.C.Console.shown c.args.console.now in
    let before = world (g.S.Store.shown c.args.store.now) desk in
    let after = world (g.S.Store.shown c.read_files.new.store) desk in
    let ending = c.in-Err-gather.ending in
    ungathered_files args.options (option_copied args.devices) args.steps (texts args.objects.items) read.0 (text_held c.in-Ok.files.devices) c.in-Ok.ensures.given before after
    (record { shelf = c.read_files.ensures.reads; desk = refl }) read.2 (contents_of ending.files.items) ending.outcome (c.in-Err-gather.ensures.err read.0 read.1)

pub returns-in-Ok-make_traceable : goal.returns-in-Ok-make_traceable
returns-in-Ok-make_traceable g c =
    let args = c.args.args.now in
    let read = c.in-Ok.ensures.ok in
    let gathered = c.in-Ok-gather.ensures.ok read.0 read.1 in
    let program = c.in-Ok-make_traceable.program in
    let cut = c.in-Ok-make_traceable.ensures.cut in
    let named = subst (λ m. lines_given m (text_held c.in-Ok.files.devices) ≡ Ok program.devices) c.map.ensures c.in-Ok-make_traceable.ensures.devices in
    let desk = g.C.Console.shown c.args.console.now in
    let before = world (g.S.Store.shown c.args.store.now) desk in
    let after = world (g.S.Store.shown c.read_files.new.store) desk in
    let end = world after.shelf (g.C.Console.shown c.execute.new.console) in
    let left = contents_of c.alone-in-Ok-make_traceable.result.files.items in
    subst (λ (outcome : Outcome). DoesWith (Some (trace_meant args)) left outcome before end) (sym c.alone-in-Ok-make_traceable.ensures.outcome)
    (traced_ran args.options (option_copied args.devices) args.steps (texts args.objects.items) read.0 (text_held c.in-Ok.files.devices) c.in-Ok.ensures.given before after
    (record { shelf = c.read_files.ensures.reads; desk = refl }) read.2 left c.execute.result program.devices end c.execute.ensures.line
    (sym (ap first_fault gathered.0) ∙ cut.1) named
    (subst (λ inputs. AnswersOrTakes program.devices args.steps (Traces (not (starts_reset program.devices)) (program_of (parsed inputs)) args.steps) c.execute.result after end)
    (cut.0 ∙ gathered.0) (c.execute.ensures.runs after.shelf)))

pub returns : goal.returns
returns g c =
    let args = c.args.args.now in
    let read = c.in-Ok.ensures.ok in
    let gathered = c.in-Ok-gather.ensures.ok read.0 read.1 in
    let text = text_held c.in-Ok.files.devices in
    let outcome = c.in-Err-make_traceable.outcome in
    let why =
    subst (λ m. (outcome ≡ OutOfMemory) ⊎ (option_or (refused_for (first_fault c.in-Ok-gather.objects)) (devices_refusal (lines_given m text)) ≡ Some outcome)) c.map.ensures
    c.in-Err-make_traceable.ensures.err in
    let desk = g.C.Console.shown c.args.console.now in
    let before = world (g.S.Store.shown c.args.store.now) desk in
    let after = world (g.S.Store.shown c.read_files.new.store) desk in
    let left = contents_of c.alone-in-Err-make_traceable.result.files.items in
    subst (λ (outcome : Outcome). DoesWith (Some (trace_meant args)) left outcome before after) (sym c.alone-in-Err-make_traceable.ensures.outcome)
    (unready_files args.options (option_copied args.devices) args.steps (texts args.objects.items) read.0 text c.in-Ok.ensures.given before after
    (record { shelf = c.read_files.ensures.reads; desk = refl }) read.2 left outcome c.in-Err-make_traceable.ensures.line
    (subst (λ (is : Inputs). (outcome ≡ OutOfMemory) ⊎ (option_or (refused_for (first_fault is)) (devices_refusal (lines_given args.options.map text)) ≡ Some outcome)) gathered.0 why))
