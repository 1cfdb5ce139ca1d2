-- The objects can't be had, or are refused, or their results have a fault, or what is put is what is left of them.
use Rattle.std.proofs.Common.{◌≡◌, Some, refl, sym, ap, subst, ◌∙◌, ◌⊎◌}
use Rattle.command_words.specs.Command.{Gc, gc_meant, texts}
use Rattle.psabi_sym.specs.Inputs.{inputs_in}
use Rattle.psabi_sym.specs.Objects.{contents_of}
use Rattle.section_gc.specs.Collected.{Collection, IsCollection, IsGcFault}
use Rattle.zc_outside.specs.World.{world}
use Rattle.zcld.specs.Call.{DoesWith}
use Rattle.zcld.specs.ObjectNames.{named_from}
use Rattle.zcld.specs.Objects.{objects_wanted}
use Rattle.zcld.specs.Outcome.{gc_outcome}
use Rattle.zcld.specs.Puts.{PutsInTurn}
use Rattle.zcld.specs.declared.outcome.Outcome.{Outcome}
use Rattle.zcld.specs.declared.outcome.Outcome.TheVariants.{OutOfMemory}
use Rattle.zcld.proofs.GcFacts.{with_result, without_result}
use Rattle.zcld.proofs.WithObjects.{without_objects}
use Rattle.zcld.proofs.gc.gc.Goals as goal

pub returns-in-Err : goal.returns-in-Err
returns-in-Err g c =
    let args = c.args.args.now in
    let names = texts c.as_slice.result.now in
    let wants : objects_wanted (texts args.objects.items) ≡ objects_wanted names = ap (λ all. objects_wanted (texts all)) (sym c.as_slice.ensures.value) in
    let left = contents_of c.alone.result.files.items in
    let before = world (g.S.Store.shown c.args.store.now) (g.C.Console.shown c.args.console.now) in
    let after = world (g.S.Store.shown c.read_objects.new.store) (g.C.Console.shown c.args.console.now) in
    subst (λ (outcome : Outcome). DoesWith (Some (gc_meant args)) left outcome before after) (sym c.alone.ensures.outcome)
    (without_objects (gc_meant args) args.options names left c.in-Err.outcome before after wants refl (record { shelf = c.read_objects.ensures.reads; desk = refl })
    (c.in-Err.ensures.err args.options left))

pub returns-in-Ok-collect : goal.returns-in-Ok-collect
returns-in-Ok-collect g c =
    let args = c.args.args.now in
    let names = texts c.as_slice.result.now in
    let files = contents_of c.in-Ok.files.items in
    let collection : Collection = c.in-Ok-collect.cleaned in
    let left = contents_of c.alone-in-Ok-collect.result.files.items in
    let before = world (g.S.Store.shown c.args.store.now) (g.C.Console.shown c.args.console.now) in
    let between = world (g.S.Store.shown c.read_objects.new.store) (g.C.Console.shown c.args.console.now) in
    let after = world (g.S.Store.shown c.put_and_print.new.store) (g.C.Console.shown c.put_and_print.new.console) in
    let outcome = c.put_and_print.result in
    let given = ap contents_of c.as_slice-2.ensures.value in
    let collected : IsCollection (inputs_in args.options files) collection =
    subst (λ all. IsCollection (inputs_in args.options all) collection) given c.in-Ok-collect.ensures.ok in
    let put = subst (λ all. ((outcome ≡ OutOfMemory) × (after ≡ between)) ⊎ PutsInTurn outcome (record { files = named_from args.prefix.now 0 all; text = c.as_str.result.now }) between after)
    (ap contents_of c.as_slice-in-Ok-collect.ensures.value ∙ ap (λ (c : Collection). c.files) c.cleaned.view_is) c.put_and_print.ensures.done in
    let done = subst (λ text. ((outcome ≡ OutOfMemory) × (after ≡ between)) ⊎ PutsInTurn outcome (record { files = named_from args.prefix.now 0 collection.files; text = text }) between after)
    (c.as_str.ensures.value ∙ c.kept_lines-lines.ensures) put in
    subst (λ (said : Outcome). DoesWith (Some (gc_meant args)) left said before after) (sym c.alone-in-Ok-collect.ensures.outcome)
    (subst (λ all. DoesWith (Some (Gc args.options args.prefix.now (texts all))) left outcome before after) c.as_slice.ensures.value
    (with_result args.options args.prefix.now names files before between (record { shelf = c.read_objects.ensures.reads; desk = refl }) c.in-Ok.ensures.ok
    left outcome collection after collected done c.put_and_print.ensures.puts c.put_and_print.ensures.writes c.put_and_print.ensures.line))

pub returns-in-Err-collect : goal.returns-in-Err-collect
returns-in-Err-collect g c =
    let args = c.args.args.now in
    let names = texts c.as_slice.result.now in
    let files = contents_of c.in-Ok.files.items in
    let before = world (g.S.Store.shown c.args.store.now) (g.C.Console.shown c.args.console.now) in
    let between = world (g.S.Store.shown c.read_objects.new.store) (g.C.Console.shown c.args.console.now) in
    let fault = c.in-Err-collect.fault in
    let given = ap contents_of c.as_slice-2.ensures.value in
    let is : IsGcFault (inputs_in args.options files) fault =
    subst (λ all. IsGcFault (inputs_in args.options all) fault) given c.in-Err-collect.ensures.err in
    subst (λ (said : Outcome). DoesWith (Some (gc_meant args)) files said before between) (sym c.from.ensures)
    (subst (λ all. DoesWith (Some (Gc args.options args.prefix.now (texts all))) files (gc_outcome fault) before between) c.as_slice.ensures.value
    (without_result args.options args.prefix.now names files before between (record { shelf = c.read_objects.ensures.reads; desk = refl }) c.in-Ok.ensures.ok fault is))
