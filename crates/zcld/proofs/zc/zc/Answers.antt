-- The objects can't be had, or are refused, or what is put and written is that of their link.
use Rattle.std.proofs.Common.{◌≡◌, ◌∙◌, Some, refl, sym, ap, inl, inr, subst}
use Rattle.command_words.specs.Command.{texts, zc_meant}
use Rattle.psabi_sym.specs.Inputs.{Inputs, parsed}
use Rattle.psabi_sym.specs.Objects.{contents_of}
use Rattle.zc_link.specs.Links.{IsZcLink}
use Rattle.zc_outside.specs.World.{world}
use Rattle.zcld.specs.Call.{DoesWith}
use Rattle.zcld.specs.Objects.{objects_wanted}
use Rattle.zcld.specs.Puts.{PutsInTurn}
use Rattle.zcld.specs.Zc.{fixed_told, zc_output}
use Rattle.zcld.specs.declared.outcome.Outcome.{Outcome}
use Rattle.zcld.proofs.WithObjects.{link_refused, with_objects, without_objects}
use Rattle.zcld.proofs.zc.zc.Goals as goal

pub returns-in-Err : goal.returns-in-Err
returns-in-Err g c =
    let args = c.args.args.now in
    let names = texts c.as_slice.result.now in
    let wants : objects_wanted (texts args.objects.items) ≡ objects_wanted names = ap (λ all. objects_wanted (texts all)) (sym c.as_slice.ensures.value) in
    let before = world (g.S.Store.shown c.args.store.now) (g.C.Console.shown c.args.console.now) in
    let after = world (g.S.Store.shown c.gather_named.new.store) (g.C.Console.shown c.args.console.now) in
    without_objects _ args.options names _ _ before after wants refl (record { shelf = c.gather_named.ensures.reads; desk = refl }) c.in-Err.ensures.err

pub returns-in-Err-link_zc : goal.returns-in-Err-link_zc
returns-in-Err-link_zc g c =
    let args = c.args.args.now in
    let names = texts c.as_slice.result.now in
    let wants : objects_wanted (texts args.objects.items) ≡ objects_wanted names = ap (λ all. objects_wanted (texts all)) (sym c.as_slice.ensures.value) in
    let left = contents_of c.alone.result.files.items in
    let before = world (g.S.Store.shown c.args.store.now) (g.C.Console.shown c.args.console.now) in
    let after = world (g.S.Store.shown c.gather_named.new.store) (g.C.Console.shown c.args.console.now) in
    subst (λ (outcome : Outcome). DoesWith (Some (zc_meant args)) left outcome before after) (sym (c.alone.ensures.outcome ∙ c.from.ensures))
    (without_objects _ args.options names left _ before after wants refl (record { shelf = c.gather_named.ensures.reads; desk = refl })
    (link_refused args.options names left before.shelf after.shelf c.in-Ok.objects c.in-Err-link_zc.fault c.in-Ok.ensures.ok c.in-Err-link_zc.ensures.err))

pub returns-in-Ok-results_of : goal.returns-in-Ok-results_of
returns-in-Ok-results_of g c =
    let args = c.args.args.now in
    let names = texts c.as_slice.result.now in
    let wants : objects_wanted (texts args.objects.items) ≡ objects_wanted names = ap (λ all. objects_wanted (texts all)) (sym c.as_slice.ensures.value) in
    let left = contents_of c.alone-in-Ok-results_of.result.files.items in
    let linked = c.in-Ok-link_zc.linked in
    let before = world (g.S.Store.shown c.args.store.now) (g.C.Console.shown c.args.console.now) in
    let between = world (g.S.Store.shown c.gather_named.new.store) (g.C.Console.shown c.args.console.now) in
    let after = world (g.S.Store.shown c.put_and_report.new.store) (g.C.Console.shown c.put_and_report.new.console) in
    let gathered = c.in-Ok.ensures.ok in
    let told =
    c.in-Ok-results_of.ensures args.out.now args.cert.now
    ∙ ap (λ fixed. zc_output args.out.now args.cert.now fixed linked)
    (c.fixed_told-fixed.ensures ∙ ap (λ (inputs : Inputs). fixed_told (parsed inputs)) gathered.inputs_are) in
    subst (λ (outcome : Outcome). DoesWith (Some (zc_meant args)) left outcome before after) (sym c.alone-in-Ok-results_of.ensures.outcome)
    (with_objects _ args.options names left _ before after between c.in-Ok.objects wants refl (record { shelf = c.gather_named.ensures.reads; desk = refl })
    c.in-Ok.ensures.ok c.in-Ok-link_zc.ensures.faultless c.put_and_report.ensures.line
    (inr (record {
      link = linked;
      linked = subst (λ inputs. IsZcLink inputs linked) c.in-Ok.ensures.ok.inputs_are c.in-Ok-link_zc.ensures.link;
      done = subst (λ output. PutsInTurn c.put_and_report.result output between after) told c.put_and_report.ensures.done;
      shelf = c.put_and_report.ensures.puts;
      desk = c.put_and_report.ensures.writes;
    })))

-- there was no memory for what is put and written
pub returns-in-Err-results_of : goal.returns-in-Err-results_of
returns-in-Err-results_of g c =
    let args = c.args.args.now in
    let names = texts c.as_slice.result.now in
    let wants : objects_wanted (texts args.objects.items) ≡ objects_wanted names = ap (λ all. objects_wanted (texts all)) (sym c.as_slice.ensures.value) in
    let left = contents_of c.alone-in-Err-results_of.result.files.items in
    let before = world (g.S.Store.shown c.args.store.now) (g.C.Console.shown c.args.console.now) in
    let between = world (g.S.Store.shown c.gather_named.new.store) (g.C.Console.shown c.args.console.now) in
    subst (λ (outcome : Outcome). DoesWith (Some (zc_meant args)) left outcome before between) (sym c.alone-in-Err-results_of.ensures.outcome)
    (with_objects _ args.options names left _ before between between c.in-Ok.objects wants refl (record { shelf = c.gather_named.ensures.reads; desk = refl })
    c.in-Ok.ensures.ok c.in-Ok-link_zc.ensures.faultless (λ files. refl) (inl (refl, refl)))
