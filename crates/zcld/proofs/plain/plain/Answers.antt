-- The objects can't be had, or are refused, or the image that is put is that of their link.
use Rattle.std.proofs.Common.{◌≡◌, ◌∙◌, Some, refl, sym, ap, inr, subst}
use Rattle.command_words.specs.Command.{plain_meant, texts}
use Rattle.psabi_sym.specs.Objects.{contents_of}
use Rattle.zc_link.specs.Links.{IsPlainLink}
use Rattle.zc_outside.specs.World.{world}
use Rattle.zcld.specs.Call.{DoesWith}
use Rattle.zcld.specs.Objects.{objects_wanted}
use Rattle.zcld.specs.declared.outcome.Outcome.{Outcome}
use Rattle.zcld.proofs.WithObjects.{link_refused, with_objects, without_objects}
use Rattle.zcld.proofs.plain.plain.Goals as goal

pub returns-in-Err : goal.returns-in-Err
returns-in-Err g c =
    let args = c.args.args.now in
    let names = texts c.as_slice.result.now in
    let wants : objects_wanted (texts args.objects.items) ≡ objects_wanted names = ap (λ all. objects_wanted (texts all)) (sym c.as_slice.ensures.value) in
    let before = world (g.S.Store.shown c.args.store.now) (g.C.Console.shown c.args.console.now) in
    let after = world (g.S.Store.shown c.gather_named.new.store) (g.C.Console.shown c.args.console.now) in
    without_objects _ args.options names _ _ before after wants refl (record { shelf = c.gather_named.ensures.reads; desk = refl }) c.in-Err.ensures.err

pub returns-in-Err-link_plain : goal.returns-in-Err-link_plain
returns-in-Err-link_plain g c =
    let args = c.args.args.now in
    let names = texts c.as_slice.result.now in
    let wants : objects_wanted (texts args.objects.items) ≡ objects_wanted names = ap (λ all. objects_wanted (texts all)) (sym c.as_slice.ensures.value) in
    let left = contents_of c.alone-in-Err-link_plain.result.files.items in
    let before = world (g.S.Store.shown c.args.store.now) (g.C.Console.shown c.args.console.now) in
    let after = world (g.S.Store.shown c.gather_named.new.store) (g.C.Console.shown c.args.console.now) in
    subst (λ (outcome : Outcome). DoesWith (Some (plain_meant args)) left outcome before after) (sym (c.alone-in-Err-link_plain.ensures.outcome ∙ c.from.ensures))
    (without_objects _ args.options names left _ before after wants refl (record { shelf = c.gather_named.ensures.reads; desk = refl })
    (link_refused args.options names left before.shelf after.shelf c.in-Ok.objects c.in-Err-link_plain.fault c.in-Ok.ensures.ok c.in-Err-link_plain.ensures.err))

pub returns-in-Ok-link_plain : goal.returns-in-Ok-link_plain
returns-in-Ok-link_plain g c =
    let args = c.args.args.now in
    let names = texts c.as_slice.result.now in
    let wants : objects_wanted (texts args.objects.items) ≡ objects_wanted names = ap (λ all. objects_wanted (texts all)) (sym c.as_slice.ensures.value) in
    let left = contents_of c.alone.result.files.items in
    let before = world (g.S.Store.shown c.args.store.now) (g.C.Console.shown c.args.console.now) in
    let between = world (g.S.Store.shown c.gather_named.new.store) (g.C.Console.shown c.args.console.now) in
    let after = world (g.S.Store.shown c.put_and_print.new.store) (g.C.Console.shown c.put_and_print.new.console) in
    subst (λ (outcome : Outcome). DoesWith (Some (plain_meant args)) left outcome before after) (sym c.alone.ensures.outcome)
    (with_objects _ args.options names left _ before after between c.in-Ok.objects wants refl (record { shelf = c.gather_named.ensures.reads; desk = refl })
    c.in-Ok.ensures.ok c.in-Ok-link_plain.ensures.faultless c.put_and_print.ensures.line
    (inr (record {
      link = c.in-Ok-link_plain.linked;
      linked = subst (λ inputs. IsPlainLink inputs c.in-Ok-link_plain.linked) c.in-Ok.ensures.ok.inputs_are c.in-Ok-link_plain.ensures.link;
      done = c.put_and_print.ensures.done;
      shelf = c.put_and_print.ensures.puts;
      desk = c.put_and_print.ensures.writes;
    })))
