-- Nothing is put or written before the load is known; then the objects are put, if they have names, and the text is written.
use Rattle.std.proofs.Common.{◌≡◌, [], Some, None, sym, ap, subst, inl, inr}
use Rattle.std.specs.Option.{option_copied}
use Rattle.psabi_sym.specs.Objects.{contents_of}
use Rattle.zc_outside.proofs.Desk.{OnlyWrites-refl}
use Rattle.zc_outside.proofs.Shelf.{OnlyPuts-refl}
use Rattle.zc_outside.specs.World.{world}
use Rattle.load_runner.specs.declared.load_end.LoadEnd.TheVariants.{OutOfMemory}
use Rattle.zcld.specs.Make.{IsSummary, IsUnloaded, MakeWork, object_files}
use Rattle.zcld.specs.ObjectNames.{named_from}
use Rattle.zc_outside.specs.Shelf.{OnlyPuts}
use Rattle.zcld.specs.Puts.{PutsFiles, PutsInTurn, text_alone}
use Rattle.zcld.proofs.MakeFacts.{does_work, load_put, no_load}
use Rattle.zcld.proofs.PutLaws.{PutsFiles-none}
use Rattle.zcld.proofs.OutputFacts.{put_then_printed}
use Rattle.zcld.proofs.make.make.Goals as goal
use Rattle.zcld.proofs.make.make.Goals.{in-Some+in_default-put_named, in_default}

pub returns-in-Err : goal.returns-in-Err
returns-in-Err g c =
    let args = c.args.args in
    let before = world (g.S.Store.shown c.args.store.now) (g.C.Console.shown c.args.console.now) in
    let outcome = c.in-Err.outcome in
    let without : IsUnloaded args.number (contents_of c.in-Ok.objects.items) outcome =
    subst (λ files. IsUnloaded args.number (contents_of files) outcome) c.as_slice.ensures.value c.in-Err.ensures.err in
    does_work (option_copied args.prefix) args.number args.functions outcome before before c.in-Err.ensures.line
    (no_load (option_copied args.prefix) args.number args.functions (contents_of c.in-Ok.objects.items) c.in-Ok.ensures.objects outcome before without)

pub returns-in-Err-put_named : goal.returns-in-Err-put_named
returns-in-Err-put_named g c =
    let args = c.args.args in
    let before = world (g.S.Store.shown c.args.store.now) (g.C.Console.shown c.args.console.now) in
    let after = world (g.S.Store.shown c.put_named.new.store) (g.C.Console.shown c.args.console.now) in
    let objects = contents_of c.in-Ok.objects.items in
    let outcome = c.in-Err-put_named.outcome in
    let text = c.in-Ok-load.text.items in
    let names : option_copied args.prefix ≡ Some c.in-Some.prefix.now = ap option_copied c.in-Some.is in
    let summary : IsSummary args.number args.functions objects text =
    subst (λ files. IsSummary args.number args.functions (contents_of files) text) c.as_slice.ensures.value c.in-Ok-load.ensures.ok in
    let made = c.in-Ok.ensures.objects in
    let prefix = option_copied args.prefix in
    does_work prefix args.number args.functions outcome before after c.in-Err-put_named.ensures.line
    (elim c.in-Err-put_named.ensures.err [
      | inl nothing ↦
          subst (λ shelf. MakeWork prefix args.number args.functions [] outcome before (world shelf (g.C.Console.shown c.args.console.now))) (sym nothing.1)
          (no_load prefix args.number args.functions objects made outcome before (record { end = OutOfMemory; cause = tt; outcome_is = nothing.0 }))
      | inr puts ↦
          let put : PutsInTurn outcome (record { files = named_from c.in-Some.prefix.now 0 objects; text = text }) before after =
          subst (λ files. PutsInTurn outcome (record { files = named_from c.in-Some.prefix.now 0 (contents_of files); text = text }) before after) c.as_slice-in-Some.ensures.value
          (puts text (g.C.Console.shown c.args.console.now)) in
          let done : PutsInTurn outcome (record { files = object_files prefix objects; text = text }) before after =
          subst (λ p. PutsInTurn outcome (record { files = object_files p objects; text = text }) before after) (sym names) put in
          load_put prefix args.number args.functions objects made outcome text before after summary done
          c.in-Err-put_named.ensures.puts (OnlyWrites-refl (g.C.Console.shown c.args.console.now))
    ])

pub returns : goal.returns
returns g c =
    let args = c.args.args in
    let shelf = g.S.Store.shown c.args.store.now in
    let between = g.S.Store.shown c.match-args.store in
    let desk = g.C.Console.shown c.args.console.now in
    let after = g.C.Console.shown c.print_text.new.console in
    let objects = contents_of c.in-Ok.objects.items in
    let outcome = c.print_text.result in
    let text = c.in-Ok-load.text.items in
    let summary : IsSummary args.number args.functions objects text =
    subst (λ files. IsSummary args.number args.functions (contents_of files) text) c.as_slice.ensures.value c.in-Ok-load.ensures.ok in
    let printed : PutsInTurn outcome (text_alone text) (world between desk) (world between after) =
    subst (λ t. PutsInTurn outcome (text_alone t) (world between desk) (world between after)) c.as_slice-2.ensures.value (c.print_text.ensures.done between) in
    let put : PutsFiles shelf.files between.files (object_files (option_copied args.prefix) objects) × OnlyPuts shelf between =
    elim c.match-args.branch [
      | in-Some+in_default-put_named w ↦
          let names : option_copied args.prefix ≡ Some w.in-Some.prefix.now = ap option_copied w.in-Some.is in
          let files = (g.S.Store.shown w.put_named.new.store).files in
          let named : PutsFiles shelf.files files (named_from w.in-Some.prefix.now 0 objects) =
          subst (λ all. PutsFiles shelf.files files (named_from w.in-Some.prefix.now 0 (contents_of all))) w.as_slice-in-Some.ensures.value w.in_default-put_named.ensures.ok in
          subst (λ store. PutsFiles shelf.files (g.S.Store.shown store).files (object_files (option_copied args.prefix) objects) × OnlyPuts shelf (g.S.Store.shown store)) (sym w.store-is)
          (subst (λ p. PutsFiles shelf.files files (object_files p objects)) (sym names) named, w.in_default-put_named.ensures.puts)
      | in_default w ↦
          let none : option_copied args.prefix ≡ None = ap option_copied w.in_default.is in
          subst (λ store. PutsFiles shelf.files (g.S.Store.shown store).files (object_files (option_copied args.prefix) objects) × OnlyPuts shelf (g.S.Store.shown store)) (sym w.store-is)
          (subst (λ p. PutsFiles shelf.files shelf.files (object_files p objects)) (sym none) (PutsFiles-none shelf.files), OnlyPuts-refl shelf)
    ] in
    does_work (option_copied args.prefix) args.number args.functions outcome (world shelf desk) (world between after) c.print_text.ensures.line
    (load_put (option_copied args.prefix) args.number args.functions objects c.in-Ok.ensures.objects outcome text (world shelf desk) (world between after) summary
    (put_then_printed outcome (object_files (option_copied args.prefix) objects) text shelf between desk after put.0 printed) put.1 c.print_text.ensures.writes)
