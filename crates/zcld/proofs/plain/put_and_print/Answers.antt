-- One file was put, and then the line was written.
use Rattle.std.proofs.Common.{◌≡◌, ◌∙◌, [], ◌∷◌, ap, subst, arith}
use Rattle.zc_link.specs.Links.{Link}
use Rattle.zc_outside.specs.Files.{PutsFile}
use Rattle.zc_outside.specs.World.{world}
use Rattle.zc_outside.proofs.Shelf.{OnlyPuts-refl}
use Rattle.zcld.specs.Plain.{plain_line, plain_output}
use Rattle.zcld.specs.Puts.{PutsInTurn, text_alone}
use Rattle.zcld.proofs.OutputFacts.{put_then_printed}
use Rattle.zcld.proofs.PutLaws.{PutsFiles-none, one_put, put_refused}
use Rattle.zcld.proofs.plain.put_and_print.Goals as goal

pub returns-in-Err-clause-done : goal.returns-in-Err-clause-done
returns-in-Err-clause-done g c =
    let link : Link = c.args.linked.now in
    let before = g.S.Store.shown c.args.store.now in
    put_refused (plain_output c.args.out.now link.elf (plain_line link.plain.text)) before before (g.S.Store.shown c.put.new.store) (g.C.Console.shown c.args.console.now)
    0 (omega arith) (PutsFiles-none before.files) c.in-Err.ensures.err (OnlyPuts-refl before) c.in-Err.outcome c.in-Err.ensures.cause

pub returns-clause-done : goal.returns-clause-done
returns-clause-done g c =
    let link : Link = c.args.linked.now in
    let before = g.S.Store.shown c.args.store.now in
    let between = g.S.Store.shown c.put.new.store in
    let desk = g.C.Console.shown c.args.console.now in
    let after = g.C.Console.shown c.print_line.new.console in
    let line : c.as_str.result.now ≡ plain_line link.plain.text = c.as_str.ensures.value ∙ c.numbered_line-line.ensures ∙ ap plain_line c.from.ensures ∙ ap (λ (l : Link). plain_line l.plain.text) c.linked.view_is in
    let image : c.as_slice.result.now ≡ link.elf = c.as_slice.ensures.value ∙ ap (λ (l : Link). l.elf) c.linked.view_is in
    let put = subst (λ bytes. PutsFile before.files between.files c.args.out.now bytes) image c.in_default.ensures.ok in
    let printed = subst (λ text. PutsInTurn c.print_line.result (text_alone text) (world between desk) (world between after)) line (c.print_line.ensures.done between) in
    put_then_printed c.print_line.result ((c.args.out.now, link.elf) ∷ []) (plain_line link.plain.text) before between desk after
    (one_put before.files between.files c.args.out.now link.elf put) printed
