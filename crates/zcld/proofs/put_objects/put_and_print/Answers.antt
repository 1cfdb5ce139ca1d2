-- The results were put, and then the lines were written.
use Rattle.std.proofs.Common.{subst, inr}
use Rattle.psabi_sym.specs.Objects.{contents_of}
use Rattle.zc_outside.specs.World.{world}
use Rattle.zcld.specs.ObjectNames.{named_from}
use Rattle.zcld.specs.Puts.{PutsInTurn, text_alone}
use Rattle.zcld.proofs.OutputFacts.{put_then_printed}
use Rattle.zcld.proofs.put_objects.put_and_print.Goals as goal

pub returns-clause-done : goal.returns-clause-done
returns-clause-done g c =
    let results = c.args.results.now in
    let prefix = results.prefix.now in
    let before = g.S.Store.shown c.args.store.now in
    let between = g.S.Store.shown c.put_named.new.store in
    let desk = g.C.Console.shown c.args.console.now in
    let after = g.C.Console.shown c.print_text.new.console in
    let printed = subst (λ text. PutsInTurn c.print_text.result (text_alone text) (world between desk) (world between after)) c.as_bytes.ensures.value (c.print_text.ensures.done between) in
    inr (put_then_printed c.print_text.result (named_from prefix 0 (contents_of results.objects.now)) results.lines.now before between desk after c.in_default.ensures.ok printed)
