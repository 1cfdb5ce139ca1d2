-- Two files are put, and then the report is written.
use Rattle.std.proofs.Common.{subst, arith}
use Rattle.zc_outside.specs.Files.{PutsFile}
use Rattle.zc_outside.specs.World.{world}
use Rattle.zc_outside.proofs.Shelf.{OnlyPuts-refl}
use Rattle.zcld.specs.Puts.{PutsInTurn, text_alone}
use Rattle.zcld.specs.Zc.{output_of}
use Rattle.zcld.proofs.OutputFacts.{put_then_printed}
use Rattle.zcld.proofs.PutLaws.{PutsFiles-none, one_put, put_refused, two_put}
use Rattle.zcld.proofs.zc.put_and_report.Goals as goal

pub returns-in-Err-clause-done : goal.returns-in-Err-clause-done
returns-in-Err-clause-done g c =
    let args = c.args.args.now in
    let before = g.S.Store.shown c.args.store.now in
    put_refused (output_of args.out.now args.cert.now c.args.results.now) before before (g.S.Store.shown c.put.new.store) (g.C.Console.shown c.args.console.now)
    0 (omega arith) (PutsFiles-none before.files) c.in-Err.ensures.err (OnlyPuts-refl before) c.in-Err.outcome c.in-Err.ensures.cause

pub returns-in-Err-put-clause-done : goal.returns-in-Err-put-clause-done
returns-in-Err-put-clause-done g c =
    let args = c.args.args.now in
    let results = c.args.results.now in
    let before = g.S.Store.shown c.args.store.now in
    let between = g.S.Store.shown c.put.new.store in
    let first = subst (λ image. PutsFile before.files between.files args.out.now image) c.as_slice.ensures.value c.in_default.ensures.ok in
    put_refused (output_of args.out.now args.cert.now results) before between (g.S.Store.shown c.put-2.new.store) (g.C.Console.shown c.args.console.now)
    1 (omega arith) (one_put before.files between.files args.out.now results.image.items first) c.in-Err-put.ensures.err c.put.ensures.puts c.in-Err-put.outcome c.in-Err-put.ensures.cause

pub returns-clause-done : goal.returns-clause-done
returns-clause-done g c =
    let args = c.args.args.now in
    let results = c.args.results.now in
    let before = g.S.Store.shown c.args.store.now in
    let between = g.S.Store.shown c.put.new.store in
    let after = g.S.Store.shown c.put-2.new.store in
    let desk = g.C.Console.shown c.args.console.now in
    let desk' = g.C.Console.shown c.print_text.new.console in
    let first = subst (λ image. PutsFile before.files between.files args.out.now image) c.as_slice.ensures.value c.in_default.ensures.ok in
    let second = subst (λ text. PutsFile between.files after.files args.cert.now text) c.as_slice-2.ensures.value c.in_default-put.ensures.ok in
    let printed = subst (λ text. PutsInTurn c.print_text.result (text_alone text) (world after desk) (world after desk')) c.as_slice-3.ensures.value (c.print_text.ensures.done after) in
    put_then_printed c.print_text.result (output_of args.out.now args.cert.now results).files results.report.items before after desk desk'
    (two_put before.files between.files after.files args.out.now results.image.items args.cert.now results.certificate.items c.requires first second) printed
