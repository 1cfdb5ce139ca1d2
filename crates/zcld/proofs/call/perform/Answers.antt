-- What a command says of itself is said of its words. Four commands leave no file, and words may be no command.
use Rattle.std.proofs.Common.{◌≡◌, [], Some, None, rules, refl, subst, inl}
use Rattle.command_words.specs.Command.{command_of, list_meant, make_meant, run_meant, Check, texts}
use Rattle.psabi_sym.specs.Objects.{contents_of}
use Rattle.zc_outside.specs.World.{world}
use Rattle.zcld.specs.Call.{CarriesOut, DoesWith}
use Rattle.zcld.specs.declared.outcome.Outcome.TheVariants.{Usage}
use Rattle.zcld.proofs.Commands.{ended, out_of_memory}
use Rattle.zcld.proofs.call.perform.Goals as goal

pub returns-in-Ok-None : goal.returns-in-Ok-None
returns-in-Ok-None g c =
    let before = world (g.S.Store.shown c.args.store.now) (g.C.Console.shown c.args.console.now) in
    let spelled : None ≡ command_of (texts c.args.words.now) = search rules in
    ended _ _ c.alone.ensures.outcome (record { files = []; does = subst (λ command. CarriesOut command [] Usage before before) spelled (inl refl, refl); line = refl })

pub returns-in-Err : goal.returns-in-Err
returns-in-Err g c = ended _ _ c.alone-in-Err.ensures.outcome (record { files = []; does = out_of_memory _ [] _; line = refl })

pub returns-in-Run : goal.returns-in-Run
returns-in-Run g c =
    let spelled : Some (run_meant c.in-Run.args) ≡ command_of (texts c.args.words.now) = search rules in
    let left = contents_of c.alone-in-Run.result.files.items in
    let before = world (g.S.Store.shown c.args.store.now) (g.C.Console.shown c.args.console.now) in
    let after = world (g.S.Store.shown c.run.new.store) (g.C.Console.shown c.run.new.console) in
    ended _ left c.alone-in-Run.ensures.outcome (subst (λ command. DoesWith command left c.run.result before after) spelled (c.run.ensures left))

pub returns-in-Check : goal.returns-in-Check
returns-in-Check g c =
    let spelled : Some (Check c.in-Check.cert.now) ≡ command_of (texts c.args.words.now) = search rules in
    let left = contents_of c.alone-in-Check.result.files.items in
    let before = world (g.S.Store.shown c.args.store.now) (g.C.Console.shown c.args.console.now) in
    let after = world (g.S.Store.shown c.check.new.store) (g.C.Console.shown c.check.new.console) in
    ended _ left c.alone-in-Check.ensures.outcome (subst (λ command. DoesWith command left c.check.result before after) spelled (c.check.ensures left))

pub returns-in-Make : goal.returns-in-Make
returns-in-Make g c =
    let spelled : Some (make_meant c.in-Make.args) ≡ command_of (texts c.args.words.now) = search rules in
    let left = contents_of c.alone-in-Make.result.files.items in
    let before = world (g.S.Store.shown c.args.store.now) (g.C.Console.shown c.args.console.now) in
    let after = world (g.S.Store.shown c.make.new.store) (g.C.Console.shown c.make.new.console) in
    ended _ left c.alone-in-Make.ensures.outcome (subst (λ command. DoesWith command left c.make.result before after) spelled (c.make.ensures left))

pub returns-in-List : goal.returns-in-List
returns-in-List g c =
    let spelled : Some (list_meant c.in-List.args) ≡ command_of (texts c.args.words.now) = search rules in
    let left = contents_of c.alone-in-List.result.files.items in
    let before = world (g.S.Store.shown c.args.store.now) (g.C.Console.shown c.args.console.now) in
    let after = world (g.S.Store.shown c.list.new.store) (g.C.Console.shown c.list.new.console) in
    ended _ left c.alone-in-List.ensures.outcome (subst (λ command. DoesWith command left c.list.result before after) spelled (c.list.ensures left))
