use Rattle.std.proofs.Common.{rules, ◌≡◌, ◌∙◌, true, sym, ap, ap₂, map}
use Rattle.std.specs.List.{fold}
use Rattle.std.proofs.lemmas.List.{take_all}
use Rattle.std.proofs.lemmas.List.Folds.{fold-map}
use Rattle.std.proofs.lemmas.List.Sums.{fold_more}
use Rattle.clap.specs.Simple.{App, app_of_fields, with_subcommand}
use Rattle.command_words.specs.Table as table
use Rattle.command_words.specs.Table.{bare_app, commands, program_app, shape_of, syntax_of}
use Rattle.command_words.specs.declared.table.Syntax.{Syntax}
use Rattle.command_words.proofs.app.program_app.Goals as goal

-- one more subcommand
abbrev with_form : App → table.Syntax → App
with_form app form = with_subcommand app (shape_of form)

-- one more subcommand of the program's table
abbrev with_row : App → Syntax → App
with_row app form = with_form app (syntax_of form)

-- the settings of the command itself
abbrev without_name : App → App
without_name app = record app { top = record app.top { no_binary_name = true } }

abbrev requiring : App → App
requiring app = record app { top = record app.top { subcommand_required = true } }

pub loop-form-init : goal.loop-form-init
loop-form-init c =
    ap app_of_fields c.subcommand_required-command.ensures
    ∙ ap requiring (ap app_of_fields c.no_binary_name.ensures ∙ ap without_name c.new.ensures.app)

pub loop-form-preserved : goal.loop-form-preserved
loop-form-preserved c =
    c.in_ok-command.ensures.shape c.in_ok-subcommand.ensures.local
    ∙ ap₂ with_subcommand c.loop-form.invariant (ap (λ (a : App). a.top) c.in_ok-subcommand.ensures.shape)
    ∙ sym (fold_more with_row _ _ _ _ c.loop-form-test.true)

-- the program's table is that of the definitions
pub returns : goal.returns
unfolding program_app
returns c =
    let same : map syntax_of c.as_slice-form-items.result.now ≡ commands = search rules in
    c.loop-form.invariant
    ∙ ap (fold with_row bare_app) (take_all _ _ c.loop-form-test.false)
    ∙ sym (fold-map with_form syntax_of bare_app c.as_slice-form-items.result.now)
    ∙ ap (fold with_form bare_app) same
