use Rattle.std.proofs.Common.{◌≡◌, take}
use Rattle.std.specs.List.{fold}
use Rattle.clap.specs.Simple.{app_of, with_subcommand}
use Rattle.command_words.specs.Table.{bare_app, shape_of, syntax_of}
use Rattle.command_words.proofs.app.program_app.Given as goal

-- the subcommands so far
abbrev pub invariant-loop-form : goal.invariant-loop-form
invariant-loop-form l =
    app_of l.command ≡ fold (λ app form. with_subcommand app (shape_of (syntax_of form))) bare_app (take l.form-index l.form-items)
