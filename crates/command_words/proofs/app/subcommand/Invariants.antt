use Rattle.std.proofs.Common.{◌≡◌, ◌++◌, false, take, map, []}
use Rattle.clap.specs.Simple.{app_of, new_shape}
use Rattle.clap.specs.declared.builder.command.Command.TheViews.{out-Command as fields_of}
use Rattle.command_words.specs.Table.{option_of, option_rule, positional_of, positional_rule}
use Rattle.command_words.proofs.app.subcommand.Given as goal

-- the options so far
abbrev pub invariant-loop-option : goal.invariant-loop-option
invariant-loop-option l =
    (app_of l.command ≡ record {
      top = record (new_shape l.form.name.now) { rules = map option_rule (map option_of (take l.option-index l.form.options.now)) };
      subs = [];
    })
    × ((fields_of l.command).has_globals ≡ false)

-- the options, and the positional words so far
abbrev pub invariant-loop-positional : goal.invariant-loop-positional
invariant-loop-positional l =
    (app_of l.command ≡ record {
      top = record (new_shape l.form.name.now) {
        rules =
            map option_rule (map option_of l.form.options.now)
            ++ map positional_rule (map positional_of (take l.positional-index l.form.positionals.now));
      };
      subs = [];
    })
    × ((fields_of l.command).has_globals ≡ false)
