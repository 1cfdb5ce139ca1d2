-- The commands, and the `clap` command that reads them.
use Rattle.std.specs.Prelude.{Bool, true, false, List, [], ◌∷◌, ◌++◌, map, Some, None, if◌then◌else◌, codes, fold}
use Rattle.clap.specs.Lexer.{usize_max}
use Rattle.clap.specs.Simple.{App, Shape, new_rule, new_shape, with_subcommand}
use Rattle.clap.specs.Walk.{Rule, Text}
use Rattle.command_words.specs.declared.table.OptionSyntax as code_option
use Rattle.command_words.specs.declared.table.PositionalSyntax as code_positional
use Rattle.command_words.specs.declared.table.Syntax as code_syntax

-- an option, which takes one value: its name, and whether it must be given
pub record OptionSyntax : Type 0 where
  pub name : Text
  pub required : Bool

-- a positional word, which must be given: its name, and whether there may be several of them
pub record PositionalSyntax : Type 0 where
  pub name : Text
  pub several : Bool

-- a command: its name, its options in any order, and its positional words in theirs
pub record Syntax : Type 0 where
  pub name : Text
  pub options : List OptionSyntax
  pub positionals : List PositionalSyntax

-- ---- the commands

-- an option that must be given
abbrev pub required : Text → OptionSyntax
required name = record { name = name; required = true }

-- an option that may be left out
abbrev pub optional : Text → OptionSyntax
optional name = record { name = name; required = false }

-- a positional argument of one word
abbrev pub one : Text → PositionalSyntax
one name = record { name = name; several = false }

-- a positional argument of one word or more
abbrev pub several : Text → PositionalSyntax
several name = record { name = name; several = true }

-- the options for where the program lies and what the chip has
abbrev pub map_options : List OptionSyntax
map_options =
    optional (codes "text") ∷ optional (codes "data") ∷ optional (codes "stack-low") ∷ optional (codes "stack")
    ∷ optional (codes "extensions") ∷ []

-- these, and the one for the sections of code that stay as they are; they stand before a command's other options. LINK
-- is `[--text A] [--data A] [--stack-low A] [--stack A] [--extensions WORD] [--fixed NAMES]`
abbrev pub link_options : List OptionSyntax
link_options = map_options ++ optional (codes "fixed") ∷ []

-- `plain LINK --out OUT OBJ...`
abbrev pub plain_syntax : Syntax
plain_syntax = record {
  name = codes "plain";
  options = link_options ++ required (codes "out") ∷ [];
  positionals = several (codes "OBJ") ∷ [];
}

-- `zc LINK --out OUT --cert CERT OBJ...`
abbrev pub zc_syntax : Syntax
zc_syntax = record {
  name = codes "zc";
  options = link_options ++ required (codes "out") ∷ required (codes "cert") ∷ [];
  positionals = several (codes "OBJ") ∷ [];
}

-- `run LINK [--devices DEVICES] [--plan PLAN] [--steps N] IMAGE`
abbrev pub run_syntax : Syntax
run_syntax = record {
  name = codes "run";
  options = link_options ++ optional (codes "devices") ∷ optional (codes "plan") ∷ optional (codes "steps") ∷ [];
  positionals = one (codes "IMAGE") ∷ [];
}

-- `trace LINK [--devices DEVICES] [--steps N] OBJ...`
abbrev pub trace_syntax : Syntax
trace_syntax = record {
  name = codes "trace";
  options = link_options ++ optional (codes "devices") ∷ optional (codes "steps") ∷ [];
  positionals = several (codes "OBJ") ∷ [];
}

-- `check CERT`
abbrev pub check_syntax : Syntax
check_syntax = record { name = codes "check"; options = []; positionals = one (codes "CERT") ∷ [] }

-- `make [--out PREFIX] NUMBER FUNCTIONS`
abbrev pub make_syntax : Syntax
make_syntax = record {
  name = codes "make";
  options = optional (codes "out") ∷ [];
  positionals = one (codes "NUMBER") ∷ one (codes "FUNCTIONS") ∷ [];
}

-- `gc LINK --out PREFIX OBJ...`
abbrev pub gc_syntax : Syntax
gc_syntax = record {
  name = codes "gc";
  options = link_options ++ required (codes "out") ∷ [];
  positionals = several (codes "OBJ") ∷ [];
}

-- `merge LINK --out PREFIX OBJ...`
abbrev pub merge_syntax : Syntax
merge_syntax = record {
  name = codes "merge";
  options = link_options ++ required (codes "out") ∷ [];
  positionals = several (codes "OBJ") ∷ [];
}

-- `share LINK --out OUT --plan PLAN [--steps N] OBJ...`
abbrev pub share_syntax : Syntax
share_syntax = record {
  name = codes "share";
  options = link_options ++ required (codes "out") ∷ required (codes "plan") ∷ optional (codes "steps") ∷ [];
  positionals = several (codes "OBJ") ∷ [];
}

-- `list LINK IMAGE`
abbrev pub list_syntax : Syntax
list_syntax = record { name = codes "list"; options = link_options; positionals = one (codes "IMAGE") ∷ [] }

-- all commands
abbrev pub commands : List Syntax
commands =
    plain_syntax ∷ zc_syntax ∷ run_syntax ∷ trace_syntax ∷ check_syntax ∷ make_syntax ∷ gc_syntax ∷ merge_syntax
    ∷ share_syntax ∷ list_syntax ∷ []

-- ---- the `clap` command

-- an option has its long name, takes one value, and must be given if the table says so
abbrev pub option_rule : OptionSyntax → Rule
option_rule option = record (new_rule option.name) { long = Some option.name; required = option.required }

-- a positional word must be given; several of them are at least one
abbrev pub positional_rule : PositionalSyntax → Rule
positional_rule positional = record (new_rule positional.name) {
  required = true;
  range = if positional.several then Some (record { start_inclusive = 1; end_inclusive = usize_max }) else None;
}

-- the subcommand of a command
abbrev pub shape_of : Syntax → Shape
shape_of form = record (new_shape form.name) {
  rules = map option_rule form.options ++ map positional_rule form.positionals;
}

-- no program's name stands before the words, and a subcommand is required; there is none yet
abbrev pub bare_app : App
bare_app = record {
  top = record (new_shape (codes "zcld")) { no_binary_name = true; subcommand_required = true };
  subs = [];
}

-- the command that reads the words, with a subcommand for each command
unfoldable pub program_app : App
program_app = fold (λ app form. with_subcommand app (shape_of form)) bare_app commands

-- ---- as the program holds them

-- an option
abbrev pub option_of : code_option.OptionSyntax → OptionSyntax
option_of option = record { name = option.name.now; required = option.required }

-- a positional word
abbrev pub positional_of : code_positional.PositionalSyntax → PositionalSyntax
positional_of positional = record { name = positional.name.now; several = positional.several }

-- a command
abbrev pub syntax_of : code_syntax.Syntax → Syntax
syntax_of form = record {
  name = form.name.now;
  options = map option_of form.options.now;
  positionals = map positional_of form.positionals.now;
}
