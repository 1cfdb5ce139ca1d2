-- The command that the words of the command line are, by clap's own definition of how such a command reads words.
use Rattle.std.specs.Prelude.{ℕ, ⊤, ◌-◌, ◌^◌, if◌then◌else◌, List, [], ◌∷◌, ◌++◌, length, take, drop, map, find, Option, Some, None, String, unwrap_or}
use Rattle.std.specs.Option.{option_and_then, option_copied, option_map}
use Rattle.std.specs.Str.{bytes_eq}
use Rattle.std.specs.String.{string_bytes}
use Rattle.clap.specs.Faults.{fault_of}
use Rattle.clap.specs.Kinds.{Kinds}
use Rattle.clap.specs.Simple.{App, subcommand_of}
use Rattle.clap.specs.Walk.{Row, Text, all_of, first_of}
use Rattle.zc_base.specs.MemMap.{IsMap}
use Rattle.zc_base.specs.Options.{Options}
use Rattle.zc_base.specs.declared.mem_map.MemMap.{MemMap}
use Rattle.command_words.specs.declared.command_line.TheConstants.{MOST_FUNCTIONS, MOST_STEPS, USUAL_STEPS}
use Rattle.command_words.specs.declared.command_line.CommandLine.{CommandLine}
use Rattle.command_words.specs.declared.command_line.CommandLine.TheVariants as line
use Rattle.command_words.specs.declared.command_line.GcArgs.{GcArgs}
use Rattle.command_words.specs.declared.command_line.ListArgs.{ListArgs}
use Rattle.command_words.specs.declared.command_line.MakeArgs.{MakeArgs}
use Rattle.command_words.specs.declared.command_line.MergeArgs.{MergeArgs}
use Rattle.command_words.specs.declared.command_line.PlainArgs.{PlainArgs}
use Rattle.command_words.specs.declared.command_line.RunArgs.{RunArgs}
use Rattle.command_words.specs.declared.command_line.ShareArgs.{ShareArgs}
use Rattle.command_words.specs.declared.command_line.TraceArgs.{TraceArgs}
use Rattle.command_words.specs.declared.command_line.ZcArgs.{ZcArgs}
use Rattle.command_words.specs.LinkWords.{options_given}
use Rattle.command_words.specs.Number.{number_up_to}
use Rattle.command_words.specs.Table.{OptionSyntax, PositionalSyntax, Syntax, check_syntax, gc_syntax, link_options, list_syntax, make_syntax, merge_syntax, plain_syntax, program_app, run_syntax, share_syntax, trace_syntax, zc_syntax}

-- a command, with the options of its link or the memory map that it works in, the names of its files, and its numbers
pub data Command : Type 0 where
  Plain : (options : Options) (out : Text) (objects : List Text) → Command
  Zc : (options : Options) (out cert : Text) (objects : List Text) → Command
  Run : (map : MemMap) (devices plan : Option Text) (steps : ℕ) (image : Text) → Command
  Trace : (options : Options) (devices : Option Text) (steps : ℕ) (objects : List Text) → Command
  Check : (cert : Text) → Command
  Make : (prefix : Option Text) (number functions : ℕ) → Command
  Gc : (options : Options) (prefix : Text) (objects : List Text) → Command
  Merge : (options : Options) (prefix : Text) (objects : List Text) → Command
  Share : (options : Options) (out plan : Text) (steps : ℕ) (objects : List Text) → Command
  Listing : (map : MemMap) (image : Text) → Command

-- ---- what clap reads

-- what is found, if nothing is at fault
abbrev pub if_faultless : Kinds → Option (Text × List Row) → Option (Text × List Row)
if_faultless [] found = found
if_faultless (kind ∷ kinds) found = None

-- the name of the subcommand, and what is found of its arguments, if no step of the reading fails
unfoldable pub read_by_clap : App → List Text → Option (Text × List Row)
read_by_clap app words = if_faultless (fault_of app words) (subcommand_of app words)

-- the values of a command's options, in its order, and its positional words
pub data Spelled : Type 0 where
  Words : (values : List (Option Text)) (positional : List Text) → Spelled

-- the positional words of one name
abbrev pub words_at : PositionalSyntax → List Row → List Text
words_at positional rows =
    if positional.several then unwrap_or (all_of positional.name rows) []
    else unwrap_or (option_map (λ word. word ∷ []) (first_of positional.name rows)) []

-- all positional words
abbrev pub positional_words : List PositionalSyntax → List Row → List Text
positional_words [] rows = []
positional_words (p ∷ []) rows = words_at p rows
positional_words (p ∷ q ∷ ps) rows = words_at p rows ++ positional_words (q ∷ ps) rows

-- the values of options
abbrev pub values_in : List OptionSyntax → List Row → List (Option Text)
values_in options rows = map (λ option. first_of option.name rows) options

-- what is found of a command's options and positional words
abbrev pub found_in : Syntax → List Row → Spelled
found_in form rows = Words (values_in form.options rows) (positional_words form.positionals rows)

-- ---- what it means

-- the steps that an option's value allows, or the usual ones without it
abbrev pub steps_given : Option Text → Option ℕ
steps_given (Some word) = number_up_to MOST_STEPS word
steps_given None = Some USUAL_STEPS

-- a command under the options of the first values, by the others
abbrev pub in_options : (Options → Spelled → Option Command) → Spelled → Option Command
in_options command (Words values words) =
    option_and_then (λ options. command options (Words (drop (length link_options) values) words))
    (options_given (take (length link_options) values))

-- `plain` of its objects
abbrev pub plain_of : Options → Spelled → Option Command
plain_of options (Words (Some out ∷ []) objects) = Some (Plain options out objects)
plain_of options other = None

-- `zc` of its objects; OUT and CERT differ
abbrev pub zc_of : Options → Spelled → Option Command
zc_of options (Words (Some out ∷ Some cert ∷ []) objects) =
    if bytes_eq out cert then None else Some (Zc options out cert objects)
zc_of options other = None

-- `run` of its image, with the devices and under the plan, if there are any; no names make a difference to it
abbrev pub run_of : Options → Spelled → Option Command
run_of options (Words (devices ∷ plan ∷ steps ∷ []) (image ∷ [])) =
    option_map (λ n. Run options.map devices plan n image) (steps_given steps)
run_of options other = None

-- `trace` of its objects, with the devices if there are any
abbrev pub trace_of : Options → Spelled → Option Command
trace_of options (Words (devices ∷ steps ∷ []) objects) =
    option_map (λ n. Trace options devices n objects) (steps_given steps)
trace_of options other = None

-- `check` of its certificate
abbrev pub check_of : Spelled → Option Command
check_of (Words [] (cert ∷ [])) = Some (Check cert)
check_of other = None

-- `make` from a number of 64 bits
abbrev pub make_of : Spelled → Option Command
make_of (Words (prefix ∷ []) (number ∷ functions ∷ [])) =
    option_and_then (λ n. option_map (λ f. Make prefix n f) (number_up_to MOST_FUNCTIONS functions))
    (number_up_to (2 ^ 64 - 1) number)
make_of other = None

-- `gc` of its objects
abbrev pub gc_of : Options → Spelled → Option Command
gc_of options (Words (Some prefix ∷ []) objects) = Some (Gc options prefix objects)
gc_of options other = None

-- `merge` of its objects
abbrev pub merge_of : Options → Spelled → Option Command
merge_of options (Words (Some prefix ∷ []) objects) = Some (Merge options prefix objects)
merge_of options other = None

-- `share` of its objects, under its plan
abbrev pub share_of : Options → Spelled → Option Command
share_of options (Words (Some out ∷ Some plan ∷ steps ∷ []) objects) =
    option_map (λ n. Share options out plan n objects) (steps_given steps)
share_of options other = None

-- `list` of its image; no names make a difference to it
abbrev pub listing_of : Options → Spelled → Option Command
listing_of options (Words [] (image ∷ [])) = Some (Listing options.map image)
listing_of options other = None

-- a command's syntax, and which command it is with these words
pub record Meaning : Type 0 where
  pub form : Syntax
  pub command : Spelled → Option Command

abbrev pub meanings : List Meaning
meanings =
    record { form = plain_syntax; command = in_options plain_of }
    ∷ record { form = zc_syntax; command = in_options zc_of }
    ∷ record { form = run_syntax; command = in_options run_of }
    ∷ record { form = trace_syntax; command = in_options trace_of }
    ∷ record { form = check_syntax; command = check_of }
    ∷ record { form = make_syntax; command = make_of }
    ∷ record { form = gc_syntax; command = in_options gc_of }
    ∷ record { form = merge_syntax; command = in_options merge_of }
    ∷ record { form = share_syntax; command = in_options share_of }
    ∷ record { form = list_syntax; command = in_options listing_of } ∷ []

-- the meaning of a command's name
abbrev pub meaning_named : Text → Option Meaning
meaning_named name = find (λ m. bytes_eq name m.form.name) meanings

-- the command of a subcommand's name and of what is found of its arguments
abbrev pub meaning : Text → List Row → Option Command
meaning name rows = option_and_then (λ m. m.command (found_in m.form rows)) (meaning_named name)

-- the command that words are, if they are one
abbrev pub command_of : List Text → Option Command
command_of words = option_and_then (λ found. meaning found.0 found.1) (read_by_clap program_app words)

-- ---- as the program holds them

-- the words as texts
abbrev pub texts : {A : Type 0} → List (String A) → List Text
texts words = map string_bytes words

-- the command that the words of `plain` mean
abbrev pub plain_meant : PlainArgs → Command
plain_meant args = Plain args.options args.out.now (texts args.objects.items)

-- the command that the words of `zc` mean
abbrev pub zc_meant : ZcArgs → Command
zc_meant args = Zc args.options args.out.now args.cert.now (texts args.objects.items)

-- the command that the words of `run` mean
abbrev pub run_meant : RunArgs → Command
run_meant args = Run args.map (option_copied args.devices) (option_copied args.plan) args.steps args.image.now

-- the command that the words of `trace` mean
abbrev pub trace_meant : TraceArgs → Command
trace_meant args = Trace args.options (option_copied args.devices) args.steps (texts args.objects.items)

-- the command that the words of `make` mean
abbrev pub make_meant : MakeArgs → Command
make_meant args = Make (option_copied args.prefix) args.number args.functions

-- the command that the words of `gc` mean
abbrev pub gc_meant : GcArgs → Command
gc_meant args = Gc args.options args.prefix.now (texts args.objects.items)

-- the command that the words of `merge` mean
abbrev pub merge_meant : MergeArgs → Command
merge_meant args = Merge args.options args.prefix.now (texts args.objects.items)

-- the command that the words of `share` mean
abbrev pub share_meant : ShareArgs → Command
share_meant args = Share args.options args.out.now args.plan.now args.steps (texts args.objects.items)

-- the command that the words of `list` mean
abbrev pub list_meant : ListArgs → Command
list_meant args = Listing args.map args.image.now

-- a command
abbrev pub meant_command : CommandLine → Command
meant_command (line.Plain args) = plain_meant args
meant_command (line.Zc args) = zc_meant args
meant_command (line.Run args) = run_meant args
meant_command (line.Trace args) = trace_meant args
meant_command (line.Check cert) = Check cert.now
meant_command (line.Make args) = make_meant args
meant_command (line.Gc args) = gc_meant args
meant_command (line.Merge args) = merge_meant args
meant_command (line.Share args) = share_meant args
meant_command (line.List args) = list_meant args

-- a command's map, if it has one, is one that a link may be made for
abbrev pub HasMap : CommandLine → Type 0
HasMap (line.Plain args) = IsMap args.options.map
HasMap (line.Zc args) = IsMap args.options.map
HasMap (line.Run args) = IsMap args.map
HasMap (line.Trace args) = IsMap args.options.map
HasMap (line.Check cert) = ⊤
HasMap (line.Make args) = ⊤
HasMap (line.Gc args) = IsMap args.options.map
HasMap (line.Merge args) = IsMap args.options.map
HasMap (line.Share args) = IsMap args.options.map
HasMap (line.List args) = IsMap args.map
