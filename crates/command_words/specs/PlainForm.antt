-- Words in the plain form, read without clap: a command's name, its options in any order, each with its value in the
-- next word, and then its positional words. No value and no positional word begins with `-`.
use Rattle.std.specs.Prelude.{◌≡◌, ◌≤◌, Bool, true, false, not, ◌&&◌, ◌||◌, ◌==◌, nat_le, if◌then◌else◌, ℕ, List, [], ◌∷◌, length, map, Option, Some, None, is_some, slice_index_or, slice_set}
use Rattle.std.specs.Option.{option_and_then, option_map_or}
use Rattle.std.specs.List.{list_all, list_any, position, zip}
use Rattle.std.specs.Str.{bytes_eq}
use Rattle.clap.specs.Lexer.{usize_max}
use Rattle.clap.specs.Walk.{Text}
use Rattle.command_words.specs.Command.{Command, Spelled, Words, command_of, meaning_named}
use Rattle.command_words.specs.Table.{PositionalSyntax, Syntax}

-- a word that begins with `-`: an option, and no value or positional word
abbrev pub begins_with_dash : Text → Bool
begins_with_dash [] = false
begins_with_dash (c ∷ word) = c == 45

-- an option's name, as it is written
abbrev pub dashed : Text → Text
dashed name = 45 ∷ 45 ∷ name

-- ---- the words after a command's name

-- the values with one more: its option is one of the command's, and has none yet
unfoldable pub with_value : Syntax → List (Option Text) → Text → Text → Option (List (Option Text))
with_value form values name value =
    option_and_then
    (λ place. if is_some (slice_index_or values place None) then None else Some (slice_set values place (Some value)))
    (position (λ option. bytes_eq (dashed option.name) name) form.options)

-- what words spell after these values: options, each with its value in the next word, and then the positional words
abbrev pub spelled_from : Syntax → List (Option Text) → List Text → Option Spelled
spelled_from form values [] = Some (Words values [])
spelled_from form values (word ∷ []) = Some (Words values (word ∷ []))
spelled_from form values (option ∷ value ∷ words) =
    if not (begins_with_dash option) then Some (Words values (option ∷ value ∷ words)) else
    (if begins_with_dash value then None else
    option_and_then (λ more. spelled_from form more words) (with_value form values option value))

-- no option that must be given has no value
abbrev pub has_required : Syntax → List (Option Text) → Bool
has_required form values = list_all (λ (option, value). not option.required || is_some value) (zip form.options values)

-- there are as many positional words as the command has, or more if one of them may come several times
abbrev pub takes_words : List PositionalSyntax → ℕ → Bool
takes_words positionals count =
    if list_any (λ positional. positional.several) positionals then nat_le (length positionals) count
    else count == length positionals

-- no word begins with `-`
abbrev pub has_no_option : List Text → Bool
has_no_option words = list_all (λ word. not (begins_with_dash word)) words

-- no option is missing, the number of positional words is right, and none of them is an option
unfoldable pub is_complete : Syntax → Spelled → Bool
is_complete form (Words values positional) =
    has_required form values && takes_words form.positionals (length positional) && has_no_option positional

-- before any option there is no value
abbrev pub no_values : Syntax → List (Option Text)
no_values form = map (λ option. None) form.options

-- what the words after a command's name spell
unfoldable pub spelled_words : Syntax → List Text → Option Spelled
spelled_words form words =
    option_and_then (λ found. if is_complete form found then Some found else None)
    (spelled_from form (no_values form) words)

-- ---- all words

-- the command that words in the plain form spell
abbrev pub plain_command_of : List Text → Option Command
plain_command_of [] = None
plain_command_of (name ∷ words) =
    option_and_then (λ m. option_and_then m.command (spelled_words m.form words)) (meaning_named name)

-- the words are in the plain form of a command, whatever they mean
abbrev pub is_plain_form : List Text → Bool
is_plain_form [] = false
is_plain_form (name ∷ words) = option_map_or (λ m. is_some (spelled_words m.form words)) (meaning_named name) false

-- clap reads words in the plain form as they stand here, so it finds each command that they spell
pub record IsReadAsPlain (words : List Text) : Type 0 where
  pub reads : length words ≤ usize_max → is_plain_form words ≡ true → command_of words ≡ plain_command_of words
  pub finds :
      length words ≤ usize_max → (command : Command) → plain_command_of words ≡ Some command →
      command_of words ≡ Some command
