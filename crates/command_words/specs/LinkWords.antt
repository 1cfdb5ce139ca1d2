-- What words tell a link beside its objects: the map, and the names of sections of code that stay as they are.
use Rattle.std.specs.Prelude.{Bool, true, not, ◌&&◌, ◌==◌, if◌then◌else◌, List, [], ◌∷◌, length, Option, Some, None}
use Rattle.std.specs.List.{list_all, list_any, slice_split}
use Rattle.std.specs.Option.{option_and_then, option_map}
use Rattle.std.specs.Str.{bytes_eq}
use Rattle.clap.specs.Walk.{Text}
use Rattle.zc_base.specs.Options.{Options}
use Rattle.command_words.specs.MapWords.{map_given}

-- no two of these are the same
abbrev pub are_distinct : List Text → Bool
are_distinct [] = true
are_distinct (name ∷ names) = not (list_any (bytes_eq name) names) && are_distinct names

-- none of these is empty, and no two are the same
abbrev pub are_names : List Text → Bool
are_names names = list_all (λ name. not (length name == 0)) names && are_distinct names

-- the names that an option's value has between its commas; without it there are none
abbrev pub names_given : Option Text → Option (List Text)
names_given (Some word) =
    let names = slice_split (λ c. c == 44) word in
    if are_names names then Some names else None
names_given None = Some []

-- what the values of a link's options tell, in their order: those of the map, and the one for the names
abbrev pub options_given : List (Option Text) → Option Options
options_given (text ∷ start ∷ low ∷ high ∷ word ∷ names ∷ []) =
    option_and_then (λ m. option_map (λ fixed. record { map = m; fixed = fixed }) (names_given names))
    (map_given (text ∷ start ∷ low ∷ high ∷ word ∷ []))
options_given other = None
