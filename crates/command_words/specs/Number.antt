-- The numbers that words spell.
use Rattle.std.specs.Prelude.{ℕ, Bool, ◌&&◌, nat_le, if◌then◌else◌, length, Option, Some, None}
use Rattle.std.specs.Char.{is_ascii_digit}
use Rattle.std.specs.List.{list_all}
use Rattle.std.specs.Str.Parse.{digits_value}
use Rattle.clap.specs.Walk.{Text}
use Rattle.command_words.specs.declared.number.TheConstants.{MOST_DIGITS}

-- a number: decimal digits, at least one and at most MOST_DIGITS
abbrev pub is_number : Text → Bool
is_number word = nat_le 1 (length word) && nat_le (length word) MOST_DIGITS && list_all is_ascii_digit word

-- the number that a word spells, if it is at most this
abbrev pub number_up_to : ℕ → Text → Option ℕ
number_up_to most word =
    if is_number word && nat_le (digits_value 10 word) most then Some (digits_value 10 word) else None
