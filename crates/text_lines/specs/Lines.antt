-- The lines of a text, and the words of a line.
use Rattle.std.specs.Prelude.{ℕ, ◌==◌, List, [], Option, Some, None}
use Rattle.std.specs.List.{slice_split}

-- the lines of a text, split at line feeds; the last one is what follows the last line feed, usually empty
abbrev pub lines_of : List ℕ → List (List ℕ)
lines_of text = slice_split (λ b. b == 10) text

-- the words of a line, split at spaces; a word is empty between adjacent spaces and beside a space at either end
abbrev pub words_of : List ℕ → List (List ℕ)
words_of line = slice_split (λ b. b == 32) line

-- the words of the rest of a line, if there is a rest
abbrev pub words_in : Option (List ℕ) → List (List ℕ)
words_in None = []
words_in (Some line) = words_of line
