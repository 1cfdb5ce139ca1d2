-- The summary of a load: a line for each number and each exit, with its line feed.
use Rattle.std.specs.Prelude.{ℕ, List, [], ◌∷◌, ◌++◌, codes, decimal}
use Rattle.std.specs.List.{join_with_byte}
use Rattle.hex.specs.Hex.{encode_lower}
use Rattle.pick_check.specs.Text.{line_with, net_line, text_of}
use Rattle.zc_outside.specs.Course.{Exit}
use Rattle.load_runner.specs.declared.load.Load.{Load}

-- a line of an exit: a name, the bytes that were written, in hexadecimal digits, and the status, separated by spaces
abbrev pub exit_line : List ℕ → Exit → List ℕ
exit_line name exit = join_with_byte 32 (name ∷ encode_lower exit.bytes ∷ decimal exit.status ∷ [])

-- the lines of a load's numbers
abbrev pub number_lines : Load → List (List ℕ)
number_lines load =
    line_with (codes "plain text") (load.plain_text ∷ []) ∷
    line_with (codes "zc text") (load.zc_text ∷ []) ∷
    net_line load.net ∷
    line_with (codes "steps") (load.steps ∷ []) ∷
    line_with (codes "commits") (load.commits ∷ []) ∷
    []

-- the lines of a load's exits, by the machines in the order of their runs
abbrev pub exit_lines : Load → List (List ℕ)
exit_lines load =
    exit_line (codes "trace") load.trace ∷
    exit_line (codes "plain") load.plain ∷
    exit_line (codes "zc") load.zc ∷
    exit_line (codes "cuts") load.cuts ∷
    []

-- all lines of the summary, with the number of functions and of objects
unfoldable pub summary_text : ℕ → ℕ → Load → List ℕ
summary_text functions objects load =
    text_of (
    line_with (codes "functions") (functions ∷ []) ∷
    line_with (codes "objects") (objects ∷ []) ∷
    (number_lines load ++ exit_lines load)
    )
