-- The first line of a text, and what is read of it.
use Rattle.std.proofs.Common.{◌≡◌, ℕ, ◌+◌, ◌≤◌, Some, None, true, Option, List, ◌∷◌, ◌++◌, map, length, eqb, refl, ap, ◌∙◌, length-append, arith}
use Rattle.std.specs.Prelude.{bytes_eq, codes}
use Rattle.std.specs.Fmt.{decimal}
use Rattle.std.specs.List.{join_with_byte}
use Rattle.std.proofs.lemmas.Bool.{cond-true}
use Rattle.std.proofs.lemmas.Slice.Eq.{bytes_eq-Decides}
use Rattle.text_lines.specs.Lines.{lines_of}
use Rattle.text_lines.proofs.SplitLaws.{some_part}
use Rattle.pick_check.specs.declared.saving.Saving.{Saving}
use Rattle.pick_check.specs.Text.{only, read_first, saving_line, saving_numbers, saving_in_line}
use Rattle.pick_check.proofs.LineLaws.{saving_read}

pub first_line : {A : Type 0} (read : List ℕ → Option A) (text line rest : List ℕ) → lines_of text ≡ line ∷ lines_of rest → read_first read (lines_of text) ≡ read line
first_line read text line rest is =
    let parts = some_part (λ b. eqb b 10) rest in
    ap (read_first read) (is ∙ ap (λ ls. line ∷ ls) parts.2)

pub first_only : (text line rest wanted : List ℕ) → lines_of text ≡ line ∷ lines_of rest → bytes_eq line wanted ≡ true → read_first (only wanted) (lines_of text) ≡ Some wanted
first_only text line rest wanted is same =
    first_line (only wanted) text line rest is
    ∙ cond-true (bytes_eq line wanted) (Some line) None same
    ∙ ap Some ((bytes_eq-Decides line wanted).0 same)

-- a saving's line has more than 6 bytes
pub saving_room : (text line rest : List ℕ) (s : Saving) → text ≡ line ++ 10 ∷ rest → saving_in_line line ≡ Some s → 8 + length rest ≤ length text
saving_room text line rest s is read =
    let others : List ℕ = join_with_byte 32 (map decimal (saving_numbers s)) in
    let size : length (saving_line s) ≡ length (codes "saving") + length (32 ∷ others) = length-append (codes "saving") (32 ∷ others) in
    let six : length (codes "saving") ≡ 6 = refl in
    let parts = length-append line (10 ∷ rest) in
    let whole = ap length is in
    let same = ap length (saving_read line s read).0 in
    omega (arith, size, six, parts, whole, same)
