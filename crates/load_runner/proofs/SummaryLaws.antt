-- A summary is put together line by line.
use Rattle.std.proofs.Common.{◌≡◌, ℕ, List, [], ◌∷◌, ◌++◌, refl, sym, ap, ◌∙◌, append-nil, append_assoc}
use Rattle.std.specs.Prelude.{codes}
use Rattle.pick_check.specs.Text.{line_with, text_of}
use Rattle.pick_check.proofs.WriteLaws.{text_more}
use Rattle.load_runner.specs.Summary.{exit_lines, number_lines, summary_text}
use Rattle.load_runner.specs.declared.load.Load.{Load}

-- lines were added to a text, one after another
abbrev pub AddsLines : List ℕ → List (List ℕ) → List ℕ → Type 0
AddsLines text [] new = new ≡ text
AddsLines text (line ∷ lines) new = (next : List ℕ) × (next ≡ text ++ (line ++ 10 ∷ [])) × AddsLines next lines new

pub lines_added : (text : List ℕ) (lines : List (List ℕ)) (new : List ℕ) → AddsLines text lines new → new ≡ text ++ text_of lines
lines_added text [] new is = is ∙ sym (append-nil text)
lines_added text (line ∷ lines) new added =
    lines_added added.0 lines new added.2 ∙ ap (λ t. t ++ text_of lines) added.1 ∙ append_assoc text (line ++ 10 ∷ []) (text_of lines)

-- the lines of the counts, then the lines of the numbers and of the exits
pub put_together :
    (functions objects : ℕ) (load : Load) (t1 t2 t3 text : List ℕ) → t1 ≡ line_with (codes "functions") (functions ∷ []) ++ 10 ∷ []
    → t2 ≡ t1 ++ (line_with (codes "objects") (objects ∷ []) ++ 10 ∷ []) → t3 ≡ t2 ++ text_of (number_lines load)
    → text ≡ t3 ++ text_of (exit_lines load) → text ≡ summary_text functions objects load
unfolding summary_text
put_together functions objects load t1 t2 t3 text one two three four =
    let counts = line_with (codes "functions") (functions ∷ []) ∷ line_with (codes "objects") (objects ∷ []) ∷ [] in
    let rest = number_lines load ++ exit_lines load in
    let front : t2 ≡ text_of counts = lines_added [] counts t2 (t1, one, (t2, two, refl)) in
    four ∙ ap (λ t. t ++ text_of (exit_lines load)) three ∙ append_assoc t2 (text_of (number_lines load)) (text_of (exit_lines load))
    ∙ ap (λ t. t2 ++ t) (sym (text_more (number_lines load) (exit_lines load))) ∙ ap (λ t. t ++ text_of rest) front ∙ sym (text_more counts rest)
