-- A report is put together line by line.
use Rattle.std.proofs.Common.{◌≡◌, ℕ, List, [], ◌∷◌, ◌++◌, map, length, ap, sym, ◌∙◌, append-nil, append_assoc}
use Rattle.std.specs.Prelude.{codes}
use Rattle.pick_check.specs.declared.saving.Saving.{Saving}
use Rattle.pick_check.specs.Certified.{Certified}
use Rattle.pick_check.specs.Text.{net_line, saving_line, slot_line, text_of}
use Rattle.pick_check.proofs.WriteLaws.{text_more}
use Rattle.size_report.specs.Report.{count_line, count_lines, fixed_lines, report_text, table_lines}
use Rattle.size_report.specs.declared.report.LinkCounts.{LinkCounts}

-- a text of some lines, with more lines added, is the text of all of them
lines_more : (old text new : List ℕ) (lines more : List (List ℕ)) → text ≡ old ++ text_of lines → new ≡ text ++ text_of more → new ≡ old ++ text_of (lines ++ more)
lines_more old text new lines more so_far is =
    is ∙ ap (λ t. t ++ text_of more) so_far ∙ append_assoc old (text_of lines) (text_of more) ∙ ap (λ t. old ++ t) (sym (text_more lines more))

-- a text of some lines, with one more line added, is the text of all of them
line_more : (old text new : List ℕ) (lines : List (List ℕ)) (line : List ℕ) → text ≡ old ++ text_of lines → new ≡ text ++ (line ++ 10 ∷ []) → new ≡ old ++ text_of (lines ++ line ∷ [])
line_more old text new lines line so_far is =
    lines_more old text new lines (line ∷ []) so_far (is ∙ ap (λ t. text ++ t) (sym (append-nil (line ++ 10 ∷ []))))

-- lines were added to a text one by one
abbrev pub AddsLines : List ℕ → List (List ℕ) → List ℕ → Type 0
AddsLines text [] new = new ≡ text
AddsLines text (line ∷ lines) new = (next : List ℕ) × (next ≡ text ++ (line ++ 10 ∷ [])) × AddsLines next lines new

pub lines_added : (text : List ℕ) (lines : List (List ℕ)) (new : List ℕ) → AddsLines text lines new → new ≡ text ++ text_of lines
lines_added text [] new is = is ∙ sym (append-nil text)
lines_added text (line ∷ lines) new added =
    lines_added added.0 lines new added.2 ∙ ap (λ t. t ++ text_of lines) added.1 ∙ append_assoc text (line ++ 10 ∷ []) (text_of lines)

-- the lines of the counts, then those of the table, and then the one on fixed sections
pub put_together :
    (counts : LinkCounts) (savings : List Saving) (c : Certified) (slots : List ℕ) (count net : ℕ) (a b d e f text : List ℕ) →
    slots ≡ c.slots → count ≡ length c.slots → net ≡ c.net →
    a ≡ text_of (count_lines counts.plain counts.zc) → b ≡ a ++ (count_line (codes "slots") count ++ 10 ∷ []) → d ≡ b ++ (net_line net ++ 10 ∷ []) →
    e ≡ d ++ text_of (map saving_line savings) → f ≡ e ++ text_of (map slot_line slots) → text ≡ f ++ text_of (fixed_lines counts.fixed) →
    text ≡ report_text counts savings c
unfolding report_text
put_together counts savings c slots count net a b d e f text same_slots same_count same_net first_lines with_slots with_net with_savings with_last with_fixed =
    let front = count_lines counts.plain counts.zc in
    let first = count_line (codes "slots") (length c.slots) in
    let second = net_line c.net in
    let one = line_more [] a b front first first_lines (with_slots ∙ ap (λ n. a ++ (count_line (codes "slots") n ++ 10 ∷ [])) same_count) in
    let two = line_more [] b d (front ++ first ∷ []) second one (with_net ∙ ap (λ n. b ++ (net_line n ++ 10 ∷ [])) same_net) in
    let three = lines_more [] d e ((front ++ first ∷ []) ++ second ∷ []) (map saving_line savings) two with_savings in
    let four = lines_more [] e f (((front ++ first ∷ []) ++ second ∷ []) ++ map saving_line savings) (map slot_line c.slots) three (with_last ∙ ap (λ s. e ++ text_of (map slot_line s)) same_slots) in
    let tabled : f ≡ text_of (front ++ table_lines savings c) =
    four ∙ ap text_of (append_assoc ((front ++ first ∷ []) ++ second ∷ []) (map saving_line savings) (map slot_line c.slots)) in
    lines_more [] f text (front ++ table_lines savings c) (fixed_lines counts.fixed) tabled with_fixed
    ∙ ap text_of (append_assoc front (table_lines savings c) (fixed_lines counts.fixed))
