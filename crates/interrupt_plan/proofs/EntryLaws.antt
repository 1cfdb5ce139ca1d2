-- The lines of a plan are read from the first on: the entries so far, followed by the entries of the other lines.
use Rattle.std.proofs.Common.{◌≡◌, ℕ, ◌+◌, ◌<◌, ◌≤◌, Some, None, Ok, Err, cond, Result, List, [], ◌∷◌, ◌++◌, ltb, eqb, refl, ap, ap₂, sym, ◌∙◌, append_assoc, arith}
use Rattle.std.proofs.lemmas.Bool.{cond-false, cond-true, le-ltb, lt-ltb}
use Rattle.text_lines.specs.Lines.{lines_of}
use Rattle.text_lines.proofs.SplitLaws.{some_part}
use Rattle.interrupt_plan.specs.SharedPlan.{SharedEntry}
use Rattle.interrupt_plan.specs.Text.{Grammar, entries_of_lines, entry_then, line_entry, with_first}
use Rattle.interrupt_plan.specs.declared.fault.PlanFault.{PlanFault}
use Rattle.interrupt_plan.specs.declared.fault.PlanFault.TheVariants.{BadLine, OutOfOrder}

-- entries, followed by the entries after them
abbrev pub with_entries : List SharedEntry → Result (List SharedEntry) PlanFault → Result (List SharedEntry) PlanFault
with_entries es (Ok more) = Ok (es ++ more)
with_entries es (Err fault) = Err fault

-- a line with its line feed, followed by the lines after it
pub line_step : (g : Grammar) (number low : ℕ) (line behind : List ℕ) → entries_of_lines g number low (line ∷ lines_of behind) ≡ entry_then number low (line_entry g line) (λ at. entries_of_lines g (number + 1) at (lines_of behind))
line_step g number low line behind =
    let parts = some_part (λ b. eqb b 10) behind in
    ap (λ more. entries_of_lines g number low (line ∷ more)) parts.2
    ∙ ap (λ more. entry_then number low (line_entry g line) (λ at. entries_of_lines g (number + 1) at more)) (sym parts.2)

-- ---- the line that the reader has reached, after the entries so far

module _ (g : Grammar) (es : List SharedEntry) (number low : ℕ) (rest line behind : List ℕ) (is : lines_of rest ≡ line ∷ lines_of behind) where
  here : with_entries es (entries_of_lines g number low (lines_of rest)) ≡ with_entries es (entry_then number low (line_entry g line) (λ at. entries_of_lines g (number + 1) at (lines_of behind)))
  here = ap (λ ls. with_entries es (entries_of_lines g number low ls)) is ∙ ap (with_entries es) (line_step g number low line behind)

  pub step_bad : line_entry g line ≡ None → with_entries es (entries_of_lines g number low (lines_of rest)) ≡ Err (BadLine number)
  step_bad bad = here ∙ ap (λ o. with_entries es (entry_then number low o (λ at. entries_of_lines g (number + 1) at (lines_of behind)))) bad

  found : (e : SharedEntry) → line_entry g line ≡ Some e → with_entries es (entries_of_lines g number low (lines_of rest)) ≡ with_entries es (cond (ltb e.entry.at low) (Err (OutOfOrder number)) (with_first e (entries_of_lines g (number + 1) e.entry.at (lines_of behind))))
  found e is_e = here ∙ ap (λ o. with_entries es (entry_then number low o (λ at. entries_of_lines g (number + 1) at (lines_of behind)))) is_e

  pub step_late : (e : SharedEntry) → line_entry g line ≡ Some e → e.entry.at < low → with_entries es (entries_of_lines g number low (lines_of rest)) ≡ Err (OutOfOrder number)
  step_late e is_e late = found e is_e ∙ ap (with_entries es) (cond-true (ltb e.entry.at low) (Err (OutOfOrder number)) (with_first e (entries_of_lines g (number + 1) e.entry.at (lines_of behind))) (lt-ltb e.entry.at low late))

  pub step_more : (e : SharedEntry) (at : ℕ) (more : List SharedEntry) → line_entry g line ≡ Some e → e.entry.at ≡ at → low ≤ at → more ≡ es ++ (e ∷ []) → with_entries es (entries_of_lines g number low (lines_of rest)) ≡ with_entries more (entries_of_lines g (number + 1) at (lines_of behind))
  step_more e at more is_e same on pushed =
      let r = entries_of_lines g (number + 1) e.entry.at (lines_of behind) in
      found e is_e
      ∙ ap (with_entries es) (cond-false (ltb e.entry.at low) (Err (OutOfOrder number)) (with_first e r) (le-ltb e.entry.at low (omega (arith, on, same))))
      ∙ one_more e r
      ∙ ap₂ (λ l n. with_entries l (entries_of_lines g (number + 1) n (lines_of behind))) (sym pushed) same
    where
      one_more : (e : SharedEntry) (r : Result (List SharedEntry) PlanFault) → with_entries es (with_first e r) ≡ with_entries (es ++ (e ∷ [])) r
      one_more e (Ok more) = ap Ok (sym (append_assoc es (e ∷ []) more))
      one_more e (Err fault) = refl
