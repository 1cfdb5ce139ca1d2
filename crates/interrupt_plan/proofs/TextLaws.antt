-- The text of entries spells them, and no other text does.
use Rattle.std.proofs.Common.{◌≡◌, ℕ, ◌+◌, ◌<◌, ◌≤◌, Some, None, Ok, Err, Bool, true, false, cond, Option, Result, List, [], ◌∷◌, ◌++◌, length, ltb, eqb, refl, ap, ap₂, sym, subst, ◌∙◌, append_assoc, arith}
use Rattle.std.specs.Prelude.{All, bytes_eq, flat_map}
use Rattle.std.specs.List.{join_with_byte}
use Rattle.std.proofs.lemmas.Bool.{cond-false, cond-true, eq-eqb, le-ltb, lt-ltb, ltb-false}
use Rattle.std.proofs.lemmas.List.Elements.{All-cons, All-head, All-nil, All-tail}
use Rattle.std.proofs.lemmas.List.Splits.{join_with_byte-slice_split, slice_split_at}
use Rattle.std.proofs.lemmas.Slice.Eq.{bytes_eq-Decides}
use Rattle.text_lines.specs.Lines.{lines_of}
use Rattle.text_lines.proofs.PlainLaws.{IsLine}
use Rattle.text_lines.proofs.SplitLaws.{some_part}
use Rattle.interrupt_plan.specs.SharedPlan.{SharedEntry}
use Rattle.interrupt_plan.specs.Text.{FitsEntry, Grammar, IsEntryOf, IsTextBy, entries_behind, entries_by, entries_of_lines, entry_line, entry_then, line_entry, text_by, with_first}
use Rattle.interrupt_plan.specs.declared.fault.PlanFault.{PlanFault}
use Rattle.interrupt_plan.specs.declared.fault.PlanFault.TheVariants.{BadLine, OutOfOrder, TooLarge}
use Rattle.interrupt_plan.proofs.EntryLaws.{line_step}
use Rattle.interrupt_plan.proofs.GrammarLaws.{line_entry_back, line_entry_is}
use Rattle.interrupt_plan.proofs.OrderLaws.{Ordered, in_order, ordered}
use Rattle.interrupt_plan.proofs.PlainLaws.{no_line_feed}

-- ---- lines

abbrev pub ended : SharedEntry → List ℕ
ended e = entry_line e ++ 10 ∷ []

first_line : (e : SharedEntry) (rest : List ℕ) → FitsEntry e → lines_of (ended e ++ rest) ≡ entry_line e ∷ lines_of rest
first_line e rest fits =
    ap lines_of (append_assoc (entry_line e) (10 ∷ []) rest)
    ∙ slice_split_at (λ b. eqb b 10) (entry_line e) 10 rest (no_line_feed e fits) (eq-eqb 10 10 refl)

no_ok : {A : Type 0} (fault : PlanFault) (es : List SharedEntry) → ◌≡◌ {A = Result (List SharedEntry) PlanFault} (Err fault) (Ok es) → A
no_ok fault es is = absurd cc

with_first_is : (e : SharedEntry) (r : Result (List SharedEntry) PlanFault) (es : List SharedEntry) → with_first e r ≡ Ok es → (more : List SharedEntry) × (r ≡ Ok more) × (e ∷ more ≡ es)
with_first_is e (Ok more) es is = (more, refl, cc)
with_first_is e (Err fault) es is = no_ok fault es is

last_is : (number : ℕ) (rest : List ℕ) (es : List SharedEntry) (b : Bool) → bytes_eq rest [] ≡ b → cond b (Ok []) (Err (BadLine number)) ≡ Ok es → (rest ≡ []) × ([] ≡ es)
last_is number rest es true is ok = ((bytes_eq-Decides rest []).0 is, cc)
last_is number rest es false is ok = no_ok (BadLine number) es ok

in_time : (number low : ℕ) (e : SharedEntry) (r : Result (List SharedEntry) PlanFault) (es : List SharedEntry) (b : Bool) → ltb e.entry.at low ≡ b → cond b (Err (OutOfOrder number)) (with_first e r) ≡ Ok es → (low ≤ e.entry.at) × (with_first e r ≡ Ok es)
in_time number low e r es true is ok = no_ok (OutOfOrder number) es ok
in_time number low e r es false is ok = (ltb-false e.entry.at low is, ok)

module _ (g : Grammar) where
  -- ---- the text of entries is read as these entries

  entries_read : (number low : ℕ) (es : List SharedEntry) → All (IsEntryOf g) es → Ordered low es → entries_of_lines g number low (lines_of (flat_map ended es)) ≡ Ok es
  entries_read number low [] fits sorted = refl
  entries_read number low (e ∷ es) fits sorted =
      let rest : List ℕ = flat_map ended es in
      let here = All-head (IsEntryOf g) e es fits in
      let spells = line_entry_back g e here in
      ap (entries_of_lines g number low) (first_line e rest here.1)
      ∙ line_step g number low (entry_line e) rest
      ∙ ap (λ o. entry_then number low o (λ at. entries_of_lines g (number + 1) at (lines_of rest))) spells
      ∙ cond-false (ltb e.entry.at low) (Err (OutOfOrder number)) (with_first e (entries_of_lines g (number + 1) e.entry.at (lines_of rest))) (le-ltb e.entry.at low sorted.0)
      ∙ ap (with_first e) (entries_read (number + 1) e.entry.at es (All-tail (IsEntryOf g) e es fits) sorted.1)

  -- the other lines come after the first line
  pub behind_title : (title rest : List ℕ) → title ≡ g.title → entries_behind g (title ∷ lines_of rest) ≡ entries_of_lines g 2 0 (lines_of rest)
  behind_title title rest is =
      let parts = some_part (λ b. eqb b 10) rest in
      ap (λ ls. entries_behind g (title ∷ ls)) parts.2
      ∙ cond-true (bytes_eq title g.title) (entries_of_lines g 2 0 (parts.0 ∷ parts.1)) (Err (BadLine 1)) ((bytes_eq-Decides title g.title).1 is)
      ∙ ap (entries_of_lines g 2 0) (sym parts.2)

  pub other_title : (title rest : List ℕ) → bytes_eq title g.title ≡ false → entries_behind g (title ∷ lines_of rest) ≡ Err (BadLine 1)
  other_title title rest other =
      let parts = some_part (λ b. eqb b 10) rest in
      ap (λ ls. entries_behind g (title ∷ ls)) parts.2
      ∙ cond-false (bytes_eq title g.title) (entries_of_lines g 2 0 (parts.0 ∷ parts.1)) (Err (BadLine 1)) other

  pub too_large : (text : List ℕ) → 8388608 < length text → entries_by g text ≡ Err TooLarge
  unfolding entries_by
  too_large text over = cond-true (ltb 8388608 (length text)) (Err TooLarge) (entries_behind g (lines_of text)) (lt-ltb 8388608 (length text) over)

  pub within_limit : (text : List ℕ) (parts : List (List ℕ)) → length text ≤ 8388608 → lines_of text ≡ parts → entries_by g text ≡ entries_behind g parts
  unfolding entries_by
  within_limit text parts small is =
      cond-false (ltb 8388608 (length text)) (Err TooLarge) (entries_behind g (lines_of text)) (le-ltb 8388608 (length text) small) ∙ ap (entries_behind g) is

  pub text_back : IsLine g.title → (text : List ℕ) (plan : List SharedEntry) → IsTextBy g text plan → length text ≤ 8388608 → entries_by g text ≡ Ok plan
  unfolding text_by
  text_back titled text plan is small =
      let rest : List ℕ = flat_map ended plan in
      within_limit text (g.title ∷ lines_of rest) small (ap lines_of is.spells ∙ slice_split_at (λ b. eqb b 10) g.title 10 rest titled (eq-eqb 10 10 refl))
      ∙ behind_title g.title rest refl
      ∙ entries_read 2 0 plan is.fits (ordered 0 plan is.in_order (λ e more _. omega arith))

  -- ---- a text that is read as entries is their text

  ReadLines : List (List ℕ) → ℕ → List SharedEntry → Type 0
  ReadLines parts low es = (join_with_byte 10 parts ≡ flat_map ended es) × All (IsEntryOf g) es × Ordered low es

  lines_read : (number low : ℕ) (line : List ℕ) (lines : List (List ℕ)) (es : List SharedEntry) → entries_of_lines g number low (line ∷ lines) ≡ Ok es → ReadLines (line ∷ lines) low es
  unfolding ReadLines
  lines_read number low line [] es ok =
      let last = last_is number line es (bytes_eq line []) refl ok in
      subst (ReadLines (line ∷ []) low) last.1 (last.0, All-nil (IsEntryOf g), tt)
  lines_read number low line (next ∷ lines) es ok = either (λ at more h. lines_read (number + 1) at next lines more h) (line_entry g line) refl ok
    where
      either : ((at : ℕ) (more : List SharedEntry) → entries_of_lines g (number + 1) at (next ∷ lines) ≡ Ok more → ReadLines (next ∷ lines) at more)
          → (o : Option SharedEntry) → line_entry g line ≡ o → entry_then number low o (λ at. entries_of_lines g (number + 1) at (next ∷ lines)) ≡ Ok es → ReadLines (line ∷ (next ∷ lines)) low es
      either later None first h = no_ok (BadLine number) es h
      either later (Some e) first h =
          let step = in_time number low e (entries_of_lines g (number + 1) e.entry.at (next ∷ lines)) es (ltb e.entry.at low) refl h in
          let behind = with_first_is e (entries_of_lines g (number + 1) e.entry.at (next ∷ lines)) es step.1 in
          let others = later e.entry.at behind.0 behind.1 in
          let here = line_entry_is g line e first in
          subst (ReadLines (line ∷ (next ∷ lines)) low) behind.2 (
            ap₂ (λ l rest. l ++ (10 ∷ rest)) here.0 others.0 ∙ sym (append_assoc (entry_line e) (10 ∷ []) (flat_map ended behind.0)),
            All-cons (IsEntryOf g) e behind.0 here.1 others.1,
            (step.0, others.2),
          )

  behind_is : (title next : List ℕ) (lines : List (List ℕ)) (es : List SharedEntry) (b : Bool) → bytes_eq title g.title ≡ b → cond b (entries_of_lines g 2 0 (next ∷ lines)) (Err (BadLine 1)) ≡ Ok es → (title ≡ g.title) × (entries_of_lines g 2 0 (next ∷ lines) ≡ Ok es)
  behind_is title next lines es true is ok = ((bytes_eq-Decides title g.title).0 is, ok)
  behind_is title next lines es false is ok = no_ok (BadLine 1) es ok

  text_of : (text : List ℕ) (parts : List (List ℕ)) (es : List SharedEntry) → join_with_byte 10 parts ≡ text → entries_behind g parts ≡ Ok es → IsTextBy g text es
  unfolding text_by ReadLines
  text_of text [] es join ok = no_ok (BadLine 1) es ok
  text_of text (line ∷ []) es join ok = no_ok (BadLine 1) es ok
  text_of text (title ∷ (next ∷ lines)) es join ok =
      let first = behind_is title next lines es (bytes_eq title g.title) refl ok in
      let others = lines_read 2 0 next lines es first.1 in
      record {
        spells = sym join ∙ ap₂ (λ l rest. l ++ (10 ∷ rest)) first.0 others.0;
        fits = others.1;
        in_order = in_order 0 es others.2;
      }

  not_large : (text : List ℕ) (es : List SharedEntry) (b : Bool) → cond b (Err TooLarge) (entries_behind g (lines_of text)) ≡ Ok es → entries_behind g (lines_of text) ≡ Ok es
  not_large text es true ok = no_ok TooLarge es ok
  not_large text es false ok = ok

  pub text_read : (text : List ℕ) (plan : List SharedEntry) → entries_by g text ≡ Ok plan → IsTextBy g text plan
  unfolding entries_by
  text_read text plan ok = text_of text (lines_of text) plan (join_with_byte-slice_split 10 text) (not_large text plan (ltb 8388608 (length text)) ok)
