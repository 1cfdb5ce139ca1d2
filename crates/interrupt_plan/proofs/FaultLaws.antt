-- What the fault that is found means for the text: the lines before it are those of entries, and no entry's line goes on with its line.
use Rattle.std.proofs.Common.{◌≡◌, ◌⊎◌, ℕ, ◌+◌, ◌-◌, ◌<◌, ◌≤◌, Some, None, Ok, Err, Bool, true, false, cond, Option, Result, List, [], ◌∷◌, ◌++◌, length, get_or, take, drop, ltb, eqb, inl, inr, refl, ap, sym, subst, ◌∙◌, append_assoc, length-append, arith}
use Rattle.std.specs.Prelude.{bytes_eq, flat_map}
use Rattle.std.specs.List.{position}
use Rattle.std.proofs.lemmas.Bool.{cases_lt, eq-eqb, false≢true, ltb-false, ltb-true}
use Rattle.std.proofs.Math.ListN.{get_or-append}
use Rattle.std.proofs.lemmas.List.{get_or_push}
use Rattle.std.proofs.lemmas.List.Elements.{All-nil, All-push}
use Rattle.std.proofs.lemmas.List.Splits.{slice_split_at}
use Rattle.std.proofs.lemmas.Slice.Eq.{bytes_eq-Decides}
use Rattle.text_lines.specs.Lines.{lines_of}
use Rattle.text_lines.proofs.PlainLaws.{IsLine}
use Rattle.text_lines.proofs.SplitLaws.{some_part, split_found, split_none, text_found}
use Rattle.interrupt_plan.specs.Fault.{BeginsBy, IsFaultBy, bad_line, earlier, first_line, large, memory}
use Rattle.interrupt_plan.specs.Order.{IsSharedInOrder}
use Rattle.interrupt_plan.specs.SharedPlan.{SharedEntry}
use Rattle.interrupt_plan.specs.Text.{FitsEntry, Grammar, IsEntryOf, entries_behind, entries_by, entries_of_lines, entry_line, entry_then, line_entry, text_by, with_first}
use Rattle.interrupt_plan.specs.declared.fault.PlanFault.{PlanFault}
use Rattle.interrupt_plan.specs.declared.fault.PlanFault.TheVariants.{BadLine, OutOfMemory, OutOfOrder, TooLarge}
use Rattle.interrupt_plan.proofs.GrammarLaws.{line_entry_back, line_entry_is}
use Rattle.interrupt_plan.proofs.OrderLaws.{in_order_pushed, last_pushed}
use Rattle.interrupt_plan.proofs.PlainLaws.{no_line_feed}
use Rattle.interrupt_plan.proofs.TextLaws.{ended}

-- ---- the first of the remaining lines

abbrev Rest : List ℕ → List ℕ → List (List ℕ) → Type 0
Rest text line lines = (rest : List ℕ) × (text ≡ line ++ (10 ∷ rest)) × (lines_of rest ≡ lines)

rest_of : (text line next : List ℕ) (lines : List (List ℕ)) → lines_of text ≡ line ∷ (next ∷ lines) → Rest text line (next ∷ lines)
rest_of text line next lines is = either (position (λ b. eqb b 10) text) refl
  where
    either : (o : Option ℕ) → position (λ b. eqb b 10) text ≡ o → Rest text line (next ∷ lines)
    either None at = let alone = split_none (λ b. eqb b 10) text at in absurd cc
    either (Some i) at =
        let parts = split_found (λ b. eqb b 10) text i at in
        let rest : List ℕ = take (length text - (i + 1)) (drop (i + 1) text) in
        let first : take i text ≡ line = cc in
        (rest, text_found 10 text i at ∙ ap (λ l. l ++ (10 ∷ rest)) first, cc)

no_part : {A : Type 0} (text : List ℕ) → lines_of text ≡ [] → A
no_part text is = let parts = some_part (λ b. eqb b 10) text in let some = parts.2 in absurd cc

line_behind : (e : SharedEntry) (more : List ℕ) → FitsEntry e → lines_of (entry_line e ++ (10 ∷ more)) ≡ entry_line e ∷ lines_of more
line_behind e more fits = slice_split_at (λ b. eqb b 10) (entry_line e) 10 more (no_line_feed e fits) (eq-eqb 10 10 refl)

more_lines : (before : List SharedEntry) (e : SharedEntry) (rest : List ℕ) → flat_map ended before ++ (entry_line e ++ (10 ∷ rest)) ≡ flat_map ended (before ++ (e ∷ [])) ++ rest
more_lines [] e rest = sym (append_assoc (ended e) [] rest ∙ append_assoc (entry_line e) (10 ∷ []) rest)
more_lines (x ∷ xs) e rest =
    append_assoc (ended x) (flat_map ended xs) (entry_line e ++ (10 ∷ rest))
    ∙ ap (λ l. ended x ++ l) (more_lines xs e rest)
    ∙ sym (append_assoc (ended x) (flat_map ended (xs ++ (e ∷ []))) rest)

wrong : {A : Type 0} (es : List SharedEntry) (fault : PlanFault) → ◌≡◌ {A = Result (List SharedEntry) PlanFault} (Ok es) (Err fault) → A
wrong es fault is = absurd cc

with_first_err : (e : SharedEntry) (r : Result (List SharedEntry) PlanFault) (fault : PlanFault) → with_first e r ≡ Err fault → r ≡ Err fault
with_first_err e (Ok more) fault is = wrong (e ∷ more) fault is
with_first_err e (Err other) fault is = is

-- how far the reader has come
record Reached (g : Grammar) (text : List ℕ) (before : List SharedEntry) (low : ℕ) (rest : List ℕ) : Type 0 where
  begins : BeginsBy g text before rest
  last : (d : SharedEntry) → 0 < length before → (get_or before (length before - 1) d).entry.at ≡ low
  none : length before ≡ 0 → low ≡ 0

module _ (g : Grammar) where
  -- ---- one line more

  more_text : (before : List SharedEntry) (e : SharedEntry) (rest : List ℕ) → text_by g before ++ (entry_line e ++ (10 ∷ rest)) ≡ text_by g (before ++ (e ∷ [])) ++ rest
  unfolding text_by
  more_text before e rest =
      append_assoc g.title (10 ∷ flat_map ended before) (entry_line e ++ (10 ∷ rest))
      ∙ ap (λ l. g.title ++ 10 ∷ l) (more_lines before e rest)
      ∙ sym (append_assoc g.title (10 ∷ flat_map ended (before ++ (e ∷ []))) rest)

  module _ (text : List ℕ) (before : List SharedEntry) (low : ℕ) (rest : List ℕ) (at : Reached g text before low rest) where
    reached_more : (e : SharedEntry) (behind : List ℕ) → IsEntryOf g e → rest ≡ entry_line e ++ (10 ∷ behind) → low ≤ e.entry.at → Reached g text (before ++ (e ∷ [])) e.entry.at behind
    reached_more e behind fits is on =
        let size = length-append before (e ∷ []) in
        record {
          begins = record {
            spells = at.begins.spells ∙ ap (λ r. text_by g before ++ r) is ∙ more_text before e behind;
            fits = All-push (IsEntryOf g) before e at.begins.fits fits;
            in_order = in_order_pushed before (before ++ (e ∷ [])) e low refl at.begins.in_order (λ d some. let last = at.last d some in omega (arith, last)) on;
          };
          last = λ d some. ap (λ x. x.entry.at) (last_pushed before (before ++ (e ∷ [])) e d refl);
          none = λ empty. absurd (omega (arith, size, empty));
        }

    too_early : (e : SharedEntry) (behind : List ℕ) → IsEntryOf g e → rest ≡ entry_line e ++ (10 ∷ behind) → e.entry.at < low → IsFaultBy g text (OutOfOrder (length before + 2))
    too_early e behind fits is late =
        let P : List ℕ → Type 0 = BeginsBy g text before in
        earlier before e behind (subst P is at.begins) fits (λ sorted. unsorted sorted (cases_lt 0 (length before)))
      where
        unsorted : IsSharedInOrder (before ++ (e ∷ [])) → (0 < length before) ⊎ (length before ≤ 0) → ⊥
        unsorted sorted (inl some) =
            let size = length-append before (e ∷ []) in
            let j : ℕ = length before in
            let le = sorted (j - 1) j e (omega arith) (omega (arith, size)) in
            let last = at.last e some in
            let here = ap (λ x. x.entry.at) (get_or_push before e e j refl) in
            let there = ap (λ x. x.entry.at) (get_or-append before (e ∷ []) e (j - 1) (omega (arith, some))) in
            omega (arith, le, last, here, there, late)
        unsorted sorted (inr empty) = let first = at.none (omega (arith, empty)) in omega (arith, first, late)

  -- ---- the line at which the reader stops

  same_fault : (text : List ℕ) (a b : PlanFault) → ◌≡◌ {A = Result (List SharedEntry) PlanFault} (Err a) (Err b) → IsFaultBy g text a → IsFaultBy g text b
  same_fault text a b is here = let same : a ≡ b = cc in let P : PlanFault → Type 0 = IsFaultBy g text in subst P same here

  -- the last line has no line feed
  unended : (text : List ℕ) (before : List SharedEntry) (low : ℕ) (rest line : List ℕ) (fault : PlanFault) (b : Bool) → Reached g text before low rest → lines_of rest ≡ line ∷ [] → bytes_eq line [] ≡ b → ◌≡◌ {A = Result (List SharedEntry) PlanFault} (cond b (Ok []) (Err (BadLine (length before + 2)))) (Err fault) → IsFaultBy g text fault
  unended text before low rest line fault true at is empty stops = wrong [] fault stops
  unended text before low rest line fault false at is some stops =
      same_fault text (BadLine (length before + 2)) fault stops
      (bad_line before rest at.begins
      (λ none. let alone : line ≡ [] = let parts = ap lines_of none in cc in let yes = (bytes_eq-Decides line []).1 alone in false≢true (sym some ∙ yes))
      (λ e more fits same. let parts = ap lines_of same ∙ line_behind e more fits.1 in no_part more (let none : lines_of more ≡ [] = cc in none)))

  -- a line that spells no entry
  no_entry : (text : List ℕ) (before : List SharedEntry) (low : ℕ) (rest line next : List ℕ) (lines : List (List ℕ)) → Reached g text before low rest → lines_of rest ≡ line ∷ (next ∷ lines) → line_entry g line ≡ None → IsFaultBy g text (BadLine (length before + 2))
  no_entry text before low rest line next lines at is bad =
      bad_line before rest at.begins
      (λ none. let parts = ap lines_of none in absurd cc)
      (λ e more fits same.
      let parts = ap lines_of same ∙ line_behind e more fits.1 in
      let line_is : line ≡ entry_line e = cc in
      let good : line_entry g line ≡ Some e = ap (λ l. line_entry g l) line_is ∙ line_entry_back g e fits in
      absurd cc)

  lines_stop : (lines : List (List ℕ)) (text line : List ℕ) (before : List SharedEntry) (low : ℕ) (rest : List ℕ) (fault : PlanFault) → Reached g text before low rest → lines_of rest ≡ line ∷ lines → entries_of_lines g (length before + 2) low (line ∷ lines) ≡ Err fault → IsFaultBy g text fault
  lines_stop [] text line before low rest fault at is stops = unended text before low rest line fault (bytes_eq line []) at is refl stops
  lines_stop (next ∷ lines) text line before low rest fault at is stops =
      either (λ b l r h there on. lines_stop lines text next b l r fault h there on) (line_entry g line) refl stops
    where
      timed : ((b : List SharedEntry) (l : ℕ) (r : List ℕ) → Reached g text b l r → lines_of r ≡ next ∷ lines → entries_of_lines g (length b + 2) l (next ∷ lines) ≡ Err fault → IsFaultBy g text fault)
          → (e : SharedEntry) → IsEntryOf g e → (behind : List ℕ) → rest ≡ entry_line e ++ (10 ∷ behind) → lines_of behind ≡ next ∷ lines → (b : Bool) → ltb e.entry.at low ≡ b → cond b (Err (OutOfOrder (length before + 2))) (with_first e (entries_of_lines g (length before + 2 + 1) e.entry.at (next ∷ lines))) ≡ Err fault → IsFaultBy g text fault
      timed later e fits behind spells there true late h = same_fault text (OutOfOrder (length before + 2)) fault h (too_early text before low rest at e behind fits spells (ltb-true e.entry.at low late))
      timed later e fits behind spells there false on h =
          let size = length-append before (e ∷ []) in
          let number : length (before ++ (e ∷ [])) + 2 ≡ length before + 2 + 1 = omega (arith, size) in
          later (before ++ (e ∷ [])) e.entry.at behind (reached_more text before low rest at e behind fits spells (ltb-false e.entry.at low on)) there
          (ap (λ n. entries_of_lines g n e.entry.at (next ∷ lines)) number ∙ with_first_err e (entries_of_lines g (length before + 2 + 1) e.entry.at (next ∷ lines)) fault h)

      either : ((b : List SharedEntry) (l : ℕ) (r : List ℕ) → Reached g text b l r → lines_of r ≡ next ∷ lines → entries_of_lines g (length b + 2) l (next ∷ lines) ≡ Err fault → IsFaultBy g text fault)
          → (o : Option SharedEntry) → line_entry g line ≡ o → entry_then (length before + 2) low o (λ n. entries_of_lines g (length before + 2 + 1) n (next ∷ lines)) ≡ Err fault → IsFaultBy g text fault
      either later None bad h = same_fault text (BadLine (length before + 2)) fault h (no_entry text before low rest line next lines at is bad)
      either later (Some e) good h =
          let behind = rest_of rest line next lines is in
          let read = line_entry_is g line e good in
          timed later e read.1 behind.0 (behind.1 ∙ ap (λ l. l ++ (10 ∷ behind.0)) read.0) behind.2 (ltb e.entry.at low) refl h

-- ---- the whole text

module _ (g : Grammar) (titled : IsLine g.title) where
  first_of : (rest : List ℕ) → lines_of (g.title ++ 10 ∷ rest) ≡ g.title ∷ lines_of rest
  first_of rest = slice_split_at (λ b. eqb b 10) g.title 10 rest titled (eq-eqb 10 10 refl)

  begins_title : (text title : List ℕ) (rest : List ℕ) → title ≡ g.title → text ≡ title ++ (10 ∷ rest) → Reached g text [] 0 rest
  unfolding text_by
  begins_title text title rest is spells = record {
    begins = record {
      spells = spells ∙ ap (λ t. t ++ (10 ∷ rest)) is ∙ sym (append_assoc g.title (10 ∷ []) rest);
      fits = All-nil (IsEntryOf g);
      in_order = λ i j d le lt. absurd (omega (arith, lt));
    };
    last = λ d some. absurd (omega (arith, some));
    none = λ empty. refl;
  }

  titled_stop : (text title next : List ℕ) (lines : List (List ℕ)) (fault : PlanFault) (b : Bool) → lines_of text ≡ title ∷ (next ∷ lines) → bytes_eq title g.title ≡ b → cond b (entries_of_lines g 2 0 (next ∷ lines)) (Err (BadLine 1)) ≡ Err fault → IsFaultBy g text fault
  titled_stop text title next lines fault true is same h =
      let behind = rest_of text title next lines is in
      lines_stop g lines text next [] 0 behind.0 fault (begins_title text title behind.0 ((bytes_eq-Decides title g.title).0 same) behind.1) behind.2 h
  titled_stop text title next lines fault false is other h =
      same_fault g text (BadLine 1) fault h (first_line (λ rest same.
      let parts = ap lines_of same ∙ first_of rest in
      let title_is : title ≡ g.title = cc in
      false≢true (sym other ∙ (bytes_eq-Decides title g.title).1 title_is)))

  text_stop : (text : List ℕ) (parts : List (List ℕ)) (fault : PlanFault) → lines_of text ≡ parts → entries_behind g parts ≡ Err fault → IsFaultBy g text fault
  text_stop text [] fault is h = no_part text is
  text_stop text (line ∷ []) fault is h =
      same_fault g text (BadLine 1) fault h (first_line (λ rest same.
      let parts = ap lines_of same ∙ first_of rest in no_part rest (let none : lines_of rest ≡ [] = cc in none)))
  text_stop text (title ∷ (next ∷ lines)) fault is h = titled_stop text title next lines fault (bytes_eq title g.title) is refl h

  limited : (text : List ℕ) (fault : PlanFault) (b : Bool) → ltb 8388608 (length text) ≡ b → cond b (Err TooLarge) (entries_behind g (lines_of text)) ≡ Err fault → IsFaultBy g text fault
  limited text fault true is h = same_fault g text TooLarge fault h (large (ltb-true 8388608 (length text) is))
  limited text fault false is h = text_stop text (lines_of text) fault refl h

  -- a fault that is found in the text, or running out of memory
  pub fault_read : (text : List ℕ) (fault : PlanFault) → (fault ≡ OutOfMemory) ⊎ (entries_by g text ≡ Err fault) → IsFaultBy g text fault
  unfolding entries_by
  fault_read text fault (inl want) = let P : PlanFault → Type 0 = IsFaultBy g text in subst P (sym want) memory
  fault_read text fault (inr found) = limited text fault (ltb 8388608 (length text)) refl found
