-- What the fault that is found means for the text: the lines before it may stand where they are, and no line that may follow them comes next.
use Rattle.std.proofs.Common.{◌≡◌, ◌⊎◌, ℕ, ◌+◌, ◌-◌, Some, None, Ok, Err, Bool, true, false, cond, Option, Result, List, [], ◌∷◌, ◌++◌, length, take, drop, ltb, eqb, inl, inr, refl, ap, sym, subst, ◌∙◌, append_assoc, append-nil}
use Rattle.std.specs.Prelude.{bytes_eq, flat_map}
use Rattle.std.specs.List.{position}
use Rattle.std.proofs.lemmas.Bool.{eq-eqb, false≢true, ltb-true}
use Rattle.std.proofs.lemmas.List.Elements.{All-nil, All-push}
use Rattle.std.proofs.lemmas.List.Splits.{slice_split_at}
use Rattle.std.proofs.lemmas.Slice.Eq.{bytes_eq-Decides}
use Rattle.zc_base.specs.declared.mem_map.MemMap.{MemMap}
use Rattle.text_lines.specs.Lines.{lines_of, words_of}
use Rattle.text_lines.proofs.SplitLaws.{some_part, split_found, split_none, text_found}
use Rattle.devices.specs.Fault.{BeginsWith, IsDevicesFault, first_bad, later_bad, no_memory, too_long}
use Rattle.devices.specs.Lines.{DevicesLine}
use Rattle.devices.specs.Text.{FitsLine, Follow, devices_in, devices_line, devices_text, devices_title, line_of_words, line_then, lines_behind, lines_from, may_follow}
use Rattle.devices.specs.declared.fault.DevicesFault.{DevicesFault}
use Rattle.devices.specs.declared.fault.DevicesFault.TheVariants.{Line, OutOfMemory, Size}
use Rattle.devices.proofs.PlainLaws.{no_line_feed, title_line}
use Rattle.devices.proofs.TextLaws.{ended, spelled_back, spelled_is}

-- ---- the first of the remaining lines

abbrev Rest : List ℕ → List ℕ → List (List ℕ) → Type 0
Rest text line lines = (rest : List ℕ) × (text ≡ line ++ (10 ∷ rest)) × (lines_of rest ≡ lines)

rest_of : (text line next : List ℕ) (lines : List (List ℕ)) → lines_of text ≡ line ∷ (next ∷ lines) → Rest text line (next ∷ lines)
rest_of text line next lines is = either (position (λ b. eqb b 10) text) refl
  where
    either : (o : Option ℕ) → position (λ b. eqb b 10) text ≡ o → Rest text line (next ∷ lines)
    either None at = let alone = split_none (λ b. eqb b 10) text at in absurd cc
    either (Some i) at =
        let parts = split_found (λ b. eqb b 10) text i at in
        let rest : List ℕ = take (length text - (i + 1)) (drop (i + 1) text) in
        let first : take i text ≡ line = cc in
        (rest, text_found 10 text i at ∙ ap (λ l. l ++ (10 ∷ rest)) first, cc)

no_part : {A : Type 0} (text : List ℕ) → lines_of text ≡ [] → A
no_part text is = let parts = some_part (λ b. eqb b 10) text in let some = parts.2 in absurd cc

line_behind : (l : DevicesLine) (more : List ℕ) → lines_of (devices_line l ++ (10 ∷ more)) ≡ devices_line l ∷ lines_of more
line_behind l more = slice_split_at (λ b. eqb b 10) (devices_line l) 10 more (no_line_feed l) (eq-eqb 10 10 refl)

more_lines : (before : List DevicesLine) (l : DevicesLine) (rest : List ℕ) → flat_map ended before ++ (devices_line l ++ (10 ∷ rest)) ≡ flat_map ended (before ++ (l ∷ [])) ++ rest
more_lines [] l rest = sym (append_assoc (ended l) [] rest ∙ append_assoc (devices_line l) (10 ∷ []) rest)
more_lines (x ∷ xs) l rest =
    append_assoc (ended x) (flat_map ended xs) (devices_line l ++ (10 ∷ rest))
    ∙ ap (λ r. ended x ++ r) (more_lines xs l rest)
    ∙ sym (append_assoc (ended x) (flat_map ended (xs ++ (l ∷ []))) rest)

more_text : (before : List DevicesLine) (l : DevicesLine) (rest : List ℕ) → devices_text before ++ (devices_line l ++ (10 ∷ rest)) ≡ devices_text (before ++ (l ∷ [])) ++ rest
unfolding devices_text
more_text before l rest =
    append_assoc devices_title (10 ∷ flat_map ended before) (devices_line l ++ (10 ∷ rest))
    ∙ ap (λ r. devices_title ++ 10 ∷ r) (more_lines before l rest)
    ∙ sym (append_assoc devices_title (10 ∷ flat_map ended (before ++ (l ∷ []))) rest)

wrong : {A : Type 0} (ls : List DevicesLine) (fault : DevicesFault) → ◌≡◌ {A = Result (List DevicesLine) DevicesFault} (Ok ls) (Err fault) → A
wrong ls fault is = absurd cc

module _ (map : MemMap) where
  follow_more : (start before : List DevicesLine) (l : DevicesLine) → Follow map start before → may_follow map (start ++ before) l ≡ true → Follow map start (before ++ (l ∷ []))
  follow_more start [] l follow may = let P : List DevicesLine → Type 0 = λ b. may_follow map b l ≡ true in (subst P (append-nil start) may, tt)
  follow_more start (x ∷ xs) l follow may =
      let P : List DevicesLine → Type 0 = λ b. may_follow map b l ≡ true in
      (follow.0, follow_more (start ++ (x ∷ [])) xs l follow.1 (subst P (sym (append_assoc start (x ∷ []) xs)) may))

  begins_more : (text : List ℕ) (before : List DevicesLine) (rest behind : List ℕ) (l : DevicesLine) → BeginsWith map text before rest → FitsLine l → may_follow map before l ≡ true → rest ≡ devices_line l ++ (10 ∷ behind) → BeginsWith map text (before ++ (l ∷ [])) behind
  begins_more text before rest behind l at fits may is = record {
    spells = at.spells ∙ ap (λ r. devices_text before ++ r) is ∙ more_text before l behind;
    fits = All-push FitsLine before l at.fits fits;
    follow = follow_more [] before l at.follow may;
  }

  -- ---- the line at which the reader stops

  same_fault : (text : List ℕ) (a b : DevicesFault) → ◌≡◌ {A = Result (List DevicesLine) DevicesFault} (Err a) (Err b) → IsDevicesFault map text a → IsDevicesFault map text b
  same_fault text a b is here = let same : a ≡ b = cc in let P : DevicesFault → Type 0 = IsDevicesFault map text in subst P same here

  -- the last line has no line feed
  unended : (text : List ℕ) (before : List DevicesLine) (rest line : List ℕ) (fault : DevicesFault) (b : Bool) → BeginsWith map text before rest → lines_of rest ≡ line ∷ [] → bytes_eq line [] ≡ b → ◌≡◌ {A = Result (List DevicesLine) DevicesFault} (cond b (Ok before) (Err (Line (length before + 2)))) (Err fault) → IsDevicesFault map text fault
  unended text before rest line fault true at is empty stops = wrong before fault stops
  unended text before rest line fault false at is some stops =
      same_fault text (Line (length before + 2)) fault stops
      (later_bad before rest at
      (λ none. let alone : line ≡ [] = let parts = ap lines_of none in cc in let none_left = (bytes_eq-Decides line []).1 alone in false≢true (sym some ∙ none_left))
      (λ l more fits may same. let parts = ap lines_of same ∙ line_behind l more in no_part more (let none : lines_of more ≡ [] = cc in none)))

  -- a line that a text spells here may not follow, or none is spelled
  other_line : (text : List ℕ) (before : List DevicesLine) (rest line next : List ℕ) (lines : List (List ℕ)) → BeginsWith map text before rest → lines_of rest ≡ line ∷ (next ∷ lines) → ((l : DevicesLine) → line_of_words (words_of line) ≡ Some l → may_follow map before l ≡ true → ⊥) → IsDevicesFault map text (Line (length before + 2))
  other_line text before rest line next lines at is never =
      later_bad before rest at
      (λ none. let parts = ap lines_of none in absurd cc)
      (λ l more fits may same.
      let parts = ap lines_of same ∙ line_behind l more in
      let line_is : line ≡ devices_line l = cc in
      never l (ap (λ x. line_of_words (words_of x)) line_is ∙ spelled_back l fits) may)

  lines_stop : (lines : List (List ℕ)) (text line : List ℕ) (before : List DevicesLine) (rest : List ℕ) (fault : DevicesFault) → BeginsWith map text before rest → lines_of rest ≡ line ∷ lines → lines_from map before (line ∷ lines) ≡ Err fault → IsDevicesFault map text fault
  lines_stop [] text line before rest fault at is stops = unended text before rest line fault (bytes_eq line []) at is refl stops
  lines_stop (next ∷ lines) text line before rest fault at is stops =
      either (λ b r here there on. lines_stop lines text next b r fault here there on) (line_of_words (words_of line)) refl stops
    where
      placed : ((b : List DevicesLine) (r : List ℕ) → BeginsWith map text b r → lines_of r ≡ next ∷ lines → lines_from map b (next ∷ lines) ≡ Err fault → IsDevicesFault map text fault)
          → (l : DevicesLine) → line_of_words (words_of line) ≡ Some l → (b : Bool) → may_follow map before l ≡ b → cond b (lines_from map (before ++ l ∷ []) (next ∷ lines)) (Err (Line (length before + 2))) ≡ Err fault → IsDevicesFault map text fault
      placed later l good true may h =
          let behind = rest_of rest line next lines is in
          let here = spelled_is line l good in
          later (before ++ (l ∷ [])) behind.0 (begins_more text before rest behind.0 l at here.1 may (behind.1 ∙ ap (λ x. x ++ (10 ∷ behind.0)) here.0)) behind.2 h
      placed later l good false other h =
          same_fault text (Line (length before + 2)) fault h
          (other_line text before rest line next lines at is (λ k again may.
          let same : l ≡ k = cc in
          false≢true (sym other ∙ ap (may_follow map before) same ∙ may)))

      either : ((b : List DevicesLine) (r : List ℕ) → BeginsWith map text b r → lines_of r ≡ next ∷ lines → lines_from map b (next ∷ lines) ≡ Err fault → IsDevicesFault map text fault)
          → (o : Option DevicesLine) → line_of_words (words_of line) ≡ o → line_then map before o (λ l. lines_from map (before ++ l ∷ []) (next ∷ lines)) ≡ Err fault → IsDevicesFault map text fault
      either later None bad h = same_fault text (Line (length before + 2)) fault h (other_line text before rest line next lines at is (λ l good may. absurd cc))
      either later (Some l) good h = placed later l good (may_follow map before l) refl h

  -- ---- the whole text

  first_of : (rest : List ℕ) → lines_of (devices_title ++ 10 ∷ rest) ≡ devices_title ∷ lines_of rest
  first_of rest = slice_split_at (λ b. eqb b 10) devices_title 10 rest title_line (eq-eqb 10 10 refl)

  begins_title : (text title rest : List ℕ) → title ≡ devices_title → text ≡ title ++ (10 ∷ rest) → BeginsWith map text [] rest
  unfolding devices_text
  begins_title text title rest is spells = record {
    spells = spells ∙ ap (λ t. t ++ (10 ∷ rest)) is ∙ sym (append_assoc devices_title (10 ∷ []) rest);
    fits = All-nil FitsLine;
    follow = tt;
  }

  titled_stop : (text title next : List ℕ) (lines : List (List ℕ)) (fault : DevicesFault) (b : Bool) → lines_of text ≡ title ∷ (next ∷ lines) → bytes_eq title devices_title ≡ b → cond b (lines_from map [] (next ∷ lines)) (Err (Line 1)) ≡ Err fault → IsDevicesFault map text fault
  titled_stop text title next lines fault true is same h =
      let behind = rest_of text title next lines is in
      lines_stop lines text next [] behind.0 fault (begins_title text title behind.0 ((bytes_eq-Decides title devices_title).0 same) behind.1) behind.2 h
  titled_stop text title next lines fault false is other h =
      same_fault text (Line 1) fault h (first_bad (λ rest same.
      let parts = ap lines_of same ∙ first_of rest in
      let title_is : title ≡ devices_title = cc in
      false≢true (sym other ∙ (bytes_eq-Decides title devices_title).1 title_is)))

  text_stop : (text : List ℕ) (parts : List (List ℕ)) (fault : DevicesFault) → lines_of text ≡ parts → lines_behind map parts ≡ Err fault → IsDevicesFault map text fault
  text_stop text [] fault is h = no_part text is
  text_stop text (line ∷ []) fault is h =
      same_fault text (Line 1) fault h (first_bad (λ rest same.
      let parts = ap lines_of same ∙ first_of rest in no_part rest (let none : lines_of rest ≡ [] = cc in none)))
  text_stop text (title ∷ (next ∷ lines)) fault is h = titled_stop text title next lines fault (bytes_eq title devices_title) is refl h

  limited : (text : List ℕ) (fault : DevicesFault) (b : Bool) → ltb 8388608 (length text) ≡ b → cond b (Err Size) (lines_behind map (lines_of text)) ≡ Err fault → IsDevicesFault map text fault
  limited text fault true is h = same_fault text Size fault h (too_long (ltb-true 8388608 (length text) is))
  limited text fault false is h = text_stop text (lines_of text) fault refl h

  -- a fault that is found in the text, or running out of memory
  pub fault_read : (text : List ℕ) (fault : DevicesFault) → (fault ≡ OutOfMemory) ⊎ (devices_in map text ≡ Err fault) → IsDevicesFault map text fault
  unfolding devices_in
  fault_read text fault (inl want) = let P : DevicesFault → Type 0 = IsDevicesFault map text in subst P (sym want) no_memory
  fault_read text fault (inr found) = limited text fault (ltb 8388608 (length text)) refl found
