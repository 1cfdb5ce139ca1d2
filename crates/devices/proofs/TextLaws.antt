-- The text of lines spells them, and no other text does.
use Rattle.std.proofs.Common.{◌≡◌, ◌⊎◌, ℕ, ◌+◌, ◌<◌, ◌≤◌, Some, None, Ok, Err, Bool, true, false, cond, Option, Result, List, [], ◌∷◌, ◌++◌, length, ltb, eqb, inl, inr, refl, ap, ap₂, sym, subst, ◌∙◌, append_assoc, append-nil}
use Rattle.std.specs.Prelude.{All, bytes_eq, flat_map}
use Rattle.std.specs.List.{join_with_byte}
use Rattle.std.proofs.lemmas.Bool.{cond-false, cond-true, eq-eqb, le-ltb, lt-ltb}
use Rattle.std.proofs.lemmas.List.Elements.{All-cons, All-head, All-nil, All-tail}
use Rattle.std.proofs.lemmas.List.Splits.{join_with_byte-slice_split, slice_split_at}
use Rattle.std.proofs.lemmas.Slice.Eq.{bytes_eq-Decides}
use Rattle.zc_base.specs.declared.mem_map.MemMap.{MemMap}
use Rattle.text_lines.specs.Lines.{lines_of, words_of}
use Rattle.text_lines.proofs.SplitLaws.{some_part}
use Rattle.devices.specs.Lines.{DevicesLine}
use Rattle.devices.specs.Text.{FitsLine, Follow, IsDevicesText, devices_in, devices_line, devices_text, devices_title, line_of_words, line_then, lines_behind, lines_from, may_follow}
use Rattle.devices.specs.declared.fault.DevicesFault.{DevicesFault}
use Rattle.devices.specs.declared.fault.DevicesFault.TheVariants.{Line, OutOfMemory, Size}
use Rattle.devices.proofs.PlainLaws.{no_line_feed, title_line, words_back}
use Rattle.devices.proofs.SpellLaws.{line_back, line_is}

-- ---- lines

abbrev pub ended : DevicesLine → List ℕ
ended l = devices_line l ++ 10 ∷ []

first_line : (l : DevicesLine) (rest : List ℕ) → lines_of (ended l ++ rest) ≡ devices_line l ∷ lines_of rest
first_line l rest =
    ap lines_of (append_assoc (devices_line l) (10 ∷ []) rest)
    ∙ slice_split_at (λ b. eqb b 10) (devices_line l) 10 rest (no_line_feed l) (eq-eqb 10 10 refl)

pub no_ok : {A : Type 0} (fault : DevicesFault) (ls : List DevicesLine) → ◌≡◌ {A = Result (List DevicesLine) DevicesFault} (Err fault) (Ok ls) → A
no_ok fault ls is = absurd cc

pub spelled_back : (l : DevicesLine) → FitsLine l → line_of_words (words_of (devices_line l)) ≡ Some l
spelled_back l fits = ap line_of_words (words_back l) ∙ line_back l fits

pub spelled_is : (line : List ℕ) (l : DevicesLine) → line_of_words (words_of line) ≡ Some l → (line ≡ devices_line l) × FitsLine l
spelled_is line l is =
    let here = line_is (words_of line) l is in
    (sym (join_with_byte-slice_split 32 line) ∙ ap (join_with_byte 32) here.0, here.1)

module _ (map : MemMap) where
  -- ---- one line more

  -- a line with its line feed, followed by the lines after it
  pub line_step : (before : List DevicesLine) (line behind : List ℕ) → lines_from map before (line ∷ lines_of behind) ≡ line_then map before (line_of_words (words_of line)) (λ l. lines_from map (before ++ l ∷ []) (lines_of behind))
  line_step before line behind =
      let parts = some_part (λ b. eqb b 10) behind in
      ap (λ more. lines_from map before (line ∷ more)) parts.2
      ∙ ap (λ more. line_then map before (line_of_words (words_of line)) (λ l. lines_from map (before ++ l ∷ []) more)) (sym parts.2)

  pub step_bad : (before : List DevicesLine) (rest line behind : List ℕ) → lines_of rest ≡ line ∷ lines_of behind → line_of_words (words_of line) ≡ None → lines_from map before (lines_of rest) ≡ Err (Line (length before + 2))
  step_bad before rest line behind is bad =
      ap (lines_from map before) is
      ∙ line_step before line behind
      ∙ ap (λ o. line_then map before o (λ l. lines_from map (before ++ l ∷ []) (lines_of behind))) bad

  -- where a line is spelled, it depends on whether it may stand there
  spelled_step : (before : List DevicesLine) (rest line behind : List ℕ) (l : DevicesLine) → lines_of rest ≡ line ∷ lines_of behind → line_of_words (words_of line) ≡ Some l → lines_from map before (lines_of rest) ≡ cond (may_follow map before l) (lines_from map (before ++ l ∷ []) (lines_of behind)) (Err (Line (length before + 2)))
  spelled_step before rest line behind l is good =
      ap (lines_from map before) is
      ∙ line_step before line behind
      ∙ ap (λ o. line_then map before o (λ x. lines_from map (before ++ x ∷ []) (lines_of behind))) good

  pub step_refused : (before : List DevicesLine) (rest line behind : List ℕ) (l : DevicesLine) → lines_of rest ≡ line ∷ lines_of behind → line_of_words (words_of line) ≡ Some l → may_follow map before l ≡ false → lines_from map before (lines_of rest) ≡ Err (Line (length before + 2))
  step_refused before rest line behind l is good other =
      spelled_step before rest line behind l is good
      ∙ cond-false (may_follow map before l) (lines_from map (before ++ l ∷ []) (lines_of behind)) (Err (Line (length before + 2))) other

  pub step_more : (before new : List DevicesLine) (rest line behind : List ℕ) (l : DevicesLine) → lines_of rest ≡ line ∷ lines_of behind → line_of_words (words_of line) ≡ Some l → may_follow map before l ≡ true → new ≡ before ++ (l ∷ []) → lines_from map before (lines_of rest) ≡ lines_from map new (lines_of behind)
  step_more before new rest line behind l is good may pushed =
      spelled_step before rest line behind l is good
      ∙ cond-true (may_follow map before l) (lines_from map (before ++ l ∷ []) (lines_of behind)) (Err (Line (length before + 2))) may
      ∙ ap (λ b. lines_from map b (lines_of behind)) (sym pushed)

  -- the last line has no line feed
  pub step_unended : (before : List DevicesLine) (rest : List ℕ) → lines_of rest ≡ rest ∷ [] → bytes_eq rest [] ≡ false → lines_from map before (lines_of rest) ≡ Err (Line (length before + 2))
  step_unended before rest is some = ap (lines_from map before) is ∙ cond-false (bytes_eq rest []) (Ok before) (Err (Line (length before + 2))) some

  -- ---- the text of lines is read as these lines

  lines_read : (before ls : List DevicesLine) → All FitsLine ls → Follow map before ls → lines_from map before (lines_of (flat_map ended ls)) ≡ Ok (before ++ ls)
  lines_read before [] fits follow = ap Ok (sym (append-nil before))
  lines_read before (l ∷ ls) fits follow =
      let rest : List ℕ = flat_map ended ls in
      step_more before (before ++ (l ∷ [])) (ended l ++ rest) (devices_line l) rest l (first_line l rest) (spelled_back l (All-head FitsLine l ls fits)) follow.0 refl
      ∙ lines_read (before ++ (l ∷ [])) ls (All-tail FitsLine l ls fits) follow.1
      ∙ ap Ok (append_assoc before (l ∷ []) ls)

  -- the other lines come after the first line
  pub behind_title : (title rest : List ℕ) → title ≡ devices_title → lines_behind map (title ∷ lines_of rest) ≡ lines_from map [] (lines_of rest)
  behind_title title rest is =
      let parts = some_part (λ b. eqb b 10) rest in
      ap (λ ls. lines_behind map (title ∷ ls)) parts.2
      ∙ cond-true (bytes_eq title devices_title) (lines_from map [] (parts.0 ∷ parts.1)) (Err (Line 1)) ((bytes_eq-Decides title devices_title).1 is)
      ∙ ap (lines_from map []) (sym parts.2)

  pub other_title : (title rest : List ℕ) → bytes_eq title devices_title ≡ false → lines_behind map (title ∷ lines_of rest) ≡ Err (Line 1)
  other_title title rest other =
      let parts = some_part (λ b. eqb b 10) rest in
      ap (λ ls. lines_behind map (title ∷ ls)) parts.2
      ∙ cond-false (bytes_eq title devices_title) (lines_from map [] (parts.0 ∷ parts.1)) (Err (Line 1)) other

  pub too_large : (text : List ℕ) → 8388608 < length text → devices_in map text ≡ Err Size
  unfolding devices_in
  too_large text over = cond-true (ltb 8388608 (length text)) (Err Size) (lines_behind map (lines_of text)) (lt-ltb 8388608 (length text) over)

  pub within_limit : (text : List ℕ) (parts : List (List ℕ)) → length text ≤ 8388608 → lines_of text ≡ parts → devices_in map text ≡ lines_behind map parts
  unfolding devices_in
  within_limit text parts small is =
      cond-false (ltb 8388608 (length text)) (Err Size) (lines_behind map (lines_of text)) (le-ltb 8388608 (length text) small) ∙ ap (lines_behind map) is

  pub text_back : (text : List ℕ) (ls : List DevicesLine) → IsDevicesText map text ls → length text ≤ 8388608 → devices_in map text ≡ Ok ls
  unfolding devices_text
  text_back text ls is small =
      let rest : List ℕ = flat_map ended ls in
      within_limit text (devices_title ∷ lines_of rest) small (ap lines_of is.spells ∙ slice_split_at (λ b. eqb b 10) devices_title 10 rest title_line (eq-eqb 10 10 refl))
      ∙ behind_title devices_title rest refl
      ∙ lines_read [] ls is.fits is.follow

  -- ---- a text that is read as lines is their text

  ReadLines : List (List ℕ) → List DevicesLine → List DevicesLine → Type 0
  ReadLines parts before all =
      (ls : List DevicesLine) × (all ≡ before ++ ls) × (join_with_byte 10 parts ≡ flat_map ended ls) × All FitsLine ls × Follow map before ls

  last_is : (before all : List DevicesLine) (line : List ℕ) (b : Bool) → bytes_eq line [] ≡ b → cond b (Ok before) (Err (Line (length before + 2))) ≡ Ok all → ReadLines (line ∷ []) before all
  unfolding ReadLines
  last_is before all line true is ok =
      let same : before ≡ all = cc in
      ([], sym same ∙ sym (append-nil before), (bytes_eq-Decides line []).0 is, All-nil FitsLine, tt)
  last_is before all line false is ok = no_ok (Line (length before + 2)) all ok

  lines_are : (line : List ℕ) (lines : List (List ℕ)) (before all : List DevicesLine) → lines_from map before (line ∷ lines) ≡ Ok all → ReadLines (line ∷ lines) before all
  unfolding ReadLines
  lines_are line [] before all ok = last_is before all line (bytes_eq line []) refl ok
  lines_are line (next ∷ lines) before all ok = either (λ more h. lines_are next lines more all h) (line_of_words (words_of line)) refl ok
    where
      placed : ((more : List DevicesLine) → lines_from map more (next ∷ lines) ≡ Ok all → ReadLines (next ∷ lines) more all)
          → (l : DevicesLine) → line_of_words (words_of line) ≡ Some l → (b : Bool) → may_follow map before l ≡ b → cond b (lines_from map (before ++ l ∷ []) (next ∷ lines)) (Err (Line (length before + 2))) ≡ Ok all → ReadLines (line ∷ (next ∷ lines)) before all
      placed later l first true may h =
          let others = later (before ++ (l ∷ [])) h in
          let here = spelled_is line l first in (
            l ∷ others.0,
            others.1 ∙ append_assoc before (l ∷ []) others.0,
            ap₂ (λ x rest. x ++ (10 ∷ rest)) here.0 others.2 ∙ sym (append_assoc (devices_line l) (10 ∷ []) (flat_map ended others.0)),
            All-cons FitsLine l others.0 here.1 others.3,
            (may, others.4),
          )
      placed later l first false other h = no_ok (Line (length before + 2)) all h

      either : ((more : List DevicesLine) → lines_from map more (next ∷ lines) ≡ Ok all → ReadLines (next ∷ lines) more all)
          → (o : Option DevicesLine) → line_of_words (words_of line) ≡ o → line_then map before o (λ l. lines_from map (before ++ l ∷ []) (next ∷ lines)) ≡ Ok all → ReadLines (line ∷ (next ∷ lines)) before all
      either later None first h = no_ok (Line (length before + 2)) all h
      either later (Some l) first h = placed later l first (may_follow map before l) refl h

  title_is : (title next : List ℕ) (lines : List (List ℕ)) (ls : List DevicesLine) (b : Bool) → bytes_eq title devices_title ≡ b → cond b (lines_from map [] (next ∷ lines)) (Err (Line 1)) ≡ Ok ls → (title ≡ devices_title) × (lines_from map [] (next ∷ lines) ≡ Ok ls)
  title_is title next lines ls true is ok = ((bytes_eq-Decides title devices_title).0 is, ok)
  title_is title next lines ls false is ok = no_ok (Line 1) ls ok

  text_by_parts : (text : List ℕ) (parts : List (List ℕ)) (all : List DevicesLine) → join_with_byte 10 parts ≡ text → lines_behind map parts ≡ Ok all → IsDevicesText map text all
  unfolding devices_text ReadLines
  text_by_parts text [] all join ok = no_ok (Line 1) all ok
  text_by_parts text (line ∷ []) all join ok = no_ok (Line 1) all ok
  text_by_parts text (title ∷ (next ∷ lines)) all join ok =
      let first = title_is title next lines all (bytes_eq title devices_title) refl ok in
      let others = lines_are next lines [] all first.1 in
      let P : List DevicesLine → Type 0 = IsDevicesText map text in
      subst P (sym others.1)
      (record { spells = sym join ∙ ap₂ (λ l rest. l ++ (10 ∷ rest)) first.0 others.2; fits = others.3; follow = others.4 })

  not_large : (text : List ℕ) (ls : List DevicesLine) (b : Bool) → cond b (Err Size) (lines_behind map (lines_of text)) ≡ Ok ls → lines_behind map (lines_of text) ≡ Ok ls
  not_large text ls true ok = no_ok Size ls ok
  not_large text ls false ok = ok

  pub text_read : (text : List ℕ) (ls : List DevicesLine) → devices_in map text ≡ Ok ls → IsDevicesText map text ls
  unfolding devices_in
  text_read text ls ok = text_by_parts text (lines_of text) ls (join_with_byte-slice_split 10 text) (not_large text ls (ltb 8388608 (length text)) ok)

  -- ---- what spells lines is read as these

  pub same_lines : (text : List ℕ) (ls others : List DevicesLine) → devices_in map text ≡ Ok ls → IsDevicesText map text others → length text ≤ 8388608 → ls ≡ others
  same_lines text ls others ok is small = let good = text_back text others is small in cc

  pub refused : (text : List ℕ) (fault : DevicesFault) (ls : List DevicesLine) → (fault ≡ OutOfMemory) ⊎ (devices_in map text ≡ Err fault) → IsDevicesText map text ls → length text ≤ 8388608 → (◌≡◌ {A = Result (List DevicesLine) DevicesFault} (Err fault) (Ok ls)) ⊎ (◌≡◌ {A = Result (List DevicesLine) DevicesFault} (Err fault) (Err OutOfMemory))
  refused text fault ls (inl memory) is small = inr (ap Err memory)
  refused text fault ls (inr bad) is small = let good = text_back text ls is small in absurd cc
