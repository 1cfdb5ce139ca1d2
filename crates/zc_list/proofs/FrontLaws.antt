-- The first bad line of a text is the first that no listing has after the lines before it.
use Rattle.std.proofs.Common.{◌≡◌, ℕ, suc, ◌+◌, ◌-◌, Some, None, Ok, Err, Bool, true, false, cond, Option, Result, List, [], ◌∷◌, ◌++◌, length, get_or, drop, eqb, refl, sym, ap, ap₂, subst, ◌∙◌, arith, append_assoc}
use Rattle.std.specs.Prelude.{All, bytes_eq, codes}
use Rattle.std.specs.List.{join_with_byte, onto_first}
use Rattle.std.specs.Option.{option_and_then}
use Rattle.std.proofs.lemmas.Bool.{ne_eqb}
use Rattle.std.proofs.lemmas.Grind.{flat_map-append}
use Rattle.std.proofs.lemmas.List.Elements.{All-cons, All-head, All-nil, All-tail}
use Rattle.std.proofs.lemmas.List.Splits.{join_with_byte-slice_split}
use Rattle.std.proofs.lemmas.Option.{none-some, option_and_then_some, same_Some}
use Rattle.elf32_read.specs.Segments.{SegmentData}
use Rattle.text_lines.specs.Lines.{lines_of}
use Rattle.text_lines.proofs.PlainLaws.{IsLine}
use Rattle.text_lines.proofs.SplitLaws.{some_part}
use Rattle.zc_list.specs.Fault.{IsFirstBad, StartsListing, front}
use Rattle.zc_list.specs.Listing.{list_lines, list_text, text_of_lines}
use Rattle.zc_list.specs.Spelled.{Between, Ended, Inside, ListState, Untitled, after_line, at_end, read_lines, read_on, segments_in}
use Rattle.zc_list.proofs.ExactLaws.{Good, good_step, run_is_list}
use Rattle.zc_list.proofs.RunLaws.{list_are_lines, run, run_list, run_more, run_zeros, zero_lines}

-- ---- the first lines of a text

front_line : (n : ℕ) (line rest : List ℕ) → IsLine line → front (suc n) (line ++ (10 ∷ rest)) ≡ line ++ (10 ∷ front n rest)
front_line n [] rest is = refl
front_line n (c ∷ cs) rest is =
    ap (λ b. c ∷ cond b (front n (cs ++ (10 ∷ rest))) (front (suc n) (cs ++ (10 ∷ rest)))) (All-head (λ b. eqb b 10 ≡ false) c cs is)
    ∙ ap (λ t. c ∷ t) (front_line n cs rest (All-tail (λ b. eqb b 10 ≡ false) c cs is))

front_rest : (n : ℕ) (rest : List ℕ) → IsLine rest → front (suc n) rest ≡ rest
front_rest n [] is = refl
front_rest n (c ∷ cs) is =
    ap (λ b. c ∷ cond b (front n cs) (front (suc n) cs)) (All-head (λ b. eqb b 10 ≡ false) c cs is)
    ∙ ap (λ t. c ∷ t) (front_rest n cs (All-tail (λ b. eqb b 10 ≡ false) c cs is))

front_more : (n : ℕ) (line : List ℕ) (lines : List (List ℕ)) (rest : List ℕ) → IsLine line
    → front (suc n) (text_of_lines (line ∷ lines) ++ rest) ≡ line ++ (10 ∷ front n (text_of_lines lines ++ rest))
front_more n line lines rest is =
    ap (front (suc n)) (append_assoc (line ++ (10 ∷ [])) (text_of_lines lines) rest ∙ append_assoc line (10 ∷ []) (text_of_lines lines ++ rest))
    ∙ front_line n line (text_of_lines lines ++ rest) is

-- as many lines as there are
front_lines : (lines : List (List ℕ)) (rest : List ℕ) → All IsLine lines → front (length lines) (text_of_lines lines ++ rest) ≡ text_of_lines lines
front_lines [] rest are = refl
front_lines (line ∷ lines) rest are =
    front_more (length lines) line lines rest (All-head IsLine line lines are)
    ∙ ap (λ t. line ++ (10 ∷ t)) (front_lines lines rest (All-tail IsLine line lines are))
    ∙ sym (append_assoc line (10 ∷ []) (text_of_lines lines))

-- the first line is the same in texts that are the same
same_first : (a b x y : List ℕ) → IsLine a → IsLine b → a ++ (10 ∷ x) ≡ b ++ (10 ∷ y) → (a ≡ b) × (x ≡ y)
same_first [] [] x y left right is = (refl, ap (drop 1) is)
same_first [] (d ∷ ds) x y left right is = absurd (differs (ap (λ t. get_or t 0 0) is) (All-head (λ b. eqb b 10 ≡ false) d ds right))
  where
    differs : 10 ≡ d → eqb d 10 ≡ false → ⊥
    differs same other = let yes : eqb d 10 ≡ true = ap (λ n. eqb n 10) (sym same) in let no : true ≡ false = sym yes ∙ other in absurd cc
same_first (c ∷ cs) [] x y left right is = absurd (differs (ap (λ t. get_or t 0 0) is) (All-head (λ b. eqb b 10 ≡ false) c cs left))
  where
    differs : c ≡ 10 → eqb c 10 ≡ false → ⊥
    differs same other = let yes : eqb c 10 ≡ true = ap (λ n. eqb n 10) same in let no : true ≡ false = sym yes ∙ other in absurd cc
same_first (c ∷ cs) (d ∷ ds) x y left right is =
    let rest = same_first cs ds x y (All-tail (λ b. eqb b 10 ≡ false) c cs left) (All-tail (λ b. eqb b 10 ≡ false) d ds right) (ap (drop 1) is) in
    (ap₂ (λ h t. h ∷ t) (ap (λ t. get_or t 0 0) is) rest.0, rest.1)

-- a line has no line feed in it
no_feed : (line rest : List ℕ) → IsLine (line ++ (10 ∷ rest)) → ⊥
no_feed [] rest is = let no : true ≡ false = All-head (λ b. eqb b 10 ≡ false) 10 rest is in absurd cc
no_feed (c ∷ cs) rest is = no_feed cs rest (All-tail (λ b. eqb b 10 ≡ false) c (cs ++ (10 ∷ rest)) is)

-- ---- the lines of a text

onto_lines : (c : ℕ) (lines : List (List ℕ)) → eqb c 10 ≡ false → All IsLine lines → All IsLine (onto_first c lines)
onto_lines c [] other are = All-cons IsLine (c ∷ []) [] (All-cons (λ b. eqb b 10 ≡ false) c [] other (All-nil (λ b. eqb b 10 ≡ false))) (All-nil IsLine)
onto_lines c (line ∷ lines) other are =
    All-cons IsLine (c ∷ line) lines (All-cons (λ b. eqb b 10 ≡ false) c line other (All-head IsLine line lines are)) (All-tail IsLine line lines are)

lines_are_lines : (text : List ℕ) → All IsLine (lines_of text)
lines_are_lines [] = All-cons IsLine [] [] (All-nil (λ b. eqb b 10 ≡ false)) (All-nil IsLine)
lines_are_lines (c ∷ cs) = either (lines_are_lines cs) (eqb c 10) refl
  where
    either : All IsLine (lines_of cs) → (b : Bool) → eqb c 10 ≡ b → All IsLine (cond b ([] ∷ lines_of cs) (onto_first c (lines_of cs)))
    either later true feed = All-cons IsLine [] (lines_of cs) (All-nil (λ b. eqb b 10 ≡ false)) later
    either later false other = onto_lines c (lines_of cs) other later

first_lines : (front back : List (List ℕ)) → All IsLine (front ++ back) → All IsLine front
first_lines [] back are = All-nil IsLine
first_lines (line ∷ front) back are = All-cons IsLine line front (All-head IsLine line (front ++ back) are) (first_lines front back (All-tail IsLine line (front ++ back) are))

last_lines : (front back : List (List ℕ)) → All IsLine (front ++ back) → All IsLine back
last_lines [] back are = are
last_lines (line ∷ front) back are = last_lines front back (All-tail IsLine line (front ++ back) are)

joined_front : (front : List (List ℕ)) (line : List ℕ) (back : List (List ℕ)) → join_with_byte 10 (front ++ (line ∷ back)) ≡ text_of_lines front ++ join_with_byte 10 (line ∷ back)
joined_front [] line back = refl
joined_front (first ∷ front) line back =
    join_cons first front ∙ ap (λ t. first ++ (10 ∷ t)) (joined_front front line back)
    ∙ sym (append_assoc first (10 ∷ []) (text_of_lines front ++ join_with_byte 10 (line ∷ back)))
    ∙ sym (append_assoc (first ++ (10 ∷ [])) (text_of_lines front) (join_with_byte 10 (line ∷ back)))
  where
    join_cons : (first : List ℕ) (front : List (List ℕ)) → join_with_byte 10 (first ∷ (front ++ (line ∷ back))) ≡ first ++ (10 ∷ join_with_byte 10 (front ++ (line ∷ back)))
    join_cons first [] = refl
    join_cons first (next ∷ front) = refl

-- ---- where a reader stops

-- no line may stand in this state that the text has next: the next line may not, or the text ends here
abbrev Stops : ListState → List (List ℕ) → Type 0
Stops state back =
    ((line next : List ℕ) (more : List (List ℕ)) → back ≡ line ∷ (next ∷ more) → after_line state line ≡ None)
    × ((rest : List ℕ) → back ≡ rest ∷ [] → (segments : List SegmentData) → state ≡ Ended segments → rest ≡ [] → ⊥)

record Stuck (state : ListState) (lines : List (List ℕ)) (number n : ℕ) : Type 0 where
  before : List (List ℕ)
  line : List ℕ
  back : List (List ℕ)
  at : ListState
  lines_are : lines ≡ before ++ (line ∷ back)
  count : number + length before ≡ n
  ran : run state before ≡ Some at
  good : Good at
  stops : Stops at (line ∷ back)

no_err : {A : Type 0} (segments : List SegmentData) (number : ℕ) → ◌≡◌ {A = Result (List SegmentData) ℕ} (Ok segments) (Err number) → A
no_err segments number is = absurd cc

same_err : (a b : ℕ) → ◌≡◌ {A = Result (List SegmentData) ℕ} (Err a) (Err b) → a ≡ b
same_err a b is = cc

ended_err : (state : ListState) (number : ℕ) (rest : List ℕ) (n : ℕ) → at_end state number rest ≡ Err n → number ≡ n
ended_err Untitled number rest n is = same_err number n is
ended_err (Between done) number rest n is = same_err number n is
ended_err (Inside done s last) number rest n is = same_err number n is
ended_err (Ended done) number rest n is = either (bytes_eq rest []) is
  where
    either : (b : Bool) → cond b (Ok done) (Err number) ≡ Err n → number ≡ n
    either true h = no_err done n h
    either false h = same_err number n h

stuck_here : (state : ListState) (number : ℕ) (line : List ℕ) (back : List (List ℕ)) (n : ℕ) → Good state → number ≡ n → Stops state (line ∷ back) → Stuck state (line ∷ back) number n
stuck_here state number line back n good same stops = record {
  before = [];
  line = line;
  back = back;
  at = state;
  lines_are = refl;
  count = omega (arith, same);
  ran = refl;
  good = good;
  stops = stops;
}

stuck : (lines : List (List ℕ)) (line : List ℕ) (state : ListState) (number n : ℕ) → Good state → read_lines state number (line ∷ lines) ≡ Err n → Stuck state (line ∷ lines) number n
stuck [] rest state number n good is =
    stuck_here state number rest [] n good (ended_err state number rest n is) (
      (λ line next more same. let size = ap length same in absurd (omega (arith, size))),
      (λ r same segments ended none.
          let here : rest ≡ [] = ap (λ ls. get_or ls 0 []) same ∙ none in
          no_err segments n (sym (ap₂ (λ s t. at_end s number t) ended here) ∙ is)),
    )
stuck (next ∷ lines) line state number n good is = either (λ s g h. stuck lines next s (number + 1) n g h) (after_line state line) refl is
  where
    either : ((s : ListState) → Good s → read_lines s (number + 1) (next ∷ lines) ≡ Err n → Stuck s (next ∷ lines) (number + 1) n) → (o : Option ListState) → after_line state line ≡ o
        → read_on number o (λ s. read_lines s (number + 1) (next ∷ lines)) ≡ Err n → Stuck state (line ∷ (next ∷ lines)) number n
    either later None first h =
        stuck_here state number line (next ∷ lines) n good (same_err number n h) (
          (λ l m more same. ap (after_line state) (sym (ap (λ ls. get_or ls 0 []) same)) ∙ first),
          (λ rest same. let size = ap length same in absurd (omega (arith, size))),
        )
    either later (Some s) first h =
        let k = later s (good_step state line s good first) h in
        let count = k.count in
        record {
          before = line ∷ k.before;
          line = k.line;
          back = k.back;
          at = k.at;
          lines_are = ap (λ ls. line ∷ ls) k.lines_are;
          count = omega (arith, count);
          ran = run_more state s line k.before first ∙ k.ran;
          good = k.good;
          stops = k.stops;
        }

-- ---- a listing begins with the lines before

-- lines with which a listing ends from a state on, and the segments that it then lists
abbrev completion : ListState → List (List ℕ)
completion Untitled = codes "zcld list 1" ∷ (codes "end" ∷ [])
completion (Between done) = codes "end" ∷ []
completion (Inside done s last) = zero_lines s ++ (codes "end" ∷ [])
completion (Ended done) = []

abbrev completed : ListState → List SegmentData
completed Untitled = []
completed (Between done) = done
completed (Inside done s last) = done ++ (s ∷ [])
completed (Ended done) = done

run_completion : (state : ListState) → Good state → run state (completion state) ≡ Some (Ended (completed state))
run_completion Untitled good = refl
run_completion (Between done) good = refl
run_completion (Inside done s last) good =
    let small = good.0 in
    ap (λ b. run (cond b (Between (done ++ (s ∷ []))) (Inside done s last)) (zero_lines s ++ (codes "end" ∷ []))) (sym (ne_eqb (length s.bytes) s.size (λ e. omega (arith, e, small))))
    ∙ run_zeros done s last (codes "end" ∷ []) (omega (arith, small)) good.1
run_completion (Ended done) good = refl

run_after : (lines more : List (List ℕ)) (state next : ListState) → run state lines ≡ Some next → run state (lines ++ more) ≡ run next more
run_after [] more state next is = ap (λ s. run s more) (same_Some state next is)
run_after (line ∷ lines) more state next is =
    option_and_then_some (λ n. run n lines) (after_line state line) next is (λ s first others.
    run_more state s line (lines ++ more) first ∙ run_after lines more s next others)

-- ---- no listing goes on with the line

-- lines that begin as other lines do come to the same state
same_start : (before lines : List (List ℕ)) (state at : ListState) (segments : List SegmentData) (rest : List ℕ) → All IsLine before → All IsLine lines
    → run state before ≡ Some at → run state lines ≡ Some (Ended segments) → front (suc (length before)) (text_of_lines lines) ≡ front (suc (length before)) (text_of_lines before ++ rest)
    → (others : List (List ℕ)) × All IsLine others × (run at others ≡ Some (Ended segments)) × (front 1 (text_of_lines others) ≡ front 1 rest)
same_start [] lines state at segments rest good are ran whole same =
    (lines, are, ap (λ s. run s lines) (sym (same_Some state at ran)) ∙ whole, same)
same_start (first ∷ before) [] state at segments rest good are ran whole same =
    let parts = same ∙ front_more (suc (length before)) first before rest (All-head IsLine first before good) in
    absurd (no_text first (front (suc (length before)) (text_of_lines before ++ rest)) parts)
  where
    no_text : (a b : List ℕ) → [] ≡ a ++ (10 ∷ b) → ⊥
    no_text [] b is = let size = ap length is in omega (arith, size)
    no_text (x ∷ a) b is = let size = ap length is in omega (arith, size)
same_start (first ∷ before) (line ∷ lines) state at segments rest good are ran whole same =
    let start = All-head IsLine first before good in
    let here = All-head IsLine line lines are in
    let n : ℕ = suc (length before) in
    let left = ap (front (suc n)) (append_assoc line (10 ∷ []) (text_of_lines lines)) ∙ front_line n line (text_of_lines lines) here in
    let right = front_more n first before rest start in
    let parts = same_first line first (front n (text_of_lines lines)) (front n (text_of_lines before ++ rest)) here start (sym left ∙ same ∙ right) in
    option_and_then_some (λ s. run s before) (after_line state first) at ran (λ next step others.
    same_start before lines next at segments rest (All-tail IsLine first before good) (All-tail IsLine line lines are) others
    (sym (run_more state next line lines (ap (after_line state) parts.0 ∙ step)) ∙ whole) parts.1)

-- the next line is another one
no_next : (others back : List (List ℕ)) (line : List ℕ) (at : ListState) (segments : List SegmentData) → All IsLine others → All IsLine (line ∷ back) → Stops at (line ∷ back) → run at others ≡ Some (Ended segments)
    → front 1 (text_of_lines others) ≡ front 1 (join_with_byte 10 (line ∷ back)) → ⊥
no_next [] [] rest at segments are good stops ran same =
    stops.1 rest refl segments (same_Some at (Ended segments) ran) (sym (same ∙ front_rest 0 rest (All-head IsLine rest [] good)))
no_next [] (next ∷ back) line at segments are good stops ran same =
    no_text line [] (same ∙ front_line 0 line (join_with_byte 10 (next ∷ back)) (All-head IsLine line (next ∷ back) good))
  where
    no_text : (a b : List ℕ) → [] ≡ a ++ (10 ∷ b) → ⊥
    no_text [] b is = let size = ap length is in omega (arith, size)
    no_text (x ∷ a) b is = let size = ap length is in omega (arith, size)
no_next (other ∷ others) [] rest at segments are good stops ran same =
    let here = All-head IsLine other others are in
    let left = ap (front 1) (append_assoc other (10 ∷ []) (text_of_lines others)) ∙ front_line 0 other (text_of_lines others) here in
    let line = All-head IsLine rest [] good in
    let Line : List ℕ → Type 0 = IsLine in
    no_feed other [] (subst Line (sym (sym left ∙ same ∙ front_rest 0 rest line)) line)
no_next (other ∷ others) (next ∷ back) line at segments are good stops ran same =
    let here = All-head IsLine other others are in
    let there = All-head IsLine line (next ∷ back) good in
    let left = ap (front 1) (append_assoc other (10 ∷ []) (text_of_lines others)) ∙ front_line 0 other (text_of_lines others) here in
    let right = front_line 0 line (join_with_byte 10 (next ∷ back)) there in
    let parts = same_first other line [] [] here there (sym left ∙ same ∙ right) in
    let none : run at (other ∷ others) ≡ None = ap (λ o. option_and_then (λ s. run s others) o) (ap (after_line at) parts.0 ∙ stops.0 line next back refl) in
    none-some (Ended segments) (sym none ∙ ran)

-- ---- the text

module _ (text : List ℕ) (n : ℕ) (k : Stuck Untitled (lines_of text) 1 n) where
  text_is : text ≡ text_of_lines k.before ++ join_with_byte 10 (k.line ∷ k.back)
  text_is = sym (join_with_byte-slice_split 10 text) ∙ ap (join_with_byte 10) k.lines_are ∙ joined_front k.before k.line k.back

  whole_lines : All IsLine (k.before ++ (k.line ∷ k.back))
  whole_lines = let Are : List (List ℕ) → Type 0 = All IsLine in subst Are k.lines_are (lines_are_lines text)

  before_lines : All IsLine k.before
  before_lines = first_lines k.before (k.line ∷ k.back) whole_lines

  starts : StartsListing text (length k.before)
  unfolding list_text
  starts =
      let segments : List SegmentData = completed k.at in
      let lines : List (List ℕ) = k.before ++ completion k.at in
      let list = run_is_list lines segments (run_after k.before (completion k.at) Untitled k.at k.ran ∙ run_completion k.at k.good) in
      let there = ap (front (length k.before)) (ap text_of_lines (sym list.0) ∙ flat_map-append (λ line. line ++ (10 ∷ [])) k.before (completion k.at)) ∙ front_lines k.before (text_of_lines (completion k.at)) before_lines in
      let here = ap (front (length k.before)) text_is ∙ front_lines k.before (join_with_byte 10 (k.line ∷ k.back)) before_lines in
      (segments, list.1, there ∙ sym here)

  goes_no_further : StartsListing text (suc (length k.before)) → ⊥
  unfolding list_text
  goes_no_further other =
      let segments = other.0 in
      let lines : List (List ℕ) = list_lines segments in
      let are = list_are_lines segments other.1 in
      let found = same_start k.before lines Untitled k.at segments (join_with_byte 10 (k.line ∷ k.back)) before_lines are k.ran (run_list segments other.1)
      (other.2 ∙ ap (front (suc (length k.before))) text_is) in
      no_next found.0 k.back k.line k.at segments found.1 (last_lines k.before (k.line ∷ k.back) whole_lines) k.stops found.2 found.3

  first_bad : IsFirstBad text n
  first_bad =
      let count = k.count in
      let here : length k.before ≡ n - 1 = omega (arith, count) in
      let next : suc (length k.before) ≡ n = omega (arith, count) in
      record {
        counted = omega (arith, count);
        good_before = subst (StartsListing text) here starts;
        bad = subst (λ m. StartsListing text m → ⊥) next goes_no_further;
      }

pub bad_line_first : (text : List ℕ) (n : ℕ) → segments_in text ≡ Err n → IsFirstBad text n
unfolding segments_in
bad_line_first text n is =
    let parts = some_part (λ b. eqb b 10) text in
    let S : List (List ℕ) → Type 0 = λ ls. Stuck Untitled ls 1 n in
    first_bad text n (subst S (sym parts.2) (stuck parts.1 parts.0 Untitled 1 n tt (sym (ap (read_lines Untitled 1) parts.2) ∙ is)))
