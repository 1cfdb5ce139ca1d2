-- A text that is read as segments is their listing.
use Rattle.std.proofs.Common.{◌≡◌, ◌⊎◌, ℕ, ◌+◌, ◌^◌, ◌<◌, ◌≤◌, Some, None, Ok, Err, Bool, true, false, cond, Option, Result, List, [], ◌∷◌, ◌++◌, length, eqb, eqb-true, inl, inr, refl, sym, ap, ap₂, subst, ◌∙◌, arith, append_assoc, append-nil, length-append}
use Rattle.std.specs.Prelude.{All, bytes_eq, codes, flat_map}
use Rattle.std.specs.List.{join_with_byte}
use Rattle.std.specs.Option.{option_map}
use Rattle.std.proofs.lemmas.Bool.{eqb-false}
use Rattle.std.proofs.lemmas.List.Elements.{All-append, All-cons, All-nil}
use Rattle.std.proofs.lemmas.List.Splits.{join_with_byte-slice_split}
use Rattle.std.proofs.lemmas.Option.{cond_some, none-some, option_and_then_some, same_Some}
use Rattle.std.proofs.lemmas.Slice.Eq.{bytes_eq-Decides}
use Rattle.elf32_read.specs.Segments.{SegmentData}
use Rattle.text_lines.specs.Lines.{lines_of, words_of}
use Rattle.text_lines.proofs.OptionLaws.{mapped}
use Rattle.zc_list.specs.Listing.{Content, FitsSegment, IsListText, content_line, content_lines, content_size, file_contents, list_lines, list_text, segment_line, segment_lines, text_of_lines}
use Rattle.zc_list.specs.Spelled.{Between, Ended, Inside, ListState, Untitled, after_content, after_line, at_end, content_at, inside, read_lines, read_on, segment_of_words, segments_in, with_bytes}
use Rattle.zc_list.proofs.ContentLaws.{content_is}
use Rattle.zc_list.proofs.FirstLaws.{Took, TookZeros, content_bytes, none_contents, taken}
use Rattle.zc_list.proofs.RunLaws.{bytes_after, no_bytes_after, run, run_more, zero_lines, zero_lines_none, zero_lines_some}
use Rattle.zc_list.proofs.SegmentLaws.{ReadSegment, segment_is}

-- ---- what is read of lines comes from the states after them

no_ok : {A : Type 0} (number : ℕ) (segments : List SegmentData) → ◌≡◌ {A = Result (List SegmentData) ℕ} (Err number) (Ok segments) → A
no_ok number segments is = absurd cc

ended_ok : (state : ListState) (number : ℕ) (rest : List ℕ) (segments : List SegmentData) → at_end state number rest ≡ Ok segments → (rest ≡ []) × (state ≡ Ended segments)
ended_ok Untitled number rest segments is = no_ok number segments is
ended_ok (Between done) number rest segments is = no_ok number segments is
ended_ok (Inside done s last) number rest segments is = no_ok number segments is
ended_ok (Ended done) number rest segments is = either (bytes_eq rest []) refl is
  where
    either : (b : Bool) → bytes_eq rest [] ≡ b → cond b (Ok done) (Err number) ≡ Ok segments → (rest ≡ []) × (Ended done ≡ Ended segments)
    either true none h = let same : done ≡ segments = cc in ((bytes_eq-Decides rest []).0 none, ap Ended same)
    either false some h = no_ok number segments h

-- the lines before the end of the text, and that they lead to the end of a listing
abbrev ReadLines : ListState → List (List ℕ) → List SegmentData → Type 0
ReadLines state lines segments = (front : List (List ℕ)) × (lines ≡ front ++ ([] ∷ [])) × (run state front ≡ Some (Ended segments))

read_ok : (lines : List (List ℕ)) (state : ListState) (number : ℕ) (segments : List SegmentData) → read_lines state number lines ≡ Ok segments → ReadLines state lines segments
read_ok [] state number segments is = no_ok number segments is
read_ok (rest ∷ []) state number segments is =
    let end = ended_ok state number rest segments is in
    ([], ap (λ r. r ∷ []) end.0, ap Some end.1)
read_ok (line ∷ (next ∷ lines)) state number segments is = either (λ s h. read_ok (next ∷ lines) s (number + 1) segments h) (after_line state line) refl is
  where
    either : ((s : ListState) → read_lines s (number + 1) (next ∷ lines) ≡ Ok segments → ReadLines s (next ∷ lines) segments) → (o : Option ListState) → after_line state line ≡ o
        → read_on number o (λ s. read_lines s (number + 1) (next ∷ lines)) ≡ Ok segments → ReadLines state (line ∷ (next ∷ lines)) segments
    either later None first h = no_ok number segments h
    either later (Some s) first h =
        let r = later s h in
        (line ∷ r.0, ap (λ ls. line ∷ ls) r.1, run_more state s line r.0 first ∙ r.2)

-- ---- states that a reader comes to

-- bytes are missing inside a segment
abbrev pub Good : ListState → Type 0
Good Untitled = Unit {0}
Good (Between done) = Unit {0}
Good (Inside done s last) = (length s.bytes < s.size) × (s.size < 2 ^ 32)
Good (Ended done) = Unit {0}

good_inside : (done : List SegmentData) (s : SegmentData) (last : Bool) → length s.bytes ≤ s.size → s.size < 2 ^ 32 → Good (inside done s last)
good_inside done s last within size = either (eqb (length s.bytes) s.size) refl
  where
    either : (b : Bool) → eqb (length s.bytes) s.size ≡ b → Good (cond b (Between (done ++ (s ∷ []))) (Inside done s last))
    either true whole = tt
    either false part = let missing = eqb-false (length s.bytes) s.size part in (omega (arith, missing, within), size)

pub good_step : (state : ListState) (line : List ℕ) (next : ListState) → Good state → after_line state line ≡ Some next → Good next
good_step Untitled line next good is = subst Good (cond_some (bytes_eq line (codes "zcld list 1")) (Between []) next is).1 tt
good_step (Between done) line next good is = either (bytes_eq line (codes "end")) is
  where
    either : (b : Bool) → cond b (Some (Ended done)) (option_map (λ s. inside done s false) (segment_of_words (words_of line))) ≡ Some next → Good next
    either true h = subst Good (same_Some (Ended done) next h) tt
    either false h =
        mapped (λ s. inside done s false) (segment_of_words (words_of line)) next h (λ s spells same.
        let r = segment_is line s spells in
        let none = ap length r.bytes in
        subst Good same (good_inside done s false (omega (arith, none)) r.size))
good_step (Inside done s last) line next good is =
    option_and_then_some (after_content done s last) (content_at (s.at + length s.bytes) line) next is (λ content spells then.
    either content (taken done s last content next (content_is (s.at + length s.bytes) line content spells).1 then))
  where
    either : (content : Content) → Took done s last content next ⊎ TookZeros done s content next → Good next
    either content (inl took) =
        let held = length-append s.bytes (content_bytes content) in
        let room = took.room in
        subst Good took.inside_is (good_inside done (with_bytes s (content_bytes content)) took.ends (omega (arith, held, room)) good.1)
    either content (inr zeros) = subst Good zeros.between tt
good_step (Ended done) line next good is = absurd (none-some next is)

-- ---- the lines from a state on

abbrev end_lines : List SegmentData → List (List ℕ)
end_lines more = flat_map segment_lines more ++ (codes "end" ∷ [])

record BetweenRest (done : List SegmentData) (lines : List (List ℕ)) (segments : List SegmentData) : Type 0 where
  more : List SegmentData
  all : segments ≡ done ++ more
  lines_are : lines ≡ end_lines more
  fits : All FitsSegment more

record InsideRest (done : List SegmentData) (s : SegmentData) (last : Bool) (lines : List (List ℕ)) (segments : List SegmentData) : Type 0 where
  bytes : List ℕ
  more : List SegmentData
  all : segments ≡ done ++ (with_bytes s bytes ∷ more)
  lines_are : lines ≡ content_lines (s.at + length s.bytes) (file_contents s.code bytes) ++ (zero_lines (with_bytes s bytes) ++ end_lines more)
  none : last ≡ true → bytes ≡ []
  room : length s.bytes + length bytes ≤ s.size
  small : All (λ b. b < 256) bytes
  fits : All FitsSegment more

-- the lines are those that are left of a listing of these segments
abbrev Rest : ListState → List (List ℕ) → List SegmentData → Type 0
Rest Untitled lines segments = (lines ≡ list_lines segments) × All FitsSegment segments
Rest (Between done) lines segments = BetweenRest done lines segments
Rest (Inside done s last) lines segments = InsideRest done s last lines segments
Rest (Ended done) lines segments = (lines ≡ []) × (segments ≡ done)

-- no bytes are left, and no zeros or one line of them
no_bytes_left : (done : List SegmentData) (s : SegmentData) (last : Bool) (lines : List (List ℕ)) (segments : List SegmentData) → length s.bytes ≤ s.size
    → (r : BetweenRest (done ++ (s ∷ [])) lines segments) → InsideRest done s last (zero_lines s ++ lines) segments
no_bytes_left done s last lines segments within r =
    let P : SegmentData → Type 0 = λ t. segments ≡ done ++ (t ∷ r.more) in
    let Q : SegmentData → Type 0 = λ t. zero_lines s ++ lines ≡ zero_lines t ++ end_lines r.more in
    let here = sym (no_bytes_after s) in
    record {
      bytes = [];
      more = r.more;
      all = subst P here (r.all ∙ append_assoc done (s ∷ []) r.more);
      lines_are = subst Q here (ap (λ ls. zero_lines s ++ ls) r.lines_are)
          ∙ sym (ap (λ cs. content_lines (s.at + length s.bytes) cs ++ (zero_lines (with_bytes s []) ++ end_lines r.more)) (none_contents s.code));
      none = λ _. refl;
      room = omega (arith, within);
      small = All-nil (λ b. b < 256);
      fits = r.fits;
    }

inside_rest : (done : List SegmentData) (s : SegmentData) (last : Bool) (lines : List (List ℕ)) (segments : List SegmentData) → length s.bytes ≤ s.size
    → Rest (inside done s last) lines segments → InsideRest done s last lines segments
inside_rest done s last lines segments within r = either (eqb (length s.bytes) s.size) refl r
  where
    either : (b : Bool) → eqb (length s.bytes) s.size ≡ b → Rest (cond b (Between (done ++ (s ∷ []))) (Inside done s last)) lines segments → InsideRest done s last lines segments
    either true whole h =
        let none = zero_lines_none s (omega (arith, eqb-true (length s.bytes) s.size whole)) in
        let P : List (List ℕ) → Type 0 = λ zeros. InsideRest done s last (zeros ++ lines) segments in
        subst P none (no_bytes_left done s last lines segments within h)
    either false part h = h

first_line_rest : (line : List ℕ) (next : ListState) (lines : List (List ℕ)) (segments : List SegmentData) → after_line Untitled line ≡ Some next → Rest next lines segments → Rest Untitled (line ∷ lines) segments
first_line_rest line next lines segments is r =
    let parts = cond_some (bytes_eq line (codes "zcld list 1")) (Between []) next is in
    let R : ListState → Type 0 = λ t. Rest t lines segments in
    let b : BetweenRest [] lines segments = subst R (sym parts.1) r in
    let Fit : List SegmentData → Type 0 = All FitsSegment in
    (ap₂ (λ l ls. l ∷ ls) ((bytes_eq-Decides line (codes "zcld list 1")).0 parts.0) (b.lines_are ∙ ap end_lines (sym b.all)), subst Fit (sym b.all) b.fits)

segment_rest : (done : List SegmentData) (line : List ℕ) (s : SegmentData) (lines : List (List ℕ)) (segments : List SegmentData) → ReadSegment line s → InsideRest done s false lines segments
    → BetweenRest done (line ∷ lines) segments
unfolding segment_line
segment_rest done line s lines segments read r =
    let t : SegmentData = with_bytes s r.bytes in
    let none = read.bytes in
    let size = ap length none in
    let whole : s.bytes ++ r.bytes ≡ r.bytes = ap (λ bs. bs ++ r.bytes) none in
    let contents : List (List ℕ) = content_lines s.at (file_contents s.code t.bytes) in
    let same : content_lines (s.at + length s.bytes) (file_contents s.code r.bytes) ≡ contents =
    ap₂ (λ a bs. content_lines a (file_contents s.code bs)) (let e : s.at + length s.bytes ≡ s.at = omega (arith, size) in e) (sym whole) in
    let Small : List ℕ → Type 0 = All (λ b. b < 256) in
    let held = length-append s.bytes r.bytes in
    let room = r.room in
    record {
      more = t ∷ r.more;
      all = r.all;
      lines_are = ap₂ (λ l ls. l ∷ ls) read.spells
          (r.lines_are ∙ ap (λ ls. ls ++ (zero_lines t ++ end_lines r.more)) same
          ∙ sym (append_assoc contents (zero_lines t) (end_lines r.more))
          ∙ sym (append_assoc (contents ++ zero_lines t) (flat_map segment_lines r.more) (codes "end" ∷ [])));
      fits = All-cons FitsSegment t r.more (record { at = read.at; size = read.size; bytes = subst Small (sym whole) r.small; within = omega (arith, held, room) }) r.fits;
    }

between_rest : (done : List SegmentData) (line : List ℕ) (next : ListState) (lines : List (List ℕ)) (segments : List SegmentData) → after_line (Between done) line ≡ Some next → Rest next lines segments
    → BetweenRest done (line ∷ lines) segments
between_rest done line next lines segments is r = either (bytes_eq line (codes "end")) refl is
  where
    either : (b : Bool) → bytes_eq line (codes "end") ≡ b → cond b (Some (Ended done)) (option_map (λ s. inside done s false) (segment_of_words (words_of line))) ≡ Some next → BetweenRest done (line ∷ lines) segments
    either true end h =
        let e : Rest (Ended done) lines segments = subst (λ t. Rest t lines segments) (sym (same_Some (Ended done) next h)) r in
        record {
          more = [];
          all = e.1 ∙ sym (append-nil done);
          lines_are = ap₂ (λ l ls. l ∷ ls) ((bytes_eq-Decides line (codes "end")).0 end) e.0;
          fits = All-nil FitsSegment;
        }
    either false other h =
        mapped (λ s. inside done s false) (segment_of_words (words_of line)) next h (λ s spells same.
        let read = segment_is line s spells in
        let size = ap length read.bytes in
        segment_rest done line s lines segments read (inside_rest done s false lines segments (omega (arith, size)) (subst (λ t. Rest t lines segments) (sym same) r)))

module _ (done : List SegmentData) (s : SegmentData) (last : Bool) (line : List ℕ) (next : ListState) (lines : List (List ℕ)) (segments : List SegmentData) where
  took_rest : (content : Content) → line ≡ content_line (s.at + length s.bytes) content → Took done s last content next → Rest next lines segments → InsideRest done s last (line ∷ lines) segments
  took_rest content line_is took r =
      let here : List ℕ = content_bytes content in
      let t : SegmentData = with_bytes s here in
      let held = length-append s.bytes here in
      let space = took.room in
      let R : ListState → Type 0 = λ state. Rest state lines segments in
      let i = inside_rest done t took.ends lines segments (omega (arith, held, space)) (subst R (sym took.inside_is) r) in
      let bytes : List ℕ = here ++ i.bytes in
      let more = i.more in
      let after = bytes_after s here i.bytes in
      let count = length-append here i.bytes in
      let room = i.room in
      let open_yet = took.open_yet in
      let size = took.size in
      let next_at : t.at + length t.bytes ≡ s.at + length s.bytes + content_size content = omega (arith, held, size) in
      let P : SegmentData → Type 0 = λ u. segments ≡ done ++ (u ∷ more) in
      let rest : List (List ℕ) = zero_lines (with_bytes s bytes) ++ end_lines more in
      record {
        bytes = bytes;
        more = more;
        all = subst P after i.all;
        lines_are = ap₂ (λ l ls. l ∷ ls) line_is
            (i.lines_are ∙ ap₂ (λ a u. content_lines a (file_contents s.code i.bytes) ++ (zero_lines u ++ end_lines more)) next_at after)
            ∙ sym (ap (λ cs. content_lines (s.at + length s.bytes) cs ++ rest) (took.next i.bytes i.none));
        none = λ h. absurd cc;
        room = omega (arith, held, count, room);
        small = All-append (λ b. b < 256) here i.bytes took.small i.small;
        fits = i.fits;
      }

  zeros_rest : (content : Content) → line ≡ content_line (s.at + length s.bytes) content → length s.bytes < s.size → TookZeros done s content next → Rest next lines segments → InsideRest done s last (line ∷ lines) segments
  zeros_rest content line_is missing zeros r =
      let R : ListState → Type 0 = λ state. Rest state lines segments in
      let b : BetweenRest (done ++ (s ∷ [])) lines segments = subst R (sym zeros.between) r in
      let some = zero_lines_some s (λ e. omega (arith, e, missing)) in
      let P : List (List ℕ) → Type 0 = λ ls. InsideRest done s last ls segments in
      subst P (ap (λ zs. zs ++ lines) some ∙ ap (λ l. l ∷ lines) (sym (line_is ∙ ap (content_line (s.at + length s.bytes)) zeros.zeros)))
      (no_bytes_left done s last lines segments (omega (arith, missing)) b)

  content_rest : length s.bytes < s.size → after_line (Inside done s last) line ≡ Some next → Rest next lines segments → InsideRest done s last (line ∷ lines) segments
  content_rest missing is r =
      option_and_then_some (after_content done s last) (content_at (s.at + length s.bytes) line) next is (λ content spells then.
      let c = content_is (s.at + length s.bytes) line content spells in
      either content c.0 (taken done s last content next c.1 then))
    where
      either : (content : Content) → line ≡ content_line (s.at + length s.bytes) content → Took done s last content next ⊎ TookZeros done s content next → InsideRest done s last (line ∷ lines) segments
      either content line_is (inl took) = took_rest content line_is took r
      either content line_is (inr zeros) = zeros_rest content line_is missing zeros r

step_rest : (state : ListState) (line : List ℕ) (next : ListState) (lines : List (List ℕ)) (segments : List SegmentData) → Good state → after_line state line ≡ Some next → Rest next lines segments → Rest state (line ∷ lines) segments
step_rest Untitled line next lines segments good is r = first_line_rest line next lines segments is r
step_rest (Between done) line next lines segments good is r = between_rest done line next lines segments is r
step_rest (Inside done s last) line next lines segments good is r = content_rest done s last line next lines segments good.0 is r
step_rest (Ended done) line next lines segments good is r = absurd (none-some next is)

-- lines that lead to the end of a listing are those that are left of it
rest_of_run : (lines : List (List ℕ)) (state : ListState) (segments : List SegmentData) → Good state → run state lines ≡ Some (Ended segments) → Rest state lines segments
rest_of_run [] state segments good is =
    let R : ListState → Type 0 = λ t. Rest t [] segments in
    subst R (sym (same_Some state (Ended segments) is)) (refl, refl)
rest_of_run (line ∷ lines) state segments good is =
    option_and_then_some (λ n. run n lines) (after_line state line) (Ended segments) is (λ next first others.
    step_rest state line next lines segments good first (rest_of_run lines next segments (good_step state line next good first) others))

-- lines that lead from the first line to the end are a listing
pub run_is_list : (lines : List (List ℕ)) (segments : List SegmentData) → run Untitled lines ≡ Some (Ended segments) → (lines ≡ list_lines segments) × All FitsSegment segments
run_is_list lines segments is = rest_of_run lines Untitled segments tt is

-- ---- the text

join_more : (line : List ℕ) (lines : List (List ℕ)) → join_with_byte 10 (line ∷ (lines ++ ([] ∷ []))) ≡ line ++ (10 ∷ join_with_byte 10 (lines ++ ([] ∷ [])))
join_more line [] = refl
join_more line (next ∷ lines) = refl

joined_lines : (lines : List (List ℕ)) → join_with_byte 10 (lines ++ ([] ∷ [])) ≡ text_of_lines lines
joined_lines [] = refl
joined_lines (line ∷ lines) =
    join_more line lines ∙ ap (λ t. line ++ (10 ∷ t)) (joined_lines lines) ∙ sym (append_assoc line (10 ∷ []) (text_of_lines lines))

pub text_is_list : (text : List ℕ) (segments : List SegmentData) → segments_in text ≡ Ok segments → IsListText text segments
unfolding segments_in list_text
text_is_list text segments is =
    let read = read_ok (lines_of text) Untitled 1 segments is in
    let list = run_is_list read.0 segments read.2 in
    record {
      spells = sym (join_with_byte-slice_split 10 text) ∙ ap (join_with_byte 10) read.1 ∙ joined_lines read.0 ∙ ap text_of_lines list.0;
      fits = list.1;
    }
