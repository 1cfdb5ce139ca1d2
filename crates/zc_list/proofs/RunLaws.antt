-- The lines of a listing are read as the segments that they list.
use Rattle.std.proofs.Common.{◌≡◌, ℕ, zero, suc, ◌+◌, ◌-◌, ◌^◌, ◌<◌, ◌≤◌, Some, None, Ok, Bool, true, false, cond, Option, List, [], ◌∷◌, ◌++◌, length, eqb, eqb-true, eq-eqb, refl, sym, ap, ap₂, subst, ◌∙◌, arith, append_assoc, append-nil, length-append}
use Rattle.std.specs.Prelude.{All, codes, flat_map}
use Rattle.std.specs.Option.{option_and_then, option_map}
use Rattle.std.proofs.lemmas.Bool.{cond-false, cond-true, eqb-false, false_from_ne_true, le-leb, ne_eqb}
use Rattle.std.proofs.lemmas.List.Elements.{All-append, All-cons, All-from_recursion, All-head, All-nil, All-same, All-tail}
use Rattle.std.proofs.lemmas.List.Splits.{slice_split_at}
use Rattle.std.proofs.lemmas.Option.{option_and_then_some, same_Some}
use Rattle.elf32_read.specs.Segments.{SegmentData}
use Rattle.text_lines.specs.Lines.{lines_of, words_of}
use Rattle.text_lines.proofs.PlainLaws.{IsLine}
use Rattle.zc_list.specs.Listing.{Content, FitsSegment, Zeros, content_line, content_lines, content_size, file_contents, list_lines, list_text, segment_line, segment_lines, text_of_lines, zero_contents}
use Rattle.zc_list.specs.Spelled.{Between, Ended, Inside, ListState, Untitled, after_content, after_line, at_end, empty_segment, inside, read_lines, read_on, segment_of_words, segments_in, with_bytes}
use Rattle.zc_list.proofs.ContentLaws.{FitsContent, content_back, content_is_line}
use Rattle.zc_list.proofs.FirstLaws.{content_bytes, first_of_bytes, none_contents}
use Rattle.zc_list.proofs.SegmentLaws.{segment_back, segment_is_line, segment_no_end}

-- ---- lines, one after another

-- the state after lines, if each of them may stand where it is
abbrev pub run : ListState → List (List ℕ) → Option ListState
run state [] = Some state
run state (line ∷ lines) = option_and_then (λ next. run next lines) (after_line state line)

pub run_more : (state next : ListState) (line : List ℕ) (lines : List (List ℕ)) → after_line state line ≡ Some next → run state (line ∷ lines) ≡ run next lines
run_more state next line lines is = ap (option_and_then (λ n. run n lines)) is

pub read_step : (state : ListState) (number : ℕ) (line rest : List ℕ) (lines : List (List ℕ))
    → read_lines state number (line ∷ (lines ++ (rest ∷ []))) ≡ read_on number (after_line state line) (λ s. read_lines s (number + 1) (lines ++ (rest ∷ [])))
read_step state number line rest [] = refl
read_step state number line rest (next ∷ lines) = refl

-- what is read after lines that may stand where they are
pub read_run : (lines : List (List ℕ)) (state next : ListState) (number : ℕ) (rest : List ℕ) → run state lines ≡ Some next → read_lines state number (lines ++ (rest ∷ [])) ≡ at_end next (number + length lines) rest
read_run [] state next number rest is =
    ap₂ (λ s n. at_end s n rest) (same_Some state next is) (let e : number ≡ number + 0 = omega arith in e)
read_run (line ∷ lines) state next number rest is =
    option_and_then_some (λ n. run n lines) (after_line state line) next is (λ s first others.
    read_step state number line rest lines
    ∙ ap (λ o. read_on number o (λ t. read_lines t (number + 1) (lines ++ (rest ∷ [])))) first
    ∙ read_run lines s next (number + 1) rest others
    ∙ ap (λ n. at_end next n rest) (let e : number + 1 + length lines ≡ number + length (line ∷ lines) = omega arith in e))

-- ---- the lines of a segment

-- the line of the zeros that are missing
abbrev pub zero_lines : SegmentData → List (List ℕ)
zero_lines s = content_lines (s.at + length s.bytes) (zero_contents (s.size - length s.bytes))

pub zero_lines_some : (s : SegmentData) → (s.size - length s.bytes ≡ 0 → ⊥) → zero_lines s ≡ content_line (s.at + length s.bytes) (Zeros (s.size - length s.bytes)) ∷ []
zero_lines_some s some = ap (λ b. content_lines (s.at + length s.bytes) (cond b [] (Zeros (s.size - length s.bytes) ∷ []))) (ne_eqb (s.size - length s.bytes) 0 some)

pub zero_lines_none : (s : SegmentData) → s.size - length s.bytes ≡ 0 → zero_lines s ≡ []
zero_lines_none s none = ap (λ n. content_lines (s.at + length s.bytes) (zero_contents n)) none

-- a line in a segment of which bytes are missing
pub step_inside : (done : List SegmentData) (s : SegmentData) (last : Bool) (content : Content) → (length s.bytes ≡ s.size → ⊥) → FitsContent content
    → after_line (inside done s last) (content_line (s.at + length s.bytes) content) ≡ after_content done s last content
step_inside done s last content missing fits =
    ap (λ b. after_line (cond b (Between (done ++ (s ∷ []))) (Inside done s last)) (content_line (s.at + length s.bytes) content)) (ne_eqb (length s.bytes) s.size missing)
    ∙ ap (option_and_then (after_content done s last)) (content_back (s.at + length s.bytes) content fits)

pub run_zeros : (done : List SegmentData) (s : SegmentData) (last : Bool) (more : List (List ℕ)) → length s.bytes ≤ s.size → s.size < 2 ^ 32
    → run (inside done s last) (zero_lines s ++ more) ≡ run (Between (done ++ (s ∷ []))) more
run_zeros done s last more within size = either (eqb (length s.bytes) s.size) refl
  where
    at : ℕ
    at = s.at + length s.bytes

    left : ℕ
    left = s.size - length s.bytes

    either : (b : Bool) → eqb (length s.bytes) s.size ≡ b → run (inside done s last) (zero_lines s ++ more) ≡ run (Between (done ++ (s ∷ []))) more
    either true whole =
        let none : left ≡ 0 = omega (arith, eqb-true (length s.bytes) s.size whole) in
        ap₂ (λ b n. run (cond b (Between (done ++ (s ∷ []))) (Inside done s last)) (content_lines at (zero_contents n) ++ more)) whole none
    either false part =
        let missing = eqb-false (length s.bytes) s.size part in
        let some : left ≡ 0 → ⊥ = λ e. missing (omega (arith, e, within)) in
        let state : ListState = Between (done ++ (s ∷ [])) in
        let lines = zero_lines_some s some in
        let step : after_line (inside done s last) (content_line at (Zeros left)) ≡ Some state =
        step_inside done s last (Zeros left) missing (omega (arith, size)) ∙ cond-true (eqb left left) (Some state) None (eq-eqb left left refl) in
        ap (λ ls. run (inside done s last) (ls ++ more)) lines ∙ run_more (inside done s last) state (content_line at (Zeros left)) more step

-- what holds of all bytes holds of the last ones
All-behind : (front back : List ℕ) → All (λ b. b < 256) (front ++ back) → All (λ b. b < 256) back
All-behind [] back all = all
All-behind (x ∷ front) back all = All-behind front back (All-tail (λ b. b < 256) x (front ++ back) all)

-- bytes after bytes
pub bytes_after : (s : SegmentData) (front back : List ℕ) → with_bytes (with_bytes s front) back ≡ with_bytes s (front ++ back)
bytes_after s front back = ap (λ bytes. record s { bytes = bytes }) (append_assoc s.bytes front back)

pub no_bytes_after : (s : SegmentData) → with_bytes s [] ≡ s
no_bytes_after s = ap (λ bytes. record s { bytes = bytes }) (append-nil s.bytes)

run_contents : (n : ℕ) (done : List SegmentData) (s : SegmentData) (last : Bool) (bytes : List ℕ) (more : List (List ℕ)) → length bytes ≤ n → All (λ b. b < 256) bytes
    → length s.bytes + length bytes ≤ s.size → s.size < 2 ^ 32 → (last ≡ true → bytes ≡ [])
    → run (inside done s last) (content_lines (s.at + length s.bytes) (file_contents s.code bytes) ++ (zero_lines (with_bytes s bytes) ++ more)) ≡ run (Between (done ++ (with_bytes s bytes ∷ []))) more
run_contents n done s last [] more few small room size ended =
    let P : SegmentData → Type 0 = λ t. run (inside done s last) (zero_lines t ++ more) ≡ run (Between (done ++ (t ∷ []))) more in
    ap (λ cs. run (inside done s last) (content_lines (s.at + length s.bytes) cs ++ (zero_lines (with_bytes s []) ++ more))) (none_contents s.code)
    ∙ subst P (sym (no_bytes_after s)) (run_zeros done s last more (omega (arith, room)) size)
run_contents zero done s last (b ∷ bs) more few small room size ended = absurd (omega (arith, few))
run_contents (suc n) done s last (b ∷ bs) more few small room size ended =
    let bytes : List ℕ = b ∷ bs in
    let f = first_of_bytes s.code bytes (omega arith) small in
    let here : List ℕ = content_bytes f.content in
    let t : SegmentData = with_bytes s here in
    let at : ℕ = s.at + length s.bytes in
    let total = ap length f.same ∙ length-append here f.rest in
    let held = length-append s.bytes here in
    let some = f.some in
    let open_yet : last ≡ false = false_from_ne_true last (λ h. let none = ap length (ended h) in omega (arith, none)) in
    let step : after_line (inside done s last) (content_line at f.content) ≡ Some (inside done t f.last) =
    step_inside done s last f.content (λ e. omega (arith, e, room)) f.fits
    ∙ ap (λ l. after_content done s l f.content) open_yet
    ∙ f.after done s refl
    ∙ cond-true _ (Some (inside done t f.last)) None (le-leb (length s.bytes + length here) s.size (omega (arith, room, total))) in
    let rest : List (List ℕ) = zero_lines (with_bytes s bytes) ++ more in
    let next_at : at + content_size f.content ≡ t.at + length t.bytes = omega (arith, f.size, held) in
    let whole : with_bytes t f.rest ≡ with_bytes s bytes = bytes_after s here f.rest ∙ ap (with_bytes s) (sym f.same) in
    let P : SegmentData → Type 0 = λ u. run (inside done t f.last) (content_lines (t.at + length t.bytes) (file_contents s.code f.rest) ++ (zero_lines u ++ more)) ≡ run (Between (done ++ (u ∷ []))) more in
    let Small : List ℕ → Type 0 = All (λ x. x < 256) in
    let later = run_contents n done t f.last f.rest more (omega (arith, few, total, some)) (All-behind here f.rest (subst Small f.same small)) (omega (arith, held, room, total)) size f.ended in
    ap (λ cs. run (inside done s last) (content_lines at cs ++ rest)) f.next
    ∙ run_more (inside done s last) (inside done t f.last) (content_line at f.content) (content_lines (at + content_size f.content) (file_contents s.code f.rest) ++ rest) step
    ∙ ap (λ a. run (inside done t f.last) (content_lines a (file_contents s.code f.rest) ++ rest)) next_at
    ∙ subst P whole later

run_segment : (done : List SegmentData) (s : SegmentData) (more : List (List ℕ)) → FitsSegment s → run (Between done) (segment_lines s ++ more) ≡ run (Between (done ++ (s ∷ []))) more
run_segment done s more fits =
    let empty : SegmentData = empty_segment s.at s.size s.code in
    let first : after_line (Between done) (segment_line s) ≡ Some (inside done empty false) =
    cond-false _ (Some (Ended done)) (option_map (λ t. inside done t false) (segment_of_words (words_of (segment_line s)))) (segment_no_end s)
    ∙ ap (option_map (λ t. inside done t false)) (segment_back s fits.at fits.size) in
    let contents : List (List ℕ) = content_lines s.at (file_contents s.code s.bytes) in
    run_more (Between done) (inside done empty false) (segment_line s) ((contents ++ zero_lines s) ++ more) first
    ∙ ap (run (inside done empty false)) (append_assoc contents (zero_lines s) more)
    ∙ ap (λ a. run (inside done empty false) (content_lines a (file_contents s.code s.bytes) ++ (zero_lines s ++ more))) (let e : s.at ≡ s.at + 0 = omega arith in e)
    ∙ run_contents (length s.bytes) done empty false s.bytes more (omega arith) fits.bytes (omega (arith, fits.within)) fits.size (λ h. absurd cc)

run_segments : (segments done : List SegmentData) (more : List (List ℕ)) → All FitsSegment segments → run (Between done) (flat_map segment_lines segments ++ more) ≡ run (Between (done ++ segments)) more
run_segments [] done more fits = ap (λ d. run (Between d) more) (sym (append-nil done))
run_segments (s ∷ segments) done more fits =
    ap (run (Between done)) (append_assoc (segment_lines s) (flat_map segment_lines segments) more)
    ∙ run_segment done s (flat_map segment_lines segments ++ more) (All-head FitsSegment s segments fits)
    ∙ run_segments segments (done ++ (s ∷ [])) more (All-tail FitsSegment s segments fits)
    ∙ ap (λ d. run (Between d) more) (append_assoc done (s ∷ []) segments)

pub run_list : (segments : List SegmentData) → All FitsSegment segments → run Untitled (list_lines segments) ≡ Some (Ended segments)
run_list segments fits =
    run_more Untitled (Between []) (codes "zcld list 1") (flat_map segment_lines segments ++ (codes "end" ∷ [])) refl
    ∙ run_segments segments [] (codes "end" ∷ []) fits

-- ---- the text

contents_are_lines : (n at : ℕ) (code : Bool) (bytes : List ℕ) → length bytes ≤ n → All (λ b. b < 256) bytes → All IsLine (content_lines at (file_contents code bytes))
contents_are_lines n at code [] few small = All-same IsLine (content_lines at (file_contents code [])) [] (ap (content_lines at) (none_contents code)) (All-nil IsLine)
contents_are_lines zero at code (b ∷ bs) few small = absurd (omega (arith, few))
contents_are_lines (suc n) at code (b ∷ bs) few small =
    let f = first_of_bytes code (b ∷ bs) (omega arith) small in
    let here : List ℕ = content_bytes f.content in
    let some = f.some in
    let total = ap length f.same ∙ length-append here f.rest in
    let Small : List ℕ → Type 0 = All (λ x. x < 256) in
    let others : List (List ℕ) = content_lines (at + content_size f.content) (file_contents code f.rest) in
    All-same IsLine (content_lines at (file_contents code (b ∷ bs))) (content_line at f.content ∷ others) (ap (content_lines at) f.next)
    (All-cons IsLine (content_line at f.content) others (content_is_line at f.content f.fits)
    (contents_are_lines n (at + content_size f.content) code f.rest (omega (arith, few, total, some)) (All-behind here f.rest (subst Small f.same small))))

pub zeros_are_lines : (at n : ℕ) → n < 2 ^ 32 → All IsLine (content_lines at (zero_contents n))
zeros_are_lines at n lt = either (eqb n 0)
  where
    either : (b : Bool) → All IsLine (content_lines at (cond b [] (Zeros n ∷ [])))
    either true = All-nil IsLine
    either false = All-cons IsLine (content_line at (Zeros n)) [] (content_is_line at (Zeros n) lt) (All-nil IsLine)

segments_are_lines : (segments : List SegmentData) → All FitsSegment segments → All IsLine (flat_map segment_lines segments)
segments_are_lines [] fits = All-nil IsLine
segments_are_lines (s ∷ segments) fits =
    let here = All-head FitsSegment s segments fits in
    let size = here.size in
    let contents : List (List ℕ) = content_lines s.at (file_contents s.code s.bytes) in
    All-append IsLine (segment_lines s) (flat_map segment_lines segments)
    (All-cons IsLine (segment_line s) (contents ++ zero_lines s) (segment_is_line s size)
    (All-append IsLine contents (zero_lines s) (contents_are_lines (length s.bytes) s.at s.code s.bytes (omega arith) here.bytes)
    (zeros_are_lines (s.at + length s.bytes) (s.size - length s.bytes) (omega (arith, size)))))
    (segments_are_lines segments (All-tail FitsSegment s segments fits))

title_line : IsLine (codes "zcld list 1")
title_line = All-from_recursion (λ b. eqb b 10 ≡ false) (codes "zcld list 1") (refl, (refl, (refl, (refl, (refl, (refl, (refl, (refl, (refl, (refl, (refl, tt)))))))))))

pub end_line : IsLine (codes "end")
end_line = All-from_recursion (λ b. eqb b 10 ≡ false) (codes "end") (refl, (refl, (refl, tt)))

pub list_are_lines : (segments : List SegmentData) → All FitsSegment segments → All IsLine (list_lines segments)
list_are_lines segments fits =
    All-cons IsLine (codes "zcld list 1") (flat_map segment_lines segments ++ (codes "end" ∷ [])) title_line
    (All-append IsLine (flat_map segment_lines segments) (codes "end" ∷ []) (segments_are_lines segments fits) (All-cons IsLine (codes "end") [] end_line (All-nil IsLine)))

-- a text is split into its lines again
pub lines_again : (lines : List (List ℕ)) → All IsLine lines → lines_of (text_of_lines lines) ≡ lines ++ ([] ∷ [])
lines_again [] are = refl
lines_again (line ∷ lines) are =
    ap lines_of (append_assoc line (10 ∷ []) (text_of_lines lines))
    ∙ slice_split_at (λ b. eqb b 10) line 10 (text_of_lines lines) (All-head IsLine line lines are) (eq-eqb 10 10 refl)
    ∙ ap (λ ls. line ∷ ls) (lines_again lines (All-tail IsLine line lines are))

-- the listing of segments is read as these segments
pub list_back : (segments : List SegmentData) → All FitsSegment segments → segments_in (list_text segments) ≡ Ok segments
unfolding segments_in list_text
list_back segments fits =
    ap (read_lines Untitled 1) (lines_again (list_lines segments) (list_are_lines segments fits))
    ∙ read_run (list_lines segments) Untitled (Ended segments) 1 [] (run_list segments fits)
