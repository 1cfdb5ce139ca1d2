-- What the reader's functions find out about a line.
use Rattle.std.proofs.Common.{◌≡◌, ℕ, ◌+◌, ◌-◌, ◌<◌, Some, None, Ok, Err, Bool, true, false, cond, Option, Result, List, [], ◌∷◌, ◌++◌, length, take, drop, eqb, eqb-true, eq-eqb, ltb, leb, refl, sym, ap, ap₂, subst, ◌∙◌, arith, length-append}
use Rattle.std.specs.Prelude.{IfOk, bytes_eq, codes}
use Rattle.std.specs.List.{join_with_byte}
use Rattle.std.specs.Option.{option_and_then, option_map}
use Rattle.std.proofs.lemmas.Bool.{cond-false, cond-true, eqb-false, false_from_ne_true, leb-true, le-leb, ltb-false, ltb-true, ne_eqb}
use Rattle.std.proofs.Math.Seq.{drop-append_seam}
use Rattle.std.proofs.lemmas.List.{take_all}
use Rattle.std.proofs.lemmas.List.Splits.{join_with_byte-slice_split, length-slice_split}
use Rattle.std.proofs.lemmas.Option.{none-some, same_Some}
use Rattle.std.proofs.lemmas.Slice.Eq.{bytes_eq-Decides}
use Rattle.std.specs.declared.alloc.AllocError.{AllocError}
use Rattle.elf32_read.specs.Segments.{SegmentData}
use Rattle.instruction_text.specs.Reading.{code_spelled}
use Rattle.text_lines.specs.Hex.{hex_word}
use Rattle.text_lines.specs.Lines.{lines_of, words_in, words_of}
use Rattle.text_lines.proofs.OptionLaws.{mapped}
use Rattle.text_lines.proofs.SplitLaws.{some_part}
use Rattle.zc_list.specs.Listing.{Bytes, Content, Instruction, Zeros}
use Rattle.zc_list.specs.Reader.{is_last, has_all_bytes, segment_with, stage_after, state_at}
use Rattle.zc_list.specs.Spelled.{Between, Ended, Inside, ListState, after_bytes, after_content, after_line, bytes_of_words, content_at, content_of_words, inside, is_cut_short, read_lines, read_on, some_bytes, fits_in_room, zeros_of_words}
use Rattle.zc_list.specs.declared.read_content.Stage.{Stage}
use Rattle.zc_list.specs.declared.read_content.Stage.TheVariants.{Last, More, Whole}
use Rattle.zc_list.specs.declared.read_head.Head.{Head}

-- what is left of a line
abbrev pub left : Option (List ℕ) → ℕ
left None = 0
left (Some line) = length line + 1

-- a line has at least one word
pub some_words : (line : List ℕ) → 0 < length (words_of line)
some_words line = let count = length-slice_split (λ b. eqb b 32) line in omega (arith, count)

-- ---- stages

-- bytes that were added, if there is room for them
pub room_law : (done : List SegmentData) (head : Head) (old new bytes : List ℕ) (stage : Stage) (last : Bool) → new ≡ old ++ bytes → ((t : SegmentData) → state_at done t stage ≡ inside done t last)
    → fits_in_room done (segment_with head old) bytes last ≡ option_map (state_at done (segment_with head new)) (cond (leb (length new) head.size) (Some stage) None)
room_law done head old new bytes stage last made is =
    let t : SegmentData = segment_with head (old ++ bytes) in
    let P : List ℕ → Type 0 = λ xs. fits_in_room done (segment_with head old) bytes last ≡ option_map (state_at done (segment_with head xs)) (cond (leb (length xs) head.size) (Some stage) None) in
    subst P (sym made) (ap (λ n. cond (leb n head.size) (Some (inside done t last)) None) (sym (length-append old bytes)) ∙ either (leb (length (old ++ bytes)) head.size))
  where
    either : (b : Bool) → cond b (Some (inside done (segment_with head (old ++ bytes)) last)) None ≡ option_map (state_at done (segment_with head (old ++ bytes))) (cond b (Some stage) None)
    either true = ap Some (sym (is (segment_with head (old ++ bytes))))
    either false = refl

-- bytes of a line, with what may follow them
pub stage_law : (done : List SegmentData) (head : Head) (old new bytes : List ℕ) → new ≡ old ++ bytes
    → after_bytes done (segment_with head old) bytes ≡ option_and_then (λ stage. option_map (state_at done (segment_with head new)) (cond (leb (length new) head.size) (Some stage) None)) (stage_after head.code bytes)
stage_law done head old new bytes made = by_kind head.code
  where
    more : fits_in_room done (segment_with head old) bytes false ≡ option_map (state_at done (segment_with head new)) (cond (leb (length new) head.size) (Some More) None)
    more = room_law done head old new bytes More false made (λ t. refl)

    ending : fits_in_room done (segment_with head old) bytes true ≡ option_map (state_at done (segment_with head new)) (cond (leb (length new) head.size) (Some Last) None)
    ending = room_law done head old new bytes Last true made (λ t. refl)

    short : (b : Bool) → cond b (fits_in_room done (segment_with head old) bytes true) None ≡ option_and_then (λ stage. option_map (state_at done (segment_with head new)) (cond (leb (length new) head.size) (Some stage) None)) (cond b (Some Last) None)
    short true = ending
    short false = refl

    whole : (b : Bool) → eqb (length bytes) 16 ≡ b → ltb (length bytes) 16 ≡ false → cond (leb (length bytes) 16) (fits_in_room done (segment_with head old) bytes false) None
        ≡ option_and_then (λ stage. option_map (state_at done (segment_with head new)) (cond (leb (length new) head.size) (Some stage) None)) (cond b (Some More) None)
    whole true is many = cond-true (leb (length bytes) 16) (fits_in_room done (segment_with head old) bytes false) None (le-leb (length bytes) 16 (let e = eqb-true (length bytes) 16 is in omega (arith, e))) ∙ more
    whole false is many =
        cond-false (leb (length bytes) 16) (fits_in_room done (segment_with head old) bytes false) None
        (false_from_ne_true (leb (length bytes) 16) (λ h. let le = leb-true (length bytes) 16 h in let ge = ltb-false (length bytes) 16 many in eqb-false (length bytes) 16 is (omega (arith, le, ge))))

    few : (b : Bool) → ltb (length bytes) 16 ≡ b → cond (leb (length bytes) 16) (fits_in_room done (segment_with head old) bytes b) None
        ≡ option_and_then (λ stage. option_map (state_at done (segment_with head new)) (cond (leb (length new) head.size) (Some stage) None)) (cond b (Some Last) (cond (eqb (length bytes) 16) (Some More) None))
    few true is = cond-true (leb (length bytes) 16) (fits_in_room done (segment_with head old) bytes true) None (le-leb (length bytes) 16 (let lt = ltb-true (length bytes) 16 is in omega (arith, lt))) ∙ ending
    few false is = whole (eqb (length bytes) 16) refl is

    by_kind : (k : Bool) → cond k (cond (is_cut_short bytes) (fits_in_room done (segment_with head old) bytes true) None) (cond (leb (length bytes) 16) (fits_in_room done (segment_with head old) bytes (ltb (length bytes) 16)) None)
        ≡ option_and_then (λ stage. option_map (state_at done (segment_with head new)) (cond (leb (length new) head.size) (Some stage) None)) (stage_after k bytes)
    by_kind true = short (is_cut_short bytes)
    by_kind false = few (ltb (length bytes) 16) refl

-- ---- contents

pub content_none : (at : ℕ) (line : List ℕ) → None ≡ cond (bytes_eq (take 9 line) (hex_word at ++ (32 ∷ []))) (Some (drop 9 line)) None → content_at at line ≡ None
unfolding content_at
content_none at line is = either (bytes_eq (take 9 line) (hex_word at ++ (32 ∷ []))) is
  where
    either : (b : Bool) → None ≡ cond b (Some (drop 9 line)) None → cond b (content_of_words (drop 9 line) (words_of (drop 9 line))) None ≡ None
    either true h = absurd (none-some (drop 9 line) h)
    either false h = refl

pub content_found : (at : ℕ) (line text : List ℕ) → Some text ≡ cond (bytes_eq (take 9 line) (hex_word at ++ (32 ∷ []))) (Some (drop 9 line)) None → content_at at line ≡ content_of_words text (words_of text)
unfolding content_at
content_found at line text is = either (bytes_eq (take 9 line) (hex_word at ++ (32 ∷ []))) is
  where
    either : (b : Bool) → Some text ≡ cond b (Some (drop 9 line)) None → cond b (content_of_words (drop 9 line) (words_of (drop 9 line))) None ≡ content_of_words text (words_of text)
    either true h = ap (λ t. content_of_words t (words_of t)) (sym (same_Some text (drop 9 line) h))
    either false h = absurd (none-some text (sym h))

module _ (text first : List ℕ) (words : List (List ℕ)) (is : words_of text ≡ first ∷ words) where
  pub found_bytes : bytes_eq first (codes ".byte") ≡ true → content_of_words text (words_of text) ≡ some_bytes words
  found_bytes byte = ap (content_of_words text) is ∙ cond-true (bytes_eq first (codes ".byte")) (some_bytes words) (cond (bytes_eq first (codes ".zero")) (zeros_of_words words) (option_map Instruction (code_spelled text))) byte

  pub found_zeros : bytes_eq first (codes ".byte") ≡ false → bytes_eq first (codes ".zero") ≡ true → content_of_words text (words_of text) ≡ zeros_of_words words
  found_zeros byte zero =
      ap (content_of_words text) is ∙ cond-false (bytes_eq first (codes ".byte")) (some_bytes words) (cond (bytes_eq first (codes ".zero")) (zeros_of_words words) (option_map Instruction (code_spelled text))) byte
      ∙ cond-true (bytes_eq first (codes ".zero")) (zeros_of_words words) (option_map Instruction (code_spelled text)) zero

  pub found_code : bytes_eq first (codes ".byte") ≡ false → bytes_eq first (codes ".zero") ≡ false → content_of_words text (words_of text) ≡ option_map Instruction (code_spelled text)
  found_code byte zero =
      ap (content_of_words text) is ∙ cond-false (bytes_eq first (codes ".byte")) (some_bytes words) (cond (bytes_eq first (codes ".zero")) (zeros_of_words words) (option_map Instruction (code_spelled text))) byte
      ∙ cond-false (bytes_eq first (codes ".zero")) (zeros_of_words words) (option_map Instruction (code_spelled text)) zero

-- more than one word is no number of zeros
pub zeros_more : (words behind : Option (List ℕ)) (line word rest : List ℕ) → words ≡ Some line → words_of line ≡ word ∷ words_in behind → behind ≡ Some rest → None ≡ zeros_of_words (words_in words)
zeros_more words behind line word rest some is more =
    let parts = some_part (λ b. eqb b 32) rest in
    sym (ap (λ w. zeros_of_words (words_in w)) some ∙ ap zeros_of_words is ∙ ap (λ b. zeros_of_words (word ∷ words_in b)) more ∙ ap (λ ws. zeros_of_words (word ∷ ws)) parts.2)

pub zeros_law : (done : List SegmentData) (head : Head) (bytes : List ℕ) (last : Bool) (count : ℕ)
    → after_content done (segment_with head bytes) last (Zeros count) ≡ option_map (state_at done (segment_with head bytes)) (cond (eqb count (head.size - length bytes)) (Some Whole) None)
zeros_law done head bytes last count = either (eqb count (head.size - length bytes))
  where
    either : (b : Bool) → cond b (Some (Between (done ++ (segment_with head bytes ∷ [])))) None ≡ option_map (state_at done (segment_with head bytes)) (cond b (Some Whole) None)
    either true = refl
    either false = refl

-- bytes that a line's words spell
pub bytes_law : (done : List SegmentData) (head : Head) (old new line : List ℕ) (last : Bool) (stage : Stage) → option_map (λ more. old ++ more) (bytes_of_words (words_of line)) ≡ Some new → last ≡ false
    → stage_after head.code (take (length new - length old) (drop (length old) new)) ≡ Some stage
    → option_and_then (after_content done (segment_with head old) last) (some_bytes (words_of line)) ≡ option_map (state_at done (segment_with head new)) (cond (leb (length new) head.size) (Some stage) None)
bytes_law done head old new line last stage read first stages =
    mapped (λ more. old ++ more) (bytes_of_words (words_of line)) new read (λ more spells same.
    let parts = some_part (λ b. eqb b 32) line in
    let some : some_bytes (words_of line) ≡ Some (Bytes more) = ap some_bytes parts.2 ∙ ap (option_map Bytes) (sym (ap bytes_of_words parts.2) ∙ spells) in
    let size = ap length same in
    let count = length-append old more in
    let cut : take (length new - length old) (drop (length old) new) ≡ more =
    ap (λ xs. take (length new - length old) (drop (length old) xs)) (sym same) ∙ ap (take (length new - length old)) (drop-append_seam old more)
    ∙ take_all (length new - length old) more (omega (arith, size, count)) in
    ap₂ (λ l o. option_and_then (after_content done (segment_with head old) l) o) first some
    ∙ stage_law done head old new more (sym same)
    ∙ ap (option_and_then (λ s. option_map (state_at done (segment_with head new)) (cond (leb (length new) head.size) (Some s) None))) (sym (ap (stage_after head.code) cut) ∙ stages))

-- a line of a segment, by what stands after its address
module _ (done : List SegmentData) (head : Head) (bytes : List ℕ) (last : Bool) (line : List ℕ) (at : ℕ) (is : at ≡ head.at + length bytes) where
  pub step_none : None ≡ cond (bytes_eq (take 9 line) (hex_word at ++ (32 ∷ []))) (Some (drop 9 line)) None → after_line (Inside done (segment_with head bytes) last) line ≡ None
  step_none other = ap (option_and_then (after_content done (segment_with head bytes) last)) (ap (λ a. content_at a line) (sym is) ∙ content_none at line other)

  pub step_found : (text : List ℕ) (content : Option Content) → Some text ≡ cond (bytes_eq (take 9 line) (hex_word at ++ (32 ∷ []))) (Some (drop 9 line)) None → content_of_words text (words_of text) ≡ content
      → after_line (Inside done (segment_with head bytes) last) line ≡ option_and_then (after_content done (segment_with head bytes) last) content
  step_found text content here found =
      ap (option_and_then (after_content done (segment_with head bytes) last)) (ap (λ a. content_at a line) (sym is) ∙ content_found at line text here ∙ found)

-- ---- lines

-- a line with its line feed, followed by the lines after it
pub line_step : (state : ListState) (number : ℕ) (rest line behind : List ℕ) → lines_of rest ≡ line ∷ lines_of behind
    → read_lines state number (lines_of rest) ≡ read_on number (after_line state line) (λ s. read_lines s (number + 1) (lines_of behind))
line_step state number rest line behind is =
    let parts = some_part (λ b. eqb b 10) behind in
    ap (read_lines state number) is
    ∙ ap (λ ls. read_lines state number (line ∷ ls)) parts.2
    ∙ ap (λ ls. read_on number (after_line state line) (λ s. read_lines s (number + 1) ls)) (sym parts.2)

pub line_bad : (state : ListState) (number : ℕ) (rest line behind : List ℕ) → lines_of rest ≡ line ∷ lines_of behind → after_line state line ≡ None → read_lines state number (lines_of rest) ≡ Err number
line_bad state number rest line behind is bad =
    line_step state number rest line behind is ∙ ap (λ o. read_on number o (λ s. read_lines s (number + 1) (lines_of behind))) bad

pub line_good : (state next : ListState) (number : ℕ) (rest line behind : List ℕ) → lines_of rest ≡ line ∷ lines_of behind → after_line state line ≡ Some next
    → read_lines state number (lines_of rest) ≡ read_lines next (number + 1) (lines_of behind)
line_good state next number rest line behind is good =
    line_step state number rest line behind is ∙ ap (λ o. read_on number o (λ s. read_lines s (number + 1) (lines_of behind))) good

-- a segment is open or whole by its size
pub is_open : (done : List SegmentData) (s : SegmentData) (last : Bool) → length s.bytes < s.size → inside done s last ≡ Inside done s last
is_open done s last missing = cond-false (eqb (length s.bytes) s.size) (Between (done ++ (s ∷ []))) (Inside done s last) (ne_eqb (length s.bytes) s.size (λ e. omega (arith, e, missing)))

pub is_closed : (done : List SegmentData) (s : SegmentData) (last : Bool) → length s.bytes ≡ s.size → inside done s last ≡ Between (done ++ (s ∷ []))
is_closed done s last whole = cond-true (eqb (length s.bytes) s.size) (Between (done ++ (s ∷ []))) (Inside done s last) (eq-eqb (length s.bytes) s.size whole)

pub open_state : (done : List SegmentData) (s : SegmentData) (stage : Stage) → has_all_bytes stage ≡ false → state_at done s stage ≡ inside done s (is_last stage)
open_state done s stage part = cond-false (has_all_bytes stage) (Between (done ++ (s ∷ []))) (inside done s (is_last stage)) part

pub whole_state : (done : List SegmentData) (s : SegmentData) (stage : Stage) → has_all_bytes stage ≡ true → state_at done s stage ≡ Between (done ++ (s ∷ []))
whole_state done s stage whole = cond-true (has_all_bytes stage) (Between (done ++ (s ∷ []))) (inside done s (is_last stage)) whole

-- nothing may follow the last line
pub nothing_after : (done : List SegmentData) (number : ℕ) (rest : List ℕ) → (rest ≡ [] → ⊥) → read_lines (Ended done) number (lines_of rest) ≡ Err number
nothing_after done number rest some = by_lines (some_part (λ b. eqb b 10) rest)
  where
    one : (line : List ℕ) → lines_of rest ≡ line ∷ [] → bytes_eq line [] ≡ false
    one line is = false_from_ne_true (bytes_eq line []) (λ h. some (sym (join_with_byte-slice_split 10 rest) ∙ ap (join_with_byte 10) is ∙ (bytes_eq-Decides line []).0 h))

    by_lines : (line : List ℕ) × (lines : List (List ℕ)) × (lines_of rest ≡ line ∷ lines) → read_lines (Ended done) number (lines_of rest) ≡ Err number
    by_lines (line, [], is) = ap (read_lines (Ended done) number) is ∙ cond-false (bytes_eq line []) (Ok done) (Err number) (one line is)
    by_lines (line, next ∷ lines, is) = ap (read_lines (Ended done) number) is

-- ---- what is returned for a line

-- a step by a line's content is the step by the line
pub carried : (r : Result (Option Stage) AllocError) (head : Head) (old new : List ℕ) (last : Bool) (line : List ℕ) (content : Option Content)
    → ((done : List SegmentData) → after_line (Inside done (segment_with head old) last) line ≡ option_and_then (after_content done (segment_with head old) last) content)
    → IfOk r (λ stage. (done : List SegmentData) → option_and_then (after_content done (segment_with head old) last) content ≡ option_map (state_at done (segment_with head new)) stage)
    → IfOk r (λ stage. (done : List SegmentData) → after_line (Inside done (segment_with head old) last) line ≡ option_map (state_at done (segment_with head new)) stage)
carried (Ok stage) head old new last line content first then = λ done. first done ∙ then done
carried (Err e) head old new last line content first then = tt
