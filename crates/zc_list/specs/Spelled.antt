-- The segments that the lines of a listing spell, by names and operands alone, and the first line that is bad.
use Rattle.std.specs.Prelude.{ℕ, ◌+◌, ◌-◌, ◌%◌, Bool, true, false, not, ◌&&◌, ◌==◌, nat_le, nat_lt, bytes_eq, if◌then◌else◌, List, [], ◌∷◌, ◌++◌, length, take, drop, codes, Option, Some, None, Result, Ok, Err}
use Rattle.std.specs.Option.{option_and_then, option_map}
use Rattle.elf32_read.specs.Segments.{SegmentData}
use Rattle.text_lines.specs.Hex.{hex_word}
use Rattle.text_lines.specs.Lines.{lines_of, words_of}
use Rattle.text_lines.specs.Number.{decimal_of, hex_byte_of, hex_word_of}
use Rattle.instruction_text.specs.Reading.{code_spelled}
use Rattle.instruction_text.specs.Texts.{machine_code_bytes}
use Rattle.zc_list.specs.Listing.{Bytes, Content, Instruction, Zeros}

-- ---- a line of a segment

-- the bytes that words spell, if all of them spell bytes
abbrev pub bytes_of_words : List (List ℕ) → Option (List ℕ)
bytes_of_words [] = Some []
bytes_of_words (word ∷ words) = option_and_then (λ b. option_map (λ bytes. b ∷ bytes) (bytes_of_words words)) (hex_byte_of word)

-- at least one byte
abbrev pub some_bytes : List (List ℕ) → Option Content
some_bytes [] = None
some_bytes (word ∷ words) = option_map Bytes (bytes_of_words (word ∷ words))

-- one number
abbrev pub zeros_of_words : List (List ℕ) → Option Content
zeros_of_words [] = None
zeros_of_words (number ∷ []) = option_map Zeros (decimal_of 0xFFFF_FFFF number)
zeros_of_words (number ∷ (word ∷ words)) = None

-- what a text stands for, by its words: bytes, a number of zeros, or else an instruction
abbrev pub content_of_words : List ℕ → List (List ℕ) → Option Content
content_of_words text [] = None
content_of_words text (first ∷ words) =
    if bytes_eq first (codes ".byte") then some_bytes words else
    (if bytes_eq first (codes ".zero") then zeros_of_words words else option_map Instruction (code_spelled text))

-- what a line stands for that begins with this address and a space
unfoldable pub content_at : ℕ → List ℕ → Option Content
content_at at line =
    if bytes_eq (take 9 line) (hex_word at ++ 32 ∷ []) then content_of_words (drop 9 line) (words_of (drop 9 line)) else None

-- ---- a segment's first line

abbrev pub kind_of_word : List ℕ → Option Bool
kind_of_word word =
    if bytes_eq word (codes "code") then Some true else (if bytes_eq word (codes "data") then Some false else None)

-- a segment without bytes
abbrev pub empty_segment : ℕ → ℕ → Bool → SegmentData
empty_segment at size code = record { at = at; size = size; code = code; bytes = [] }

-- the segment that the words of a first line spell
abbrev pub segment_of_words : List (List ℕ) → Option SegmentData
segment_of_words (first ∷ (at ∷ (size ∷ (kind ∷ [])))) =
    if bytes_eq first (codes "segment")
    then option_and_then (λ a. option_and_then (λ n.
    option_map (empty_segment a n) (kind_of_word kind)) (decimal_of 0xFFFF_FFFF size)) (hex_word_of at)
    else None
segment_of_words words = None

-- ---- line by line

-- what may follow: the title, a segment or the end, a line of a segment of which bytes are missing, or nothing
pub data ListState : Type 0 where
  Untitled : ListState
  Between : List SegmentData → ListState
  Inside : List SegmentData → SegmentData → Bool → ListState
  Ended : List SegmentData → ListState

-- a segment with these bytes after its own
abbrev pub with_bytes : SegmentData → List ℕ → SegmentData
with_bytes s bytes = record s { bytes = s.bytes ++ bytes }

-- the state after a line of a segment, of which only zeros may be missing if `last` is true
abbrev pub inside : List SegmentData → SegmentData → Bool → ListState
inside done s last = if length s.bytes == s.size then Between (done ++ s ∷ []) else Inside done s last

-- the state with more bytes, if there is room for them
abbrev pub fits_in_room : List SegmentData → SegmentData → List ℕ → Bool → Option ListState
fits_in_room done s bytes last =
    if nat_le (length s.bytes + length bytes) s.size then Some (inside done (with_bytes s bytes) last) else None

-- bytes that are too short for an instruction
abbrev pub is_cut_short : List ℕ → Bool
is_cut_short [] = false
is_cut_short (a ∷ []) = true
is_cut_short (a ∷ (b ∷ [])) = a % 4 == 3
is_cut_short (a ∷ (b ∷ (c ∷ []))) = a % 4 == 3
is_cut_short (a ∷ (b ∷ (c ∷ (d ∷ bytes)))) = false

-- the state after bytes: in code they are the last ones, in data if they are fewer than sixteen
abbrev pub after_bytes : List SegmentData → SegmentData → List ℕ → Option ListState
after_bytes done s bytes =
    if s.code
    then (if is_cut_short bytes then fits_in_room done s bytes true else None)
    else (if nat_le (length bytes) 16 then fits_in_room done s bytes (nat_lt (length bytes) 16) else None)

-- the state after what a line of a segment stands for; zeros are all that is missing
abbrev pub after_content : List SegmentData → SegmentData → Bool → Content → Option ListState
after_content done s last (Zeros n) = if n == s.size - length s.bytes then Some (Between (done ++ s ∷ [])) else None
after_content done s last (Bytes bytes) = if last then None else after_bytes done s bytes
after_content done s last (Instruction code) =
    if not last && s.code then fits_in_room done s (machine_code_bytes code) false else None

-- the state after a line, if the line may stand there
abbrev pub after_line : ListState → List ℕ → Option ListState
after_line Untitled line = if bytes_eq line (codes "zcld list 1") then Some (Between []) else None
after_line (Between done) line =
    if bytes_eq line (codes "end") then Some (Ended done)
    else option_map (λ s. inside done s false) (segment_of_words (words_of line))
after_line (Inside done s last) line = option_and_then (after_content done s last) (content_at (s.at + length s.bytes) line)
after_line (Ended done) line = None

-- what is read after all lines
abbrev pub at_end : ListState → ℕ → List ℕ → Result (List SegmentData) ℕ
at_end (Ended done) number rest = if bytes_eq rest [] then Ok done else Err number
at_end state number rest = Err number

-- what is read after a line, if it may stand there
abbrev pub read_on : ℕ → Option ListState → (ListState → Result (List SegmentData) ℕ) → Result (List SegmentData) ℕ
read_on number None next = Err number
read_on number (Some state) next = next state

-- what is read of lines, the first of which has this number; nothing may follow the last line feed
abbrev pub read_lines : ListState → ℕ → List (List ℕ) → Result (List SegmentData) ℕ
read_lines state number [] = Err number
read_lines state number (rest ∷ []) = at_end state number rest
read_lines state number (line ∷ (next ∷ lines)) =
    read_on number (after_line state line) (λ s. read_lines s (number + 1) (next ∷ lines))

-- the segments that a text spells, or the number of its first bad line
unfoldable pub segments_in : List ℕ → Result (List SegmentData) ℕ
segments_in text = read_lines Untitled 1 (lines_of text)
