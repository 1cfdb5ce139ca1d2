-- The listing of segments: the line `zcld list 1`, the lines of each segment, and the line `end`. A line feed ends each
-- line.
use Rattle.std.specs.Prelude.{◌≡◌, ◌<◌, ◌≤◌, ℕ, zero, suc, ◌+◌, ◌-◌, ◌*◌, ◌/◌, ◌%◌, ◌^◌, ◌==◌, Bool, true, false, if◌then◌else◌, List, [], ◌∷◌, ◌++◌, length, take, drop, map, flat_map, All, codes, decimal}
use Rattle.std.specs.List.{join_with_byte}
use Rattle.elf32_read.specs.Segments.{SegmentData}
use Rattle.text_lines.specs.Hex.{hex_byte, hex_word}
use Rattle.instruction_text.specs.Texts.{code_text, machine_code_bytes}
use Rattle.instruction_text.specs.declared.machine_code.MachineCode.{MachineCode}
use Rattle.instruction_text.specs.declared.machine_code.MachineCode.TheVariants.{Half, Word}

-- ---- the lines of a segment

-- what a line of a segment stands for: an instruction, bytes, or so many zeros
pub data Content : Type 0 where
  Instruction : MachineCode → Content
  Bytes : List ℕ → Content
  Zeros : ℕ → Content

-- its text: an instruction's, `.byte` and the bytes, or `.zero` and the number, with one space between two words
unfoldable pub content_text : Content → List ℕ
content_text (Instruction code) = code_text code
content_text (Bytes bytes) = join_with_byte 32 (codes ".byte" ∷ map hex_byte bytes)
content_text (Zeros n) = join_with_byte 32 (codes ".zero" ∷ decimal n ∷ [])

-- the number of bytes that it stands for
abbrev pub content_size : Content → ℕ
content_size (Instruction code) = length (machine_code_bytes code)
content_size (Bytes bytes) = length bytes
content_size (Zeros n) = n

abbrev pub half_code : ℕ → ℕ → Content
half_code a b = Instruction (Half (a + 2 ^ 8 * b))

abbrev pub word_code : ℕ → ℕ → ℕ → ℕ → Content
word_code a b c d = Instruction (Word (a + 2 ^ 8 * b + 2 ^ 16 * c + 2 ^ 24 * d))

-- bytes of code: an instruction is a word if its two low bits are 11, otherwise a halfword; what is too short for one
-- stands as bytes
unfoldable pub code_contents : List ℕ → List Content
code_contents [] = []
code_contents (a ∷ []) = Bytes (a ∷ []) ∷ []
code_contents (a ∷ (b ∷ [])) = if a % 4 == 3 then Bytes (a ∷ b ∷ []) ∷ [] else half_code a b ∷ []
code_contents (a ∷ (b ∷ (c ∷ []))) =
    if a % 4 == 3 then Bytes (a ∷ b ∷ c ∷ []) ∷ [] else half_code a b ∷ code_contents (c ∷ [])
code_contents (a ∷ (b ∷ (c ∷ (d ∷ rest)))) =
    if a % 4 == 3 then word_code a b c d ∷ code_contents rest else half_code a b ∷ code_contents (c ∷ (d ∷ rest))

-- so many lines of sixteen bytes, of which the last may have fewer
abbrev pub sixteens : ℕ → List ℕ → List Content
sixteens zero bytes = []
sixteens (suc n) bytes = Bytes (take 16 bytes) ∷ sixteens n (drop 16 bytes)

-- the bytes from the file, of code or of data
unfoldable pub file_contents : Bool → List ℕ → List Content
file_contents true bytes = code_contents bytes
file_contents false bytes = sixteens ((length bytes + 15) / 16) bytes

-- the number of bytes that aren't from it, if there are any
abbrev pub zero_contents : ℕ → List Content
zero_contents n = if n == 0 then [] else Zeros n ∷ []

-- a line: its address, of which 32 bits are written, a space, and its content
abbrev pub content_line : ℕ → Content → List ℕ
content_line at content = hex_word at ++ (32 ∷ content_text content)

-- lines from an address on
abbrev pub content_lines : ℕ → List Content → List (List ℕ)
content_lines at [] = []
content_lines at (content ∷ contents) = content_line at content ∷ content_lines (at + content_size content) contents

-- ---- the text

abbrev pub kind_word : Bool → List ℕ
kind_word code = if code then codes "code" else codes "data"

-- the first line of a segment: its address, its size and whether it is code
unfoldable pub segment_line : SegmentData → List ℕ
segment_line s = join_with_byte 32 (codes "segment" ∷ hex_word s.at ∷ decimal s.size ∷ kind_word s.code ∷ [])

abbrev pub segment_lines : SegmentData → List (List ℕ)
segment_lines s =
    let held = length s.bytes in
    segment_line s
    ∷ (content_lines s.at (file_contents s.code s.bytes) ++ content_lines (s.at + held) (zero_contents (s.size - held)))

abbrev pub list_lines : List SegmentData → List (List ℕ)
list_lines segments = codes "zcld list 1" ∷ (flat_map segment_lines segments ++ codes "end" ∷ [])

-- lines as a text
abbrev pub text_of_lines : List (List ℕ) → List ℕ
text_of_lines lines = flat_map (λ line. line ++ 10 ∷ []) lines

unfoldable pub list_text : List SegmentData → List ℕ
list_text segments = text_of_lines (list_lines segments)

-- a segment whose numbers fit their types, and which has no more bytes from the file than it is long
pub record FitsSegment (s : SegmentData) : Type 0 where
  pub at : s.at < 2 ^ 32
  pub size : s.size < 2 ^ 32
  pub bytes : All (λ b. b < 256) s.bytes
  pub within : length s.bytes ≤ s.size

-- the text is the listing of these segments, which fit
pub record IsListText (text : List ℕ) (segments : List SegmentData) : Type 0 where
  pub spells : text ≡ list_text segments
  pub fits : All FitsSegment segments
