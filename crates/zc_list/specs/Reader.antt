-- What the reader keeps of a segment, what it returns for a line, and what it has still to read.
use Rattle.std.specs.Prelude.{◌≤◌, ⊤, ℕ, ◌+◌, Bool, true, false, ◌==◌, nat_lt, if◌then◌else◌, List, [], ◌∷◌, ◌++◌, length, Option, Some, None, Result}
use Rattle.elf32_read.specs.Segments.{SegmentData}
use Rattle.text_lines.specs.Lines.{lines_of}
use Rattle.zc_list.specs.Spelled.{Between, ListState, inside, is_cut_short, read_lines}
use Rattle.zc_list.specs.declared.fault.ListFault.{ListFault}
use Rattle.zc_list.specs.declared.fault.ListFault.TheVariants.{BadLine, OutOfMemory, TooLarge}
use Rattle.zc_list.specs.declared.read_content.Stage.{Stage}
use Rattle.zc_list.specs.declared.read_content.Stage.TheVariants.{Last, More, Whole}
use Rattle.zc_list.specs.declared.read_head.Head.{Head}
use Rattle.zc_list.specs.declared.read_segment.Lines.{Lines}

-- the segment of a first line, with these bytes
abbrev pub segment_with : Head → List ℕ → SegmentData
segment_with head bytes = record { at = head.at; size = head.size; code = head.code; bytes = bytes }

abbrev pub is_last : Stage → Bool
is_last More = false
is_last Last = true
is_last Whole = false

abbrev pub has_all_bytes : Stage → Bool
has_all_bytes More = false
has_all_bytes Last = false
has_all_bytes Whole = true

-- the state of a reader at a stage
abbrev pub state_at : List SegmentData → SegmentData → Stage → ListState
state_at done s stage = if has_all_bytes stage then Between (done ++ s ∷ []) else inside done s (is_last stage)

-- what may follow the bytes of a line
abbrev pub stage_after : Bool → List ℕ → Option Stage
stage_after code bytes =
    if code then (if is_cut_short bytes then Some Last else None) else
    (if nat_lt (length bytes) 16 then Some Last else (if length bytes == 16 then Some More else None))

-- what is read of the lines that are left
abbrev pub read_left : ListState → Lines → Result (List SegmentData) ℕ
read_left state lines = read_lines state lines.number (lines_of lines.rest.now)

-- as many lines were read as bytes at most
abbrev pub IsFurther : Lines → Lines → Type 0
IsFurther lines behind =
    (length behind.rest.now ≤ length lines.rest.now)
    × (behind.number + length behind.rest.now ≤ lines.number + length lines.rest.now)

-- a fault of a line, of which something holds, or of memory
abbrev pub StopsAt : ListFault → (ℕ → Type 0) → Type 0
StopsAt (BadLine number) P = P number
StopsAt TooLarge P = ⊥
StopsAt OutOfMemory P = ⊤
