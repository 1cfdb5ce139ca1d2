-- Texts of devices: a first line, and then a line for each range, each address that prints, and each list of answers, for the control
-- and status registers, and for a start at which sp isn't set. A line feed ends each line.
use Rattle.std.specs.Prelude.{◌≡◌, ℕ, ◌+◌, ◌^◌, ◌<◌, ◌≤◌, ◌⊎◌, Bool, true, not, ◌&&◌, ◌||◌, nat_le, nat_lt, bytes_eq, if◌then◌else◌, List, [], ◌∷◌, ◌++◌, length, map, All, codes, Option, Some, None, Result, Ok, Err}
use Rattle.std.specs.List.{flat_map, join_with_byte, list_any}
use Rattle.std.specs.Option.{option_and_then, option_map}
use Rattle.zc_base.specs.declared.mem_map.MemMap.{MemMap}
use Rattle.text_lines.specs.Hex.{hex_byte, hex_word}
use Rattle.text_lines.specs.Lines.{lines_of, words_of}
use Rattle.text_lines.specs.Number.{hex_byte_of, hex_word_of}
use Rattle.rv_decode.specs.Devices.{DeviceRange, in_devices}
use Rattle.devices.specs.Lines.{DevicesLine, Range, Registers, Reset, Output, Answer, Then, devices_of, is_then, names_registers, ranges_of, starts_reset}
use Rattle.devices.specs.declared.fault.DevicesFault.{DevicesFault}
use Rattle.devices.specs.declared.read_devices.TheConstants.{DEVICES_LIMIT}
use Rattle.devices.specs.declared.fault.DevicesFault.TheVariants.{Line, OutOfMemory, Size}

-- ---- the text that spells lines

abbrev pub devices_title : List ℕ
devices_title = codes "zcld devices 1"

abbrev pub devices_words : DevicesLine → List (List ℕ)
devices_words (Range d) = codes "device" ∷ hex_word d.at ∷ hex_word d.size ∷ []
devices_words Registers = codes "registers" ∷ []
devices_words Reset = codes "reset" ∷ []
devices_words (Output a) = codes "output" ∷ hex_word a ∷ []
devices_words (Answer bytes) = codes "answer" ∷ map hex_byte bytes
devices_words (Then bytes) = codes "then" ∷ map hex_byte bytes

-- a line, with one space between two words
abbrev pub devices_line : DevicesLine → List ℕ
devices_line l = join_with_byte 32 (devices_words l)

unfoldable pub devices_text : List DevicesLine → List ℕ
devices_text lines = devices_title ++ 10 ∷ flat_map (λ l. devices_line l ++ 10 ∷ []) lines

-- ---- which lines may follow others

-- two ranges have an address in common
abbrev pub have_common : DeviceRange → DeviceRange → Bool
have_common d e = nat_lt d.at (e.at + e.size) && nat_lt e.at (d.at + d.size)

-- a range isn't empty, ends at 2^32 or before, and lies outside the map
abbrev pub is_range : MemMap → DeviceRange → Bool
is_range map d =
    nat_lt 0 d.size && (nat_le (d.at + d.size) (2 ^ 32) && (nat_le (d.at + d.size) map.text || nat_le map.stack_high d.at))

-- a line may stand behind others: a range if it has no address in common with theirs, `registers` and `reset` if they don't stand
-- there, an output if it lies in one of their ranges, and `then` if it has bytes
abbrev pub may_stand : MemMap → List DevicesLine → DevicesLine → Bool
may_stand map before (Range d) = is_range map d && not (list_any (have_common d) (ranges_of before))
may_stand map before Registers = not (names_registers before)
may_stand map before Reset = not (starts_reset before)
may_stand map before (Output a) = in_devices (devices_of before) a 1
may_stand map before (Answer bytes) = true
may_stand map before (Then bytes) = nat_lt 0 (length bytes)

-- nothing follows `then`
abbrev pub may_follow : MemMap → List DevicesLine → DevicesLine → Bool
may_follow map before l = not (list_any is_then before) && may_stand map before l

-- each line may follow the lines before it, the first of them these
abbrev pub Follow : MemMap → List DevicesLine → List DevicesLine → Type 0
Follow map before [] = Unit {0}
Follow map before (l ∷ lines) = (may_follow map before l ≡ true) × Follow map (before ++ l ∷ []) lines

-- a line's numbers fit their types
abbrev pub FitsLine : DevicesLine → Type 0
FitsLine (Range d) = (d.at < 2 ^ 32) × (d.size < 2 ^ 32)
FitsLine Registers = Unit {0}
FitsLine Reset = Unit {0}
FitsLine (Output a) = a < 2 ^ 32
FitsLine (Answer bytes) = All (λ b. b < 256) bytes
FitsLine (Then bytes) = All (λ b. b < 256) bytes

-- the text spells these lines, each of which may stand where it is
pub record IsDevicesText (map : MemMap) (text : List ℕ) (lines : List DevicesLine) : Type 0 where
  pub spells : text ≡ devices_text lines
  pub fits : All FitsLine lines
  pub follow : Follow map [] lines

-- ---- the lines that a text spells

-- the device whose first address and size two words spell
abbrev pub line_range : List (List ℕ) → Option DevicesLine
line_range (first ∷ (size ∷ [])) =
    option_and_then (λ a. option_map (λ n. Range (record { at = a; size = n })) (hex_word_of size)) (hex_word_of first)
line_range other = None

abbrev pub line_output : List (List ℕ) → Option DevicesLine
line_output (word ∷ []) = option_map Output (hex_word_of word)
line_output other = None

-- a line that is one word alone
abbrev pub line_alone : DevicesLine → List (List ℕ) → Option DevicesLine
line_alone line [] = Some line
line_alone line other = None

-- the bytes that words spell, if each spells one
abbrev pub line_bytes : List (List ℕ) → Option (List ℕ)
line_bytes [] = Some []
line_bytes (word ∷ words) =
    option_and_then (λ b. option_map (λ bytes. b ∷ bytes) (line_bytes words)) (hex_byte_of word)

-- the line of a list of words
unfoldable pub line_of_words : List (List ℕ) → Option DevicesLine
line_of_words [] = None
line_of_words (first ∷ words) =
    if bytes_eq first (codes "device") then line_range words else
    (if bytes_eq first (codes "registers") then line_alone Registers words else
    (if bytes_eq first (codes "reset") then line_alone Reset words else
    (if bytes_eq first (codes "output") then line_output words else
    (if bytes_eq first (codes "answer") then option_map Answer (line_bytes words) else
    (if bytes_eq first (codes "then") then option_map Then (line_bytes words) else
    None)))))

-- the lines of a text go on from a line that may stand where it is
abbrev pub line_then : MemMap → List DevicesLine → Option DevicesLine → (DevicesLine → Result (List DevicesLine) DevicesFault) → Result (List DevicesLine) DevicesFault
line_then map before None on = Err (Line (length before + 2))
line_then map before (Some l) on = if may_follow map before l then on l else Err (Line (length before + 2))

-- the lines of a text from those before on; nothing may follow the last line feed
abbrev pub lines_from : MemMap → List DevicesLine → List (List ℕ) → Result (List DevicesLine) DevicesFault
lines_from map before (text ∷ (next ∷ texts)) =
    line_then map before (line_of_words (words_of text)) (λ l. lines_from map (before ++ l ∷ []) (next ∷ texts))
lines_from map before (rest ∷ []) = if bytes_eq rest [] then Ok before else Err (Line (length before + 2))
lines_from map before [] = Ok before

-- the lines behind the first one
abbrev pub lines_behind : MemMap → List (List ℕ) → Result (List DevicesLine) DevicesFault
lines_behind map (title ∷ (next ∷ texts)) =
    if bytes_eq title devices_title then lines_from map [] (next ∷ texts) else Err (Line 1)
lines_behind map (rest ∷ []) = Err (Line 1)
lines_behind map [] = Err (Line 1)

-- the lines that a text spells, or the first fault in it
unfoldable pub devices_in : MemMap → List ℕ → Result (List DevicesLine) DevicesFault
devices_in map text = if nat_lt DEVICES_LIMIT (length text) then Err Size else lines_behind map (lines_of text)

-- a text within the limit that spells lines is read as these, unless memory runs out
abbrev pub ReadsDevices : MemMap → List ℕ → Result (List DevicesLine) DevicesFault → Type 0
ReadsDevices map text result =
    (lines : List DevicesLine) → IsDevicesText map text lines → length text ≤ DEVICES_LIMIT → (result ≡ Ok lines) ⊎ (result ≡ Err OutOfMemory)
