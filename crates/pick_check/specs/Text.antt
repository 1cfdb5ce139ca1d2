-- The text of a certificate: the line `zcld certificate 1`, a line for each saving, a line for each slot, and then a line
-- each for the prices, the net and the end. A line feed ends each line.
use Rattle.std.specs.Prelude.{◌≡◌, ◌≤◌, ◌⊎◌, ℕ, ◌+◌, Bool, false, nat_lt, bytes_eq, if◌then◌else◌, List, [], ◌∷◌, ◌++◌, length, take, drop, map, flat_map, slice_index, All, codes, decimal, Option, Some, None, Result, Ok, Err}
use Rattle.std.specs.List.{AllZip, join_with_byte}
use Rattle.std.specs.Option.{option_and_then, option_map}
use Rattle.text_lines.specs.Lines.{lines_of, words_of}
use Rattle.text_lines.specs.Number.{decimal_of}
use Rattle.pick_check.specs.Certified.{Certified}
use Rattle.pick_check.specs.declared.fault.CertFault.{CertFault}
use Rattle.pick_check.specs.declared.fault.CertFault.TheVariants.{BadLine, OutOfMemory, TooLarge}
use Rattle.pick_check.specs.declared.saving.Saving.{Saving}

-- ---- the text that spells a certificate

-- a name and numbers, with one space between two words
abbrev pub line_with : List ℕ → List ℕ → List ℕ
line_with name numbers = join_with_byte 32 (name ∷ map decimal numbers)

-- the numbers of a saving: its target's object, section and offset, and the number of jumps and of calls to it
abbrev pub saving_numbers : Saving → List ℕ
saving_numbers s = s.target.object ∷ s.target.section ∷ s.target.offset ∷ s.jump_sites ∷ s.call_sites ∷ []

abbrev pub saving_line : Saving → List ℕ
saving_line s = line_with (codes "saving") (saving_numbers s)

abbrev pub slot_line : ℕ → List ℕ
slot_line slot = line_with (codes "slot") (slot ∷ [])

abbrev pub price_line : List ℕ → List ℕ
price_line prices = line_with (codes "price") prices

abbrev pub net_line : ℕ → List ℕ
net_line net = line_with (codes "net") (net ∷ [])

-- the last three lines
abbrev pub last_lines : List ℕ → ℕ → List (List ℕ)
last_lines prices net = price_line prices ∷ net_line net ∷ codes "end" ∷ []

-- all lines
abbrev pub certificate_lines : List Saving → Certified → List (List ℕ)
certificate_lines savings c =
    codes "zcld certificate 1" ∷ (map saving_line savings ++ (map slot_line c.slots ++ last_lines c.prices c.net))

-- lines, each with its line feed
abbrev pub text_of : List (List ℕ) → List ℕ
text_of lines = flat_map (λ line. line ++ 10 ∷ []) lines

unfoldable pub certificate_text : List Saving → Certified → List ℕ
certificate_text savings c = text_of (certificate_lines savings c)

-- the greatest numbers that a line may have, in order
abbrev pub saving_limits : List ℕ
saving_limits = 0xFFFF ∷ 0xFFFF ∷ 0xFFFF_FFFF ∷ 0xFFFF_FFFF ∷ 0xFFFF_FFFF ∷ []

abbrev pub slot_limits : List ℕ
slot_limits = 0xFFFF_FFFF ∷ []

abbrev pub price_limits : List ℕ
price_limits = 0xFFFF_FFFF ∷ 0xFFFF_FFFF ∷ 0xFFFF_FFFF ∷ []

abbrev pub net_limits : List ℕ
net_limits = 0xFFFF_FFFF_FFFF_FFFF ∷ []

-- there are as many numbers as limits, and no number is above its limit
abbrev pub AreWithin : List ℕ → List ℕ → Type 0
AreWithin limits numbers = AllZip (λ limit n. n ≤ limit) limits numbers

-- the numbers of a saving, or of a slot, fit their types
abbrev pub FitsSaving : Saving → Type 0
FitsSaving s = AreWithin saving_limits (saving_numbers s)

abbrev pub FitsSlot : ℕ → Type 0
FitsSlot slot = AreWithin slot_limits (slot ∷ [])

-- a certificate has at most 256 slots and three prices, and its numbers fit their types
pub record FitsCertified (c : Certified) : Type 0 where
  pub few : length c.slots ≤ 256
  pub slots_fit : All FitsSlot c.slots
  pub prices_fit : AreWithin price_limits c.prices
  pub net_fits : AreWithin net_limits (c.net ∷ [])

-- the text spells these savings and this certificate, whose numbers fit their types
pub record IsCertText (text : List ℕ) (savings : List Saving) (c : Certified) : Type 0 where
  pub spells : text ≡ certificate_text savings c
  pub savings_fit : All FitsSaving savings
  pub certificate_fits : FitsCertified c

-- ---- the certificate that a text spells

-- the numbers that words spell, one for each limit
abbrev pub numbers_of : List ℕ → List (List ℕ) → Option (List ℕ)
numbers_of [] [] = Some []
numbers_of (limit ∷ limits) (word ∷ words) =
    option_and_then (λ n. option_map (λ ns. n ∷ ns) (numbers_of limits words)) (decimal_of limit word)
numbers_of [] (word ∷ words) = None
numbers_of (limit ∷ limits) [] = None

-- the numbers that the words after this name spell
abbrev pub numbers_behind : List ℕ → List ℕ → List (List ℕ) → Option (List ℕ)
numbers_behind name limits (first ∷ words) = if bytes_eq first name then numbers_of limits words else None
numbers_behind name limits [] = None

-- the numbers of a line with this name
unfoldable pub numbers_in : List ℕ → List ℕ → List ℕ → Option (List ℕ)
numbers_in name limits line = numbers_behind name limits (words_of line)

-- the saving with these numbers
abbrev pub saving_with : List ℕ → Saving
saving_with ns = record {
  target = record { object = slice_index ns 0; section = slice_index ns 1; offset = slice_index ns 2 };
  jump_sites = slice_index ns 3;
  call_sites = slice_index ns 4;
}

-- the saving, the slot, the prices, or the net that a line spells
abbrev pub saving_in_line : List ℕ → Option Saving
saving_in_line line = option_map saving_with (numbers_in (codes "saving") saving_limits line)

abbrev pub slot_in_line : List ℕ → Option ℕ
slot_in_line line = option_map (λ ns. slice_index ns 0) (numbers_in (codes "slot") slot_limits line)

abbrev pub prices_in_line : List ℕ → Option (List ℕ)
prices_in_line line = numbers_in (codes "price") price_limits line

abbrev pub net_in_line : List ℕ → Option ℕ
net_in_line line = option_map (λ ns. slice_index ns 0) (numbers_in (codes "net") net_limits line)

-- a line, if it equals `wanted`
abbrev pub only : List ℕ → List ℕ → Option (List ℕ)
only wanted line = if bytes_eq line wanted then Some line else None

-- what is read from the first line, if a line feed ends it: then another line, perhaps an empty one, follows in the
-- list
abbrev pub read_first : {A : Type 0} → (List ℕ → Option A) → List (List ℕ) → Option A
read_first read (line ∷ (next ∷ lines)) = read line
read_first read (rest ∷ []) = None
read_first read [] = None

-- what is read from a line, followed by what is read from the lines after it
abbrev pub more_read : {A : Type 0} → Option A → List A → List A
more_read (Some x) behind = x ∷ behind
more_read None behind = []

-- what is read from the lines up to the first that can't be read so
abbrev pub read_while : {A : Type 0} → (List ℕ → Option A) → List (List ℕ) → List A
read_while read (line ∷ (next ∷ lines)) = more_read (read line) (read_while read (next ∷ lines))
read_while read (rest ∷ []) = []
read_while read [] = []

-- a line that can't be read is bad; otherwise `behind` goes on with what was read
abbrev pub read_then : {A B : Type 0} → ℕ → Option A → (A → Result B CertFault) → Result B CertFault
read_then number None behind = Err (BadLine number)
read_then number (Some x) behind = behind x

-- nothing follows the last line feed
abbrev pub ends_here : List (List ℕ) → Bool
ends_here (rest ∷ []) = bytes_eq rest []
ends_here (line ∷ (next ∷ lines)) = false
ends_here [] = false

-- after the net comes the end, and nothing after it
abbrev pub end_then : ℕ → List ℕ → ℕ → List (List ℕ) → Result (List ℕ × ℕ) CertFault
end_then number prices net lines =
    read_then number (read_first (only (codes "end")) lines) (λ end.
    if ends_here (drop 1 lines) then Ok (prices, net) else Err (BadLine (number + 1)))

-- after the prices comes the net
abbrev pub net_then : ℕ → List ℕ → List (List ℕ) → Result (List ℕ × ℕ) CertFault
net_then number prices lines =
    read_then number (read_first net_in_line lines) (λ net. end_then (number + 1) prices net (drop 1 lines))

-- the prices and the net, which the last lines spell; `number` is the number of the first of these lines
unfoldable pub last_in : ℕ → List (List ℕ) → Result (List ℕ × ℕ) CertFault
last_in number lines =
    read_then number (read_first prices_in_line lines) (λ prices. net_then (number + 1) prices (drop 1 lines))

-- the savings with the certificate of these slots, prices and net
abbrev pub certified : List Saving → List ℕ → Result (List ℕ × ℕ) CertFault → Result (List Saving × Certified) CertFault
certified savings slots (Ok last) = Ok (savings, record { slots = slots; prices = last.0; net = last.1 })
certified savings slots (Err fault) = Err fault

-- after the savings come at most 256 slots, and after these the last lines
abbrev pub slots_then : List Saving → List (List ℕ) → Result (List Saving × Certified) CertFault
slots_then savings lines =
    let slots = take 256 (read_while slot_in_line lines) in
    certified savings slots (last_in (length savings + length slots + 2) (drop (length slots) lines))

-- after the first line come the savings
abbrev pub savings_then : List (List ℕ) → Result (List Saving × Certified) CertFault
savings_then lines = let savings = read_while saving_in_line lines in slots_then savings (drop (length savings) lines)

unfoldable pub certificate_of : List (List ℕ) → Result (List Saving × Certified) CertFault
certificate_of lines = read_then 1 (read_first (only (codes "zcld certificate 1")) lines) (λ title. savings_then (drop 1 lines))

-- the savings and the certificate that a text spells, or the first fault in it
unfoldable pub certificate_in : List ℕ → Result (List Saving × Certified) CertFault
certificate_in text = if nat_lt 8388608 (length text) then Err TooLarge else certificate_of (lines_of text)

-- a text within the limit that spells a certificate is read as that certificate, unless memory runs out
abbrev pub ReadsEachCert : List ℕ → Result (List Saving × Certified) CertFault → Type 0
ReadsEachCert text result =
    (savings : List Saving) (c : Certified) → IsCertText text savings c → length text ≤ 8388608
    → (result ≡ Ok (savings, c)) ⊎ (result ≡ Err OutOfMemory)
