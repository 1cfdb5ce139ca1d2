-- Texts of plans: a first line, and then a line for each interrupt. A line feed ends each line. There are two grammars: for plans, and
-- for plans with cells.
use Rattle.std.specs.Prelude.{◌≡◌, ◌≤◌, ◌⊎◌, ℕ, ◌+◌, ◌^◌, ◌<◌, ◌==◌, Bool, true, false, ◌&&◌, ◌||◌, nat_lt, bytes_eq, if◌then◌else◌, List, [], ◌∷◌, ◌++◌, length, drop, map, flat_map, slice_range, All, codes, decimal, Option, Some, None, Result, Ok, Err}
use Rattle.std.specs.List.{join_with_byte}
use Rattle.std.specs.Option.{option_and_then}
use Rattle.std.specs.Result.{result_map_both}
use Rattle.std.specs.Str.Parse.{digits_value}
use Rattle.text_lines.specs.Hex.{hex_byte, hex_word}
use Rattle.text_lines.specs.Lines.{lines_of, words_of}
use Rattle.text_lines.specs.Number.{decimal_of, if_text_of}
use Rattle.interrupt_plan.specs.Order.{IsSharedInOrder}
use Rattle.interrupt_plan.specs.Plan.{Entry}
use Rattle.interrupt_plan.specs.SharedPlan.{SharedEntry, without_cells}
use Rattle.interrupt_plan.specs.declared.fault.PlanFault.{PlanFault}
use Rattle.interrupt_plan.specs.declared.fault.PlanFault.TheVariants.{BadLine, OutOfMemory, OutOfOrder, TooLarge}

-- a grammar: the first line of its texts, and whether their other lines may have cells
pub record Grammar : Type 0 where
  pub title : List ℕ
  pub cells : Bool

abbrev pub plan_grammar : Grammar
plan_grammar = record { title = codes "zcld plan 1"; cells = false }

abbrev pub shared_grammar : Grammar
shared_grammar = record { title = codes "zcld shared 1"; cells = true }

-- ---- the text that spells entries

-- an access: `a` and its number
abbrev pub access_word : ℕ → List ℕ
access_word n = codes "a" ++ decimal n

-- a byte that is written: a letter, its address, `:` and the byte
abbrev pub written_word : List ℕ → ℕ × ℕ → List ℕ
written_word letter d = letter ++ hex_word d.0 ++ codes ":" ++ hex_byte d.1

-- an interrupt and its cells: its accesses, its bytes after `d`, and then the cells after `s`
abbrev pub part_words : SharedEntry → List (List ℕ)
part_words e =
    map access_word e.entry.cut.done ++ (map (written_word (codes "d")) e.entry.cut.dirt ++ map (written_word (codes "s")) e.cells)

-- an entry's line, with one space between two words
abbrev pub entry_words : SharedEntry → List (List ℕ)
entry_words e = codes "cut" ∷ decimal e.entry.at ∷ part_words e

abbrev pub entry_line : SharedEntry → List ℕ
entry_line e = join_with_byte 32 (entry_words e)

unfoldable pub text_by : Grammar → List SharedEntry → List ℕ
text_by g es = g.title ++ 10 ∷ flat_map (λ e. entry_line e ++ 10 ∷ []) es

-- without cells, an entry may stand in any text
abbrev pub allows : Grammar → SharedEntry → Bool
allows g e = g.cells || length e.cells == 0

-- the numbers of a byte that is written fit their types
abbrev pub FitsByte : ℕ × ℕ → Type 0
FitsByte d = (d.0 < 2 ^ 32) × (d.1 < 256)

-- the numbers of an entry fit their types
abbrev pub FitsEntry : SharedEntry → Type 0
FitsEntry e = (e.entry.at < 2 ^ 64) × All (λ n. n < 256) e.entry.cut.done × All FitsByte e.entry.cut.dirt × All FitsByte e.cells

-- an entry may stand in the grammar's texts, and its numbers fit
abbrev pub IsEntryOf : Grammar → SharedEntry → Type 0
IsEntryOf g e = (allows g e ≡ true) × FitsEntry e

-- the text spells these entries, which may stand in it and are in order
pub record IsTextBy (g : Grammar) (text : List ℕ) (es : List SharedEntry) : Type 0 where
  pub spells : text ≡ text_by g es
  pub fits : All (IsEntryOf g) es
  pub in_order : IsSharedInOrder es

-- ---- the entries that a text spells

-- the access that a word spells
unfoldable pub access_of : List ℕ → Option ℕ
access_of word = let n = digits_value 10 (drop 1 word) in if_text_of (nat_lt n 256) access_word n word

-- the byte with its address that a word with this letter spells
unfoldable pub written_of : List ℕ → List ℕ → Option (ℕ × ℕ)
written_of letter word =
    let d : ℕ × ℕ = (digits_value 16 (slice_range word 1 9), digits_value 16 (drop 10 word)) in
    if_text_of (nat_lt d.0 (2 ^ 32) && nat_lt d.1 256) (written_word letter) d word

-- what words spell, up to the first one that spells nothing, and the words from there on
abbrev pub before_others : {A : Type 0} → Option A → List (List ℕ) → List A × List (List ℕ) → List A × List (List ℕ)
before_others (Some x) words others = (x ∷ others.0, others.1)
before_others None words others = ([], words)

abbrev pub leading : {A : Type 0} → (List ℕ → Option A) → List (List ℕ) → List A × List (List ℕ)
leading spelled [] = ([], [])
leading spelled (word ∷ words) = before_others (spelled word) (word ∷ words) (leading spelled words)

-- an entry, if no words are left
abbrev pub if_none_left : SharedEntry → List (List ℕ) → Option SharedEntry
if_none_left e [] = Some e
if_none_left e (word ∷ words) = None

-- the entry from the number of its commit, what its words spell, and the words that are left
abbrev pub entry_from : ℕ → List ℕ → List (ℕ × ℕ) → List (ℕ × ℕ) → SharedEntry
entry_from at done dirt cells = record { entry = record { at = at; cut = record { done = done; dirt = dirt } }; cells = cells }

-- the entry before this commit that words spell: accesses, then bytes, then cells
abbrev pub entry_of_parts : ℕ → List (List ℕ) → Option SharedEntry
entry_of_parts at words =
    let done = leading access_of words in
    let dirt = leading (written_of (codes "d")) done.1 in
    let cells = leading (written_of (codes "s")) dirt.1 in
    if_none_left (entry_from at done.0 dirt.0 cells.0) cells.1

-- the entry of a line's words
unfoldable pub entry_of_words : List (List ℕ) → Option SharedEntry
entry_of_words (first ∷ (number ∷ words)) =
    if bytes_eq first (codes "cut")
    then option_and_then (λ at. entry_of_parts at words) (decimal_of 0xFFFF_FFFF_FFFF_FFFF number)
    else None
entry_of_words (first ∷ []) = None
entry_of_words [] = None

-- the entry of a line, if it may stand in the text
abbrev pub if_allowed : Grammar → SharedEntry → Option SharedEntry
if_allowed g e = if allows g e then Some e else None

abbrev pub line_entry : Grammar → List ℕ → Option SharedEntry
line_entry g line = option_and_then (if_allowed g) (entry_of_words (words_of line))

-- a plan with one more entry before the others
abbrev pub with_first : SharedEntry → Result (List SharedEntry) PlanFault → Result (List SharedEntry) PlanFault
with_first e (Ok es) = Ok (e ∷ es)
with_first e (Err fault) = Err fault

-- an entry's commit may not be before commit `low`, and the entries after it may not be before its own commit
abbrev pub entry_then : ℕ → ℕ → Option SharedEntry → (ℕ → Result (List SharedEntry) PlanFault) → Result (List SharedEntry) PlanFault
entry_then line low None behind = Err (BadLine line)
entry_then line low (Some e) behind =
    if nat_lt e.entry.at low then Err (OutOfOrder line) else with_first e (behind e.entry.at)

-- the entries of the lines from the one with number `line` on; nothing may follow the last line feed
abbrev pub entries_of_lines : Grammar → ℕ → ℕ → List (List ℕ) → Result (List SharedEntry) PlanFault
entries_of_lines g line low (text ∷ (next ∷ lines)) =
    entry_then line low (line_entry g text) (λ at. entries_of_lines g (line + 1) at (next ∷ lines))
entries_of_lines g line low (rest ∷ []) = if bytes_eq rest [] then Ok [] else Err (BadLine line)
entries_of_lines g line low [] = Ok []

-- the entries after the first line
abbrev pub entries_behind : Grammar → List (List ℕ) → Result (List SharedEntry) PlanFault
entries_behind g (title ∷ (next ∷ lines)) =
    if bytes_eq title g.title then entries_of_lines g 2 0 (next ∷ lines) else Err (BadLine 1)
entries_behind g (rest ∷ []) = Err (BadLine 1)
entries_behind g [] = Err (BadLine 1)

-- the entries that a text spells, or the first fault in it
unfoldable pub entries_by : Grammar → List ℕ → Result (List SharedEntry) PlanFault
entries_by g text = if nat_lt 8388608 (length text) then Err TooLarge else entries_behind g (lines_of text)

-- a text within the limit that spells something is read as that, unless memory runs out
abbrev pub ReadsEach : {A : Type 0} → (A → Type 0) → List ℕ → Result A PlanFault → Type 0
ReadsEach {A} IsSpelled text result =
    (x : A) → IsSpelled x → length text ≤ 8388608 → (result ≡ Ok x) ⊎ (result ≡ Err OutOfMemory)

-- ---- plans, and plans with cells

abbrev pub plan_text : List Entry → List ℕ
plan_text plan = text_by plan_grammar (map without_cells plan)

-- the text spells this plan, whose numbers fit their types and which is in order
abbrev pub IsPlanText : List ℕ → List Entry → Type 0
IsPlanText text plan = IsTextBy plan_grammar text (map without_cells plan)

abbrev pub IsSharedText : List ℕ → List SharedEntry → Type 0
IsSharedText text plan = IsTextBy shared_grammar text plan

-- the plan that a text spells, or the first fault in it
abbrev pub plan_in : List ℕ → Result (List Entry) PlanFault
plan_in text = result_map_both (map (λ e. e.entry)) (λ fault. fault) (entries_by plan_grammar text)

abbrev pub shared_in : List ℕ → Result (List SharedEntry) PlanFault
shared_in text = entries_by shared_grammar text
