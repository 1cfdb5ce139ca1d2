-- Items as the code that looks for tails keeps them, and backwards from an end the words of those that can stand in a tail with it.
use Rattle.std.specs.Prelude.{◌≡◌, ◌≤◌, ℕ, suc, ◌+◌, Bool, false, ◌==◌, if◌then◌else◌, List, [], ◌∷◌, drop, map, reverse, take, Option}
use Rattle.std.specs.Option.{option_and_then, option_map_or}
use Rattle.elf32_read.specs.Parts.{is_code_section}
use Rattle.psabi_sym.specs.Indexed.{IndexedSection}
use Rattle.psabi_sym.specs.Inputs.{ParsedInputs}
use Rattle.rv_decode.specs.declared.instr.Instr.{Instr}
use Rattle.rv_encode.specs.Words.{encoded}
use Rattle.block_cut.specs.declared.code_place.CodePlace.{CodePlace}
use Rattle.tail_merge.specs.HostTree.{HostRun, item_words}
use Rattle.tail_merge.specs.Tails.{CodeItem, code_items, ends_tail, goes_on, op_in_item, returns, stands_in_tail}
use Rattle.tail_merge.specs.declared.tail_item.TailItem.{TailItem}

-- the instruction at a place, if it is one without relocation
abbrev pub place_instr : CodePlace → Option Instr
place_instr p = option_and_then op_in_item p.item

-- what is kept of an item by its instruction
abbrev pub instr_tail_item : Option Instr → ℕ → Bool → TailItem
instr_tail_item o size leader = record {
  word = option_map_or encoded o 0;
  size = size;
  ends = option_map_or returns o false;
  inner = option_map_or goes_on o false;
  leader = leader;
}

-- an item as it is kept
abbrev pub tail_item : CodeItem → TailItem
tail_item c = record {
  word = option_map_or encoded (op_in_item c.item) 0;
  size = c.size;
  ends = ends_tail c;
  inner = stands_in_tail c;
  leader = c.leader;
}

-- those of a section; what isn't code has none
abbrev pub tail_items_of : ParsedInputs → IndexedSection → List TailItem
tail_items_of inputs l = if is_code_section l.section then map tail_item (code_items inputs l) else []

-- ---- backwards from an end

-- as long as they stand in a tail
abbrev pub inner_words : List TailItem → List ℕ
inner_words [] = []
inner_words (t ∷ ts) = if t.inner then t.word ∷ inner_words ts else []

-- no further than the first leader
abbrev pub inner_tail_words : List TailItem → List ℕ
inner_tail_words [] = []
inner_tail_words (t ∷ ts) = if t.inner then t.word ∷ (if t.leader then [] else inner_tail_words ts) else []

-- an end's run
abbrev pub run_words : List TailItem → List ℕ
run_words [] = []
run_words (t ∷ ts) = t.word ∷ inner_words ts

-- what of it can be removed
abbrev pub tail_words : List TailItem → List ℕ
tail_words [] = []
tail_words (t ∷ ts) = t.word ∷ (if t.leader then [] else inner_tail_words ts)

-- how many first words of two lists agree
abbrev pub agreeing_words : List ℕ → List ℕ → ℕ
agreeing_words [] vs = 0
agreeing_words (w ∷ ws) [] = 0
agreeing_words (w ∷ ws) (v ∷ vs) = if w == v then suc (agreeing_words ws vs) else 0

-- the host whose end has this number among items
abbrev pub host_run : List TailItem → ℕ → HostRun
host_run items end = record { end = end; run = reverse (run_words (reverse (take (end + 1) items))) }

-- the items before one that can stand in a tail with it begin at `run`, and those that can be removed with it at `block`
pub record AreBefore (items : List TailItem) (end run block : ℕ) : Type 0 where
  pub run_low : run ≤ end
  pub block_low : block ≤ end
  pub run_is : item_words (drop run (take end items)) ≡ reverse (inner_words (reverse (take end items)))
  pub block_is : item_words (drop block (take end items)) ≡ reverse (inner_tail_words (reverse (take end items)))
