-- Equal tails of code: which of them are removed from a section, and where its offsets go.
use Rattle.std.specs.Prelude.{ℕ, suc, ◌+◌, ◌-◌, Bool, true, false, not, ◌&&◌, ◌==◌, nat_le, nat_lt, if◌then◌else◌, List, [], ◌∷◌, ◌++◌, map, take, length, Option, Some, None}
use Rattle.std.specs.List.{find, flat_map, fold, sum_by}
use Rattle.std.specs.Option.{option_map_or}
use Rattle.rv_decode.specs.declared.instr.Instr.{Instr}
use Rattle.rv_decode.specs.declared.instr.Instr.TheVariants as instr
use Rattle.rv_decode.specs.declared.instr.UpperOp.TheVariants.{Lui, Auipc}
use Rattle.rv_encode.specs.Words.{encoded}
use Rattle.psabi_sym.specs.Fixed.{is_fixed}
use Rattle.psabi_sym.specs.Inputs.{ParsedInputs}
use Rattle.psabi_sym.specs.Indexed.{IndexedSection}
use Rattle.block_cut.specs.Items.{item_in, place_of, size_on, starts_in}
use Rattle.block_cut.specs.Leaders.{is_leader_at}
use Rattle.block_cut.specs.declared.item.Item.{Item}
use Rattle.block_cut.specs.declared.item.Item.TheVariants.{Op}

-- what stands at an offset of a section of code, how many bytes it has, and whether a basic block begins there
pub record CodeItem : Type 0 where
  pub offset : ℕ
  pub size : ℕ
  pub item : Item
  pub leader : Bool

abbrev pub code_item : ParsedInputs → IndexedSection → ℕ → CodeItem
code_item inputs l n = record { offset = n; size = size_on l.section n; item = item_in inputs l.section (place_of l n); leader = is_leader_at inputs (place_of l n) }

-- all of a section, in order
abbrev pub code_items : ParsedInputs → IndexedSection → List CodeItem
code_items inputs l = map (code_item inputs l) (starts_in l.section)

-- the bytes of items
abbrev pub bytes_of_all : List CodeItem → ℕ
bytes_of_all items = sum_by (λ c. c.size) items

-- ---- ends and tails

-- the instruction that an item is, if it has no relocation
abbrev pub op_in_item : Item → Option Instr
op_in_item (Op i) = Some i
op_in_item item = None

-- a jump by a register that keeps no link
abbrev pub returns : Instr → Bool
returns (instr.Jalr rd base imm) = rd == 0
returns i = false

-- an instruction that can stand in a tail before its end: it goes on to the next, and means the same wherever it stands
abbrev pub goes_on : Instr → Bool
goes_on (instr.Upper Lui rd imm) = true
goes_on (instr.Upper Auipc rd imm) = false
goes_on (instr.Jal rd distance) = false
goes_on (instr.Jalr rd base imm) = false
goes_on (instr.Branch op first second distance) = false
goes_on i = true

abbrev pub ends_tail : CodeItem → Bool
ends_tail c = option_map_or returns (op_in_item c.item) false

abbrev pub stands_in_tail : CodeItem → Bool
stands_in_tail c = option_map_or goes_on (op_in_item c.item) false

-- the same instruction, of whatever size
abbrev pub same_op : CodeItem → CodeItem → Bool
same_op c d = option_map_or (λ i. option_map_or (λ j. encoded i == encoded j) (op_in_item d.item) false) (op_in_item c.item) false

-- Items are listed backwards from an end: the end itself, the one before it, and so on.

-- how many more items agree from here on: each stands in a tail, and none stands before a leader of the first list
abbrev pub agreeing : List CodeItem → List CodeItem → ℕ
agreeing [] ds = 0
agreeing (c ∷ cs) [] = 0
agreeing (c ∷ cs) (d ∷ ds) = if stands_in_tail c && same_op c d then suc (if c.leader then 0 else agreeing cs ds) else 0

-- how many items the tails of two ends share, where that of the first is to be removed
abbrev pub shared : List CodeItem → List CodeItem → ℕ
shared [] ds = 0
shared (c ∷ cs) [] = 0
shared (c ∷ cs) (d ∷ ds) = if same_op c d then suc (if c.leader then 0 else agreeing cs ds) else 0

-- ---- hosts

-- a tail and the host's, item by item, both backwards
pub record Removed : Type 0 where
  pub tail : List CodeItem
  pub host : List CodeItem

-- of two tails the one with more items, and of equal ones the first
abbrev pub longer_tail : Removed → Removed → Removed
longer_tail r s = if nat_lt (length r.tail) (length s.tail) then s else r

-- what an end shares with a host
abbrev pub shared_tail : List CodeItem → List CodeItem → Removed
shared_tail cs host = let k = shared cs host in record { tail = take k cs; host = take k host }

-- the most that an end shares with one of the hosts
abbrev pub longest_tail : List CodeItem → List (List CodeItem) → Removed
longest_tail cs hosts = fold longer_tail (record { tail = []; host = [] }) (map (shared_tail cs) hosts)

-- the tails that are removed, in order, by the hosts so far and what stands before: one of more than 4 bytes is removed, and any
-- other end is a host
abbrev pub removed_from : List (List CodeItem) → List CodeItem → List CodeItem → List Removed
removed_from hosts before [] = []
removed_from hosts before (c ∷ cs) =
    if not (ends_tail c) then removed_from hosts (c ∷ before) cs
    else (let best = longest_tail (c ∷ before) hosts in
    if nat_lt 4 (bytes_of_all best.tail) then best ∷ removed_from hosts (c ∷ before) cs else removed_from (hosts ++ (c ∷ before) ∷ []) (c ∷ before) cs)

-- those of a section: none of one that is fixed
unfoldable pub removed_tails : ParsedInputs → IndexedSection → List Removed
removed_tails inputs l = if is_fixed inputs.fixed l.section then [] else removed_from [] [] (code_items inputs l)

-- ---- where offsets go

-- the first item of a tail, which is the last of the list
abbrev pub first_offset : List CodeItem → ℕ
first_offset cs = fold (λ n c. c.offset) 0 cs

-- where a tail begins, and where it ends
abbrev pub tail_start : Removed → ℕ
tail_start r = first_offset r.tail

abbrev pub tail_end : Removed → ℕ
tail_end r = tail_start r + bytes_of_all r.tail

-- an offset lies in a tail
abbrev pub covers : ℕ → Removed → Bool
covers n r = nat_le (tail_start r) n && nat_lt n (tail_end r)

-- how many bytes fewer there are with a jump in a tail's place
abbrev pub bytes_saved_by : Removed → ℕ
bytes_saved_by r = bytes_of_all r.tail - 4

abbrev pub saved_bytes : List Removed → ℕ
saved_bytes removed = sum_by bytes_saved_by removed

-- where an offset moves down to; what lies inside a removed tail goes behind the jump
abbrev pub moved_down : List Removed → ℕ → ℕ
moved_down [] n = n
moved_down (r ∷ rs) n =
    if nat_le n (tail_start r) then n else (if nat_lt n (tail_end r) then tail_start r + 4 else moved_down rs n - bytes_saved_by r)

-- the later items of a tail with the host's, by their offsets
abbrev pub zipped : List CodeItem → List CodeItem → List (ℕ × ℕ)
zipped [] ds = []
zipped (c ∷ cs) [] = []
zipped (c ∷ []) (d ∷ ds) = []
zipped (c ∷ cs) (d ∷ ds) = (c.offset, d.offset) ∷ zipped cs ds

-- the host's item in place of a later item of a removed tail
abbrev pub host_offset : List Removed → ℕ → Option ℕ
host_offset removed n = option_map_or (λ e. Some e.1) (find (λ e. e.0 == n) (flat_map (λ r. zipped r.tail r.host) removed)) None

-- where what stands at an offset is found: a removed tail's later items are the host's
abbrev pub merged_offset : List Removed → ℕ → ℕ
merged_offset removed n = option_map_or (moved_down removed) (host_offset removed n) (moved_down removed n)
