-- What is written in one piece at a place of code: an item by itself, a group at its first item, or a jump through the
-- table (RISC-V Zc specification 1.0, "Zcmp" and "Zcmt"). Which places images list.
use Rattle.std.specs.Prelude.{◌≡◌, ℕ, pos, negsuc, ◌≤◌, ⊤, All, ◌+◌, ◌-◌, ◌*◌, Bool, true, false, ◌||◌, ◌==◌, if◌then◌else◌, List, [], ◌∷◌, drop, length, take, Option, Some, None}
use Rattle.std.specs.Option.{is_some, option_and_then, option_map}
use Rattle.zc_base.specs.Places.{same_place}
use Rattle.zc_base.specs.declared.place.Place.{Place}
use Rattle.psabi_sym.specs.Inputs.{ParsedInputs}
use Rattle.rv_decode.specs.declared.instr.ImmOp.TheVariants.{Addi}
use Rattle.rv_decode.specs.declared.instr.Instr.{Instr}
use Rattle.rv_decode.specs.declared.instr.Instr.TheVariants.{WithImm}
use Rattle.zc_decode.specs.declared.short.Short.{Short}
use Rattle.zc_decode.specs.declared.short.Short.TheVariants.{Push}
use Rattle.block_cut.specs.Items.{is_end_at, item_at}
use Rattle.block_cut.specs.declared.item.Item.{Item}
use Rattle.block_cut.specs.declared.item.Item.TheVariants as item
use Rattle.frame_match.specs.Groups.{role_at}
use Rattle.frame_match.specs.declared.group.Group.{Group}
use Rattle.frame_match.specs.declared.role.Role.{Role}
use Rattle.frame_match.specs.declared.role.Role.TheVariants.{Alone, First, Inside}

-- ---- units

-- an item, a group of items, or a jump or call through this slot of the table
pub data CodeUnit : Type 0 where
  OneItem : (item : Item) → CodeUnit
  OneGroup : (group : Group) → CodeUnit
  OneSite : (slot : ℕ) → CodeUnit

-- the number of items that a unit stands for
abbrev pub unit_items : CodeUnit → ℕ
unit_items (OneItem i) = 1
unit_items (OneGroup g) = g.items
unit_items (OneSite slot) = 1

-- what is written for an item by itself: a jump or call through its slot, if it has one
abbrev pub item_unit : Option ℕ → Item → CodeUnit
item_unit None i = OneItem i
item_unit (Some slot) i = OneSite slot

-- what is written for an item, by its slot and by its role in groups
abbrev pub role_unit : Option ℕ → Option Item → Role → Option CodeUnit
role_unit slot i Alone = option_map (item_unit slot) i
role_unit slot i (First g) = Some (OneGroup g)
role_unit slot i Inside = None

-- a role is that of an item inside a group
abbrev pub is_within : Option Role → Bool
is_within None = false
is_within (Some Alone) = false
is_within (Some (First g)) = false
is_within (Some Inside) = true

-- an item starts at a place inside a group
abbrev pub is_inside : ParsedInputs → Place → Bool
is_inside inputs q = is_within (role_at inputs q)

-- what is written at a place if the jumps and calls at places have these slots, and if an item starts there that isn't
-- inside a group
abbrev pub unit_by : ParsedInputs → (Place → Option ℕ) → Place → Option CodeUnit
unit_by inputs slot q = option_and_then (role_unit (slot q) (item_at inputs q)) (role_at inputs q)

-- no jump or call has a slot
abbrev pub no_slot : Place → Option ℕ
no_slot q = None

-- images list a place: something is written there, whatever slots there are, or a section of code ends there
unfoldable pub is_listed_at : ParsedInputs → Place → Bool
is_listed_at inputs q = is_some (unit_by inputs no_slot q) || is_end_at inputs.objects q

-- ---- jumps and calls through the table

-- the register that a jump or a call puts its return address in, and where it leads
abbrev pub jump_of : Item → Option (ℕ × Place)
jump_of (item.Jump rd to) = Some (rd, to)
jump_of (item.Call rd temp to) = Some (rd, to)
jump_of _ = None

-- a slot leads to a place
abbrev pub is_slot_of : Place → Option Place → Bool
is_slot_of q None = false
is_slot_of q (Some p) = same_place p q

-- the first slot that leads to a place; the first of these slots has number n
abbrev pub slot_from : ℕ → Place → List (Option Place) → Option ℕ
slot_from n q [] = None
slot_from n q (slot ∷ slots) = if is_slot_of q slot then Some n else slot_from (n + 1) q slots

-- the slot of a jump or call: that of a jump, which links no register, is below 32; that of a call is 32 or more (RISC-V Zc
-- specification 1.0, "cm.jt" and "cm.jalt")
abbrev pub slot_for : List (Option Place) → ℕ × Place → Option ℕ
slot_for slots jump =
    if jump.0 == 0 then slot_from 0 jump.1 (take 32 slots) else slot_from 32 jump.1 (drop 32 slots)

-- a slot is a hole, or leads to a place that images list
abbrev pub IsTargetSlot : ParsedInputs → Option Place → Type 0
IsTargetSlot inputs None = ⊤
IsTargetSlot inputs (Some q) = is_listed_at inputs q ≡ true

-- a table has at most 256 slots, each of which is a hole or leads to a place that images list
pub record AreTargetSlots (inputs : ParsedInputs) (slots : List (Option Place)) : Type 0 where
  pub few : length slots ≤ 256
  pub each : All (IsTargetSlot inputs) slots

-- ---- the rest of a frame

abbrev pub is_push : Short → Bool
is_push (Push list adjust) = true
is_push _ = false

-- the instruction that moves sp by what a group's halfword doesn't: `addi sp,sp,-rest` after a push, `addi sp,sp,rest` before a
-- pop
abbrev pub rest_instr : Group → Instr
rest_instr g = WithImm Addi 2 2 (if is_push g.kind then negsuc (g.rest - 1) else pos g.rest)

-- ---- in front of all code

-- the number of bytes of the table of these slots and of the stub after it; without slots there is neither
abbrev pub front_size : List (Option Place) → ℕ
front_size [] = 0
front_size (slot ∷ slots) = 4 * length (slot ∷ slots) + 12
