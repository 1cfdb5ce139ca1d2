-- What is known of an item at its place in its object, before it is written at its address in a layout.
use Rattle.std.specs.Prelude.{◌≡◌, ℕ, ℤ, ◌+◌, ◌%◌, ◌^◌, ◌<◌, ◌≤◌, ◌⊎◌, ◌||◌, IsTrue, List, length, slice_get, slice_index, take, Bool, true, false, Option, Some, None}
use Rattle.std.specs.List.{flat_map}
use Rattle.std.specs.Option.{is_some}
use Rattle.zc_base.specs.MemMap.{IsMap}
use Rattle.zc_base.specs.declared.place.Place.{Place}
use Rattle.elf32_read.specs.Parts.{is_code_section}
use Rattle.psabi_reloc.specs.Kinds.{is_auipc, is_lui, is_store, is_sum}
use Rattle.psabi_sym.specs.Inputs.{Inputs, parsed}
use Rattle.psabi_sym.specs.Indexed.{IndexedSection, all_sections}
use Rattle.psabi_sym.specs.declared.target.Target.{Target}
use Rattle.rv_decode.specs.declared.instr.Instr.{Instr}
use Rattle.rv_decode.specs.declared.instr.Instr.TheVariants as instr
use Rattle.rv_decode.specs.declared.instr.UpperOp.TheVariants.{Auipc}
use Rattle.block_cut.specs.Faults.{first_fault}
use Rattle.block_cut.specs.Items.{index_on, item_at, place_of, size_at, targets_of}
use Rattle.block_cut.specs.Relocs.{instr_in}
use Rattle.block_cut.specs.declared.place_number.PlaceNumber.{PlaceNumber}
use Rattle.block_cut.specs.declared.item.Item.{Item}
use Rattle.block_cut.specs.declared.item.Item.TheVariants.{Op, Hi, Lo, PcHi, PcLo, Branch, Jump, Call, Align, Word, Raw, RawShort, RawPair}
use Rattle.frame_match.specs.declared.role.Role.{Role}
use Rattle.shrink_layout.specs.Halves.{fixed_instr}
use Rattle.shrink_layout.specs.Units.{CodeUnit, OneItem, role_unit}
use Rattle.zc_decode.specs.declared.short.Short.{Short}
use Rattle.zc_decode.specs.declared.short.Short.TheVariants.{Base, MoveAs, MoveSa, Pop, PopRet, PopRetz, Push, TableJump}
use Rattle.zc_encode.specs.Halves.{encoded16}
use Rattle.zca_zcb_pass.specs.Forms.{HasEffectOf}
use Rattle.zc_link.specs.Copied.{bytes_from}
use Rattle.zc_link.specs.LaidOut.{HasForm}
use Rattle.zc_link.specs.Meant.{way_on}
use Rattle.zc_link.specs.TextLayout.{TextLayout, behind, size_in}
use Rattle.zc_link.specs.Written.{IsSoFar, UnitWritten}
use Rattle.zc_link.specs.Values.{target_value}

-- inputs that are linked: they have no fault, and the map is one that a link may be made for
pub record IsReady (inputs : Inputs) : Type 0 where
  pub faultless : first_fault inputs ≡ None
  pub is_map : IsMap inputs.map

-- ---- instructions

-- the bytes are an instruction of this kind
pub record SpellsKind (is_kind : Option Instr → Bool) (spelled : Option Instr) (i : Instr) : Type 0 where
  pub spells : spelled ≡ Some i
  pub kind : is_kind (Some i) ≡ true

-- an instruction that can take a lower part: an `addi`, a load or a `jalr`, or a store
abbrev pub is_lower : Option Instr → Bool
is_lower i = is_sum i || is_store i

-- the bytes are this instruction with some distance, and the place that it leads to has an address
pub record SpellsWay (A : Place → Option ℕ) (spelled : Option Instr) (i : ℤ → Instr) (to : Place) : Type 0 where
  pub distance : ℤ
  pub spells : spelled ≡ Some (i distance)
  pub address : ℕ
  pub listed : A to ≡ Some address

-- ---- targets

-- a place has an address
abbrev pub HasAddress : (Place → Option ℕ) → Place → Type 0
HasAddress A p = (b : ℕ) × (A p ≡ Some b)

-- the target of a symbol has a value
abbrev pub HasValue : (Place → Option ℕ) → Target → Type 0
HasValue A t = (value : ℕ) × (target_value A t ≡ Some value)

-- the `auipc` at a place, which a lower part goes with, has a distance to its target
abbrev pub HasWay : (Place → Option ℕ) → (Place → Option Item) → Place → Type 0
HasWay A items from = (w : ℕ) × (way_on A items from ≡ Some w)

-- the bytes are the two instructions of a call, and the place that it leads to has an address
pub record SpellsCall (A : Place → Option ℕ) (one two : Option Instr) (rd temp : ℕ) (to : Place) : Type 0 where
  pub upper : ℕ
  pub lower : ℤ
  pub first_spells : one ≡ Some (instr.Upper Auipc temp upper)
  pub second_spells : two ≡ Some (instr.Jalr rd temp lower)
  pub address : ℕ
  pub listed : A to ≡ Some address

-- ---- items

-- what is known of an item, by the instructions that its bytes are
abbrev pub ItemStands : (Place → Option ℕ) → (Place → Option Item) → (one two : Option Instr) → Item → Type 0
ItemStands A item one two (Op i) = one ≡ Some i
ItemStands A item one two (Hi i t) = SpellsKind is_lui one i × HasValue A t
ItemStands A item one two (Lo i t) = SpellsKind is_lower one i × HasValue A t
ItemStands A item one two (PcHi i t) = SpellsKind is_auipc one i × HasValue A t
ItemStands A item one two (PcLo i from) = SpellsKind is_lower one i × HasWay A item from
ItemStands A item one two (Branch op first second to) = SpellsWay A one (instr.Branch op first second) to
ItemStands A item one two (Jump rd to) = SpellsWay A one (instr.Jal rd) to
ItemStands A item one two (Call rd temp to) = SpellsCall A one two rd temp to
ItemStands A item one two (Align n) = Unit {0}
ItemStands A item one two (Word t) = HasValue A t
ItemStands A item one two (Raw copied) = Unit {0}
ItemStands A item one two (RawShort copied) = Unit {0}
ItemStands A item one two (RawPair first second) = Unit {0}

-- an item is written as its own word with its relocation's value, unless it has a halfword that is known before the layout
abbrev pub is_patched : Item → Bool
is_patched (Branch op first second to) = false
is_patched (Jump rd to) = false
is_patched (Call rd temp to) = false
is_patched (Align n) = false
is_patched (Raw copied) = false
is_patched (RawShort copied) = false
is_patched (RawPair first second) = false
is_patched other = true

-- an instruction has two bytes or four in its object
abbrev pub IsInstrSize : ℕ → Type 0
IsInstrSize own = (own ≡ 2) ⊎ (own ≡ 4)

-- the number of bytes that an item has in its object: two or four for an instruction without relocation, a branch or a jump; two
-- words for a call; n for padding of n bytes; a halfword or two words where these are copied; and else one word
abbrev pub HasOwnSize : Item → ℕ → Type 0
HasOwnSize (Op i) own = IsInstrSize own
HasOwnSize (Branch op first second to) own = IsInstrSize own
HasOwnSize (Jump rd to) own = IsInstrSize own
HasOwnSize (Call rd temp to) own = own ≡ 8
HasOwnSize (Align n) own = own ≡ n
HasOwnSize (RawShort copied) own = own ≡ 2
HasOwnSize (RawPair first second) own = own ≡ 8
HasOwnSize other own = own ≡ 4

-- the halfword of an instruction that is known before the layout, which has the same effect
abbrev pub IsHalfHere : Item → ℕ → Type 0
IsHalfHere item half =
    (half < 2 ^ 16) × ((i : Instr) → fixed_instr item ≡ Some i → (encoded16 (Base i) ≡ Some half) × HasEffectOf i half)

-- an item is at a place of code with these bytes, in which it lies, and is written by itself at an address in n bytes
pub record StandsHere (L : TextLayout) (code : List ℕ) (q : Place) (item : Item) (a n : ℕ) : Type 0 where
  pub is : item_at (parsed L.inputs) q ≡ Some item
  pub unit : L.unit q ≡ Some (OneItem item)
  pub size : HasOwnSize item (size_at (parsed L.inputs).objects q)
  pub within : q.offset + size_at (parsed L.inputs).objects q ≤ length code
  pub stands :
      ItemStands L.address (item_at (parsed L.inputs)) (instr_in (size_at (parsed L.inputs).objects q) code q.offset)
      (instr_in 4 code (q.offset + 4)) item
  pub takes : size_in L q ≡ n
  pub even : n % 2 ≡ 0
  pub form : HasForm L.address a (size_at (parsed L.inputs).objects q) n item

-- ---- units

-- this is what is written for an item with this role in groups, through a slot of the table or not
abbrev pub IsRoleUnit : Option CodeUnit → Option Item → Role → Type 0
IsRoleUnit unit item role = (slot : Option ℕ) × (unit ≡ role_unit slot item role)

-- this is none of the base instructions, so no word encodes it
abbrev pub HasNoWord : Short → Type 0
HasNoWord (Base i) = ⊥
HasNoWord (Push list adjust) = Unit {0}
HasNoWord (Pop list adjust) = Unit {0}
HasNoWord (PopRet list adjust) = Unit {0}
HasNoWord (PopRetz list adjust) = Unit {0}
HasNoWord (MoveSa first second) = Unit {0}
HasNoWord (MoveAs first second) = Unit {0}
HasNoWord (TableJump index) = Unit {0}

-- this instruction has a halfword, and no 32-bit form
abbrev pub HasHalf : Short → Type 0
HasHalf short = HasNoWord short × IsTrue (is_some (encoded16 short))

-- these bytes are what is written at a place as one unit
pub record WrittenHere (L : TextLayout) (code : List ℕ) (q : Place) (u : CodeUnit) (a n : ℕ) (bytes : List ℕ) : Type 0 where
  pub long : length bytes ≡ n
  pub written : UnitWritten L q (bytes_from code q.offset) a n u bytes
  pub octets : (k : ℕ) → slice_index bytes k < 256

-- an item starts at a place of a section of code with these bytes; `number` says which section among all that is, and which of
-- its items
pub record StartsHere (L : TextLayout) (number : PlaceNumber) (bytes : List ℕ) (q : Place) (item : Item) : Type 0 where
  pub section : IndexedSection
  pub listed : slice_get (all_sections (parsed L.inputs).objects) number.section ≡ Some section
  pub code : is_code_section section.section ≡ true
  pub own : section.section.bytes ≡ bytes
  pub offset : ℕ
  pub place : place_of section offset ≡ q
  pub index : number.index ≡ index_on section.section offset
  pub is : item_at (parsed L.inputs) q ≡ Some item

-- these bytes are what is written at a place with an address, up to that of the place after it
pub record UnitHere (L : TextLayout) (code : List ℕ) (q : Place) (a : ℕ) (bytes : List ℕ) : Type 0 where
  pub unit : CodeUnit
  pub is : L.unit q ≡ Some unit
  pub address : L.address q ≡ Some a
  pub next : L.address (behind L q) ≡ Some (a + length bytes)
  pub written : WrittenHere L code q unit a (length bytes) bytes

-- ---- sections

-- the text ends just where section k among all, which is code, begins
pub record BeginsSection (L : TextLayout) (k : ℕ) (text : List ℕ) (places : List (Place × ℕ)) : Type 0 where
  pub section : IndexedSection
  pub at : slice_get (all_sections (parsed L.inputs).objects) k ≡ Some section
  pub code : is_code_section section.section ≡ true
  pub address : ℕ
  pub listed : L.address (place_of section 0) ≡ Some address
  pub so_far : IsSoFar L (flat_map targets_of (take k (all_sections (parsed L.inputs).objects))) address text places
