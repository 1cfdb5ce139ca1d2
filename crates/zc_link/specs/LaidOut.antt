-- What a link needs of a layout: where the places of code lie, how many bytes each unit takes, and what comes before the first
-- section.
use Rattle.std.specs.Prelude.{◌≡◌, ℕ, ℤ, pos, ◌-ℤ◌, ◌+◌, ◌%◌, ◌<◌, ◌≤◌, ◌⊎◌, ◌&&◌, true, false, IsTrue, if◌then◌else◌, nat_lt, List, length, slice_get, Option, Some, None}
use Rattle.std.specs.List.{fold}
use Rattle.std.specs.Option.{is_some, option_map_or, unwrap_or}
use Rattle.zc_base.specs.declared.place.Place.{Place}
use Rattle.elf32_read.specs.Parts.{SectionParts, is_code_section}
use Rattle.psabi_reloc.specs.Reaches.{branch_reach, jal_reach}
use Rattle.psabi_sym.specs.Blocks.{aligned_up}
use Rattle.psabi_sym.specs.Faults.{power_above}
use Rattle.psabi_sym.specs.Inputs.{ParsedInputs, parsed}
use Rattle.psabi_sym.specs.Indexed.{IndexedSection, all_sections, section_at, sections_before}
use Rattle.rv_decode.specs.declared.instr.Instr.{Instr}
use Rattle.rv_decode.specs.declared.instr.Instr.TheVariants as instr
use Rattle.rv_decode.specs.Bits.{as_signed}
use Rattle.block_cut.specs.Invariants.Cut.{place_at}
use Rattle.block_cut.specs.Items.{after_items, entry_of, is_start_at, is_target_at, item_at, place_of, size_at}
use Rattle.block_cut.specs.Leaders.{is_leader_at}
use Rattle.block_cut.specs.declared.item.Item.{Item}
use Rattle.block_cut.specs.declared.item.Item.TheVariants.{Op, Hi, Lo, PcHi, PcLo, Branch, Jump, Call, Align, Word, Raw, RawShort, RawPair}
use Rattle.frame_match.specs.Groups.{role_at}
use Rattle.frame_match.specs.declared.role.Role.TheVariants.{First}
use Rattle.sym_machine.specs.Conditions.{is_solid}
use Rattle.shrink_layout.specs.Halves.{fixed_instr}
use Rattle.shrink_layout.specs.Pieces.{group_size, is_short}
use Rattle.shrink_layout.specs.Units.{CodeUnit, OneGroup, OneItem, OneSite, jump_of, unit_items}
use Rattle.zc_link.specs.Front.{start_address}
use Rattle.zc_link.specs.TextLayout.{TextLayout, behind, front_end, size_in}
use Rattle.zc_link.specs.Values.{way}

-- ---- forms

-- an item of one instruction takes four bytes, or two if the instruction doesn't depend on the layout and has a short form
abbrev pub HasSize : Item → ℕ → Type 0
HasSize i n = (n ≡ 4) ⊎ ((n ≡ 2) × IsTrue (option_map_or is_short (fixed_instr i) false))

-- a `jal` with this link register takes four bytes if its target is in range, or two if it has a short form
abbrev pub HasJumpSize : ℕ → ℕ → ℤ → Type 0
HasJumpSize rd n distance = ((n ≡ 4) × (jal_reach distance ≡ true)) ⊎ ((n ≡ 2) × IsTrue (is_short (instr.Jal rd distance)))

-- a branch takes four bytes if its target is in range, or two if it has a short form; or eight, of which the last four are a jump
-- in whose range the target is
abbrev pub HasBranchSize : (ℤ → Instr) → ℕ → ℤ → Type 0
HasBranchSize branch n distance =
    ((n ≡ 4) × (branch_reach distance ≡ true))
    ⊎ (((n ≡ 2) × IsTrue (is_short (branch distance))) ⊎ ((n ≡ 8) × (jal_reach (distance -ℤ pos 4) ≡ true)))

-- a call is two words, or one jump
abbrev pub HasCallSize : ℕ → ℕ → ℤ → Type 0
HasCallSize rd n distance = (n ≡ 8) ⊎ HasJumpSize rd n distance

-- P holds of the distance from an address to a place, if the place has an address
abbrev pub OfWay : (Place → Option ℕ) → ℕ → Place → (ℤ → Type 0) → Type 0
OfWay A a to P = (b : ℕ) → A to ≡ Some b → P (as_signed (way a b))

-- an item may take n bytes at an address, if A gives the addresses of places and the item has `own` bytes in its object, which an
-- instruction without relocation may keep
abbrev pub HasForm : (Place → Option ℕ) → (a own n : ℕ) → Item → Type 0
HasForm A a own n (Op i) = (n ≡ own) ⊎ HasSize (Op i) n
HasForm A a own n (Hi i t) = HasSize (Hi i t) n
HasForm A a own n (Lo i t) = HasSize (Lo i t) n
HasForm A a own n (PcHi i t) = n ≡ 4
HasForm A a own n (PcLo i from) = n ≡ 4
HasForm A a own n (Branch op first second to) = OfWay A a to (HasBranchSize (instr.Branch op first second) n)
HasForm A a own n (Jump rd to) = OfWay A a to (HasJumpSize rd n)
HasForm A a own n (Call rd temp to) = OfWay A a to (HasCallSize rd n)
HasForm A a own n (Align bytes) = a + n ≡ aligned_up (power_above bytes) a
HasForm A a own n (Word t) = n ≡ 4
HasForm A a own n (Raw word) = n ≡ 4
HasForm A a own n (RawShort half) = n ≡ 2
HasForm A a own n (RawPair first second) = n ≡ 8

-- ---- units

-- the register that a slot's jump links: x0 in the slots of jumps, and ra in those of calls (RISC-V Zc specification 1.0, "Zcmt")
abbrev pub linked_by : ℕ → ℕ
linked_by slot = if nat_lt slot 32 then 0 else 1

-- the item at a place is a jump or call that this slot of the table can serve: it links the slot's register, and goes to the
-- place that the slot leads to, which has an address
pub record IsSiteAt (L : TextLayout) (q : Place) (slot : ℕ) : Type 0 where
  pub item : Item
  pub is : item_at (parsed L.inputs) q ≡ Some item
  pub to : Place
  pub goes : jump_of item ≡ Some (linked_by slot, to)
  pub leads : slice_get L.slots slot ≡ Some (Some to)
  pub listed : is_some (L.address to) ≡ true

-- what is written at a place is the item there, the group whose first item that is, or a jump through the table
abbrev pub IsUnitAt : TextLayout → Place → CodeUnit → Type 0
IsUnitAt L q (OneItem i) = item_at (parsed L.inputs) q ≡ Some i
IsUnitAt L q (OneGroup g) = role_at (parsed L.inputs) q ≡ Some (First g)
IsUnitAt L q (OneSite slot) = IsSiteAt L q slot

-- what is written may take n bytes at an address, if the item there has `own` bytes in its object
abbrev pub UnitForm : (Place → Option ℕ) → (a own n : ℕ) → CodeUnit → Type 0
UnitForm A a own n (OneItem i) = HasForm A a own n i
UnitForm A a own n (OneGroup g) = n ≡ group_size g
UnitForm A a own n (OneSite slot) = n ≡ 2

-- ---- layouts

-- an item's instruction has no relocation, and two bytes in its object, if it is known before the layout
abbrev pub HasOwnHalf : (own : ℕ) → Item → Type 0
HasOwnHalf own item = (i : Instr) → fixed_instr item ≡ Some i → (own ≡ 2) × (item ≡ Op i)

-- a place inside a group: an item starts there, and it has no address
abbrev pub HasNoAddress : TextLayout → Place → Type 0
HasNoAddress L q = (is_start_at (parsed L.inputs).objects q ≡ true) × (L.address q ≡ None)

-- what is written at a place takes the bytes up to the place after it, in a form that it may have there; the places of its
-- further items have no addresses
pub record LiesAt (L : TextLayout) (q : Place) (a : ℕ) (u : CodeUnit) : Type 0 where
  pub is : IsUnitAt L q u
  pub size : ℕ
  pub next : L.address (behind L q) ≡ Some (a + size)
  pub form : UnitForm L.address a (size_at (parsed L.inputs).objects q) size u
  pub inside : (k : ℕ) → 0 < k → k < unit_items u → HasNoAddress L (after_items (parsed L.inputs).objects k q)

-- where the code of a section ends; if it isn't code, where the code before it ends
abbrev pub laid_section_end : TextLayout → ℕ → IndexedSection → ℕ
laid_section_end L end l = if is_code_section l.section then unwrap_or (L.address (place_of l (length l.section.bytes))) end else end

-- where the code of these sections ends, which come one after another, after the table and its stub
abbrev pub code_end_after : TextLayout → List IndexedSection → ℕ
code_end_after L sections = fold (laid_section_end L) (front_end L) sections

-- where all code ends
abbrev pub text_end : TextLayout → ℕ
text_end L = code_end_after L (all_sections (parsed L.inputs).objects)

-- each place that begins a basic block has an address, where an item starts or a section of code ends
abbrev pub ListsLeaders : ParsedInputs → (Place → Option ℕ) → Type 0
ListsLeaders inputs A = (q : Place) → is_target_at inputs.objects q ≡ true → is_leader_at inputs q ≡ true → is_some (A q) ≡ true

-- what a link needs of a layout
pub record IsLaidOut (L : TextLayout) : Type 0 where
  -- only places where an item starts or a section of code ends have addresses, and at least those that begin a basic block do
  pub only : (q : Place) → is_some (L.address q) ≡ true → is_target_at (parsed L.inputs).objects q ≡ true
  pub leaders : ListsLeaders (parsed L.inputs) L.address
  -- something is written where an item starts at a place with an address, and nowhere else
  pub written : (q : Place) → is_some (L.unit q) ≡ (is_some (L.address q) && is_start_at (parsed L.inputs).objects q)
  -- the program's start has an address, and the table has at most 256 slots
  pub start : L.address (entry_of (parsed L.inputs)) ≡ Some (start_address L)
  pub few : length L.slots ≤ 256
  -- addresses are even, and lie in the text, which is short enough for every jump
  pub even : (q : Place) (a : ℕ) → L.address q ≡ Some a → a % 2 ≡ 0
  pub low : (q : Place) (a : ℕ) → L.address q ≡ Some a → front_end L ≤ a
  pub high : (q : Place) (a : ℕ) → L.address q ≡ Some a → a ≤ text_end L
  pub short : text_end L ≤ L.inputs.map.text + 0x9_0000
  -- what is written lies between its place and the place after it
  pub each : (q : Place) (a : ℕ) (u : CodeUnit) → L.unit q ≡ Some u → L.address q ≡ Some a → LiesAt L q a u
  -- where halfwords are kept, an instruction that is known before the layout is written in two bytes only if these can be kept
  pub kept :
      (q : Place) (item : Item) → L.keeps_halfwords q ≡ true → L.unit q ≡ Some (OneItem item) → size_in L q ≡ 2
      → HasOwnHalf (size_at (parsed L.inputs).objects q) item
  -- a section begins no earlier than those before it end
  pub begins :
      (o i : ℕ) (s : SectionParts) → section_at (parsed L.inputs).objects o i ≡ Some s → is_code_section s ≡ true
      → code_end_after L (sections_before (parsed L.inputs).objects o i) ≤ unwrap_or (L.address (place_at o i 0)) 0
  -- two items that have room of their own have different addresses
  pub distinct :
      (q r : Place) (a : ℕ) → is_solid (item_at (parsed L.inputs) q) ≡ true → is_solid (item_at (parsed L.inputs) r) ≡ true
      → L.address q ≡ Some a → L.address r ≡ Some a → q ≡ r
