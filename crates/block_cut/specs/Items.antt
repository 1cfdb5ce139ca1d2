-- What the bytes and relocations of objects mean at places in code (System V gABI, "Sections"; RISC-V ELF psABI, "Relocations";
-- RISC-V unprivileged manual, "Base Instruction Formats" and "Control Transfer Instructions").
use Rattle.std.specs.Prelude.{ℕ, zero, suc, ◌+◌, ℤ, pos, negsuc, ◌+ℤ◌, Bool, false, ◌||◌, ◌==◌, nat_lt, if◌then◌else◌, List, [], ◌∷◌, ◌++◌, filter, length, map, Option, Some, None}
use Rattle.std.specs.List.{flat_map, list_any}
use Rattle.std.specs.Option.{option_and_then, option_map_or, unwrap_or}
use Rattle.zc_base.specs.Fields.{half_in, word_in}
use Rattle.zc_base.specs.declared.place.Place.{Place}
use Rattle.elf32_read.specs.Parts.{ObjectParts, SectionParts, is_code_section}
use Rattle.elf32_read.specs.declared.reloc.Reloc.{Reloc}
use Rattle.psabi_sym.specs.Inputs.{ParsedInputs}
use Rattle.psabi_sym.specs.Indexed.{IndexedSection, all_sections, section_at}
use Rattle.psabi_sym.specs.Resolve.{name_target, resolved}
use Rattle.psabi_sym.specs.Start.{start_name}
use Rattle.psabi_sym.specs.declared.target.Target.{Target}
use Rattle.psabi_sym.specs.declared.target.Target.TheVariants.{Code, Number, Absent, Nowhere}
use Rattle.psabi_reloc.specs.Kinds.{kind_of, padding_length}
use Rattle.psabi_reloc.specs.declared.kind.RelocKind.{RelocKind}
use Rattle.psabi_reloc.specs.declared.kind.RelocKind.TheVariants as kind
use Rattle.rv_decode.specs.declared.instr.Instr.{Instr}
use Rattle.rv_decode.specs.declared.instr.Instr.TheVariants as instr
use Rattle.block_cut.specs.Relocs.{field_of, instr_in, reloc_on}
use Rattle.block_cut.specs.CodeSizes.{own_size}
use Rattle.block_cut.specs.declared.item.Item.{Item}
use Rattle.block_cut.specs.declared.item.Item.TheVariants.{Op, Hi, Lo, PcHi, PcLo, Branch, Jump, Call, Align, Word, Raw, RawShort, RawPair}

-- ---- sections of code

-- the section of code that a place lies in
abbrev pub code_at : List ObjectParts → Place → Option SectionParts
code_at objects q = option_and_then (λ s. if is_code_section s then Some s else None) (section_at objects q.object q.section)

-- ---- places

-- the number of bytes of the item at an offset of a section: those that its relocation changes, or else its own
abbrev pub size_on : SectionParts → ℕ → ℕ
size_on s n = option_map_or field_of (reloc_on s n) (own_size s.compressed s.bytes n)

-- the offsets where items start, from one on: each after the item before it, up to the section's end
abbrev pub starts_from : ℕ → SectionParts → ℕ → List ℕ
starts_from zero s n = []
starts_from (suc fuel) s n = if nat_lt n (length s.bytes) then n ∷ starts_from fuel s (n + size_on s n) else []

-- all offsets where a section's items start; there are no more of them than bytes
unfoldable pub starts_in : SectionParts → List ℕ
starts_in s = starts_from (length s.bytes) s 0

-- whether an item starts at an offset of a section
abbrev pub starts_on : SectionParts → ℕ → Bool
starts_on s n = list_any (λ m. m == n) (starts_in s)

-- the number of a section's items that start before an offset
abbrev pub index_on : SectionParts → ℕ → ℕ
index_on s n = length (filter (λ m. nat_lt m n) (starts_in s))

-- the number of bytes of the item at a place
abbrev pub size_at : List ObjectParts → Place → ℕ
size_at objects q = option_map_or (λ s. size_on s q.offset) (code_at objects q) 4

-- the place after the item at a place
abbrev pub next_at : List ObjectParts → Place → Place
next_at objects q = record q { offset = q.offset + size_at objects q }

-- the place after n items from a place on
abbrev pub after_items : List ObjectParts → ℕ → Place → Place
after_items objects zero q = q
after_items objects (suc n) q = after_items objects n (next_at objects q)

-- whether an item starts at a place
abbrev pub is_start_at : List ObjectParts → Place → Bool
is_start_at objects q = option_map_or (λ s. starts_on s q.offset) (code_at objects q) false

-- the place after the item that starts at a place; none if none starts there
abbrev pub place_after : List ObjectParts → Place → Option Place
place_after objects q = if is_start_at objects q then Some (next_at objects q) else None

-- whether a place is the end of a section of code
abbrev pub is_end_at : List ObjectParts → Place → Bool
is_end_at objects q = option_map_or (λ s. q.offset == length s.bytes) (code_at objects q) false

-- whether code may lead to a place: an item starts there, or its section ends there
abbrev pub is_target_at : List ObjectParts → Place → Bool
is_target_at objects q = is_start_at objects q || is_end_at objects q

-- the place at an offset in the section of another; none before the section's start
abbrev pub place_on : Place → ℤ → Option Place
place_on q (pos n) = Some (record q { offset = n })
place_on q (negsuc n) = None

-- ---- items without relocation

-- the place at a distance in its section, if code may lead there
abbrev pub target_away : List ObjectParts → Place → ℤ → Option Place
target_away objects q distance =
    option_and_then (λ to. if is_target_at objects to then Some to else None) (place_on q (pos q.offset +ℤ distance))

-- 2 or 4 bytes that are copied unread
abbrev pub raw_in : ℕ → List ℕ → ℕ → Item
raw_in size bytes n = if size == 2 then RawShort (half_in bytes n) else Raw (word_in bytes n)

-- what the instruction at a place is: a branch or `jal` goes to a place, or else its bytes are copied unread; so is a write to jvt;
-- all others stand for themselves
abbrev pub instr_item : List ObjectParts → Place → Instr → Item → Item
instr_item objects q (instr.Upper op rd imm) raw = Op (instr.Upper op rd imm)
instr_item objects q (instr.Jal rd distance) raw = option_map_or (Jump rd) (target_away objects q distance) raw
instr_item objects q (instr.Jalr rd base imm) raw = Op (instr.Jalr rd base imm)
instr_item objects q (instr.Branch op first second distance) raw =
    option_map_or (Branch op first second) (target_away objects q distance) raw
instr_item objects q (instr.Load op rd base imm) raw = Op (instr.Load op rd base imm)
instr_item objects q (instr.Store op source base imm) raw = Op (instr.Store op source base imm)
instr_item objects q (instr.WithImm op rd first imm) raw = Op (instr.WithImm op rd first imm)
instr_item objects q (instr.WithReg op rd first second) raw = Op (instr.WithReg op rd first second)
instr_item objects q (instr.Fence rest) raw = Op (instr.Fence rest)
instr_item objects q instr.Ecall raw = Op instr.Ecall
instr_item objects q instr.Ebreak raw = Op instr.Ebreak
instr_item objects q (instr.Csrrw rd source) raw = raw

-- the item at a place: that of its instruction, or else bytes that are copied unread
abbrev pub spelled_item : List ObjectParts → Place → Option Instr → Item → Item
spelled_item objects q None raw = raw
spelled_item objects q (Some i) raw = instr_item objects q i raw

-- ---- items with one

-- the item that goes to a place, or another, which goes nowhere: a weak symbol that no object defines is no place
abbrev pub to_place : Target → (Place → Item) → Item → Item
to_place (Code to) item other = item to
to_place (Number n) item other = other
to_place (Absent n) item other = other
to_place Nowhere item other = other

-- the branch or jump to a place that an instruction is, or else another item
abbrev pub transfer_item : Instr → Item → Place → Item
transfer_item (instr.Branch op first second distance) other to = Branch op first second to
transfer_item (instr.Jal rd distance) other to = Jump rd to
transfer_item i other to = other

-- the branch or jump to a target that the `size` bytes at an offset are
abbrev pub transfer_under : ℕ → Target → List ℕ → ℕ → Item
transfer_under size t bytes n =
    option_map_or (λ i. to_place t (transfer_item i (raw_in size bytes n)) (raw_in size bytes n)) (instr_in size bytes n) (raw_in size bytes n)

-- the call that an `auipc` and a `jalr` are
abbrev pub call_item : Option Instr → Option Instr → Item → Place → Item
call_item (Some (instr.Upper op temp upper)) (Some (instr.Jalr rd base lower)) other to = Call rd temp to
call_item first second other to = other

-- two words that are copied unread
abbrev pub raw_pair : List ℕ → ℕ → Item
raw_pair bytes n = RawPair (word_in bytes n) (word_in bytes (n + 4))

-- what the bytes at an offset are with a relocation of this kind to this target; a kind that isn't known says nothing
abbrev pub known_item : Option RelocKind → ℤ → Target → List ℕ → ℕ → Item
known_item None addend t bytes n = raw_in 4 bytes n
known_item (Some kind.Ignored) addend t bytes n = raw_in 4 bytes n
known_item (Some kind.Word) addend t bytes n = Word t
known_item (Some kind.Branch) addend t bytes n = transfer_under 4 t bytes n
known_item (Some kind.Jal) addend t bytes n = transfer_under 4 t bytes n
known_item (Some kind.Call) addend t bytes n =
    to_place t (call_item (instr_in 4 bytes n) (instr_in 4 bytes (n + 4)) (raw_pair bytes n)) (raw_pair bytes n)
known_item (Some kind.PcrelHi20) addend t bytes n = option_map_or (λ i. PcHi i t) (instr_in 4 bytes n) (raw_in 4 bytes n)
known_item (Some kind.PcrelLo12I) addend t bytes n =
    option_map_or (λ i. to_place t (PcLo i) (raw_in 4 bytes n)) (instr_in 4 bytes n) (raw_in 4 bytes n)
known_item (Some kind.PcrelLo12S) addend t bytes n =
    option_map_or (λ i. to_place t (PcLo i) (raw_in 4 bytes n)) (instr_in 4 bytes n) (raw_in 4 bytes n)
known_item (Some kind.Hi20) addend t bytes n = option_map_or (λ i. Hi i t) (instr_in 4 bytes n) (raw_in 4 bytes n)
known_item (Some kind.Lo12I) addend t bytes n = option_map_or (λ i. Lo i t) (instr_in 4 bytes n) (raw_in 4 bytes n)
known_item (Some kind.Lo12S) addend t bytes n = option_map_or (λ i. Lo i t) (instr_in 4 bytes n) (raw_in 4 bytes n)
known_item (Some kind.RvcBranch) addend t bytes n = transfer_under 2 t bytes n
known_item (Some kind.RvcJump) addend t bytes n = transfer_under 2 t bytes n
known_item (Some kind.Align) addend t bytes n = Align (padding_length addend)

-- ---- items

-- what a relocation's symbol, with its addend, resolves to, by its object
abbrev pub target_of : ParsedInputs → ℕ → Reloc → Target
target_of inputs o r = resolved inputs o r.symbol r.addend

-- the item at a place, by its relocation and its bytes; without a relocation it has `size` bytes
abbrev pub item_under : ParsedInputs → Place → Option Reloc → ℕ → List ℕ → Item
item_under inputs q None size bytes = spelled_item inputs.objects q (instr_in size bytes q.offset) (raw_in size bytes q.offset)
item_under inputs q (Some r) size bytes = known_item (kind_of r.kind) r.addend (target_of inputs q.object r) bytes q.offset

-- the item that starts at a place of a section
abbrev pub item_in : ParsedInputs → SectionParts → Place → Item
item_in inputs s q = item_under inputs q (reloc_on s q.offset) (size_on s q.offset) s.bytes

-- the item at a place; none if no item of code starts there
unfoldable pub item_at : ParsedInputs → Place → Option Item
item_at inputs q = option_and_then (λ s. if starts_on s q.offset then Some (item_in inputs s q) else None) (code_at inputs.objects q)

-- ---- all items

-- a place in a section
abbrev pub place_of : IndexedSection → ℕ → Place
place_of l n = record { object = l.object; section = l.index; offset = n }

-- the places of a section where items start, in order; what isn't code has none
abbrev pub places_of : IndexedSection → List Place
places_of l = if is_code_section l.section then map (place_of l) (starts_in l.section) else []

-- the places of all code where items start, by object, section and offset
abbrev pub all_places : List ObjectParts → List Place
all_places objects = flat_map places_of (all_sections objects)

-- the offsets in a section of code that code may lead to, in order: where its items start, and at last its end
abbrev pub targets_in : SectionParts → List ℕ
targets_in s = starts_in s ++ length s.bytes ∷ []

-- the places of a section that code may lead to; what isn't code has none
abbrev pub targets_of : IndexedSection → List Place
targets_of l = if is_code_section l.section then map (place_of l) (targets_in l.section) else []

-- the places of all code that code may lead to, by object, section and offset
abbrev pub all_targets : List ObjectParts → List Place
all_targets objects = flat_map targets_of (all_sections objects)

-- the items of a section, in order
abbrev pub items_in : ParsedInputs → IndexedSection → List Item
items_in inputs l = map (item_in inputs l.section) (places_of l)

-- the items of all code
abbrev pub all_items : ParsedInputs → List Item
all_items inputs = flat_map (items_in inputs) (all_sections inputs.objects)

-- ---- where a program starts

-- the place that a target is, if an item starts there
abbrev pub start_only : List ObjectParts → Target → Option Place
start_only objects (Code p) = if is_start_at objects p then Some p else None
start_only objects (Number n) = None
start_only objects (Absent addend) = None
start_only objects Nowhere = None

-- the place of `_start`, if an item starts there
abbrev pub entry_in : ParsedInputs → Option Place
entry_in inputs = start_only inputs.objects (name_target inputs start_name)

-- where a program starts; objects that have no such place are refused
abbrev pub entry_of : ParsedInputs → Place
entry_of inputs = unwrap_or (entry_in inputs) (record { object = 0; section = 0; offset = 0 })
