-- Objects whose code shares equal tails.
use Rattle.std.specs.Prelude.{ℕ, ℤ, pos, ◌+◌, ◌-◌, ◌-ℤ◌, Bool, true, false, not, ◌&&◌, ◌==◌, if◌then◌else◌, List, [], length, filter, map, take, drop, Option, Some, None}
use Rattle.std.specs.List.{enumerate_from, find, flat_map, list_any}
use Rattle.std.specs.Option.{option_map_or, unwrap_or}
use Rattle.zc_base.specs.Fields.{half_bytes, word_bytes}
use Rattle.zc_base.specs.declared.place.Place.{Place}
use Rattle.rv_decode.specs.declared.instr.Instr.{Instr}
use Rattle.rv_decode.specs.declared.instr.Instr.TheVariants as instr
use Rattle.rv_encode.specs.Words.{encoded}
use Rattle.zc_decode.specs.declared.short.Short.TheVariants.{Base}
use Rattle.zc_encode.specs.Halves.{encoded16}
use Rattle.elf32_read.specs.Parts.{ObjectParts, SectionParts, SymbolParts, is_code_section, is_kept_section}
use Rattle.elf32_read.specs.declared.reloc.Reloc.{Reloc}
use Rattle.psabi_reloc.specs.Kinds.{kind_of}
use Rattle.psabi_reloc.specs.declared.kind.RelocKind.{RelocKind}
use Rattle.psabi_reloc.specs.declared.kind.RelocKind.TheVariants.{Align}
use Rattle.psabi_sym.specs.Inputs.{ParsedInputs}
use Rattle.psabi_sym.specs.Indexed.{IndexedSection, all_sections, section_at, symbol_at}
use Rattle.psabi_sym.specs.Names.{goes_by_name}
use Rattle.psabi_sym.specs.Resolve.{Definition, InObject, AtNumber, name_definition}
use Rattle.psabi_sym.specs.declared.target.Target.{Target}
use Rattle.psabi_sym.specs.declared.target.Target.TheVariants.{Code, Number, Absent, Nowhere}
use Rattle.block_cut.specs.Items.{targets_in, target_of}
use Rattle.block_cut.specs.Relocs.{reloc_on}
use Rattle.block_cut.specs.Resolved.{asks}
use Rattle.block_cut.specs.declared.item.Item.{Item}
use Rattle.block_cut.specs.declared.item.Item.TheVariants.{Branch, Jump}
use Rattle.moved_runs.specs.Passes.{home_of, new_number, passed_from, renumbered}
use Rattle.tail_merge.specs.Tails.{CodeItem, Removed, code_items, covers, first_offset, merged_offset, moved_down, removed_tails, saved_bytes, tail_start}

-- ---- sections by their places

-- a section by its object's index and its own
abbrev pub indexed : ℕ → ℕ → SectionParts → IndexedSection
indexed o i s = record { object = o; index = i; section = s }

-- the tails that are removed from a section; what isn't code has none
abbrev pub removed_in : ParsedInputs → IndexedSection → List Removed
removed_in inputs l = if is_code_section l.section then removed_tails inputs l else []

-- the same by its object's index and its own
abbrev pub removed_at : ParsedInputs → ℕ → ℕ → List Removed
removed_at inputs o i = option_map_or (λ s. removed_in inputs (indexed o i s)) (section_at inputs.objects o i) []

-- where a place of code is found in the result
abbrev pub merged_place : ParsedInputs → Place → Place
merged_place inputs q = record {
  object = q.object;
  section = renumbered inputs.objects q.object q.section;
  offset = merged_offset (removed_at inputs q.object q.section) q.offset;
}

-- ---- bytes

-- an instruction in 2 bytes, or else in 4
abbrev pub instr_bytes : ℕ → Instr → List ℕ
instr_bytes size i = if size == 2 then half_bytes (unwrap_or (encoded16 (Base i)) 0) else word_bytes (encoded i)

-- a branch or jump without relocation at its new distance, and none of another item
abbrev pub transfer_instr : (Place → ℤ) → Item → Option Instr
transfer_instr distance (Branch op first second to) = Some (instr.Branch op first second (distance to))
transfer_instr distance (Jump rd to) = Some (instr.Jal rd (distance to))
transfer_instr distance item = None

-- the distance from an offset of a section to a place of it, in the result
abbrev pub new_distance : List Removed → ℕ → Place → ℤ
new_distance removed n to = pos (merged_offset removed to.offset) -ℤ pos (moved_down removed n)

-- an item that stays: as it is, but that a branch or jump without relocation gets its new distance
abbrev pub kept_bytes : List Removed → SectionParts → CodeItem → List ℕ
kept_bytes removed s c =
    let own = take c.size (drop c.offset s.bytes) in
    option_map_or (λ r. own) (reloc_on s c.offset)
    (option_map_or (instr_bytes c.size) (transfer_instr (new_distance removed c.offset) c.item) own)

-- the jump to the host's tail
abbrev pub jump_bytes : List Removed → Removed → List ℕ
jump_bytes removed r = word_bytes (encoded (instr.Jal 0 (pos (moved_down removed (first_offset r.host)) -ℤ pos (moved_down removed (tail_start r)))))

-- what is written for an item: a jump for the first of a removed tail, and nothing for the later ones
abbrev pub item_bytes : List Removed → SectionParts → CodeItem → List ℕ
item_bytes removed s c =
    option_map_or (λ r. if c.offset == tail_start r then jump_bytes removed r else [])
    (find (covers c.offset) removed) (kept_bytes removed s c)

abbrev pub merged_bytes : ParsedInputs → IndexedSection → List ℕ
merged_bytes inputs l = let removed = removed_tails inputs l in flat_map (item_bytes removed l.section) (code_items inputs l)

-- ---- symbols

-- an item starts there, or the section ends
abbrev pub is_edge : SectionParts → ℕ → Bool
is_edge s n = list_any (λ m. m == n) (targets_in s)

-- in code: its offset and its end move, and one that doesn't begin and end where items do gets no size
abbrev pub symbol_in_code : List Removed → SectionParts → SymbolParts → SymbolParts
symbol_in_code removed home s =
    let value = moved_down removed s.value in
    record s { value = value; size = if is_edge home s.value && is_edge home (s.value + s.size) then moved_down removed (s.value + s.size) - value else 0 }

-- a symbol in a section: a number by itself (ABS, 0xFFF1), which is 0, if that is dropped
abbrev pub symbol_in : List Removed → ℕ → SymbolParts → SectionParts → SymbolParts
symbol_in removed number s home =
    if not (is_kept_section home) then record s { value = 0; home = 0xFFF1 }
    else record (if is_code_section home then symbol_in_code removed home s else s) { home = number }

abbrev pub merged_symbol : ParsedInputs → ℕ → ObjectParts → SymbolParts → SymbolParts
merged_symbol inputs o object s =
    option_map_or (symbol_in (removed_at inputs o s.home) (new_number object.sections s.home) s) (home_of object s) s

-- ---- relocations

-- what defines a symbol: itself if it is local, and else what its name stands for
abbrev pub definition_of : ParsedInputs → ℕ → ℕ → SymbolParts → Option Definition
definition_of inputs o i s = if goes_by_name s then name_definition inputs s.name else Some (InObject (record { object = o; index = i; symbol = s }))

-- the new value of a symbol in code that defines another
abbrev pub defining_value : ParsedInputs → Option Definition → ℕ
defining_value inputs None = 0
defining_value inputs (Some (InObject l)) = moved_down (removed_at inputs l.object l.symbol.home) l.symbol.value
defining_value inputs (Some (AtNumber n)) = 0

abbrev pub new_value : ParsedInputs → ℕ → ℕ → ℕ
new_value inputs o i = option_map_or (λ s. defining_value inputs (definition_of inputs o i s)) (symbol_at inputs.objects o i) 0

abbrev pub is_align_kind : Option RelocKind → Bool
is_align_kind (Some Align) = true
is_align_kind other = false

-- the addend that leads to where a place of code is found
abbrev pub addend_to : ParsedInputs → ℕ → Reloc → Target → ℤ
addend_to inputs o r (Code p) = pos (merged_place inputs p).offset -ℤ pos (new_value inputs o r.symbol)
addend_to inputs o r (Number n) = r.addend
addend_to inputs o r (Absent n) = r.addend
addend_to inputs o r Nowhere = r.addend

abbrev pub merged_reloc : ParsedInputs → ℕ → List Removed → Reloc → Reloc
merged_reloc inputs o removed r = record r {
  offset = moved_down removed r.offset;
  addend = if is_align_kind (kind_of r.kind) then r.addend else addend_to inputs o r (target_of inputs o r);
}

-- those that ask for something
abbrev pub merged_relocs : ParsedInputs → IndexedSection → List Reloc
merged_relocs inputs l =
    map (merged_reloc inputs l.object (removed_at inputs l.object l.index)) (filter asks l.section.relocs)

-- ---- objects

-- a kept section: code with the bytes that are left of it, and any section with its relocations as they become
abbrev pub merged_section : ParsedInputs → ℕ → ℕ → SectionParts → SectionParts
merged_section inputs o i s =
    let moved = record s { relocs = merged_relocs inputs (indexed o i s) } in
    if is_code_section s then (let bytes = merged_bytes inputs (indexed o i s) in record moved { size = length bytes; bytes = bytes }) else moved

-- the parts of an object's result, with the same e_flags: its kept sections in order, and its symbols; symbol 0 is no part
abbrev pub merged_object : ParsedInputs → ℕ → ObjectParts → ObjectParts
merged_object inputs o object = record {
  flags = object.flags;
  sections = passed_from (merged_section inputs o) 0 object.sections;
  symbols = map (merged_symbol inputs o object) (drop 1 object.symbols);
}

-- those of all objects
abbrev pub merged : ParsedInputs → List ObjectParts
merged inputs = map (λ e. merged_object inputs e.0 e.1) (enumerate_from 0 inputs.objects)

-- ---- counts

-- the tails that are removed from all sections, in order
abbrev pub all_removed : ParsedInputs → List Removed
all_removed inputs = flat_map (removed_in inputs) (all_sections inputs.objects)

-- how many tails are removed, and how many bytes fewer there are
abbrev pub tail_count : ParsedInputs → ℕ
tail_count inputs = length (all_removed inputs)

abbrev pub byte_count : ParsedInputs → ℕ
byte_count inputs = saved_bytes (all_removed inputs)
