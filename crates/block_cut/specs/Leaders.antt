-- Where basic blocks begin: what the link may not take into the middle of something longer.
use Rattle.std.specs.Prelude.{ℕ, Bool, true, false, not, ◌&&◌, ◌||◌, ◌==◌, List}
use Rattle.std.specs.List.{list_any}
use Rattle.std.specs.Option.{option_map_or}
use Rattle.zc_base.specs.Places.{same_place}
use Rattle.zc_base.specs.declared.place.Place.{Place}
use Rattle.elf32_read.specs.Parts.{ObjectParts, is_code_section}
use Rattle.elf32_read.specs.declared.reloc.Reloc.{Reloc}
use Rattle.psabi_sym.specs.Inputs.{ParsedInputs}
use Rattle.psabi_sym.specs.Indexed.{IndexedSection, IndexedSymbol, all_sections, all_symbols, section_at}
use Rattle.psabi_sym.specs.declared.target.Target.{Target}
use Rattle.psabi_sym.specs.declared.target.Target.TheVariants.{Code, Number, Absent, Nowhere}
use Rattle.psabi_reloc.specs.Kinds.{kind_of}
use Rattle.rv_decode.specs.declared.instr.Instr.{Instr}
use Rattle.rv_decode.specs.declared.instr.Instr.TheVariants as instr
use Rattle.block_cut.specs.Items.{all_places, is_target_at, item_at, next_at, target_of}
use Rattle.block_cut.specs.Relocs.{is_ignored}
use Rattle.block_cut.specs.declared.item.Item.{Item}
use Rattle.block_cut.specs.declared.item.Item.TheVariants.{Op, Lo, PcLo, Branch, Jump, Call}

-- ---- targets of relocations

-- a target is this place
abbrev pub is_place : Place → Target → Bool
is_place q (Code to) = same_place to q
is_place q (Number n) = false
is_place q (Absent n) = false
is_place q Nowhere = false

-- a relocation that asks for something leads to a place
abbrev pub reloc_leads : ParsedInputs → Place → ℕ → Reloc → Bool
reloc_leads inputs q o r = not (is_ignored (kind_of r.kind)) && is_place q (target_of inputs o r)

-- one of a section's relocations leads to a place; a section that is dropped has none
abbrev pub section_leads : ParsedInputs → Place → IndexedSection → Bool
section_leads inputs q l = list_any (reloc_leads inputs q l.object) l.section.relocs

-- ---- items that lead somewhere

-- an instruction is a `jalr`
abbrev pub is_jalr : Instr → Bool
is_jalr (instr.Jalr rd base imm) = true
is_jalr i = false

-- a basic block ends with the item: a branch, a jump, a call, or a `jalr`
abbrev pub ends_block : Item → Bool
ends_block (Op i) = is_jalr i
ends_block (Lo i t) = is_jalr i
ends_block (PcLo i from) = is_jalr i
ends_block (Branch op first second to) = true
ends_block (Jump rd to) = true
ends_block (Call rd temp to) = true
ends_block item = false

-- the place that a branch or jump leads to is this one
abbrev pub goes_to : Place → Item → Bool
goes_to q (Branch op first second to) = same_place to q
goes_to q (Jump rd to) = same_place to q
goes_to q (Call rd temp to) = same_place to q
goes_to q item = false

-- what stands at a place leads to another: it goes there, or it ends a block and the other is next
abbrev pub item_leads : ParsedInputs → Place → Place → Bool
item_leads inputs q p =
    option_map_or (λ i. goes_to q i || (ends_block i && same_place (next_at inputs.objects p) q)) (item_at inputs p) false

-- ---- symbols

-- a symbol is global (1) or weak (2), or a function (STT_FUNC, 2), and defined (SHN_UNDEF is 0) at this place of a section of
-- code
abbrev pub symbol_leads : List ObjectParts → Place → IndexedSymbol → Bool
symbol_leads objects q l =
    not (l.symbol.home == 0) && (l.symbol.bind == 1 || (l.symbol.bind == 2 || l.symbol.kind == 2))
    && (same_place (record { object = l.object; section = l.symbol.home; offset = l.symbol.value }) q
    && option_map_or is_code_section (section_at objects l.object l.symbol.home) false)

-- ---- leaders

-- a relocation, an item or a symbol leads to a place
abbrev pub is_led_to : ParsedInputs → Place → Bool
is_led_to inputs q =
    list_any (section_leads inputs q) (all_sections inputs.objects)
    || (list_any (item_leads inputs q) (all_places inputs.objects) || list_any (symbol_leads inputs.objects q) (all_symbols inputs.objects))

-- a basic block begins at a place: at a section's start, where a relocation, a branch or a jump leads, after what ends a block,
-- and where a symbol is defined that others may use or that is a function
unfoldable pub is_leader_at : ParsedInputs → Place → Bool
is_leader_at inputs q = (q.offset == 0 && is_target_at inputs.objects q) || is_led_to inputs q
