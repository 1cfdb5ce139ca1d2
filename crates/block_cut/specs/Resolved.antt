-- Relocations as they are decided once: what each asks for, what it resolves to, and what is wrong with it by itself.
use Rattle.std.specs.Prelude.{ℕ, pos, Bool, true, false, not, ◌&&◌, ◌==◌, min, if◌then◌else◌, List, [], filter, map, Option, Some, None}
use Rattle.elf32_read.specs.Parts.{ObjectParts, SectionParts, is_code_section}
use Rattle.elf32_read.specs.declared.fault.Fault.{Fault}
use Rattle.elf32_read.specs.declared.fault.Fault.TheVariants.{RelocKind, RelocPlace, LoPair, BadTarget}
use Rattle.elf32_read.specs.declared.reloc.Reloc.{Reloc}
use Rattle.psabi_sym.specs.Inputs.{ParsedInputs}
use Rattle.psabi_sym.specs.Indexed.{IndexedSection}
use Rattle.psabi_reloc.specs.Kinds.{kind_of}
use Rattle.block_cut.specs.Faults.{if_so, is_bad_target, lacks_pcrel_hi}
use Rattle.block_cut.specs.Items.{known_item, starts_on, target_of}
use Rattle.block_cut.specs.Relocs.{field_of, is_bad_kind, is_bad_place, is_ignored, is_transfer}
use Rattle.block_cut.specs.declared.item.Item.{Item}
use Rattle.block_cut.specs.declared.resolved_reloc.RelocFault.{RelocFault}
use Rattle.block_cut.specs.declared.resolved_reloc.RelocFault.TheVariants.{Kind, Place, Pair}
use Rattle.block_cut.specs.declared.resolved_reloc.ResolvedReloc.{ResolvedReloc}

-- a relocation asks for something
abbrev pub asks : Reloc → Bool
asks r = not (is_ignored (kind_of r.kind))

-- what is wrong with a relocation by itself, whatever starts where it stands
abbrev pub own_fault : ParsedInputs → IndexedSection → Reloc → Option RelocFault
own_fault inputs l r =
    if is_bad_kind l.section (kind_of r.kind) then Some Kind
    else (if is_bad_place l.section r then Some Place else (if lacks_pcrel_hi inputs l r then Some Pair else None))

-- a relocation of a section, decided
abbrev pub resolved_reloc : ParsedInputs → IndexedSection → Reloc → ResolvedReloc
resolved_reloc inputs l r = record {
  target = target_of inputs l.object r;
  offset = r.offset;
  size = min 255 (field_of r);
  kind = kind_of r.kind;
  fault = own_fault inputs l r;
}

-- a section's relocations that ask for something, in order
abbrev pub resolved_relocs : ParsedInputs → IndexedSection → List ResolvedReloc
resolved_relocs inputs l = map (resolved_reloc inputs l) (filter asks l.section.relocs)

-- what is wrong with a relocation once it is known where items start: its place is, if none starts there
abbrev pub placed_fault : Bool → Option RelocFault → Option RelocFault
placed_fault strays (Some Kind) = Some Kind
placed_fault strays other = if strays then Some Place else other

abbrev pub placed_reloc : SectionParts → ResolvedReloc → ResolvedReloc
placed_reloc s d = record d { fault = placed_fault (is_code_section s && not (starts_on s d.offset)) d.fault }

-- a section's relocations with all that is wrong with them by themselves
abbrev pub placed_relocs : ParsedInputs → IndexedSection → List ResolvedReloc
placed_relocs inputs l = map (placed_reloc l.section) (resolved_relocs inputs l)

-- the relocations that are kept until all code is cut; what isn't code has none
abbrev pub code_relocs : ParsedInputs → IndexedSection → List ResolvedReloc
code_relocs inputs l = if is_code_section l.section then placed_relocs inputs l else []

-- the fault for what is wrong with a relocation at an offset of a section; if nothing is, the other one
abbrev pub fault_of : Option RelocFault → Option Fault → ℕ → ℕ → Option Fault
fault_of (Some Kind) other i n = Some (RelocKind i n)
fault_of (Some Place) other i n = Some (RelocPlace i n)
fault_of (Some Pair) other i n = Some (LoPair i n)
fault_of None other i n = other

-- the first fault of a section's relocations, by the section's index
abbrev pub resolved_fault : List ObjectParts → ℕ → ResolvedReloc → Option Fault
resolved_fault objects i d = fault_of d.fault (if_so (is_bad_target objects (is_transfer d.kind) d.target) (BadTarget i d.offset)) i d.offset

-- a relocation decides the item at its offset: its kind and its place are right
abbrev pub is_right : Option RelocFault → Bool
is_right (Some Kind) = false
is_right (Some Place) = false
is_right other = true

-- a relocation decides the item at this offset
abbrev pub is_right_at : ℕ → ResolvedReloc → Bool
is_right_at n d = is_right d.fault && d.offset == n

-- the item at an offset of a section with these bytes, by the relocation that decides it
abbrev pub resolved_item : ResolvedReloc → List ℕ → ℕ → Item
resolved_item d bytes n = known_item d.kind (pos d.size) d.target bytes n
