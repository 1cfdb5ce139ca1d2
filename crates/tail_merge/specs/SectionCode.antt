-- What is written for the items of a section of code whose tails are shared.
use Rattle.std.specs.Prelude.{◌≡◌, ◌≤◌, ℕ, ℤ, pos, ◌-ℤ◌, true, List, [], drop, filter, map, take, Option, Some, None}
use Rattle.zc_base.specs.declared.place.Place.{Place}
use Rattle.elf32_read.specs.Parts.{SectionParts, is_code_section}
use Rattle.rv_decode.specs.Immediates.{InRange}
use Rattle.psabi_sym.specs.Inputs.{Inputs, ParsedInputs, parsed}
use Rattle.psabi_sym.specs.Indexed.{IndexedSection, section_at}
use Rattle.block_cut.specs.Faults.{first_fault}
use Rattle.block_cut.specs.Invariants.Fields.{IsSortedOf}
use Rattle.block_cut.specs.Items.{size_on, starts_on}
use Rattle.block_cut.specs.Places.{code_place}
use Rattle.block_cut.specs.Resolved.{asks}
use Rattle.block_cut.specs.declared.code_place.CodePlace.{CodePlace}
use Rattle.block_cut.specs.declared.item.Item.{Item}
use Rattle.block_cut.specs.declared.item.Item.TheVariants.{Branch, Jump}
use Rattle.tail_merge.specs.Merged.{instr_bytes, item_bytes}
use Rattle.tail_merge.specs.MovedTails.{AreMovedTails}
use Rattle.tail_merge.specs.Tails.{Removed, code_item, moved_down, removed_tails}
use Rattle.tail_merge.specs.declared.moved_tail.MovedTail.{MovedTail}
use Rattle.tail_merge.specs.declared.section_code.ItemForm.{ItemForm}
use Rattle.tail_merge.specs.declared.section_code.ItemForm.TheVariants.{Own, Nothing, Spelled}

-- where the relocations stand that ask for something
abbrev pub asking_offsets : SectionParts → List ℕ
asking_offsets s = map (λ r. r.offset) (filter asks s.relocs)

-- the bytes of a form, by those that the item has
abbrev pub form_bytes : List ℕ → ItemForm → List ℕ
form_bytes own Own = own
form_bytes own Nothing = []
form_bytes own (Spelled i size) = instr_bytes size i

-- the instruction of a form has a word
abbrev pub HasFormWord : ItemForm → Type 0
HasFormWord (Spelled i size) = InRange i
HasFormWord form = Unit {0}

-- a section of code of objects without a fault, with the table of its removed tails and the offsets of its relocations, in order
pub record IsTabled (inputs : Inputs) (l : IndexedSection) (tails : List MovedTail) (relocs : List ℕ) : Type 0 where
  pub faultless : first_fault inputs ≡ None
  pub there : section_at (parsed inputs).objects l.object l.index ≡ Some l.section
  pub code : is_code_section l.section ≡ true
  pub table : AreMovedTails (parsed inputs) l tails
  pub offsets : IsSortedOf (asking_offsets l.section) relocs

-- the place of an item of a section
pub record IsPlaceInCode (inputs : ParsedInputs) (l : IndexedSection) (place : CodePlace) : Type 0 where
  pub is : place ≡ code_place inputs l place.offset
  pub start : starts_on l.section place.offset ≡ true

-- what is written for the item at an offset
pub record IsFormOf (inputs : ParsedInputs) (l : IndexedSection) (n : ℕ) (form : ItemForm) : Type 0 where
  pub bytes :
      form_bytes (take (size_on l.section n) (drop n l.section.bytes)) form
      ≡ item_bytes (removed_tails inputs l) l.section (code_item inputs l n)
  pub word : HasFormWord form

-- the distance from an offset to a place of the same section, once both have moved down
abbrev pub down_distance : List Removed → ℕ → Place → ℤ
down_distance removed n to = pos (moved_down removed to.offset) -ℤ pos (moved_down removed n)

-- a branch or jump leads to a place within a section of code
abbrev pub LeadsWithin : Option Item → Type 0
LeadsWithin (Some (Branch op first second to)) = to.offset ≤ 0x40_0000
LeadsWithin (Some (Jump rd to)) = to.offset ≤ 0x40_0000
LeadsWithin other = Unit {0}
