-- The places of code, each with its item: where items start, and where a section of code ends.
use Rattle.std.specs.Prelude.{◌≡◌, ℕ, ◌+◌, if◌then◌else◌, List, [], map, Some}
use Rattle.std.specs.Option.{unwrap_or}
use Rattle.zc_base.specs.declared.place.Place.{Place}
use Rattle.elf32_read.specs.Parts.{ObjectParts, SectionParts, is_code_section}
use Rattle.psabi_sym.specs.Inputs.{ParsedInputs}
use Rattle.psabi_sym.specs.Indexed.{IndexedSection}
use Rattle.psabi_sym.specs.Invariants.Rows.{section_starts}
use Rattle.block_cut.specs.Items.{code_at, index_on, item_at, place_of, size_at, targets_in}
use Rattle.block_cut.specs.PlainLayout.{plain_address}
use Rattle.block_cut.specs.declared.code_place.CodePlace.{CodePlace}
use Rattle.block_cut.specs.declared.place_number.PlaceNumber.{PlaceNumber}

-- a place with its item, its address and its size
abbrev pub place_there : ParsedInputs → Place → CodePlace
place_there inputs q = record {
  item = item_at inputs q;
  address = unwrap_or (plain_address inputs q) 0;
  offset = q.offset;
  size = size_at inputs.objects q;
}

-- the place at an offset of a section
abbrev pub code_place : ParsedInputs → IndexedSection → ℕ → CodePlace
code_place inputs l n = place_there inputs (place_of l n)

-- the places of a section; what isn't code has none
abbrev pub code_places : ParsedInputs → IndexedSection → List CodePlace
code_places inputs l = if is_code_section l.section then map (code_place inputs l) (targets_in l.section) else []

-- ---- numbers

-- a place of code lies in the section with this number among all, after this many of that section's items
pub record IsPlaceNumber (objects : List ObjectParts) (q : Place) (number : PlaceNumber) : Type 0 where
  pub section : SectionParts
  pub here : code_at objects q ≡ Some section
  pub section_is : number.section ≡ section_starts objects q.object + q.section
  pub index_is : number.index ≡ index_on section q.offset
