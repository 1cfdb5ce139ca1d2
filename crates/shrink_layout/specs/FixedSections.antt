-- Fixed sections keep their distances: each place of one is as far from the section's start as in the plain layout.
use Rattle.std.specs.Prelude.{◌≡◌, ℕ, ◌+◌, ◌%◌, Bool, true, ◌==◌, max, Option, Some}
use Rattle.std.specs.List.{list_all}
use Rattle.std.specs.Option.{option_map_or}
use Rattle.zc_base.specs.declared.place.Place.{Place}
use Rattle.psabi_sym.specs.Faults.{power_above}
use Rattle.psabi_sym.specs.Fixed.{is_fixed}
use Rattle.psabi_sym.specs.Inputs.{ParsedInputs}
use Rattle.psabi_sym.specs.Indexed.{IndexedSection, section_at}
use Rattle.block_cut.specs.Items.{is_target_at, items_in, place_of}
use Rattle.block_cut.specs.PlainLayout.{padding_of, plain_address}
use Rattle.block_cut.specs.declared.item.Item.{Item}

-- an alignment is a multiple of the one that an item asks for, if that is padding
abbrev pub allows_padding : ℕ → Item → Bool
allows_padding align i = option_map_or (λ bytes. align % power_above bytes == 0) (padding_of i) true

-- no ALIGN of a section asks for more than the section's alignment, which is 4 at least
abbrev pub is_well_aligned : ParsedInputs → IndexedSection → Bool
is_well_aligned inputs l = list_all (allows_padding (max 4 l.section.align)) (items_in inputs l)

-- the section of an object is fixed
pub record IsFixedSection (inputs : ParsedInputs) (l : IndexedSection) : Type 0 where
  pub here : section_at inputs.objects l.object l.index ≡ Some l.section
  pub fixed : is_fixed inputs.fixed l.section ≡ true

-- by these addresses an offset of a section is as far from the section's start as in the plain layout
pub record IsAsFar (inputs : ParsedInputs) (address : Place → Option ℕ) (l : IndexedSection) (n : ℕ) : Type 0 where
  pub start : ℕ
  pub plain_start : ℕ
  pub distance : ℕ
  pub starts : address (place_of l 0) ≡ Some start
  pub plain_starts : plain_address inputs (place_of l 0) ≡ Some plain_start
  pub there : address (place_of l n) ≡ Some (start + distance)
  pub plain_there : plain_address inputs (place_of l n) ≡ Some (plain_start + distance)

-- by these addresses each fixed section begins at a multiple of its alignment, which is 4 at least; and if no ALIGN of it asks for
-- more, it keeps its distances
pub record KeepsFixed (inputs : ParsedInputs) (address : Place → Option ℕ) : Type 0 where
  pub begins : (l : IndexedSection) → IsFixedSection inputs l → (a : ℕ) → address (place_of l 0) ≡ Some a
      → a % max 4 l.section.align ≡ 0
  pub keeps : (l : IndexedSection) (n : ℕ) → IsFixedSection inputs l → is_well_aligned inputs l ≡ true
      → is_target_at inputs.objects (place_of l n) ≡ true → IsAsFar inputs address l n
