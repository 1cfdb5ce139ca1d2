-- Places that basic blocks begin at for another reason than that their section starts there, as the code gathers them.
use Rattle.std.specs.Prelude.{◌≡◌, ℕ, ◌+◌, ◌/◌, ◌%◌, Bool, false, ◌&&◌, ◌||◌, ◌==◌, List, [], Option, slice_index_or}
use Rattle.std.specs.List.{list_any}
use Rattle.std.specs.Option.{option_map, option_map_or}
use Rattle.zc_base.specs.Places.{same_place}
use Rattle.zc_base.specs.declared.place.Place.{Place}
use Rattle.elf32_read.specs.Parts.{ObjectParts}
use Rattle.psabi_sym.specs.Indexed.{section_at}
use Rattle.psabi_sym.specs.Invariants.Rows.{section_starts}
use Rattle.block_cut.specs.declared.leaders.Leaders.{Leaders}

-- ---- places as the code keeps them

-- the number among all of the section that a place lies in; none if there is no such section
abbrev pub section_number : List ObjectParts → Place → Option ℕ
section_number objects q = option_map (λ s. section_starts objects q.object + q.section) (section_at objects q.object q.section)

-- the mark at a halfword of a section
abbrev pub mark_at : List Bool → ℕ → Bool
mark_at marks k = slice_index_or marks k false

-- the mark at a halfword of the section with a number
abbrev pub mark_in : List (List Bool) → ℕ → ℕ → Bool
mark_in sections n k = mark_at (slice_index_or sections n []) k

-- a place is a halfword's, and that halfword is marked
abbrev pub is_marked : List ObjectParts → List (List Bool) → Place → Bool
is_marked objects sections q = (q.offset % 2 == 0) && option_map_or (λ n. mark_in sections n (q.offset / 2)) (section_number objects q) false

-- a place is among these places
abbrev pub is_listed : List Place → Place → Bool
is_listed places q = list_any (λ p. same_place p q) places

-- a place is marked, or is among those without marks
abbrev pub has_place : List ObjectParts → Leaders → Place → Bool
has_place objects leaders q = is_marked objects leaders.sections.items q || is_listed leaders.others.keys q

-- the places are the old ones, and those that pass a test
abbrev pub AddsPlaces : List ObjectParts → (Place → Bool) → Leaders → Leaders → Type 0
AddsPlaces objects test old new = (q : Place) → has_place objects new q ≡ (has_place objects old q || test q)
