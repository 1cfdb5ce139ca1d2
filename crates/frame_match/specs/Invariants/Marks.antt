-- The marks that the code stores for items, and how it finds them.
use Rattle.std.specs.Prelude.{◌≡◌, ℕ, ◌+◌, true, List, [], ◌∷◌, ◌++◌, drop, length, map}
use Rattle.std.specs.List.{flat_map}
use Rattle.zc_base.specs.declared.place.Place.{Place}
use Rattle.elf32_read.specs.Parts.{ObjectParts}
use Rattle.psabi_sym.specs.Inputs.{ParsedInputs}
use Rattle.psabi_sym.specs.Indexed.{IndexedSection, all_sections}
use Rattle.block_cut.specs.Items.{is_start_at}
use Rattle.block_cut.specs.Places.{IsPlaceNumber}
use Rattle.block_cut.specs.declared.code_place.CodePlace.{CodePlace}
use Rattle.block_cut.specs.declared.place_number.PlaceNumber.{PlaceNumber}
use Rattle.frame_match.specs.Groups.{starting_group, groups_of, roles_from, roles_in, Spot}
use Rattle.frame_match.specs.Invariants.Runs.{spots_of}
use Rattle.frame_match.specs.declared.group.Group.{Group}
use Rattle.frame_match.specs.declared.mark.Mark.{Mark}
use Rattle.frame_match.specs.declared.mark.Mark.TheVariants.{Apart, Start, Within}
use Rattle.frame_match.specs.declared.role.Role.{Role}
use Rattle.frame_match.specs.declared.role.Role.TheVariants.{Alone, First, Inside}
use Rattle.frame_match.specs.declared.walk.Walk.{Walk}

-- ---- marks

-- the marks of items with these roles, where n groups come before
abbrev pub marks_from : ℕ → List Role → List Mark
marks_from n [] = []
marks_from n (Alone ∷ rs) = Apart ∷ marks_from n rs
marks_from n (First g ∷ rs) = Start n ∷ marks_from (n + 1) rs
marks_from n (Inside ∷ rs) = Within ∷ marks_from n rs

-- the marks of sections, one after another, where n groups come before
abbrev pub section_marks : ℕ → List (List Role) → List (List Mark)
section_marks n [] = []
section_marks n (rs ∷ rss) = marks_from n rs ∷ section_marks (n + length (flat_map starting_group rs)) rss

-- the marks of all code
abbrev pub all_marks : ParsedInputs → List (List Mark)
all_marks inputs = section_marks 0 (map (roles_in inputs) (all_sections inputs.objects))

-- ---- the walk over a section

-- the marks, and the groups, once a walk has gone over the items that are left
abbrev pub marks_after : Walk → List Spot → List Mark
marks_after w ss = w.marks.items ++ marks_from (length w.groups.items) (roles_from w.left ss)

abbrev pub groups_after : Walk → List Spot → List Group
groups_after w ss = w.groups.items ++ flat_map starting_group (roles_from w.left ss)

-- a walk that has gone over one more item ends with the same marks and groups
pub record WalksOn (inputs : ParsedInputs) (l : IndexedSection) (ps : List CodePlace) (old new : Walk) : Type 0 where
  pub marks : marks_after new (spots_of inputs l (drop 1 ps)) ≡ marks_after old (spots_of inputs l ps)
  pub groups : groups_after new (spots_of inputs l (drop 1 ps)) ≡ groups_after old (spots_of inputs l ps)

-- ---- the whole

-- what is stored with a cut: the groups of all code, and a mark for each item
pub record ArePlanned (inputs : ParsedInputs) (groups : List Group) (marks : List (List Mark)) : Type 0 where
  pub groups_are : groups ≡ groups_of inputs
  pub marks_are : marks ≡ all_marks inputs

-- an item starts at the place that has this number among all places
abbrev pub HasItem : List ObjectParts → PlaceNumber → Type 0
HasItem objects number = (q : Place) × (is_start_at objects q ≡ true) × IsPlaceNumber objects q number
