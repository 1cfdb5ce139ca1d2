-- The number of each place of code, and the halfword of what is written there.
use Rattle.std.specs.Prelude.{◌≡◌, ℕ, ◌+◌, Bool, false, List, length, map, take, slice_index, true, Option, None, Some}
use Rattle.std.specs.List.{range_with_len, sum_by}
use Rattle.zc_base.specs.declared.place.Place.{Place}
use Rattle.elf32_read.specs.Parts.{ObjectParts}
use Rattle.psabi_sym.specs.Inputs.{ParsedInputs}
use Rattle.psabi_sym.specs.Indexed.{all_sections}
use Rattle.zc_decode.specs.Halfwords.{decoded16}
use Rattle.zc_decode.specs.declared.short.Short.{Short}
use Rattle.zc_decode.specs.declared.short.Short.TheVariants.{TableJump}
use Rattle.zc_encode.specs.Halves.{encoded16}
use Rattle.block_cut.specs.Items.{is_target_at, item_at}
use Rattle.block_cut.specs.Places.{IsPlaceNumber}
use Rattle.block_cut.specs.declared.item.Item.{Item}
use Rattle.block_cut.specs.declared.place_number.PlaceNumber.{PlaceNumber}
use Rattle.shrink_layout.specs.Halves.{IsHalfOf}
use Rattle.shrink_layout.specs.Pieces.{piece_count, piece_number_at, pieces_of, unit_at}
use Rattle.shrink_layout.specs.Units.{CodeUnit, OneGroup, OneItem, OneSite}

-- ---- numbers

-- the number of pieces of the sections before section k among all
abbrev pub section_pieces_before : List ObjectParts → ℕ → ℕ
section_pieces_before objects k = sum_by piece_count (take k (all_sections objects))

-- the number of pieces before the first place of section k: the table with its stub, the sections before it, and its padding
abbrev pub first_number : List ObjectParts → ℕ → ℕ
first_number objects k = 1 + section_pieces_before objects k + 1

-- the numbers of the first places of all sections
abbrev pub AreFirstNumbers : List ObjectParts → List ℕ → Type 0
AreFirstNumbers objects starts = starts ≡ map (first_number objects) (range_with_len 0 (length (all_sections objects)))

-- a place of code has this number among all places
abbrev pub HasPlace : List ObjectParts → PlaceNumber → Type 0
HasPlace objects number = (q : Place) × (is_target_at objects q ≡ true) × IsPlaceNumber objects q number

-- ---- halfwords

-- an instruction is a jump or call through the table
abbrev pub is_table_jump : Option Short → Bool
is_table_jump (Some (TableJump index)) = true
is_table_jump _ = false

-- a halfword is a jump or call through the table
abbrev pub is_table_half : ℕ → Bool
is_table_half half = is_table_jump (decoded16 half)

-- the halfword of what is written: that of a jump or call through the table, and that of an item by itself, if it is
-- known before the layout; no other is one of a jump or call through the table
abbrev pub IsHalfAt : Option CodeUnit → ℕ → Type 0
IsHalfAt None half = is_table_half half ≡ false
IsHalfAt (Some (OneItem i)) half = IsHalfOf i half × (is_table_half half ≡ false)
IsHalfAt (Some (OneGroup g)) half = is_table_half half ≡ false
IsHalfAt (Some (OneSite slot)) half = encoded16 (TableJump slot) ≡ Some half

-- there is a halfword for each piece, which is that of what is written at the place
abbrev pub AreHalves : ParsedInputs → List (Option Place) → List ℕ → Type 0
AreHalves inputs slots halves =
    (length halves ≡ length (pieces_of inputs slots))
    × ((q : Place) (item : Item) → item_at inputs q ≡ Some item
    → IsHalfAt (unit_at inputs slots q) (slice_index halves (piece_number_at inputs.objects q)))
