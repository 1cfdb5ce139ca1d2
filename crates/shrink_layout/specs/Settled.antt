-- A layout of the objects' code, and what it gives: addresses, sizes, the text's end, and counts.
use Rattle.std.specs.Prelude.{ℕ, ◌+◌, ◌-◌, Bool, true, false, ◌==◌, if◌then◌else◌, List, length, filter, slice_index, Option, Some, None}
use Rattle.std.specs.Option.{option_map, option_map_or}
use Rattle.zc_base.specs.declared.counts.Counts.{Counts}
use Rattle.zc_base.specs.declared.place.Place.{Place}
use Rattle.psabi_sym.specs.Inputs.{Inputs, ParsedInputs}
use Rattle.zc_decode.specs.declared.short.Short.{Short}
use Rattle.zc_decode.specs.declared.short.Short.TheVariants.{Pop, PopRet, PopRetz, MoveSa, MoveAs}
use Rattle.block_cut.specs.Items.{all_items, all_places}
use Rattle.block_cut.specs.declared.item.Item.TheVariants as item
use Rattle.frame_match.specs.Groups.{groups_of}
use Rattle.shrink_layout.specs.Layout.{addresses_of, sizes_of, widths_of}
use Rattle.shrink_layout.specs.Pieces.{piece_number_at, pieces_of, unit_at}
use Rattle.shrink_layout.specs.Units.{CodeUnit, OneGroup, OneItem, OneSite, is_listed_at, is_push}

-- inputs, and the slots of their table, each a hole or the place that it leads to; without slots there is no table
pub record SettledLayout : Type 0 where
  pub inputs : Inputs
  pub slots : List (Option Place)

-- the sizes of the pieces
unfoldable pub settled_sizes : ParsedInputs → List (Option Place) → List ℕ
settled_sizes inputs slots = sizes_of inputs.map.text (pieces_of inputs slots)

-- the bytes that each piece takes: first the table with its stub, then for each section of code its padding and what is written
-- for its items; a group's first item has the bytes of all of it, and its others have none
unfoldable pub settled_widths : ParsedInputs → List (Option Place) → List ℕ
settled_widths inputs slots = widths_of inputs.map.text (pieces_of inputs slots) (settled_sizes inputs slots)

-- ---- addresses

-- the addresses of the pieces, and of the text's end
unfoldable pub settled_addresses : ParsedInputs → List (Option Place) → List ℕ
settled_addresses inputs slots = addresses_of inputs.map.text (pieces_of inputs slots) (settled_sizes inputs slots)

-- the address of a place that images list; other places have none
unfoldable pub settled_address : ParsedInputs → List (Option Place) → Place → Option ℕ
settled_address inputs slots q =
    if is_listed_at inputs q
    then Some (slice_index (settled_addresses inputs slots) (piece_number_at inputs.objects q))
    else None

-- the number of bytes that are written at a place
abbrev pub settled_size : ParsedInputs → List (Option Place) → Place → Option ℕ
settled_size inputs slots q =
    option_map (λ u. slice_index (settled_addresses inputs slots) (piece_number_at inputs.objects q + 1)
    - slice_index (settled_addresses inputs slots) (piece_number_at inputs.objects q)) (unit_at inputs slots q)

-- where the text ends
unfoldable pub settled_end : ParsedInputs → List (Option Place) → ℕ
settled_end inputs slots = slice_index (settled_addresses inputs slots) (length (pieces_of inputs slots))

-- ---- counts

-- an item by itself that takes n bytes; padding never counts
abbrev pub is_sized : ℕ → ℕ → CodeUnit → Bool
is_sized n size (OneItem (item.Align bytes)) = false
is_sized n size (OneItem i) = size == n
is_sized n size (OneGroup g) = false
is_sized n size (OneSite slot) = false

-- a branch that takes 8 bytes
abbrev pub is_long : ℕ → CodeUnit → Bool
is_long size (OneItem (item.Branch op first second to)) = size == 8
is_long size _ = false

-- a jump or call through the table
abbrev pub is_site : ℕ → CodeUnit → Bool
is_site size (OneItem i) = false
is_site size (OneGroup g) = false
is_site size (OneSite slot) = true

-- the number of places whose unit, with its size, meets a test
abbrev pub units_with : ParsedInputs → List (Option Place) → (ℕ → CodeUnit → Bool) → ℕ
units_with inputs slots test =
    length (filter
    (λ q. option_map_or (test (slice_index (settled_sizes inputs slots) (piece_number_at inputs.objects q)))
    (unit_at inputs slots q) false)
    (all_places inputs.objects))

-- a pop of one of the three kinds
abbrev pub is_pop : Short → Bool
is_pop (Pop list adjust) = true
is_pop (PopRet list adjust) = true
is_pop (PopRetz list adjust) = true
is_pop _ = false

-- moves of one of the two kinds
abbrev pub is_move : Short → Bool
is_move (MoveSa first second) = true
is_move (MoveAs first second) = true
is_move _ = false

-- the number of groups whose kind meets a test
abbrev pub groups_with : ParsedInputs → (Short → Bool) → ℕ
groups_with inputs test = length (filter (λ g. test g.kind) (groups_of inputs))

-- the counts of the layout: the text's bytes, all items, those by themselves that take 2 bytes, the branches that take 8, the
-- groups, and the jumps and calls through the table
abbrev pub settled_counts : ParsedInputs → List (Option Place) → Counts
settled_counts inputs slots = record {
  text = settled_end inputs slots - inputs.map.text;
  items = length (all_items inputs);
  short = units_with inputs slots (is_sized 2);
  long = units_with inputs slots is_long;
  pushes = groups_with inputs is_push;
  pops = groups_with inputs is_pop;
  moves = groups_with inputs is_move;
  table = units_with inputs slots is_site;
}
