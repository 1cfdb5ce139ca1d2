-- A layout of the text: what is written where.
use Rattle.std.specs.Prelude.{ℕ, ◌+◌, List, [], Bool, true, Option}
use Rattle.std.specs.Option.{option_map, option_map_or}
use Rattle.zc_base.specs.declared.place.Place.{Place}
use Rattle.psabi_sym.specs.Fixed.{is_fixed_at}
use Rattle.psabi_sym.specs.Inputs.{Inputs, parsed}
use Rattle.block_cut.specs.Items.{after_items, item_at}
use Rattle.block_cut.specs.PlainLayout.{plain_address}
use Rattle.shrink_layout.specs.Pieces.{unit_at}
use Rattle.shrink_layout.specs.Settled.{settled_address}
use Rattle.shrink_layout.specs.Units.{CodeUnit, OneItem, front_size, unit_items}
use Rattle.zc_link.specs.Pace.{Stretch, bytes_between, stretch_of}

-- the objects, the addresses of places, what is written at a place in one piece, whether an instruction without relocation at a
-- place keeps the halfword that the object has for it, and the slots of the table with which the text begins, each a hole or the
-- place that it leads to; without slots there is no table
pub record TextLayout : Type 0 where
  pub inputs : Inputs
  pub address : Place → Option ℕ
  pub unit : Place → Option CodeUnit
  pub keeps_halfwords : Place → Bool
  pub slots : List (Option Place)

-- code as it is: each item by itself
abbrev pub plain_layout : Inputs → TextLayout
plain_layout inputs = record {
  inputs = inputs;
  address = plain_address (parsed inputs);
  unit = λ q. option_map OneItem (item_at (parsed inputs) q);
  keeps_halfwords = λ q. true;
  slots = [];
}

-- code made smaller, after a table of these slots
abbrev pub zc_layout : Inputs → List (Option Place) → TextLayout
zc_layout inputs slots = record {
  inputs = inputs;
  address = settled_address (parsed inputs) slots;
  unit = unit_at (parsed inputs) slots;
  keeps_halfwords = λ q. is_fixed_at (parsed inputs) q.object q.section;
  slots = slots;
}

-- where the first section may begin: after the table and its stub
abbrev pub front_end : TextLayout → ℕ
front_end L = L.inputs.map.text + front_size L.slots

-- the place after what is written at a place
abbrev pub behind : TextLayout → Place → Place
behind L q = after_items (parsed L.inputs).objects (option_map_or unit_items (L.unit q) 1) q

-- the number of bytes that are written at a place: up to the address of the place after it
abbrev pub size_in : TextLayout → Place → ℕ
size_in L q = bytes_between (L.address q) (L.address (behind L q))

-- the stretch that starts at a place
abbrev pub stretch_in : TextLayout → Place → Stretch
stretch_in L q = stretch_of (size_in L q) (L.unit q)
