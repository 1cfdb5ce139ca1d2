-- What the symbolic machine knows of the objects.
use Rattle.std.specs.Prelude.{ℕ, ◌+◌, ◌-◌, List, [], ◌∷◌, length, Option}
use Rattle.zc_base.specs.declared.mem_map.MemMap.{MemMap}
use Rattle.zc_base.specs.declared.place.Place.{Place}
use Rattle.block_cut.specs.declared.item.Item.{Item}
use Rattle.rv_decode.specs.Memory.{Region, Data, Stack, blank}
use Rattle.sym_machine.specs.declared.word.SymByte.{SymByte}
use Rattle.sym_machine.specs.declared.word.SymByte.TheVariants.{Undef}

-- the item at a place and the place after it; the place of the program's start; where memory lies; and the bytes of data,
-- from the map's start of data on
pub record Program : Type 0 where
  pub item : Place → Option Item
  pub next : Place → Place
  pub entry : Place
  pub map : MemMap
  pub bytes : List SymByte

-- the address after the data's last byte
abbrev pub data_high : Program → ℕ
data_high p = p.map.data_low + length p.bytes

-- memory at the start: the data, and a stack that nothing was written to
abbrev pub start_memory : Program → List (Region SymByte)
start_memory p =
    record { kind = Data; at = p.map.data_low; cells = p.bytes }
    ∷ record { kind = Stack; at = p.map.stack_low; cells = blank (p.map.stack_high - p.map.stack_low) Undef }
    ∷ []
