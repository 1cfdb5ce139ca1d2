-- Where the memory of a program lies, and which extensions the chip has that it is made for.
use Rattle.std.specs.Prelude.{◌≡◌, ℕ, ◌+◌, ◌-◌, ◌%◌, ◌^◌, ◌<◌, ◌≤◌, Bool, true, ◌&&◌, ◌==◌, min, nat_le, nat_lt, if◌then◌else◌, Option, Some, None}
use Rattle.zc_base.specs.declared.extensions.Extensions.{Extensions}
use Rattle.zc_base.specs.declared.mem_map.MemMap.{MemMap}

-- Zcb, Zcmp and Zcmt
abbrev pub all_extensions : Extensions
all_extensions = record { zcb = true; zcmp = true; zcmt = true }

-- the map that the linker uses if it is given no other
abbrev pub standard_map : MemMap
standard_map = record {
  text = 0x0001_0000;
  data_low = 0x0010_0000;
  stack_low = 0x0FF0_0000;
  stack_high = 0x1000_0000;
  extensions = all_extensions;
}

-- the most bytes of data: 4 MiB, or what lies between the first of them and the stack
abbrev pub data_limit : MemMap → ℕ
data_limit map = min 0x40_0000 (map.stack_low - map.data_low)

-- a map that the linker accepts: text begins at a page boundary above address 0 and has room for all code below data; data
-- begin, and the stack begins and ends, at multiples of 16, in this order; 4 MiB from data on, and the reach of a global
-- pointer behind them, don't pass 2^32, nor does the stack
pub record IsMap (map : MemMap) : Type 0 where
  pub text_page : map.text % 4096 ≡ 0
  pub data_step : map.data_low % 16 ≡ 0
  pub low_step : map.stack_low % 16 ≡ 0
  pub high_step : map.stack_high % 16 ≡ 0
  pub above : 0 < map.text
  pub code : map.text + 0x000F_0000 ≤ map.data_low
  pub room : map.data_low + 0x0040_1000 ≤ 2 ^ 32
  pub below : map.data_low ≤ map.stack_low
  pub stack : map.stack_low < map.stack_high
  pub top : map.stack_high < 2 ^ 32

-- whether an address is a page boundary
abbrev pub is_page : ℕ → Bool
is_page address = address % 4096 == 0

-- whether an address is a multiple of 16
abbrev pub is_aligned : ℕ → Bool
is_aligned address = address % 16 == 0

-- whether the linker accepts a map
abbrev pub is_map : MemMap → Bool
is_map map =
    is_page map.text && is_aligned map.data_low && is_aligned map.stack_low && is_aligned map.stack_high && nat_le 1 map.text
    && nat_le (map.text + 0x000F_0000) map.data_low && nat_le (map.data_low + 0x0040_1000) 0x1_0000_0000
    && nat_le map.data_low map.stack_low && nat_lt map.stack_low map.stack_high && nat_lt map.stack_high 0x1_0000_0000

-- the map, if the linker accepts it
unfoldable pub checked_map : MemMap → Option MemMap
checked_map map = if is_map map then Some map else None
