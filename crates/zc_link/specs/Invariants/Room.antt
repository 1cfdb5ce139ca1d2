-- What a layout owes of memory: the image's memory lies as the program's does.
use Rattle.std.specs.Prelude.{◌≡◌, ℕ, ◌+◌, ◌%◌, ◌^◌, ◌<◌, ◌≤◌, ◌⊎◌, false, true, Some}
use Rattle.zc_base.specs.declared.place.Place.{Place}
use Rattle.rv_decode.specs.Memory.{extents_of, is_data, is_text, lies_in}
use Rattle.sym_machine.specs.Conditions.{is_solid}
use Rattle.sym_machine.specs.Program.{Program, data_high}
use Rattle.zc_link.specs.Image.{Image, loaded_core}

-- the n bytes from an address on lie in the program's data or in its stack
abbrev pub SpansMemory : Program → ℕ → ℕ → Type 0
SpansMemory p a n = ((p.map.data_low ≤ a) × (a + n ≤ data_high p)) ⊎ ((p.map.stack_low ≤ a) × (a + n ≤ p.map.stack_high))

-- where the regions and the places lie
pub record Room (p : Program) (e : Image) : Type 0 where
  -- the image was made for the program's map
  pub map : e.map ≡ p.map
  -- the stack ends below 2^32, begins at or after the end of data, and no frame on it wraps around to address 0
  pub top : p.map.stack_high < 2 ^ 32
  pub some : p.map.stack_low ≤ p.map.stack_high
  pub deep : 2048 ≤ p.map.stack_low
  pub under : data_high p ≤ p.map.stack_low
  -- the program's memory is memory of the image
  pub reaches : (a n : ℕ) → 0 < n → SpansMemory p a n → lies_in is_data (extents_of (loaded_core e).memory) a n ≡ true
  -- and all of that lies within the map
  pub bounded :
      (a n : ℕ) → lies_in is_data (extents_of (loaded_core e).memory) a n ≡ true → (p.map.text ≤ a) × (a + n ≤ p.map.stack_high)
  -- code lies apart from data and stack
  pub apart :
      (a : ℕ) → lies_in is_text (extents_of (loaded_core e).memory) a 1 ≡ true → lies_in is_data (extents_of (loaded_core e).memory) a 1 ≡ false
  -- places have even addresses above 0
  pub even : (q : Place) (a : ℕ) → e.address q ≡ Some a → (a % 2 ≡ 0) × (0 < a) × (a < 2 ^ 32)
  -- two items that have room of their own have different addresses
  pub distinct :
      (q r : Place) (a : ℕ) → is_solid (p.item q) ≡ true → is_solid (p.item r) ≡ true → e.address q ≡ Some a
      → e.address r ≡ Some a → q ≡ r
