-- What a table could save: the targets of jumps and calls that take 4 bytes without one.
use Rattle.std.specs.Prelude.{ℕ, ◌+◌, ◌≤◌, Bool, not, ◌&&◌, ◌==◌, if◌then◌else◌, List, [], length, filter, map}
use Rattle.std.specs.List.{flat_map}
use Rattle.std.specs.Option.{option_to_list}
use Rattle.zc_base.specs.Places.{same_place}
use Rattle.zc_base.specs.declared.place.Place.{Place}
use Rattle.psabi_sym.specs.Inputs.{ParsedInputs}
use Rattle.pick_check.specs.declared.saving.Saving.{Saving}
use Rattle.block_cut.specs.Items.{all_places, all_targets}
use Rattle.shrink_layout.specs.Pieces.{site_at}

-- all jumps and calls that a table could serve, each with the register that it links and its target
unfoldable pub sites_of : ParsedInputs → List (ℕ × Place)
sites_of inputs = flat_map (λ q. option_to_list (site_at inputs q)) (all_places inputs.objects)

-- the number of these jumps and calls that link a register and lead to a place
abbrev pub sites_to : List (ℕ × Place) → ℕ → Place → ℕ
sites_to sites rd q = length (filter (λ s. s.0 == rd && same_place s.1 q) sites)

-- the jumps and the calls that lead to a place, counted
abbrev pub saving_of : List (ℕ × Place) → Place → Saving
saving_of sites q = record { target = q; jump_sites = sites_to sites 0 q; call_sites = sites_to sites 1 q }

-- some jump or call leads to the target
abbrev pub has_sites : Saving → Bool
has_sites s = not (s.jump_sites + s.call_sites == 0)

-- the savings of each place that some jump or call leads to, by object, section and offset
unfoldable pub savings_of : ParsedInputs → List Saving
savings_of inputs = filter has_sites (map (saving_of (sites_of inputs)) (all_targets inputs.objects))

-- the savings of the inputs' chip; without Zcmt there are none
abbrev pub table_savings : ParsedInputs → List Saving
table_savings inputs = if inputs.map.extensions.zcmt then savings_of inputs else []

-- there are no more jumps and calls than there is room for in code
pub record HasFewSites (s : Saving) : Type 0 where
  pub jumps : s.jump_sites ≤ 0x1_0000
  pub calls : s.call_sites ≤ 0x1_0000
