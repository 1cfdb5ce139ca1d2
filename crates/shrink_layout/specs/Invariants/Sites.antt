-- Savings as they are counted: each target of code with the number of sites that were found so far.
use Rattle.std.specs.Prelude.{◌≡◌, ℕ, ◌≤◌, Bool, false, ◌&&◌, ◌==◌, nat_lt, List, length, map, take, Option, None, Some}
use Rattle.std.specs.List.{flat_map}
use Rattle.std.specs.Option.{option_to_list}
use Rattle.zc_base.specs.declared.place.Place.{Place}
use Rattle.elf32_read.specs.Parts.{ObjectParts}
use Rattle.psabi_sym.specs.Inputs.{ParsedInputs}
use Rattle.psabi_sym.specs.Indexed.{all_sections}
use Rattle.pick_check.specs.declared.saving.Saving.{Saving}
use Rattle.block_cut.specs.Items.{all_targets, places_of, targets_of}
use Rattle.shrink_layout.specs.Pieces.{site_at}
use Rattle.shrink_layout.specs.Savings.{saving_of}
use Rattle.shrink_layout.specs.declared.site.Site.{Site}

-- a site as a pair: the register that it links, and its target
abbrev pub site_pair : Site → ℕ × Place
site_pair s = (s.rd, s.to)

-- the number of bytes is four
abbrev pub is_four : Option ℕ → Bool
is_four None = false
is_four (Some n) = n == 4

-- a jump or call takes four bytes, and links no register or ra
abbrev pub is_served : Option ℕ → Site → Bool
is_served size s = is_four size && nat_lt s.rd 2

-- the targets in the first k sections, and the places where their items start
abbrev pub targets_before : List ObjectParts → ℕ → List Place
targets_before objects k = flat_map targets_of (take k (all_sections objects))

abbrev pub places_before : List ObjectParts → ℕ → List Place
places_before objects k = flat_map places_of (take k (all_sections objects))

-- the sites at places, in order
abbrev pub sites_in : ParsedInputs → List Place → List (ℕ × Place)
sites_in inputs qs = flat_map (λ q. option_to_list (site_at inputs q)) qs

-- the savings of all targets, counted over the sites at these places
abbrev pub AreSavings : ParsedInputs → List Place → List Saving → Type 0
AreSavings inputs qs savings = savings ≡ map (saving_of (sites_in inputs qs)) (all_targets inputs.objects)

-- these are the savings over the sites at some places, of which there are at most 65,536
abbrev pub AreOfPlaces : ParsedInputs → List Saving → Type 0
AreOfPlaces inputs savings = (qs : List Place) × (length qs ≤ 0x1_0000) × AreSavings inputs qs savings
