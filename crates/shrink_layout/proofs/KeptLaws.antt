-- The layout as it is kept: its sizes, the bytes that pieces take, whose sums are addresses, that these rise, and what is counted.
use Rattle.std.proofs.Common.{◌≡◌, ℕ, ◌+◌, ◌-◌, ◌*◌, ◌<◌, ◌≤◌, List, Option, Some, None, true, false, is_some, length, slice_index, take, refl, ap, arith}
use Rattle.std.specs.List.{sum}
use Rattle.zc_base.specs.declared.place.Place.{Place}
use Rattle.psabi_sym.specs.Faults.{gather_fault}
use Rattle.psabi_sym.specs.Inputs.{Inputs, ParsedInputs, parsed}
use Rattle.block_cut.specs.Items.{item_at}
use Rattle.block_cut.specs.declared.item.Item.{Item}
use Rattle.shrink_layout.specs.Counted.{is_long_piece, is_short_piece, pieces_with}
use Rattle.shrink_layout.specs.Layout.{addresses_of, sizes_of, widths_of}
use Rattle.shrink_layout.specs.Least.{AreForms}
use Rattle.shrink_layout.specs.Pieces.{piece_number_at, pieces_of}
use Rattle.shrink_layout.specs.Settled.{is_long, is_sized, settled_addresses, settled_end, settled_size, settled_sizes, settled_widths, units_with}
use Rattle.shrink_layout.specs.Units.{is_inside}
use Rattle.shrink_layout.proofs.AddressLaws.{ascending, first_address, last_address}
use Rattle.shrink_layout.proofs.CountLaws.{unit_long, unit_short, units_counted}
use Rattle.shrink_layout.proofs.NumberLaws.{number_below}
use Rattle.shrink_layout.proofs.PlaceAddressLaws.{size_outside}
use Rattle.shrink_layout.proofs.PremiseLaws.{all_aligned, front_few, room_few}
use Rattle.shrink_layout.proofs.RoundLaws.{length_forms, round_forms}
use Rattle.shrink_layout.proofs.WidthLaws.{address_by_widths, width_between, widths_count}

module _ (inputs : ParsedInputs) (slots : List (Option Place)) where
  -- each size is a form
  pub settled_forms : AreForms (pieces_of inputs slots) (settled_sizes inputs slots)
  unfolding settled_sizes sizes_of
  settled_forms = round_forms inputs.map.text (pieces_of inputs slots) (2 * length (pieces_of inputs slots))

  -- there is one size for each piece
  pub sizes_long : length (settled_sizes inputs slots) ≡ length (pieces_of inputs slots)
  sizes_long = length_forms (pieces_of inputs slots) (settled_sizes inputs slots) settled_forms

  -- addresses rise
  pub addresses_rise : (i j : ℕ) → i ≤ j → j ≤ length (pieces_of inputs slots) → slice_index (settled_addresses inputs slots) i ≤ slice_index (settled_addresses inputs slots) j
  unfolding settled_addresses
  addresses_rise i j le most = ascending inputs.map.text (pieces_of inputs slots) (settled_sizes inputs slots) settled_forms i j le most

  -- the first is where the text begins
  pub address_first : slice_index (settled_addresses inputs slots) 0 ≡ inputs.map.text
  unfolding settled_addresses
  address_first = first_address inputs.map.text (pieces_of inputs slots) (settled_sizes inputs slots)

  -- the text doesn't end before it begins
  pub end_rises : inputs.map.text ≤ settled_end inputs slots
  unfolding settled_end
  end_rises = omega (arith, address_first, addresses_rise 0 (length (pieces_of inputs slots)) (omega arith) (omega arith))

  -- the sizes are those that are kept
  pub kept_sizes : sizes_of inputs.map.text (pieces_of inputs slots) ≡ settled_sizes inputs slots
  unfolding settled_sizes
  kept_sizes = refl

  -- the bytes that pieces take are those of the layout
  pub kept_widths : widths_of inputs.map.text (pieces_of inputs slots) (sizes_of inputs.map.text (pieces_of inputs slots)) ≡ settled_widths inputs slots
  unfolding settled_widths settled_sizes
  kept_widths = refl

  -- there are as many of them as pieces
  pub widths_long : length (settled_widths inputs slots) ≡ length (pieces_of inputs slots)
  unfolding settled_widths
  widths_long = widths_count inputs.map.text (pieces_of inputs slots) (settled_sizes inputs slots) sizes_long

  -- an address is where the text begins and the sum of the bytes before it
  pub address_summed : (k : ℕ) → k ≤ length (pieces_of inputs slots) → slice_index (settled_addresses inputs slots) k ≡ inputs.map.text + sum (take k (settled_widths inputs slots))
  unfolding settled_addresses settled_widths
  address_summed k le = address_by_widths inputs.map.text (pieces_of inputs slots) (settled_sizes inputs slots) k sizes_long le

  -- the addresses of pieces are those of the layout
  pub kept_addresses : addresses_of inputs.map.text (pieces_of inputs slots) (sizes_of inputs.map.text (pieces_of inputs slots)) ≡ settled_addresses inputs slots
  unfolding settled_addresses
  kept_addresses = ap (addresses_of inputs.map.text (pieces_of inputs slots)) kept_sizes

  -- the bytes of a piece lead to the next address
  pub settled_between : (k : ℕ) → k < length (pieces_of inputs slots)
      → slice_index (settled_addresses inputs slots) (k + 1) ≡ slice_index (settled_addresses inputs slots) k + slice_index (settled_widths inputs slots) k
  unfolding settled_addresses settled_widths
  settled_between k lt = width_between inputs.map.text (pieces_of inputs slots) (settled_sizes inputs slots) k sizes_long lt

  pub width_is : (k : ℕ) → k < length (pieces_of inputs slots)
      → slice_index (settled_widths inputs slots) k ≡ slice_index (settled_addresses inputs slots) (k + 1) - slice_index (settled_addresses inputs slots) k
  width_is k lt = omega (arith, settled_between k lt)

  -- all together are the text's
  pub text_summed : (k : ℕ) → k ≡ length (settled_widths inputs slots) → sum (take k (settled_widths inputs slots)) ≡ settled_end inputs slots - inputs.map.text
  unfolding settled_end
  text_summed k all =
      let last : k ≡ length (pieces_of inputs slots) = omega (arith, all, widths_long) in
      omega (arith, address_summed k (omega (arith, last)), ap (slice_index (settled_addresses inputs slots)) last)

  -- the text ends where the last piece does
  pub end_is : (k : ℕ) → k ≡ length (pieces_of inputs slots) → slice_index (settled_addresses inputs slots) k ≡ settled_end inputs slots
  unfolding settled_end
  end_is k last = ap (slice_index (settled_addresses inputs slots)) last

-- no address is far from the text's start
pub address_few : (inputs : Inputs) → gather_fault inputs ≡ None → (slots : List (Option Place)) → length slots ≤ 256 → (k : ℕ) → k ≤ length (pieces_of (parsed inputs) slots)
    → slice_index (settled_addresses (parsed inputs) slots) k ≤ inputs.map.text + 0x9_0000
unfolding settled_addresses
address_few inputs none slots few k le =
    omega (
      arith,
      addresses_rise (parsed inputs) slots k (length (pieces_of (parsed inputs) slots)) le (omega arith),
      last_address inputs.map.text (pieces_of (parsed inputs) slots) (settled_sizes (parsed inputs) slots) (all_aligned inputs none slots) (settled_forms (parsed inputs) slots),
      room_few inputs none slots,
      front_few slots few,
    )

-- ---- by what is found

-- what is written for an item that isn't inside a group has a size
pub size_by : (inputs : ParsedInputs) (slots : List (Option Place)) (q : Place) → is_some (item_at inputs q) ≡ true → is_inside inputs q ≡ false
    → settled_size inputs slots q ≡ Some (slice_index (settled_addresses inputs slots) (piece_number_at inputs.objects q + 1) - slice_index (settled_addresses inputs slots) (piece_number_at inputs.objects q))
size_by inputs slots q there outside = by (item_at inputs q) refl there
  where
    by : (o : Option Item) → item_at inputs q ≡ o → is_some o ≡ true
        → settled_size inputs slots q ≡ Some (slice_index (settled_addresses inputs slots) (piece_number_at inputs.objects q + 1) - slice_index (settled_addresses inputs slots) (piece_number_at inputs.objects q))
    by None is h = absurd cc
    by (Some i) is h = size_outside inputs slots q i is outside

-- the number of an item's piece is below the number of pieces
pub below_by : (inputs : Inputs) → gather_fault inputs ≡ None → (slots : List (Option Place)) (q : Place) → is_some (item_at (parsed inputs) q) ≡ true → piece_number_at (parsed inputs).objects q < length (pieces_of (parsed inputs) slots)
below_by inputs none slots q there = by (item_at (parsed inputs) q) refl there
  where
    by : (o : Option Item) → item_at (parsed inputs) q ≡ o → is_some o ≡ true → piece_number_at (parsed inputs).objects q < length (pieces_of (parsed inputs) slots)
    by None is there = absurd cc
    by (Some i) is there = number_below inputs none slots q i is

-- ---- counts

module _ (inputs : Inputs) (none : gather_fault inputs ≡ None) (slots : List (Option Place)) where
  -- items that take two bytes
  pub short_counted : pieces_with is_short_piece (pieces_of (parsed inputs) slots) (settled_sizes (parsed inputs) slots) ≡ units_with (parsed inputs) slots (is_sized 2)
  short_counted = units_counted inputs none slots is_short_piece (is_sized 2) (λ alignment size. refl) (unit_short (parsed inputs))

  -- branches that take eight
  pub long_counted : pieces_with is_long_piece (pieces_of (parsed inputs) slots) (settled_sizes (parsed inputs) slots) ≡ units_with (parsed inputs) slots is_long
  long_counted = units_counted inputs none slots is_long_piece is_long (λ alignment size. refl) (unit_long (parsed inputs))
