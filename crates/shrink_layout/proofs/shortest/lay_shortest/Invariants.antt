use Rattle.std.proofs.Common.{◌≡◌, ℕ, ◌+◌, ◌*◌, ◌/◌, ◌<◌, length, map, min}
use Rattle.std.specs.Prelude.{slice_index}
use Rattle.shrink_layout.specs.Forms.{shortest}
use Rattle.shrink_layout.specs.Invariants.Blocks.{block_size, nth_piece}
use Rattle.shrink_layout.specs.Layout.{addresses_of, widths_of}
use Rattle.shrink_layout.proofs.shortest.lay_shortest.Given as goal

abbrev pub invariant-loop-k : goal.invariant-loop-k
invariant-loop-k l = record {
  sizes_count : length l.sizes.items ≡ length l.pieces;
  widths_count : length l.widths.items ≡ length l.pieces;
  starts_count : length l.starts.items ≡ length l.pieces / block_size + 2;
  at_is : l.at ≡ slice_index (addresses_of l.text l.pieces (map shortest l.pieces)) l.k;
  sizes_are : (j : ℕ) → j < l.k → slice_index l.sizes.items j ≡ shortest (nth_piece l.pieces j);
  widths_are : (j : ℕ) → j < l.k → slice_index l.widths.items j ≡ slice_index (widths_of l.text l.pieces (map shortest l.pieces)) j;
  first : slice_index l.starts.items 0 ≡ l.text;
  starts_are : (b : ℕ) → 0 < b → b * block_size < l.k + block_size
      → slice_index l.starts.items b ≡ slice_index (addresses_of l.text l.pieces (map shortest l.pieces)) (min l.k (b * block_size));
}
