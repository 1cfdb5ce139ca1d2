-- Pages of a pool, by a table: page 0 of the pool holds zeros, and each page that was never written has the number 0 there.
use Rattle.std.specs.Prelude.{◌≡◌, ℕ, ◌+◌, ◌*◌, ◌/◌, ◌%◌, ◌^◌, ◌<◌, ◌≤◌, ◌==◌, List, length, map, slice_index}
use Rattle.std.specs.List.{count_by, range_with_len}

-- the byte at an index into the pages
abbrev pub byte_of_pages : List ℕ → List ℕ → ℕ → ℕ
byte_of_pages table pool i = slice_index pool (4096 * slice_index table (i / 4096) + i % 4096)

-- `size` cells from an index on
abbrev pub pooled_bytes : List ℕ → List ℕ → ℕ → ℕ → List ℕ
pooled_bytes table pool from size = map (byte_of_pages table pool) (range_with_len from size)

-- each entry names a page of the pool, and no two entries name one page but that of zeros; a pool of this capacity has room
-- for a page for each entry that names none of its own
pub record IsPool (table pool : List ℕ) (capacity : ℕ) : Type 0 where
  pub inside : (k : ℕ) → 4096 * slice_index table k + 4096 ≤ length pool
  pub apart : (j k : ℕ) → 0 < slice_index table j → slice_index table j ≡ slice_index table k → j ≡ k
  pub zeros : (i : ℕ) → i < 4096 → slice_index pool i ≡ 0
  pub pages : length pool + 4096 * count_by (λ t. t == 0) table ≡ 4096 * length table + 4096
  pub room : 4096 * length table + 4096 ≤ capacity
  pub few : length table ≤ 2 ^ 52

-- the pages of `size` cells, with `skip` bytes before them in the first page
pub record AreCellPages (table pool : List ℕ) (capacity skip size : ℕ) : Type 0 where
  pub in_pool : IsPool table pool capacity
  pub first : skip < 4096
  pub covered : skip + size ≤ 4096 * length table
