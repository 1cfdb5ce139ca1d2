-- Pages of a pool: what is read of them, a page that is taken, and bytes that are written to a page of its own.
use Rattle.std.proofs.Common.{◌≡◌, ◌≢◌, ℕ, ◌+◌, ◌*◌, ◌/◌, ◌%◌, ◌^◌, ◌<◌, ◌≤◌, List, cond, eqb, length, get_or, take, drop, replicate, refl, sym, ap, ◌∙◌, arith, length-drop, slice_index, ◌⊎◌, inl, inr}
use Rattle.std.specs.List.{count_by}
use Rattle.std.proofs.lemmas.Bool.{cases_eq, cases_lt}
use Rattle.std.proofs.lemmas.List.{get_or-drop, get_or-replicate, get_or-take, get_or_default, get_or_past, get_or_read, length-replicate, length-take, same_lists}
use Rattle.std.proofs.lemmas.List.FromFn.{get_or-map-range_with_len, length-map-range_with_len}
use Rattle.std.proofs.lemmas.List.Folds.{sum_by-replicate}
use Rattle.rv_decode.specs.Memory.{blank, cells_changed, written}
use Rattle.rv_decode.proofs.MemoryLaws.{get_or-cells_changed, length-cells_changed, untouched}
use Rattle.rv_decode.proofs.WriteLaws.{written_moved}
use Rattle.zc_machine.specs.Pages.{Paged}
use Rattle.zc_machine.specs.Invariants.Pool.{AreCellPages, IsPool, byte_of_pages, pooled_bytes}

-- what comes after an index in its page
in_page : (x k : ℕ) → x % 4096 + k < 4096 → ((x + k) / 4096 ≡ x / 4096) × ((x + k) % 4096 ≡ x % 4096 + k)
in_page x k lt = (omega (arith, lt), omega (arith, lt))

-- ---- what is read

module _ (table pool : List ℕ) (from size : ℕ) where
  pub length-cells : length (pooled_bytes table pool from size) ≡ size
  length-cells = length-map-range_with_len (byte_of_pages table pool) from size

  -- the size of pages, by the cells that are seen
  pub size_seen : (seen : Paged) → record { skip = from; cells = pooled_bytes table pool from size } ≡ seen → size ≡ length seen.cells
  size_seen seen is = sym length-cells ∙ ap (λ (p : Paged). length p.cells) is

  pub get_or-cells : (k d : ℕ) → k < size → get_or (pooled_bytes table pool from size) k d ≡ byte_of_pages table pool (from + k)
  get_or-cells k d lt = get_or-map-range_with_len (byte_of_pages table pool) from size k (from + k) d lt refl

  -- cells up to the end of their page are bytes of the pool, one after another
  pub cells_read :
      (index page count : ℕ) → page ≡ slice_index table ((from + index) / 4096) → 4096 * page + 4096 ≤ length pool → index + count ≤ size → (from + index) % 4096 + count ≤ 4096
      → take count (drop (4096 * page + (from + index) % 4096) pool) ≡ take count (drop index (pooled_bytes table pool from size))
  cells_read index page count is inside within one = same_lists _ _ (left ∙ sym right) each
    where
      at : ℕ
      at = from + index

      cells : List ℕ
      cells = pooled_bytes table pool from size

      left : length (take count (drop (4096 * page + at % 4096) pool)) ≡ count
      left = omega (arith, length-take count (drop (4096 * page + at % 4096) pool), length-drop (4096 * page + at % 4096) pool, inside, one)

      right : length (take count (drop index cells)) ≡ count
      right = omega (arith, length-take count (drop index cells), length-drop index cells, length-cells, within)

      each : (k d : ℕ) → k < length (take count (drop (4096 * page + at % 4096) pool)) → get_or (take count (drop (4096 * page + at % 4096) pool)) k d ≡ get_or (take count (drop index cells)) k d
      each k d lt =
          let less : k < count = omega (arith, lt, left) in
          let q = in_page at k (omega (arith, less, one)) in
          let where_it_is : 4096 * page + at % 4096 + k ≡ 4096 * slice_index table (at / 4096) + (at + k) % 4096 = omega (arith, is, q.1) in
          let next : at + k ≡ from + (index + k) = omega arith in
          get_or-take count (drop (4096 * page + at % 4096) pool) k d less
          ∙ get_or-drop (4096 * page + at % 4096) pool k d
          ∙ get_or_default pool (4096 * page + at % 4096 + k) d 0 (omega (arith, less, one, inside))
          ∙ ap (slice_index pool) where_it_is
          ∙ ap (λ j. slice_index pool (4096 * slice_index table j + (at + k) % 4096)) (sym q.0)
          ∙ ap (byte_of_pages table pool) next
          ∙ sym (get_or-take count (drop index cells) k d less ∙ get_or-drop index cells k d ∙ get_or-cells (index + k) d (omega (arith, less, within)))

-- the page of the pool that an entry names, as the code reads it
pub page_read :
    (table pool : List ℕ) (capacity skip size index page : ℕ) → AreCellPages table pool capacity skip size → index < size → page ≡ get_or table ((skip + index) / 4096) page
    → (page ≡ slice_index table ((skip + index) / 4096)) × (4096 * page + 4096 ≤ length pool)
page_read table pool capacity skip size index page are within is =
    let named = get_or_read table ((skip + index) / 4096) page (omega (arith, within, are.covered)) is 0 in
    (named, omega (arith, named, are.in_pool.inside ((skip + index) / 4096)))

-- ---- pages that were never written

length-zeros : (n : ℕ) → length (replicate {A = ℕ} n 0) ≡ n
length-zeros n = length-replicate {A = ℕ} n 0

zeros_at : (n k : ℕ) → slice_index (replicate n 0) k ≡ 0
zeros_at n k = by_place (cases_lt k n)
  where
    by_place : (k < n) ⊎ (n ≤ k) → slice_index (replicate n 0) k ≡ 0
    by_place (inl lt) = get_or-replicate n k 0 0 lt
    by_place (inr past) = get_or_past (replicate n 0) k 0 (omega (arith, length-zeros n, past))

count_zeros : (n : ℕ) → count_by (λ t. eqb t 0) (replicate n 0) ≡ n
count_zeros n = sum_by-replicate (λ (t : ℕ). cond (eqb t 0) 1 0) n 0 ∙ omega arith

pub none_written : (count capacity : ℕ) → 4096 * count + 4096 ≤ capacity → count ≤ 2 ^ 52 → IsPool (replicate count 0) (replicate 4096 0) capacity
none_written count capacity room few = record {
  inside = λ k. omega (arith, zeros_at count k, length-zeros 4096);
  apart = λ j k some same. absurd (omega (arith, zeros_at count j, some));
  zeros = λ i lt. zeros_at 4096 i;
  pages = omega (arith, count_zeros count, length-zeros count, length-zeros 4096);
  room = omega (arith, length-zeros count, room);
  few = omega (arith, length-zeros count, few);
}

pub blank_cells : (count from size : ℕ) → pooled_bytes (replicate count 0) (replicate 4096 0) from size ≡ blank size 0
unfolding blank
blank_cells count from size = same_lists _ _ (length-cells (replicate count 0) (replicate 4096 0) from size ∙ sym (length-zeros size)) each
  where
    each : (k d : ℕ) → k < length (pooled_bytes (replicate count 0) (replicate 4096 0) from size) → get_or (pooled_bytes (replicate count 0) (replicate 4096 0) from size) k d ≡ get_or (replicate size 0) k d
    each k d lt =
        let less : k < size = omega (arith, lt, length-cells (replicate count 0) (replicate 4096 0) from size) in
        get_or-cells (replicate count 0) (replicate 4096 0) from size k d less
        ∙ zeros_at 4096 (4096 * slice_index (replicate count 0) ((from + k) / 4096) + (from + k) % 4096)
        ∙ sym (get_or-replicate size k 0 d less)

-- ---- bytes that are written

-- to a page of its own
module _ (table pool : List ℕ) (capacity at n page : ℕ) (given : ℕ → ℕ) (is_pool : IsPool table pool capacity) (own : 0 < page) (is : slice_index table (at / 4096) ≡ page) (one : at % 4096 + n ≤ 4096) where
  abbrev pub pool' : List ℕ
  pool' = cells_changed (written (4096 * page + at % 4096) n given) 0 pool

  size' : length pool' ≡ length pool
  size' = length-cells_changed (written (4096 * page + at % 4096) n given) 0 pool

  byte' : (x : ℕ) → x < length pool → slice_index pool' x ≡ written (4096 * page + at % 4096) n given x (slice_index pool x)
  byte' x lt =
      let here : 0 + x ≡ x = omega arith in
      get_or-cells_changed (written (4096 * page + at % 4096) n given) 0 x pool 0 lt ∙ ap (λ y. written (4096 * page + at % 4096) n given y (slice_index pool x)) here

  pub still_pool : IsPool table pool' capacity
  still_pool = record {
    inside = λ k. omega (arith, is_pool.inside k, size');
    apart = is_pool.apart;
    zeros = λ i lt. byte' i (omega (arith, is_pool.inside 0, lt)) ∙ untouched (4096 * page + at % 4096) n given i (slice_index pool i) (λ low high. omega (arith, low, lt, own)) ∙ is_pool.zeros i lt;
    pages = omega (arith, is_pool.pages, size');
    room = is_pool.room;
    few = is_pool.few;
  }

  pub byte-written : (i : ℕ) → byte_of_pages table pool' i ≡ written at n given i (byte_of_pages table pool i)
  byte-written i = byte' x (omega (arith, is_pool.inside (i / 4096))) ∙ by_page (cases_eq (i / 4096) (at / 4096))
    where
      x : ℕ
      x = 4096 * slice_index table (i / 4096) + i % 4096

      by_page : (i / 4096 ≡ at / 4096) ⊎ (i / 4096 ≢ at / 4096) → written (4096 * page + at % 4096) n given x (slice_index pool x) ≡ written at n given i (slice_index pool x)
      by_page (inl same) =
          let named : slice_index table (i / 4096) ≡ page = ap (slice_index table) same ∙ is in
          written_moved (4096 * page + at % 4096) at n given x i (slice_index pool x) (omega (arith, named, same))
      by_page (inr other) =
          untouched (4096 * page + at % 4096) n given x (slice_index pool x) (λ low high. other (sym (is_pool.apart (at / 4096) (i / 4096) (omega (arith, is, own)) (omega (arith, is, low, high, one)))))
          ∙ sym (untouched at n given i (slice_index pool x) (λ low high. other (omega (arith, low, high, one))))

-- to the cells
pub cells-written :
    (table pool table' pool' : List ℕ) (from size index n : ℕ) (given : ℕ → ℕ) → ((i : ℕ) → byte_of_pages table' pool' i ≡ written (from + index) n given i (byte_of_pages table pool i))
    → pooled_bytes table' pool' from size ≡ cells_changed (written index n given) 0 (pooled_bytes table pool from size)
cells-written table pool table' pool' from size index n given bytes =
    same_lists _ _ (length-cells table' pool' from size ∙ sym (length-cells_changed (written index n given) 0 cells ∙ length-cells table pool from size)) each
  where
    cells : List ℕ
    cells = pooled_bytes table pool from size

    each : (k d : ℕ) → k < length (pooled_bytes table' pool' from size) → get_or (pooled_bytes table' pool' from size) k d ≡ get_or (cells_changed (written index n given) 0 cells) k d
    each k d lt =
        let less : k < size = omega (arith, lt, length-cells table' pool' from size) in
        get_or-cells table' pool' from size k d less
        ∙ bytes (from + k)
        ∙ written_moved (from + index) index n given (from + k) (0 + k) (byte_of_pages table pool (from + k)) (omega arith)
        ∙ ap (written index n given (0 + k)) (sym (get_or-cells table pool from size k d less))
        ∙ sym (get_or-cells_changed (written index n given) 0 k cells d (omega (arith, less, length-cells table pool from size)))
