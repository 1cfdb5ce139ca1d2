-- Cells that are kept in pages of 4,096: a page of numbers takes a byte a byte, and a page of any cells takes more. Page 0 of
-- each pool is never written: it holds zeros, or undefined cells, for all pages that were not written.
use Rattle.std.specs.Prelude.{◌≡◌, ℕ, ◌+◌, ◌*◌, ◌/◌, ◌%◌, ◌^◌, ◌<◌, ◌≤◌, ◌==◌, if◌then◌else◌, List, length, map, slice_index, slice_index_or}
use Rattle.std.specs.List.{range_with_len, sum_by}
use Rattle.rv_decode.specs.Memory.{written}
use Rattle.sym_machine.specs.declared.page.Page.{Page}
use Rattle.sym_machine.specs.declared.page.Page.TheVariants.{Numbers, Cells}
use Rattle.sym_machine.specs.declared.word.SymByte.{SymByte}
use Rattle.sym_machine.specs.declared.word.SymByte.TheVariants.{Num, Undef}
use Rattle.sym_machine.specs.declared.word.SymWord.{SymWord}

-- where each page is held, the two pools, and for how much these have room
pub record Pooled : Type 0 where
  pub pages : List Page
  pub numbers : List ℕ
  pub cells : List SymByte
  pub number_room : ℕ
  pub cell_room : ℕ

-- the cell at an offset of a page
abbrev pub page_cell : Pooled → Page → ℕ → SymByte
page_cell p (Numbers n) x = Num (slice_index p.numbers (4096 * n + x))
page_cell p (Cells n) x = slice_index_or p.cells (4096 * n + x) Undef

-- where the page with a number is held
abbrev pub page_of : Pooled → ℕ → Page
page_of p k = slice_index_or p.pages k (Cells 0)

-- the cell at an index into the pages
abbrev pub pooled_cell : Pooled → ℕ → SymByte
pooled_cell p i = page_cell p (page_of p (i / 4096)) (i % 4096)

-- the word of the four cells from an index on
abbrev pub pooled_word : Pooled → ℕ → SymWord
pooled_word p i = record { b0 = pooled_cell p i; b1 = pooled_cell p (i + 1); b2 = pooled_cell p (i + 2); b3 = pooled_cell p (i + 3) }

-- the first `size` cells
abbrev pub cells_of_pages : Pooled → ℕ → List SymByte
cells_of_pages p size = map (pooled_cell p) (range_with_len 0 size)

-- a page's number in its pool
abbrev pub number_in_pool : Page → ℕ
number_in_pool (Numbers n) = n
number_in_pool (Cells n) = n

-- how many bytes a page may still take of the pool of numbers, and how many cells of the other one
abbrev pub numbers_wanted : Page → ℕ
numbers_wanted (Numbers n) = if n == 0 then 4096 else 0
numbers_wanted (Cells n) = 0

abbrev pub cells_wanted : Page → ℕ
cells_wanted (Numbers n) = 4096
cells_wanted (Cells n) = if n == 0 then 4096 else 0

-- a page lies in its pool
abbrev pub IsInPool : Pooled → Page → Type 0
IsInPool p (Numbers n) = 4096 * n + 4096 ≤ length p.numbers
IsInPool p (Cells n) = 4096 * n + 4096 ≤ length p.cells

-- each page lies in its pool, no two are one but the pages 0, and the pools have room for all pages
pub record IsPooled (p : Pooled) : Type 0 where
  pub inside : (k : ℕ) → IsInPool p (page_of p k)
  pub apart : (j k : ℕ) → 0 < number_in_pool (page_of p j) → page_of p j ≡ page_of p k → j ≡ k
  pub zeros : (x : ℕ) → x < 4096 → slice_index p.numbers x ≡ 0
  pub undefined : (x : ℕ) → x < 4096 → slice_index_or p.cells x Undef ≡ Undef
  pub numbers : (length p.numbers % 4096 ≡ 0) × (4096 ≤ length p.numbers)
  pub cells : (length p.cells % 4096 ≡ 0) × (4096 ≤ length p.cells)
  pub number_room : length p.numbers + sum_by numbers_wanted p.pages ≤ p.number_room
  pub cell_room : length p.cells + sum_by cells_wanted p.pages ≤ p.cell_room
  pub few : length p.pages ≤ 2 ^ 40

-- both pools have the same cells, in the same number of pages
pub record IsSame (old new : Pooled) : Type 0 where
  pub pooled : IsPooled new
  pub count : length new.pages ≡ length old.pages
  pub cell : (i : ℕ) → pooled_cell new i ≡ pooled_cell old i

-- each cell is what f makes of its index and of what it was
pub record IsMade (f : ℕ → SymByte → SymByte) (old new : Pooled) : Type 0 where
  pub pooled : IsPooled new
  pub count : length new.pages ≡ length old.pages
  pub cell : (i : ℕ) → pooled_cell new i ≡ f i (pooled_cell old i)

-- ---- what is written

-- `new` is `old` with these bytes written over it from an index on
abbrev pub AreBytesWritten : ℕ → List ℕ → List ℕ → List ℕ → Type 0
AreBytesWritten at bytes old new =
    (j d : ℕ) → j < length old → slice_index_or new j d ≡ written at (length bytes) (λ i. slice_index bytes i) j (slice_index_or old j d)

-- `new` is `old` with these cells written over it from an index on
abbrev pub AreCellsWritten : ℕ → List SymByte → List SymByte → List SymByte → Type 0
AreCellsWritten at cells old new =
    (j : ℕ) (d : SymByte) → j < length old → slice_index_or new j d ≡ written at (length cells) (λ i. slice_index_or cells i Undef) j (slice_index_or old j d)

-- the word of the four cells from an index on
abbrev pub cell_word : List SymByte → ℕ → SymWord
cell_word cells i = record { b0 = slice_index_or cells i Undef; b1 = slice_index_or cells (i + 1) Undef; b2 = slice_index_or cells (i + 2) Undef; b3 = slice_index_or cells (i + 3) Undef }

-- the word of the four numbers from an index on
abbrev pub bytes_in : List ℕ → ℕ → SymWord
bytes_in numbers i = record { b0 = Num (slice_index numbers i); b1 = Num (slice_index numbers (i + 1)); b2 = Num (slice_index numbers (i + 2)); b3 = Num (slice_index numbers (i + 3)) }

-- the pages hold `size` cells or more
pub record ArePages (p : Pooled) (size : ℕ) : Type 0 where
  pub pooled : IsPooled p
  pub covered : size ≤ 4096 * length p.pages
