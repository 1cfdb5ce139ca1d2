-- Cells that are kept in pages of 4,096 bytes.
use Rattle.std.specs.Prelude.{ℕ, List}

-- the cells, and the number of bytes before them in the first page
pub record Paged : Type 0 where
  pub skip : ℕ
  pub cells : List ℕ
