-- The cells of a stack, in strips of 32. All cells below a mark are undefined, and so are those of a strip that isn't live,
-- whatever is held for them.
use Rattle.std.specs.Prelude.{◌≡◌, ℕ, ◌+◌, ◌*◌, ◌/◌, ◌<◌, ◌≤◌, ◌⊎◌, ◌&&◌, Bool, true, false, nat_le, if◌then◌else◌, List, length, map, slice_index_or}
use Rattle.std.specs.List.{range_with_len}
use Rattle.sym_machine.specs.declared.word.SymByte.{SymByte}
use Rattle.sym_machine.specs.declared.word.SymByte.TheVariants.{Undef}

-- what is held for each cell, which strips are live, and the mark
pub record Strips : Type 0 where
  pub cells : List SymByte
  pub live : List Bool
  pub mark : ℕ

-- whether a cell is what is held for it
abbrev pub is_open : Strips → ℕ → Bool
is_open s i = nat_le s.mark i && slice_index_or s.live (i / 32) false

-- the cell at an index
abbrev pub stack_cell : Strips → ℕ → SymByte
stack_cell s i = if is_open s i then slice_index_or s.cells i Undef else Undef

-- all cells of the stack, in order
unfoldable pub stack_cells : Strips → List SymByte
stack_cells s = map (stack_cell s) (range_with_len 0 (length s.cells))

-- each cell has a strip, and the mark lies within them
pub record AreStrips (s : Strips) : Type 0 where
  pub mark : s.mark ≤ length s.cells
  pub live : length s.cells < 32 * length s.live

-- `new` has the same cells as `old`, and those that were open still are
pub record AreAlike (old new : Strips) : Type 0 where
  pub size : length new.cells ≡ length old.cells
  pub cell : (j : ℕ) → j < length old.cells → stack_cell new j ≡ stack_cell old j
  pub stays : (j : ℕ) → j < length old.cells → is_open old j ≡ true → is_open new j ≡ true

-- n cells from an index on are open, and all other cells are the same; those that were open still are
pub record AreOpened (i n : ℕ) (old new : Strips) : Type 0 where
  pub size : length new.cells ≡ length old.cells
  pub reached : (j : ℕ) → i ≤ j → j < i + n → is_open new j ≡ true
  pub rest : (j : ℕ) → j < length old.cells → (j < i) ⊎ (i + n ≤ j) → stack_cell new j ≡ stack_cell old j
  pub stays : (j : ℕ) → j < length old.cells → is_open old j ≡ true → is_open new j ≡ true
