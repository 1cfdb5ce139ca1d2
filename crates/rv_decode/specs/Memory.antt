-- The memory of a machine: regions of cells at consecutive addresses.
use Rattle.std.specs.Prelude.{ℕ, suc, ◌+◌, ◌-◌, ◌/◌, ◌%◌, ◌^◌, Bool, true, false, ◌&&◌, ◌||◌, nat_le, nat_lt, if◌then◌else◌, List, [], ◌∷◌, length, map, replicate, slice_index_or}

-- what a region is for: code is fetched from it, or data is read and written, or it is the stack
pub data Kind : Type 0 where
  Text : Kind
  Data : Kind
  Stack : Kind

-- a region: what it is for, its first address, and its cells
pub record Region (X : Type 0) : Type 0 where
  pub kind : Kind
  pub at : ℕ
  pub cells : List X

-- a region without its cells
pub record Extent : Type 0 where
  pub kind : Kind
  pub at : ℕ
  pub size : ℕ

-- what is left of a region without its cells
abbrev pub extent_of : {X : Type 0} → Region X → Extent
extent_of r = record { kind = r.kind; at = r.at; size = length r.cells }

-- what is left of all regions without their cells
abbrev pub extents_of : {X : Type 0} → List (Region X) → List Extent
extents_of memory = map extent_of memory

-- ---- where an access lies

-- the kind that instructions are fetched from
abbrev pub is_text : Kind → Bool
is_text Text = true
is_text Data = false
is_text Stack = false

-- the kind that interrupts may write
abbrev pub is_stack : Kind → Bool
is_stack Text = false
is_stack Data = false
is_stack Stack = true

-- the kinds that loads and stores may touch
abbrev pub is_data : Kind → Bool
is_data Text = false
is_data Data = true
is_data Stack = true

-- whether the n cells from an address on lie in this region
abbrev pub spans : Extent → ℕ → ℕ → Bool
spans e a n = nat_le e.at a && nat_le (a + n) (e.at + e.size)

-- whether the n cells from an address on lie in one region of such a kind
abbrev pub lies_in : (Kind → Bool) → List Extent → ℕ → ℕ → Bool
lies_in fits [] a n = false
lies_in fits (e ∷ es) a n = (fits e.kind && spans e a n) || lies_in fits es a n

-- ---- cells

-- the cell at an address, and d if no region has one
abbrev pub cell_at : {X : Type 0} → X → List (Region X) → ℕ → X
cell_at d [] a = d
cell_at d (r ∷ rs) a = if spans (extent_of r) a 1 then slice_index_or r.cells (a - r.at) d else cell_at d rs a

-- n cells that are alike
unfoldable pub blank : {X : Type 0} → ℕ → X → List X
blank n x = replicate n x

-- each cell from an address on becomes what f makes of its address and of what it was
abbrev pub cells_changed : {X : Type 0} → (ℕ → X → X) → ℕ → List X → List X
cells_changed f a [] = []
cells_changed f a (c ∷ cs) = f a c ∷ cells_changed f (suc a) cs

-- each cell of every region becomes what f makes of its address and of what it was; each change of memory is one of these
abbrev pub changed : {X : Type 0} → (ℕ → X → X) → List (Region X) → List (Region X)
changed f [] = []
changed f (r ∷ rs) = record r { cells = cells_changed f r.at r.cells } ∷ changed f rs

-- the change that writes n cells from an address on, cell i as given
abbrev pub written : {X : Type 0} → ℕ → ℕ → (ℕ → X) → ℕ → X → X
written at n given a old = if nat_le at a && nat_lt a (at + n) then given (a - at) else old

-- byte i of a word, the lowest first
abbrev pub byte_of : ℕ → ℕ → ℕ
byte_of word i = word / 256 ^ i % 256
