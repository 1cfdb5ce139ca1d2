-- Which nodes of a graph are reached from some of them. A node is a number, and the graph a list that has, for each node, the nodes
-- that its edges lead to.
use Rattle.std.specs.Prelude.{◌≡◌, ℕ, ◌<◌, Bool, true, false, List, [], length, All, Contains, Vec, slice_get, slice_index_or}
use Rattle.std.specs.Option.{option_map_or}
use Rattle.std.specs.declared.alloc.Global.{Global}

-- the nodes that the edges of a node lead to
abbrev pub edges_of : List (Vec ℕ Global) → ℕ → List ℕ
edges_of graph node = option_map_or (λ edges. edges.items) (slice_get graph node) []

-- each edge leads to a node of the graph
abbrev pub AreInside : List (Vec ℕ Global) → Type 0
AreInside graph = (node : ℕ) → All (λ to. to < length graph) (edges_of graph node)

-- a root is reached, and so is each node that an edge of a reached one leads to
pub data Reached (graph : List (Vec ℕ Global)) (roots : List ℕ) : ℕ → Type 0 where
  Root : (node : ℕ) → Contains roots node → Reached graph roots node
  Edge : (node to : ℕ) → Reached graph roots node → Contains (edges_of graph node) to → Reached graph roots to

-- whether a node is marked
abbrev pub mark_of : List Bool → ℕ → Bool
mark_of marks node = slice_index_or marks node false

-- there is a mark for each node, and those that are reached are marked
pub record MarksReached (graph : List (Vec ℕ Global)) (roots : List ℕ) (marks : List Bool) : Type 0 where
  pub size : length marks ≡ length graph
  pub all : (node : ℕ) → Reached graph roots node → mark_of marks node ≡ true
  pub only : (node : ℕ) → mark_of marks node ≡ true → Reached graph roots node
