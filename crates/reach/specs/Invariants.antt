-- How far the walk over a graph has come. Only invariants, private contracts and proofs name these; nothing that must be believed
-- does.
use Rattle.std.specs.Prelude.{◌≡◌, ℕ, suc, ◌∷◌, ◌+◌, ◌||◌, ◌==◌, ◌⊎◌, Bool, true, List, [], length, Contains, Vec, if◌then◌else◌}
use Rattle.std.specs.List.{list_any}
use Rattle.std.specs.declared.alloc.Global.{Global}
use Rattle.reach.specs.Reach.{Reached, edges_of, mark_of}
use Rattle.reach.specs.declared.walk.Walk.{Walk}

-- how many nodes aren't marked
abbrev pub unmarked : List Bool → ℕ
unmarked [] = 0
unmarked (mark ∷ marks) = if mark then unmarked marks else suc (unmarked marks)

-- whether a node is among others
abbrev pub is_among : List ℕ → ℕ → Bool
is_among nodes node = list_any (λ n. n == node) nodes

-- what a turn of the walk makes less: nodes to be marked, and nodes to be walked from
abbrev pub walk_left : Walk → ℕ
walk_left w = unmarked w.marks.items + length w.pending.items

-- nodes that pass a test are marked now, and those of them that weren't before are pending
pub record Found (test : ℕ → Bool) (old new : Walk) : Type 0 where
  pub size : length new.marks.items ≡ length old.marks.items
  pub marks : (node : ℕ) → mark_of new.marks.items node ≡ (mark_of old.marks.items node || test node)
  pub added : (node : ℕ) → mark_of new.marks.items node ≡ true → (mark_of old.marks.items node ≡ true) ⊎ Contains new.pending.items node
  pub kept : (node : ℕ) → Contains old.pending.items node → Contains new.pending.items node
  pub fresh : (node : ℕ) → Contains new.pending.items node → Contains old.pending.items node ⊎ (test node ≡ true)
  pub same : walk_left new ≡ walk_left old

-- between turns: a marked node is reached, and it is pending, or all nodes that its edges lead to are marked
pub record IsUnderWay (graph : List (Vec ℕ Global)) (roots : List ℕ) (w : Walk) : Type 0 where
  pub size : length w.marks.items ≡ length graph
  pub sound : (node : ℕ) → mark_of w.marks.items node ≡ true → Reached graph roots node
  pub pending : (node : ℕ) → Contains w.pending.items node → mark_of w.marks.items node ≡ true
  pub followed :
      (node : ℕ) → mark_of w.marks.items node ≡ true
      → Contains w.pending.items node ⊎ ((to : ℕ) → Contains (edges_of graph node) to → mark_of w.marks.items to ≡ true)
  pub start : (node : ℕ) → Contains roots node → mark_of w.marks.items node ≡ true
