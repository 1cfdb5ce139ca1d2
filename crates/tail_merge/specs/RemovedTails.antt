-- Removed tails as the code keeps them: by the numbers of two ends among a section's items, and how many items the tails have.
use Rattle.std.specs.Prelude.{◌≡◌, ◌<◌, ◌≤◌, ℕ, ◌+◌, List, [], length, map, reverse, take, All, Some, Vec, slice_get, slice_index_or}
use Rattle.std.specs.declared.alloc.Global.{Global}
use Rattle.psabi_sym.specs.Indexed.{IndexedSection, all_sections}
use Rattle.psabi_sym.specs.Inputs.{ParsedInputs}
use Rattle.tail_merge.specs.Merged.{removed_in}
use Rattle.tail_merge.specs.Tails.{CodeItem, Removed, code_items}
use Rattle.tail_merge.specs.declared.removed_tail.RemovedTail.{RemovedTail}

-- the items up to the one with this number, backwards from it
abbrev pub backwards : List CodeItem → ℕ → ℕ → List CodeItem
backwards items end count = take count (reverse (take (end + 1) items))

-- the tail and the host's that the numbers mean
abbrev pub tail_among : List CodeItem → RemovedTail → Removed
tail_among items t = record { tail = backwards items t.end t.count; host = backwards items t.host t.count }

-- the numbers are those of items, and both tails lie in the section
pub record IsAmong (items : List CodeItem) (t : RemovedTail) : Type 0 where
  pub end : t.end < length items
  pub host : t.host < t.end
  pub count : t.count ≤ t.host + 1

-- these are the tails that are removed from a section
pub record AreRemovedFrom (inputs : ParsedInputs) (l : IndexedSection) (tails : List RemovedTail) : Type 0 where
  pub among : All (IsAmong (code_items inputs l)) tails
  pub are : map (tail_among (code_items inputs l)) tails ≡ removed_in inputs l

-- each of these lists is of the tails that are removed from the section with its number among all
pub record AreAllRemoved (inputs : ParsedInputs) (lists : List (List RemovedTail)) : Type 0 where
  pub count : length lists ≡ length (all_sections inputs.objects)
  pub removed :
      (k : ℕ) → (l : IndexedSection) → slice_get (all_sections inputs.objects) k ≡ Some l
      → AreRemovedFrom inputs l (slice_index_or lists k [])

-- lists that are kept as such
abbrev pub lists_of : List (Vec RemovedTail Global) → List (List RemovedTail)
lists_of tails = map (λ t. t.items) tails
