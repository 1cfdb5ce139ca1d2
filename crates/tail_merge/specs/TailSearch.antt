-- The search for the tails that are removed from a section, item by item.
use Rattle.std.specs.Prelude.{◌≡◌, ◌<◌, ◌≤◌, ℕ, ◌+◌, true, List, [], ◌∷◌, ◌++◌, drop, length, map, reverse, take, All, Some}
use Rattle.std.specs.List.{AllByRecursion}
use Rattle.rv_decode.specs.Decode.{decoded}
use Rattle.rv_decode.specs.declared.instr.Instr.{Instr}
use Rattle.rv_encode.specs.Words.{encoded}
use Rattle.tail_merge.specs.HostTree.{HoldsRuns, IsHostTree, item_words}
use Rattle.tail_merge.specs.RemovedTails.{IsAmong, tail_among}
use Rattle.tail_merge.specs.TailItems.{AreBefore, host_run, run_words, tail_item, tail_words}
use Rattle.tail_merge.specs.Tails.{CodeItem, ends_tail, op_in_item, removed_from}
use Rattle.tail_merge.specs.declared.host_tree.HostTree.{HostTree}
use Rattle.tail_merge.specs.declared.removed_tail.RemovedTail.{RemovedTail}
use Rattle.tail_merge.specs.declared.tail_item.TailItem.{TailItem}
use Rattle.tail_merge.specs.declared.tail_search.TailSearch.{TailSearch}

-- the word of an instruction without relocation says which one it is
abbrev pub HasOwnWord : CodeItem → Type 0
HasOwnWord c = (i : Instr) → op_in_item c.item ≡ Some i → decoded (encoded i) ≡ Some i

-- the items up to one, backwards
abbrev pub ending_at : List CodeItem → ℕ → List CodeItem
ending_at cs n = reverse (take (n + 1) cs)

-- an item ends tails
pub record IsEndAt (cs : List CodeItem) (n : ℕ) : Type 0 where
  pub end : CodeItem
  pub here : ending_at cs n ≡ end ∷ reverse (take n cs)
  pub ends : ends_tail end ≡ true

-- an item before the n-th ends tails
pub record IsEndBefore (cs : List CodeItem) (n h : ℕ) : Type 0 where
  pub before : h < n
  pub is_end : IsEndAt cs h

-- the tree and the removed tails after n items
pub record AreFoundUpTo (cs : List CodeItem) (n : ℕ) (tree : HostTree) (removed : List RemovedTail) : Type 0 where
  pub hosts : List ℕ
  pub are_ends : AllByRecursion (IsEndBefore cs n) hosts
  pub runs : HoldsRuns tree (map (host_run (map tail_item cs)) hosts)
  pub among : All (IsAmong cs) removed
  pub rest :
      removed_from [] [] cs
      ≡ map (tail_among cs) removed ++ removed_from (map (ending_at cs) hosts) (reverse (take n cs)) (drop n cs)

-- what is known of the items before one without looking back at them
pub record IsSearchAt (search : TailSearch) (items : List TailItem) (n : ℕ) : Type 0 where
  pub before : AreBefore items n search.run search.block
  pub tree : IsHostTree search.tree

-- the n-th item is an end: its run and what of it can be removed begin where the search says
pub record IsAtEnd (search : TailSearch) (items : List TailItem) (n : ℕ) : Type 0 where
  pub inside : n < length items
  pub run_low : search.run ≤ n
  pub block_low : search.block ≤ n
  pub run_is : item_words (drop search.run (take (n + 1) items)) ≡ reverse (run_words (reverse (take (n + 1) items)))
  pub tail_is : item_words (drop search.block (take (n + 1) items)) ≡ reverse (tail_words (reverse (take (n + 1) items)))
  pub tree : IsHostTree search.tree
