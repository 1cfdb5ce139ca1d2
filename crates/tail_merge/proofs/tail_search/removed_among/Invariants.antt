use Rattle.std.proofs.Common.{◌≡◌, List, map}
use Rattle.std.specs.Prelude.{All}
use Rattle.tail_merge.specs.TailItems.{tail_item}
use Rattle.tail_merge.specs.TailSearch.{AreFoundUpTo, HasOwnWord, IsSearchAt}
use Rattle.tail_merge.specs.Tails.{CodeItem}
use Rattle.tail_merge.proofs.tail_search.removed_among.Given as goal

abbrev pub invariant-loop-at : goal.invariant-loop-at
invariant-loop-at l = record {
  state : IsSearchAt l.search l.items l.at;
  found : (cs : List CodeItem) → l.items ≡ map tail_item cs → All HasOwnWord cs → AreFoundUpTo cs l.at l.search.tree l.search.removed.items;
}
