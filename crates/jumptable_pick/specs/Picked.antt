-- The certificate that is picked.
use Rattle.std.specs.Prelude.{List}
use Rattle.pick_check.specs.declared.saving.Saving.{Saving}
use Rattle.pick_check.specs.declared.part.Part.TheVariants.{Jumps, Calls}
use Rattle.pick_check.specs.Certified.{Certified}
use Rattle.jumptable_pick.specs.declared.ranking.Rank.{Rank}
use Rattle.jumptable_pick.specs.Ranking.{ranking}
use Rattle.jumptable_pick.specs.Tables.{best_table, prices_of}

-- the best table for targets in these orders, with its prices
abbrev pub picked_from : List Saving → List Rank → List Rank → Certified
picked_from savings jumps calls = record {
  slots = (best_table savings jumps calls).slots;
  prices = prices_of jumps calls;
  net = (best_table savings jumps calls).net;
}

-- the certificate that is picked for savings
unfoldable pub picked : List Saving → Certified
picked savings = picked_from savings (ranking Jumps savings) (ranking Calls savings)
