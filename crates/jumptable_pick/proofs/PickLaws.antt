-- The picked table is best: its net is no less than either number of the bound, and by the bound no assignment's is more.
use Rattle.std.proofs.Common.{◌≡◌, ℕ, ◌+◌, ◌-◌, ◌<◌, ◌≤◌, Bool, true, false, cond, nat_lt, List, [], length, max, refl, sym, ap, ◌∙◌, subst, slice_index, arith}
use Rattle.std.proofs.Math.Nat.{max-le}
use Rattle.std.proofs.lemmas.Bool.{ltb-true, ltb-false}
use Rattle.std.proofs.lemmas.List.Elements.{All-nil}
use Rattle.std.specs.List.{sum_by}
use Rattle.std.proofs.Common.{take}
use Rattle.pick_check.specs.declared.saving.Saving.{Saving}
use Rattle.pick_check.specs.declared.part.Part.TheVariants.{Jumps, Calls}
use Rattle.pick_check.specs.Saved.{saved_in}
use Rattle.pick_check.specs.Best.{IsAssignment, NoneSavesMore, Saves}
use Rattle.pick_check.specs.Bound.{excess, jump_bound, call_bound}
use Rattle.pick_check.specs.Certified.{Certified, IsAccepted}
use Rattle.pick_check.proofs.Duality.{none_saves_more}
use Rattle.jumptable_pick.specs.declared.ranking.Rank.{Rank}
use Rattle.jumptable_pick.specs.Ranking.{ranking, rank_saving}
use Rattle.jumptable_pick.specs.Tables.{SlotTable, best_table, better, call_table, chosen, jump_table, net_of, prices_of, saved_at, table_of}
use Rattle.jumptable_pick.specs.Picked.{picked, picked_from}
use Rattle.jumptable_pick.proofs.RankLaws.{Ranked, ranked}
use Rattle.jumptable_pick.proofs.TableLaws.{chosen_save, chosen_few, chosen_in_range, part_bound, cost-le, low_saved, joined_net, joined_assignment}

-- ---- assignments

pub empty_assignment : (savings : List Saving) → IsAssignment savings []
empty_assignment savings = record { few = omega arith; in_range = All-nil (λ slot. slot ≤ length savings) }

pub jumps_assignment : (savings : List Saving) (jumps : List Rank) → Ranked Jumps savings jumps → IsAssignment savings (jump_table jumps)
jumps_assignment savings jumps is = record {
  few = omega (arith, chosen_few 4 32 jumps);
  in_range = chosen_in_range Jumps savings jumps 4 32 is;
}

pub calls_assignment : (savings : List Saving) (jumps calls : List Rank) → Ranked Jumps savings jumps → Ranked Calls savings calls → IsAssignment savings (call_table jumps calls)
calls_assignment savings jumps calls is is' =
    joined_assignment savings (chosen 0 32 jumps) (chosen 4 224 calls) (chosen_few 0 32 jumps) (chosen_few 4 224 calls) (chosen_in_range Jumps savings jumps 0 32 is) (chosen_in_range Calls savings calls 4 224 is')

-- ---- nets

-- the nets of the two tables are no less than the two numbers of the bound
jumps_net : (savings : List Saving) (jumps : List Rank) → Ranked Jumps savings jumps → jump_bound savings (saved_at 32 jumps - 4) - 12 ≤ net_of savings (jump_table jumps)
jumps_net savings jumps is =
    omega (arith, part_bound Jumps savings jumps 4 32 is, chosen_save Jumps savings jumps 4 32 is, low_saved savings (jump_table jumps) (chosen_few 4 32 jumps), cost-le (jump_table jumps))

calls_net : (savings : List Saving) (jumps calls : List Rank) → Ranked Jumps savings jumps → Ranked Calls savings calls → call_bound savings (saved_at 32 jumps) (saved_at 224 calls - 4) - 140 ≤ net_of savings (call_table jumps calls)
calls_net savings jumps calls is is' =
    let s = sum_by (λ r. rank_saving r - 0) (take 32 jumps) in
    let t = sum_by (λ r. rank_saving r - 4) (take 224 calls) in
    let low : saved_in Jumps savings (chosen 0 32 jumps) ≡ s = omega (arith, chosen_save Jumps savings jumps 0 32 is) in
    let high = chosen_save Calls savings calls 4 224 is' in
    let net = joined_net savings (chosen 0 32 jumps) (chosen 4 224 calls) s t (chosen_few 0 32 jumps) low high in
    let bound = part_bound Jumps savings jumps 0 32 is in
    let bound' = part_bound Calls savings calls 4 224 is' in
    let price : 0 + (saved_at 32 jumps - 0) ≡ saved_at 32 jumps = omega arith in
    let same : excess Jumps (0 + (saved_at 32 jumps - 0)) savings ≡ excess Jumps (saved_at 32 jumps) savings = ap (λ p. excess Jumps p savings) price in
    omega (arith, net, bound, bound', same)

-- ---- the better of two tables

-- an assignment with exactly what it saves
record IsSound (savings : List Saving) (table : SlotTable) : Type 0 where
  assignment : IsAssignment savings table.slots
  saves : Saves savings table.slots table.net

empty_sound : (savings : List Saving) → IsSound savings (table_of savings [])
empty_sound savings = record { assignment = empty_assignment savings; saves = omega arith }

better_either : (b : Bool) (P : SlotTable → Type 0) (first second : SlotTable) → P first → (b ≡ true → P second) → P (cond b second first)
better_either true P first second f g = g refl
better_either false P first second f g = f

better_sound : (savings : List Saving) (first : SlotTable) (slots : List ℕ) → IsSound savings first → IsAssignment savings slots → IsSound savings (better first (table_of savings slots))
better_sound savings first slots is is' =
    better_either (nat_lt first.net (net_of savings slots)) (IsSound savings) first (table_of savings slots) is
    (λ more. record { assignment = is'; saves = omega (arith, ltb-true first.net (net_of savings slots) more) })

no_less : (b : Bool) (first second : SlotTable) → (b ≡ true → first.net < second.net) → (b ≡ false → second.net ≤ first.net) → (first.net ≤ (cond b second first).net) × (second.net ≤ (cond b second first).net)
no_less true first second f g = (omega (arith, f refl), omega arith)
no_less false first second f g = (omega arith, omega (arith, g refl))

better_net : (first second : SlotTable) → (first.net ≤ (better first second).net) × (second.net ≤ (better first second).net)
better_net first second = no_less (nat_lt first.net second.net) first second (ltb-true _ _) (ltb-false _ _)

-- ---- the best table

module _ (savings : List Saving) (jumps calls : List Rank) (is : Ranked Jumps savings jumps) (is' : Ranked Calls savings calls) where
  best_sound : IsSound savings (best_table savings jumps calls)
  best_sound =
      better_sound savings _ _ (better_sound savings (table_of savings []) (jump_table jumps) (empty_sound savings) (jumps_assignment savings jumps is)) (calls_assignment savings jumps calls is is')

  -- the net of the best table is the bound by the prices
  best_bound : (best_table savings jumps calls).net ≡ max (jump_bound savings (saved_at 32 jumps - 4) - 12) (call_bound savings (saved_at 32 jumps) (saved_at 224 calls - 4) - 140)
  best_bound =
      let table = best_table savings jumps calls in
      let first = better (table_of savings []) (table_of savings (jump_table jumps)) in
      let before = better_net (table_of savings []) (table_of savings (jump_table jumps)) in
      let behind = better_net first (table_of savings (call_table jumps calls)) in
      let one : jump_bound savings (saved_at 32 jumps - 4) - 12 ≤ table.net = omega (arith, jumps_net savings jumps is, before.1, behind.0) in
      let both : call_bound savings (saved_at 32 jumps) (saved_at 224 calls - 4) - 140 ≤ table.net = omega (arith, calls_net savings jumps calls is is', behind.1) in
      let above = max-le one both in
      let below = none_saves_more savings (saved_at 32 jumps - 4) (saved_at 32 jumps) (saved_at 224 calls - 4) table.slots best_sound.assignment in
      omega (arith, above, below, best_sound.saves)

  accepted_from : IsAccepted savings (picked_from savings jumps calls)
  accepted_from = record { assignment = best_sound.assignment; saves = best_sound.saves; bound = best_bound }

-- ---- in the forms of the code

pub none_fit : (savings : List Saving) (slots : List ℕ) → slots ≡ [] → IsAssignment savings slots
none_fit savings slots is = subst (IsAssignment savings) (sym is) (empty_assignment savings)

pub jumps_fit : (savings : List Saving) (jumps : List Rank) (slots : List ℕ) → jumps ≡ ranking Jumps savings → slots ≡ jump_table jumps → IsAssignment savings slots
jumps_fit savings jumps slots ranks is =
    subst (IsAssignment savings) (sym (is ∙ ap jump_table ranks)) (jumps_assignment savings (ranking Jumps savings) (ranked Jumps savings))

pub calls_fit : (savings : List Saving) (jumps calls : List Rank) (slots : List ℕ) → jumps ≡ ranking Jumps savings → calls ≡ ranking Calls savings → slots ≡ call_table jumps calls → IsAssignment savings slots
calls_fit savings jumps calls slots ranks ranks' is =
    let all : slots ≡ call_table (ranking Jumps savings) (ranking Calls savings) = is ∙ (λ i. call_table (ranks i) (ranks' i)) in
    subst (IsAssignment savings) (sym all) (calls_assignment savings (ranking Jumps savings) (ranking Calls savings) (ranked Jumps savings) (ranked Calls savings))

picked_accepted : (savings : List Saving) → IsAccepted savings (picked savings)
unfolding picked
picked_accepted savings = accepted_from savings (ranking Jumps savings) (ranking Calls savings) (ranked Jumps savings) (ranked Calls savings)

pub is_accepted : (savings : List Saving) (c : Certified) → c ≡ picked savings → IsAccepted savings c
is_accepted savings c is = subst (IsAccepted savings) (sym is) (picked_accepted savings)

pub is_best : (savings : List Saving) (c : Certified) → c ≡ picked savings → NoneSavesMore savings c.net
is_best savings c is slots assignment =
    let accepted = is_accepted savings c is in
    let none = none_saves_more savings (slice_index c.prices 0) (slice_index c.prices 1) (slice_index c.prices 2) slots assignment in
    omega (arith, none, accepted.bound)

pub is_picked : (savings : List Saving) (jumps calls : List Rank) (table : SlotTable) (prices : List ℕ) → jumps ≡ ranking Jumps savings → calls ≡ ranking Calls savings → table ≡ best_table savings jumps calls → prices ≡ prices_of jumps calls
    → record { slots = table.slots; prices = prices; net = table.net } ≡ picked savings
unfolding picked
is_picked savings jumps calls table prices ranks ranks' best priced =
    let from : record { slots = table.slots; prices = prices; net = table.net } ≡ picked_from savings jumps calls = λ i. record { slots = (best i).slots; prices = priced i; net = (best i).net } in
    from ∙ (λ i. picked_from savings (ranks i) (ranks' i))
