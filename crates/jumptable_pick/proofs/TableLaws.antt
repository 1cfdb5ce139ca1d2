-- What the candidates for the jump table save, and that their slots are assignments.
use Rattle.std.proofs.Common.{◌≡◌, ℕ, zero, suc, ◌+◌, ◌-◌, ◌*◌, ◌<◌, ◌≤◌, Bool, true, false, cond, ◌||◌, ◌==◌, nat_lt, not, List, [], ◌∷◌, ◌++◌, length, map, take, drop, replicate, get_or, All, refl, sym, ap, ◌∙◌, arith, length-append}
use Rattle.std.specs.List.{sum_by, filter}
use Rattle.std.proofs.lemmas.List.{take_all, drop_all, take_at, drop_at, length-map, length-take, length-replicate}
use Rattle.std.proofs.lemmas.List.Sums.{sum_by-cons, sum_by-take-le, count_by-le-length, length-filter}
use Rattle.std.proofs.lemmas.List.Filters.{sum_by-filter_both}
use Rattle.std.proofs.lemmas.List.Elements.{All-head, All-tail, All-take, All-filter, All-map, All-weaker, All-append, All-replicate}
use Rattle.std.proofs.lemmas.List.Folds.{list_any-append}
use Rattle.std.proofs.lemmas.Bool.{eq-eqb, ne_eqb}
use Rattle.pick_check.specs.declared.saving.Saving.{Saving}
use Rattle.pick_check.specs.declared.part.Part.{Part}
use Rattle.pick_check.specs.declared.part.Part.TheVariants.{Jumps, Calls}
use Rattle.pick_check.specs.Saved.{saved_by, has_slot, saved_in, saved_of, cost_of}
use Rattle.pick_check.specs.Best.{IsAssignment}
use Rattle.pick_check.specs.Bound.{excess}
use Rattle.pick_check.proofs.SlotLaws.{saved_from-none, saved_from-cons, saved_from-same}
use Rattle.jumptable_pick.specs.declared.ranking.Rank.{Rank}
use Rattle.jumptable_pick.specs.Ranking.{rank_saving}
use Rattle.jumptable_pick.specs.Tables.{chosen, saved_at, joined, net_of}
use Rattle.jumptable_pick.proofs.RankLaws.{StandsFrom, Ranked, times, above_sum, top-le}

pub joined-some : (low high : List ℕ) → 0 < length high → joined low high ≡ low ++ replicate (32 - length low) 0 ++ high
joined-some low [] some = absurd (omega arith)
joined-some low (slot ∷ high) some = refl

pub joined-none : (low high : List ℕ) → length high ≡ 0 → joined low high ≡ low
joined-none low [] none = refl
joined-none low (slot ∷ high) none = absurd (omega arith)

fresh_head : (b c : Bool) (t : ℕ) → cond b 1 0 + t ≡ 0 → (t ≡ 0 → c ≡ false) → (b || c) ≡ false
fresh_head true c t e f = absurd (omega arith)
fresh_head false c t e f = f (omega arith)

-- a saving whose number isn't in the list has no slot
fresh : (x : ℕ) (ranks : List Rank) → times x ranks ≡ 0 → has_slot (map (λ q. q.number) ranks) x ≡ false
fresh x [] e = refl
fresh x (r ∷ ranks) e =
    fresh_head (r.number == x) (has_slot (map (λ q. q.number) ranks) x) (times x ranks) (sym (sum_by-cons (λ q. cond (q.number == x) 1 0) r ranks) ∙ e) (fresh x ranks)

pub no_saving : Saving
no_saving = record { target = record { object = 0; section = 0; offset = 0 }; jump_sites = 0; call_sites = 0 }

-- slots for ranks with different numbers save the sum of what the ranks save
slots_save : (part : Part) (savings : List Saving) (ranks : List Rank) → All (StandsFrom part 0 savings) ranks → ((k : ℕ) → times k ranks ≤ 1) → saved_in part savings (map (λ q. q.number) ranks) ≡ sum_by rank_saving ranks
slots_save part savings [] stand once = saved_from-none (saved_by part) 0 savings
slots_save part savings (r ∷ ranks) stand once =
    let head = All-head (StandsFrom part 0 savings) r ranks stand in
    let split = λ (k : ℕ). sum_by-cons (λ q. cond (q.number == k) 1 0) r ranks in
    let here : ◌≡◌ {A = ℕ} (cond (r.number == r.number) 1 0) 1 = ap (λ b. cond b 1 0) (eq-eqb r.number r.number refl) in
    let gone : times r.number ranks ≡ 0 = omega (arith, once r.number, split r.number, here) in
    let rest = slots_save part savings ranks (All-tail (StandsFrom part 0 savings) r ranks stand) (λ k. omega (arith, once k, split k)) in
    let first = saved_from-cons (saved_by part) (map (λ q. q.number) ranks) r.number savings no_saving head.low (omega (arith, head.high)) (fresh r.number ranks gone) in
    let at : r.number - 1 - 0 ≡ r.number - 1 = omega arith in
    let one = head.saves no_saving ∙ ap (λ k. saved_by part (get_or savings k no_saving)) at in
    omega (arith, first, rest, one, sum_by-cons rank_saving r ranks)

times-take : (k n : ℕ) (ranks : List Rank) → times k (take n ranks) ≤ times k ranks
times-take k n ranks = sum_by-take-le (λ r. cond (r.number == k) 1 0) ranks n

times-filter : (k : ℕ) (p : Rank → Bool) (ranks : List Rank) → times k (filter p ranks) ≤ times k ranks
times-filter k p ranks = omega (arith, sum_by-filter_both p (λ r. not (p r)) (λ _. refl) (λ r. cond (r.number == k) 1 0) ranks)

-- what slots for the first ranks save
pub chosen_save : (part : Part) (savings : List Saving) (ranks : List Rank) (above most : ℕ) → Ranked part savings ranks → saved_in part savings (chosen above most ranks) ≡ sum_by (λ r. rank_saving r - above) (take most ranks) + above * length (chosen above most ranks)
chosen_save part savings ranks above most is =
    let p = λ (r : Rank). nat_lt above (rank_saving r) in
    let front = take most ranks in
    let stand = All-filter p (StandsFrom part 0 savings) front (All-take (StandsFrom part 0 savings) most ranks is.stand) in
    let once = λ (k : ℕ). let le : times k (filter p front) ≤ 1 = omega (arith, times-filter k p front, times-take k most ranks, is.once k) in le in
    slots_save part savings (filter p front) stand once ∙ above_sum above front ∙ ap (λ n. sum_by (λ r. rank_saving r - above) front + above * n) (sym (length-map (filter p front) (λ q. q.number)))

pub chosen_few : (above most : ℕ) (ranks : List Rank) → length (chosen above most ranks) ≤ most
chosen_few above most ranks =
    let p = λ (r : Rank). nat_lt above (rank_saving r) in
    let front = take most ranks in
    omega (arith, length-map (filter p front) (λ q. q.number), length-filter p front, count_by-le-length p front, length-take most ranks)

pub chosen_in_range : (part : Part) (savings : List Saving) (ranks : List Rank) (above most : ℕ) → Ranked part savings ranks → All (λ slot. slot ≤ length savings) (chosen above most ranks)
chosen_in_range part savings ranks above most is =
    let p = λ (r : Rank). nat_lt above (rank_saving r) in
    let stand = All-filter p (StandsFrom part 0 savings) (take most ranks) (All-take (StandsFrom part 0 savings) most ranks is.stand) in
    All-map (λ slot. slot ≤ length savings) (λ q. q.number) (filter p (take most ranks))
    (All-weaker (StandsFrom part 0 savings) (λ r. r.number ≤ length savings) (λ r h. omega (arith, h.high)) _ stand)

-- the bound of one part by the price of the first rank that has no slot
pub part_bound : (part : Part) (savings : List Saving) (ranks : List Rank) (above most : ℕ) → Ranked part savings ranks → excess part (above + (saved_at most ranks - above)) savings + most * (saved_at most ranks - above) ≤ sum_by (λ r. rank_saving r - above) (take most ranks)
part_bound part savings ranks above most is =
    let price = above + (saved_at most ranks - above) in
    omega (arith, top-le above most ranks is.falls, is.sums (λ x. x - price))

pub cost-le : (slots : List ℕ) → cost_of slots ≤ 4 * length slots + 12
cost-le [] = omega arith
cost-le (slot ∷ slots) = omega arith

-- a table without calls
pub low_saved : (savings : List Saving) (slots : List ℕ) → length slots ≤ 32 → saved_of savings slots ≡ saved_in Jumps savings slots
low_saved savings slots few =
    let none : saved_in Calls savings (drop 32 slots) ≡ 0 = ap (saved_in Calls savings) (drop_all 32 slots few) ∙ saved_from-none (saved_by Calls) 0 savings in
    let all : saved_in Jumps savings (take 32 slots) ≡ saved_in Jumps savings slots = ap (saved_in Jumps savings) (take_all 32 slots few) in
    omega (arith, none, all)

fresh_or : (b c : Bool) → b ≡ false → c ≡ false → (b || c) ≡ false
fresh_or true c e f = e
fresh_or false c e f = f

or_none : (b c : Bool) → c ≡ false → (b || c) ≡ b
or_none true c e = refl
or_none false c e = e

no_hole : (n k : ℕ) → 0 < k → has_slot (replicate n 0) k ≡ false
no_hole zero k lt = refl
no_hole (suc n) k lt = fresh_or (0 == k) (has_slot (replicate n 0) k) (ne_eqb 0 k (λ e. omega arith)) (no_hole n k lt)

-- holes save nothing
holes_save : (part : Part) (savings : List Saving) (slots : List ℕ) (n : ℕ) → saved_in part savings (slots ++ replicate n 0) ≡ saved_in part savings slots
holes_save part savings slots n =
    saved_from-same (saved_by part) (slots ++ replicate n 0) slots 0 savings
    (λ k lt. list_any-append (λ slot. slot == k) slots (replicate n 0) ∙ or_none (has_slot slots k) _ (no_hole n k lt))

-- a table with calls
high_saved : (savings : List Saving) (low high : List ℕ) → length low ≤ 32 → saved_of savings (low ++ replicate (32 - length low) 0 ++ high) ≡ saved_in Jumps savings low + saved_in Calls savings high
high_saved savings low high few =
    let front = low ++ replicate (32 - length low) 0 in
    let long : length front ≡ 32 = omega (arith, length-append low (replicate (32 - length low) 0), length-replicate {A = ℕ} (32 - length low) 0) in
    let jumps : saved_in Jumps savings (take 32 (front ++ high)) ≡ saved_in Jumps savings low = ap (saved_in Jumps savings) (take_at front high 32 long) ∙ holes_save Jumps savings low (32 - length low) in
    let calls : saved_in Calls savings (drop 32 (front ++ high)) ≡ saved_in Calls savings high = ap (saved_in Calls savings) (drop_at front high 32 long) in
    omega (arith, jumps, calls)

high_length : (low high : List ℕ) → length low ≤ 32 → length (low ++ replicate (32 - length low) 0 ++ high) ≡ 32 + length high
high_length low high few =
    omega (arith, length-append (low ++ replicate (32 - length low) 0) high, length-append low (replicate (32 - length low) 0), length-replicate {A = ℕ} (32 - length low) 0)

-- the net of a table with slots for jumps and calls
pub joined_net : (savings : List Saving) (low high : List ℕ) (s t : ℕ) → length low ≤ 32 → saved_in Jumps savings low ≡ s → saved_in Calls savings high ≡ t + 4 * length high → s + t ≤ net_of savings (joined low high) + 140
joined_net savings low [] s t few jumps calls =
    omega (arith, low_saved savings low few, cost-le low, jumps, calls, saved_from-none (saved_by Calls) 0 savings)
joined_net savings low (slot ∷ high) s t few jumps calls =
    omega (arith, high_saved savings low (slot ∷ high) few, cost-le (low ++ replicate (32 - length low) 0 ++ slot ∷ high), high_length low (slot ∷ high) few, jumps, calls)

pub joined_assignment : (savings : List Saving) (low high : List ℕ) → length low ≤ 32 → length high ≤ 224 → All (λ slot. slot ≤ length savings) low → All (λ slot. slot ≤ length savings) high → IsAssignment savings (joined low high)
joined_assignment savings low [] few few' h h' = record { few = omega arith; in_range = h }
joined_assignment savings low (slot ∷ high) few few' h h' =
    let P : ℕ → Type 0 = λ slot. slot ≤ length savings in
    record {
      few = omega (arith, high_length low (slot ∷ high) few);
      in_range = All-append P (low ++ replicate (32 - length low) 0) (slot ∷ high) (All-append P low (replicate (32 - length low) 0) h (All-replicate P (32 - length low) 0 (omega arith))) h';
    }
