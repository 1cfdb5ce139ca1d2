-- Rankings: which saving each rank is for, that each saving has one rank, that sums over ranks are sums over savings,
-- and that the first ranks save as much as the bound by the price of the next one.
use Rattle.std.proofs.Common.{◌≡◌, ℕ, zero, suc, ◌+◌, ◌-◌, ◌*◌, ◌<◌, ◌≤◌, Bool, true, false, cond, ◌==◌, nat_lt, List, [], ◌∷◌, length, take, drop, get_or, All, refl, sym, ap, ◌∙◌, arith, inl, inr, IsPermutation}
use Rattle.std.specs.List.{sum_by, count_by, filter}
use Rattle.std.proofs.lemmas.List.Sorted.{sum_by-IsPermutation}
use Rattle.std.proofs.lemmas.List.Sums.{sum_by-cons}
use Rattle.std.proofs.lemmas.List.Elements.{All-nil, All-cons, All-head, All-tail, All-weaker}
use Rattle.std.proofs.lemmas.Bool.{cases_eq, eq-eqb, ne_eqb, ltb-true, ltb-false, cond-true, cond-false}
use Rattle.pick_check.specs.declared.saving.Saving.{Saving}
use Rattle.pick_check.specs.declared.part.Part.{Part}
use Rattle.pick_check.specs.Saved.{saved_by}
use Rattle.jumptable_pick.specs.declared.ranking.Rank.{Rank}
use Rattle.jumptable_pick.specs.Ranking.{rank_of, ranking, ranks_from, rank_saving, sorted}
use Rattle.jumptable_pick.specs.Tables.{first_saved}
use Rattle.jumptable_pick.proofs.SortLaws.{All-sorted, AreInOrder, ComesBefore, before_least, in_order_from, put_in_order, same_order, sum-sorted}

-- a rank is for a saving whose number is above n
pub record StandsFrom (part : Part) (n : ℕ) (savings : List Saving) (r : Rank) : Type 0 where
  pub low : n < r.number
  pub high : r.number ≤ n + length savings
  pub saves : (d : Saving) → rank_saving r ≡ saved_by part (get_or savings (r.number - 1 - n) d)

stands_behind : (part : Part) (n : ℕ) (s : Saving) (rest : List Saving) (r : Rank) → StandsFrom part (n + 1) rest r → StandsFrom part n (s ∷ rest) r
stands_behind part n s rest r is = record {
  low = omega (arith, is.low);
  high = omega (arith, is.high);
  saves = λ d.
      let e : r.number - 1 - n ≡ suc (r.number - 1 - (n + 1)) = omega (arith, is.low) in
      is.saves d ∙ ap (λ k. saved_by part (get_or (s ∷ rest) k d)) (sym e);
}

ranks_stand : (part : Part) (n : ℕ) (savings : List Saving) → All (StandsFrom part n savings) (ranks_from part n savings)
ranks_stand part n [] = All-nil (StandsFrom part n [])
ranks_stand part n (s ∷ rest) =
    let first : StandsFrom part n (s ∷ rest) (rank_of part (n + 1) s) = record {
      low = omega arith;
      high = omega arith;
      saves = λ d. let e : n + 1 - 1 - n ≡ 0 = omega arith in ap (λ k. saved_by part (get_or (s ∷ rest) k d)) (sym e);
    } in
    All-cons (StandsFrom part n (s ∷ rest)) _ _ first
    (All-weaker (StandsFrom part (n + 1) rest) (StandsFrom part n (s ∷ rest)) (stands_behind part n s rest) _ (ranks_stand part (n + 1) rest))

-- how many ranks have a number
abbrev pub times : ℕ → List Rank → ℕ
times k ranks = count_by (λ r. r.number == k) ranks

times-none : (part : Part) (n k : ℕ) (savings : List Saving) → k ≤ n → times k (ranks_from part n savings) ≡ 0
times-none part n k [] le = refl
times-none part n k (s ∷ rest) le =
    let e = sum_by-cons (λ r. cond (r.number == k) 1 0) (rank_of part (n + 1) s) (ranks_from part (n + 1) rest) in
    let one : ◌≡◌ {A = ℕ} (cond (n + 1 == k) 1 0) 0 = cond-false (n + 1 == k) 1 0 (ne_eqb (n + 1) k (λ is. omega arith)) in
    omega (arith, e, one, times-none part (n + 1) k rest (omega arith))

times_once : (part : Part) (n k : ℕ) (savings : List Saving) → times k (ranks_from part n savings) ≤ 1
times_once part n k [] = omega arith
times_once part n k (s ∷ rest) =
    let e = sum_by-cons (λ r. cond (r.number == k) 1 0) (rank_of part (n + 1) s) (ranks_from part (n + 1) rest) in
    elim (cases_eq (n + 1) k) [
      | inl is ↦
          let one : ◌≡◌ {A = ℕ} (cond (n + 1 == k) 1 0) 1 = cond-true (n + 1 == k) 1 0 (eq-eqb (n + 1) k is) in
          omega (arith, e, one, times-none part (n + 1) k rest (omega arith))
      | inr ne ↦
          let one : ◌≡◌ {A = ℕ} (cond (n + 1 == k) 1 0) 0 = cond-false (n + 1 == k) 1 0 (ne_eqb (n + 1) k ne) in
          omega (arith, e, one, times_once part (n + 1) k rest)
    ]

sum-ranks : (g : ℕ → ℕ) (part : Part) (n : ℕ) (savings : List Saving) → sum_by (λ r. g (rank_saving r)) (ranks_from part n savings) ≡ sum_by (λ s. g (saved_by part s)) savings
sum-ranks g part n [] = refl
sum-ranks g part n (s ∷ rest) =
    let e = sum_by-cons (λ r. g (rank_saving r)) (rank_of part (n + 1) s) (ranks_from part (n + 1) rest) in
    let e' = sum_by-cons (λ s. g (saved_by part s)) s rest in
    e ∙ ap (λ x. g (saved_by part s) + x) (sum-ranks g part (n + 1) rest) ∙ sym e'

-- each rank saves at most what the one before it saves
abbrev pub Falling : List Rank → Type 0
Falling [] = Unit {0}
Falling (r ∷ rest) = All (λ q. rank_saving q ≤ rank_saving r) rest × Falling rest

falls_in_order : (ranks : List Rank) → AreInOrder ranks → Falling ranks
falls_in_order [] order = tt
falls_in_order (r ∷ rest) order =
    (All-weaker (ComesBefore r) (λ q. rank_saving q ≤ rank_saving r) (λ q h. before_least r q h) rest order.0, falls_in_order rest order.1)

pub first_le : (m n : ℕ) (ranks : List Rank) → All (λ q. rank_saving q ≤ m) ranks → first_saved (drop n ranks) ≤ m
first_le m zero [] h = omega arith
first_le m zero (r ∷ rest) h = All-head (λ q. rank_saving q ≤ m) r rest h
first_le m (suc n) [] h = omega arith
first_le m (suc n) (r ∷ rest) h = first_le m n rest (All-tail (λ q. rank_saving q ≤ m) r rest h)

nothing_above : (m p : ℕ) (ranks : List Rank) → m ≤ p → All (λ q. rank_saving q ≤ m) ranks → sum_by (λ r. rank_saving r - p) ranks ≡ 0
nothing_above m p [] le h = refl
nothing_above m p (r ∷ rest) le h =
    let one = All-head (λ q. rank_saving q ≤ m) r rest h in
    omega (arith, sum_by-cons (λ r. rank_saving r - p) r rest, one, nothing_above m p rest le (All-tail (λ q. rank_saving q ≤ m) r rest h))

times_zero : (n p : ℕ) → p ≡ 0 → n * p ≡ 0
times_zero n p e = rw e (omega arith)

-- the first n ranks save, above `a` each, at least what all ranks save above the price of the next one, plus n times
-- what that price exceeds `a` by
pub top-le : (a n : ℕ) (ranks : List Rank) → Falling ranks → sum_by (λ r. rank_saving r - (a + (first_saved (drop n ranks) - a))) ranks + n * (first_saved (drop n ranks) - a) ≤ sum_by (λ r. rank_saving r - a) (take n ranks)
top-le a zero [] falls = omega arith
top-le a zero (r ∷ rest) falls =
    let p = a + (rank_saving r - a) in
    omega (arith, sum_by-cons (λ q. rank_saving q - p) r rest, nothing_above (rank_saving r) p rest (omega arith) falls.0)
top-le a (suc n) [] falls = omega (arith, times_zero (suc n) (first_saved (drop (suc n) []) - a) (omega arith))
top-le a (suc n) (r ∷ rest) falls =
    let p = first_saved (drop n rest) - a in
    let before = top-le a n rest falls.1 in
    let within = first_le (rank_saving r) n rest falls.0 in
    omega (arith, sum_by-cons (λ q. rank_saving q - (a + p)) r rest, sum_by-cons (λ q. rank_saving q - a) r (take n rest), before, within)

above_one : (a : ℕ) (r : Rank) (rest : List Rank) (b : Bool) (fs : List Rank) (t : ℕ) → nat_lt a (rank_saving r) ≡ b → sum_by rank_saving fs ≡ t + a * length fs → sum_by rank_saving (cond b (r ∷ fs) fs) ≡ (rank_saving r - a + t) + a * length (cond b (r ∷ fs) fs)
above_one a r rest true fs t is h = omega (arith, sum_by-cons rank_saving r fs, ltb-true a (rank_saving r) is, h)
above_one a r rest false fs t is h = omega (arith, ltb-false a (rank_saving r) is, h)

-- the targets that save more than `a` save what all targets save above `a`, plus `a` for each of them
pub above_sum : (a : ℕ) (ranks : List Rank) → sum_by rank_saving (filter (λ r. nat_lt a (rank_saving r)) ranks) ≡ sum_by (λ r. rank_saving r - a) ranks + a * length (filter (λ r. nat_lt a (rank_saving r)) ranks)
above_sum a [] = omega arith
above_sum a (r ∷ rest) =
    rw (sum_by-cons (λ r. rank_saving r - a) r rest) (above_one a r rest (nat_lt a (rank_saving r)) _ _ refl (above_sum a rest))

-- ---- rankings

ranking_in_order : (part : Part) (n : ℕ) (savings : List Saving) → AreInOrder (sorted (ranks_from part n savings))
ranking_in_order part n [] = tt
ranking_in_order part n (s ∷ rest) =
    let P : Rank → Type 0 = λ q. n + 1 ≤ q.number in
    let later : All P (ranks_from part (n + 1) rest) = All-weaker (StandsFrom part (n + 1) rest) P (λ q h. omega (arith, h.low)) _ (ranks_stand part (n + 1) rest) in
    put_in_order (rank_of part (n + 1) s) (sorted (ranks_from part (n + 1) rest)) (All-sorted P _ later) (ranking_in_order part (n + 1) rest)

-- what a ranking gives
pub record Ranked (part : Part) (savings : List Saving) (ranks : List Rank) : Type 0 where
  pub stand : All (StandsFrom part 0 savings) ranks
  pub once : (k : ℕ) → times k ranks ≤ 1
  pub falls : Falling ranks
  pub sums : (g : ℕ → ℕ) → sum_by (λ r. g (rank_saving r)) ranks ≡ sum_by (λ s. g (saved_by part s)) savings

pub ranked : (part : Part) (savings : List Saving) → Ranked part savings (ranking part savings)
ranked part savings =
    let listed = ranks_from part 0 savings in
    record {
      stand = All-sorted (StandsFrom part 0 savings) listed (ranks_stand part 0 savings);
      once = λ k. omega (arith, sum-sorted (λ r. cond (r.number == k) 1 0) listed, times_once part 0 k savings);
      falls = falls_in_order (ranking part savings) (ranking_in_order part 0 savings);
      sums = λ g. sum-sorted (λ r. g (rank_saving r)) listed ∙ sum-ranks g part 0 savings;
    }

-- a ranking has each saving once, and is in order
pub record IsRanking (part : Part) (savings : List Saving) (ranks : List Rank) : Type 0 where
  pub each : IsPermutation (ranks_from part 0 savings) ranks
  pub ordered : (k : ℕ) (d : Rank) → k + 1 < length ranks → ComesBefore (get_or ranks k d) (get_or ranks (k + 1) d)

-- no other list is a ranking
pub ranking_is : (part : Part) (savings : List Saving) (ranks : List Rank) → IsRanking part savings ranks → ranks ≡ ranking part savings
ranking_is part savings ranks is =
    let listed = ranks_from part 0 savings in
    same_order ranks (ranking part savings) (in_order_from ranks is.ordered) (ranking_in_order part 0 savings)
    (λ f. sum_by-IsPermutation f listed ranks is.each ∙ sym (sum-sorted f listed))
