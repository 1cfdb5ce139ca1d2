-- Sorted ranks: sorting keeps what holds of each rank, and all sums; the ranks are in order, and no other list in this
-- order has the same sums. So the code's sort gives the same list as the definition.
use Rattle.std.proofs.Common.{◌≡◌, ℕ, suc, ◌+◌, ◌<◌, ◌≤◌, Bool, true, false, cond, ◌&&◌, ◌==◌, nat_lt, List, [], ◌∷◌, length, get_or, All, refl, ap, ◌∙◌, arith, inl, inr, subst}
use Rattle.std.specs.Prelude.{◌⊎◌}
use Rattle.std.specs.Ordering.{is_lt, nat_cmp, ordering_then}
use Rattle.std.specs.declared.cmp.Ordering.TheVariants.{Less, Equal, Greater}
use Rattle.std.specs.List.{sum_by}
use Rattle.std.proofs.lemmas.List.Sums.{sum_by-cons}
use Rattle.std.proofs.lemmas.List.Elements.{All-nil, All-cons, All-head, All-tail, All-weaker}
use Rattle.std.proofs.lemmas.Bool.{and_from, and_parts, cases_lt, eq-eqb, eqb-true, ltb-true, ltb-false}
use Rattle.jumptable_pick.specs.declared.ranking.Rank.{Rank}
use Rattle.jumptable_pick.specs.Ranking.{put_in, rank_saving, sorted}

-- ---- each rank, and sums

put_either : (P : List Rank → Type 0) (b : Bool) (r q : Rank) (rest : List Rank) → (b ≡ true → P (q ∷ put_in r rest)) → (b ≡ false → P (r ∷ q ∷ rest)) → P (cond b (q ∷ put_in r rest) (r ∷ q ∷ rest))
put_either P true r q rest f g = f refl
put_either P false r q rest f g = g refl

All-put_in : (P : Rank → Type 0) (r : Rank) (ranks : List Rank) → P r → All P ranks → All P (put_in r ranks)
All-put_in P r [] h hs = All-cons P r [] h hs
All-put_in P r (q ∷ rest) h hs =
    put_either (All P) (nat_lt (rank_saving r) (rank_saving q)) r q rest
    (λ more. All-cons P q (put_in r rest) (All-head P q rest hs) (All-put_in P r rest h (All-tail P q rest hs)))
    (λ no. All-cons P r (q ∷ rest) h hs)

pub All-sorted : (P : Rank → Type 0) (ranks : List Rank) → All P ranks → All P (sorted ranks)
All-sorted P [] h = h
All-sorted P (r ∷ rest) h = All-put_in P r (sorted rest) (All-head P r rest h) (All-sorted P rest (All-tail P r rest h))

sum-put_in : (f : Rank → ℕ) (r : Rank) (ranks : List Rank) → sum_by f (put_in r ranks) ≡ f r + sum_by f ranks
sum-put_in f r [] = sum_by-cons f r []
sum-put_in f r (q ∷ rest) =
    put_either (λ l. sum_by f l ≡ f r + sum_by f (q ∷ rest)) (nat_lt (rank_saving r) (rank_saving q)) r q rest
    (λ more. omega (arith, sum_by-cons f q (put_in r rest), sum-put_in f r rest, sum_by-cons f q rest))
    (λ no. sum_by-cons f r (q ∷ rest))

pub sum-sorted : (f : Rank → ℕ) (ranks : List Rank) → sum_by f (sorted ranks) ≡ sum_by f ranks
sum-sorted f [] = refl
sum-sorted f (r ∷ rest) = omega (arith, sum-put_in f r (sorted rest), sum-sorted f rest, sum_by-cons f r rest)

-- ---- order

-- ranks are ordered by decreasing savings, and equal ones by their number
abbrev pub ComesBefore : Rank → Rank → Type 0
ComesBefore a b = (rank_saving b < rank_saving a) ⊎ ((rank_saving a ≡ rank_saving b) × (a.number ≤ b.number))

-- each rank comes before all after it
abbrev pub AreInOrder : List Rank → Type 0
AreInOrder [] = Unit {0}
AreInOrder (r ∷ rest) = All (ComesBefore r) rest × AreInOrder rest

before_trans : (a b c : Rank) → ComesBefore a b → ComesBefore b c → ComesBefore a c
before_trans a b c (inl lt) (inl lt') = inl (omega arith)
before_trans a b c (inl lt) (inr tie) = inl (omega (arith, tie.0))
before_trans a b c (inr tie) (inl lt) = inl (omega (arith, tie.0))
before_trans a b c (inr tie) (inr tie') = inr (tie.0 ∙ tie'.0, omega (arith, tie.1, tie'.1))

before_of : (r q : Rank) → rank_saving q ≤ rank_saving r → r.number ≤ q.number → ComesBefore r q
before_of r q le low =
    elim (cases_lt (rank_saving q) (rank_saving r)) [
      | inl lt ↦ inl lt
      | inr ge ↦ inr (omega arith, low)
    ]

pub before_least : (a b : Rank) → ComesBefore a b → rank_saving b ≤ rank_saving a
before_least a b (inl lt) = omega arith
before_least a b (inr tie) = omega (arith, tie.0)

tests_of : (less equal below same : Bool) → is_lt (ordering_then (cond less Less (cond equal Equal Greater)) (cond below Less (cond same Equal Greater))) ≡ false → (less ≡ false) × (equal ≡ true → below ≡ false)
tests_of true equal below same h = absurd cc
tests_of false true true same h = absurd cc
tests_of false true false same h = (refl, λ _. refl)
tests_of false false below same h = (refl, λ e. absurd cc)

-- what isn't less by the order of the code comes later
pub before_from : (a b : Rank) → is_lt (ordering_then (nat_cmp (rank_saving a) (rank_saving b)) (nat_cmp b.number a.number)) ≡ false → ComesBefore a b
before_from a b h =
    let tests = tests_of (nat_lt (rank_saving a) (rank_saving b)) (rank_saving a == rank_saving b) (nat_lt b.number a.number) (b.number == a.number) h in
    let le : rank_saving b ≤ rank_saving a = ltb-false (rank_saving a) (rank_saving b) tests.0 in
    elim (cases_lt (rank_saving b) (rank_saving a)) [
      | inl lt ↦ inl lt
      | inr ge ↦
          let tie : rank_saving a ≡ rank_saving b = omega arith in
          inr (tie, ltb-false b.number a.number (tests.1 (eq-eqb (rank_saving a) (rank_saving b) tie)))
    ]

-- a rank that came first stays before an equal one
pub put_in_order : (r : Rank) (ranks : List Rank) → All (λ q. r.number ≤ q.number) ranks → AreInOrder ranks → AreInOrder (put_in r ranks)
put_in_order r [] low order = (All-nil (ComesBefore r), tt)
put_in_order r (q ∷ rest) low order =
    let P : Rank → Type 0 = λ q. r.number ≤ q.number in
    put_either AreInOrder (nat_lt (rank_saving r) (rank_saving q)) r q rest
    (λ more. (All-put_in (ComesBefore q) r rest (inl (ltb-true (rank_saving r) (rank_saving q) more)) order.0, put_in_order r rest (All-tail P q rest low) order.1))
    (λ no.
    let here : ComesBefore r q = before_of r q (ltb-false (rank_saving r) (rank_saving q) no) (All-head P q rest low) in
    (All-cons (ComesBefore r) q rest here (All-weaker (ComesBefore q) (ComesBefore r) (λ p h. before_trans r q p here h) rest order.0), order))

-- if each comes before the next, each comes before all after it
pub in_order_from : (ranks : List Rank) → ((k : ℕ) (d : Rank) → k + 1 < length ranks → ComesBefore (get_or ranks k d) (get_or ranks (k + 1) d)) → AreInOrder ranks
in_order_from [] f = tt
in_order_from (r ∷ []) f = (All-nil (ComesBefore r), tt)
in_order_from (r ∷ (q ∷ rest)) f =
    let later : AreInOrder (q ∷ rest) = in_order_from (q ∷ rest) (λ k d lt. let e : suc k + 1 ≡ suc (k + 1) = omega arith in subst (λ n. ComesBefore (get_or (q ∷ rest) k d) (get_or (r ∷ (q ∷ rest)) n d)) e (f (suc k) d (omega arith))) in
    let step : ComesBefore r q = f 0 q (omega arith) in
    (All-cons (ComesBefore r) q rest step (All-weaker (ComesBefore q) (ComesBefore r) (λ p h. before_trans r q p step h) rest later.0), later)

-- ---- only one list with these sums is in order

before_both : (a b : Rank) → ComesBefore a b → ComesBefore b a → a ≡ b
before_both a b (inl lt) (inl lt') = absurd (omega arith)
before_both a b (inl lt) (inr tie) = absurd (omega (arith, tie.0))
before_both a b (inr tie) (inl lt) = absurd (omega (arith, tie.0))
before_both a b (inr tie) (inr tie') =
    let n : a.number ≡ b.number = omega (arith, tie.1, tie'.1) in
    λ i. record { saved = record { 0 = tie.0 i }; number = n i }

-- whether two ranks are the same
abbrev same : Rank → Rank → Bool
same q r = (rank_saving q == rank_saving r) && (q.number == r.number)

same-is : (q r : Rank) → same q r ≡ true → q ≡ r
same-is q r e =
    let parts = and_parts (rank_saving q == rank_saving r) (q.number == r.number) e in
    let s : rank_saving q ≡ rank_saving r = eqb-true (rank_saving q) (rank_saving r) parts.0 in
    let n : q.number ≡ r.number = eqb-true q.number r.number parts.1 in
    λ i. record { saved = record { 0 = s i }; number = n i }

same-self : (r : Rank) → same r r ≡ true
same-self r = and_from (rank_saving r == rank_saving r) (r.number == r.number) (eq-eqb (rank_saving r) (rank_saving r) refl) (eq-eqb r.number r.number refl)

-- a list contains its first rank
stands : (r : Rank) (rest : List Rank) → 0 < sum_by (λ q. cond (same q r) 1 0) (r ∷ rest)
stands r rest =
    let one : ◌≡◌ {A = ℕ} (cond (same r r) 1 0) 1 = ap (λ b. cond b 1 0) (same-self r) in
    omega (arith, sum_by-cons (λ q. cond (same q r) 1 0) r rest, one)

found_first : (P : Rank → Type 0) (x y : Rank) (b : Bool) (t : ℕ) → same y x ≡ b → P y → 0 < cond b 1 0 + t → (0 < t → P x) → P x
found_first P x y true t is h some later = subst P (same-is y x is) h
found_first P x y false t is h some later = later (omega arith)

-- what holds of each rank of a list holds of a rank that the list contains
found : (P : Rank → Type 0) (x : Rank) (ranks : List Rank) → All P ranks → 0 < sum_by (λ q. cond (same q x) 1 0) ranks → P x
found P x [] h some = absurd (omega arith)
found P x (y ∷ rest) h some =
    found_first P x y (same y x) (sum_by (λ q. cond (same q x) 1 0) rest) refl (All-head P y rest h)
    (omega (arith, sum_by-cons (λ q. cond (same q x) 1 0) y rest, some))
    (found P x rest (All-tail P y rest h))

-- each of the first ranks is in both lists
first_same : (x y : Rank) (xs ys : List Rank) → All (ComesBefore x) xs → All (ComesBefore y) ys → ((f : Rank → ℕ) → sum_by f (x ∷ xs) ≡ sum_by f (y ∷ ys)) → x ≡ y
first_same x y xs ys after_x after_y sums =
    let itself : (r : Rank) → ComesBefore r r = λ r. inr (refl, omega arith) in
    let x_after : ComesBefore y x = found (ComesBefore y) x (y ∷ ys) (All-cons (ComesBefore y) y ys (itself y) after_y) (omega (arith, sums (λ q. cond (same q x) 1 0), stands x xs)) in
    let y_after : ComesBefore x y = found (ComesBefore x) y (x ∷ xs) (All-cons (ComesBefore x) x xs (itself x) after_x) (omega (arith, sums (λ q. cond (same q y) 1 0), stands y ys)) in
    before_both x y y_after x_after

pub same_order : (xs ys : List Rank) → AreInOrder xs → AreInOrder ys → ((f : Rank → ℕ) → sum_by f xs ≡ sum_by f ys) → xs ≡ ys
same_order [] [] order order' sums = refl
same_order [] (y ∷ ys) order order' sums = absurd (omega (arith, sums (λ _. 1), sum_by-cons (λ (q : Rank). 1) y ys))
same_order (x ∷ xs) [] order order' sums = absurd (omega (arith, sums (λ _. 1), sum_by-cons (λ (q : Rank). 1) x xs))
same_order (x ∷ xs) (y ∷ ys) order order' sums =
    let first : x ≡ y = first_same x y xs ys order.0 order'.0 sums in
    let rest : xs ≡ ys = same_order xs ys order.1 order'.1 (λ f. omega (arith, sums f, sum_by-cons f x xs, sum_by-cons f y ys, ap f first)) in
    λ i. first i ∷ rest i
