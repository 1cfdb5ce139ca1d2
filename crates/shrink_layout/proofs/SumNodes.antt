-- Nodes that are made of sizes in place: from the first one on, each is added to the next one that holds it. So what a node
-- holds are its own size, and the sizes from its first on up to a node that was added to it.
use Rattle.std.proofs.Common.{◌≡◌, ℕ, ◌+◌, ◌-◌, ◌<◌, ◌≤◌, ◌^◌, ◌⊎◌, List, length, set, get_or, refl, sym, ap, ◌∙◌, subst, arith, inl, inr, length-set}
use Rattle.std.specs.List.{sum}
use Rattle.std.proofs.lemmas.List.{get_or-set_same, get_or-set_other}
use Rattle.std.proofs.lemmas.Bool.{cases_eq, cases_lt}
use Rattle.shrink_layout.specs.Sums.{IsLowPower, IsNode, IsTree}
use Rattle.shrink_layout.proofs.LowPowers.{low_apart, low_before, low_beside, low_is, low_next, low_same, low_some, low_within}
use Rattle.shrink_layout.proofs.SumLaws.{front, front_most, front_one, front_rises}

-- node j, once the nodes up to i were added to the next ones: what it holds ends at its size, and before that at the last
-- node that was added to it
pub record IsBegun (sizes nodes : List ℕ) (i j b : ℕ) : Type 0 where
  pub until : ℕ
  pub behind : j - b ≤ until
  pub before : until < j
  pub added : (until ≡ j - b) ⊎ ((until ≤ i) × ((d : ℕ) × IsLowPower until d × (until + d ≡ j)))
  pub last : (c d : ℕ) → until < c → c ≤ i → IsLowPower c d → c + d ≡ j → ⊥
  pub holds : get_or nodes (j - 1) 0 + front sizes (j - b) ≡ get_or sizes (j - 1) 0 + front sizes until

-- all nodes, once those up to i were added to the next ones
pub record AreBegun (sizes nodes : List ℕ) (i : ℕ) : Type 0 where
  pub same : length nodes ≡ length sizes
  pub done : (j : ℕ) → 0 < j → j ≤ i → j ≤ length sizes → IsNode sizes nodes j
  pub begun : (j b : ℕ) → i < j → j ≤ length sizes → IsLowPower j b → IsBegun sizes nodes i j b

-- before that they are the sizes
pub nodes_begin : (sizes : List ℕ) → AreBegun sizes sizes 0
nodes_begin sizes = record {
  same = refl;
  done = λ j some le. absurd (omega arith);
  begun = λ j b some le is. record {
    until = j - b;
    behind = omega arith;
    before = omega (arith, low_some j b is);
    added = inl refl;
    last = λ c d lt le is_c e. absurd (omega arith);
    holds = refl;
  };
}

-- ---- the next node

-- the node before it was added to it, unless it holds its size alone
ends_before : (sizes nodes : List ℕ) (i j b : ℕ) (begun : IsBegun sizes nodes i j b) → j ≡ i + 1 → IsLowPower j b → begun.until ≡ i
ends_before sizes nodes i j b begun e is = elim (cases_lt begun.until i) [
  | inl less ↦ elim (low_before j b is) [
    | inl one ↦ absurd (omega (arith, begun.behind))
    | inr one ↦ absurd (begun.last (j - 1) 1 (omega arith) (omega arith) one (omega arith))
  ]
  | inr more ↦ omega (arith, begun.before)
]

-- the node is complete
complete : (sizes nodes : List ℕ) (i j : ℕ) → AreBegun sizes nodes i → j ≡ i + 1 → j ≤ length sizes → IsNode sizes nodes j
complete sizes nodes i j are e le b is =
    let begun = are.begun j b (omega arith) le is in
    let until : begun.until ≡ j - 1 = omega (arith, ends_before sizes nodes i j b begun e is) in
    let all : j - 1 + 1 ≡ j = omega arith in
    omega (arith, begun.holds, ap (front sizes) until, front_one sizes (j - 1) (omega arith), ap (front sizes) all)

all_complete : (sizes nodes : List ℕ) (i : ℕ) → AreBegun sizes nodes i → (j : ℕ) → 0 < j → j ≤ i + 1 → j ≤ length sizes → IsNode sizes nodes j
all_complete sizes nodes i are j some le within = elim (cases_lt j (i + 1)) [
  | inl before ↦ are.done j some (omega arith) within
  | inr here ↦ complete sizes nodes i j are (omega arith) within
]

-- ---- the node to which it is added

-- what the node holds so far ends where the added one begins
not_after : (sizes nodes : List ℕ) (i b j c : ℕ) (begun : IsBegun sizes nodes i j c) → IsLowPower (i + 1) b → j ≡ i + 1 + b → IsLowPower j c → begun.until ≤ i + 1 - b
not_after sizes nodes i b j c begun is e is_j = elim begun.added [
  | inl first ↦ omega (arith, low_next (i + 1) b c is (subst (λ n. IsLowPower n c) e is_j), low_within (i + 1) b is)
  | inr one ↦ elim (cases_lt (i + 1 - b) begun.until) [
    | inl after ↦
        let far = low_apart begun.until (i + 1) one.1.0 b (i + 1 - begun.until) one.1.1 is (omega (arith, one.0)) (omega (arith, one.0)) in
        absurd (omega (arith, far, one.0, one.1.2, low_within (i + 1) b is, low_some (i + 1) b is))
    | inr within ↦ within
  ]
]

not_sooner : (sizes nodes : List ℕ) (i b j c : ℕ) (begun : IsBegun sizes nodes i j c) → IsLowPower (i + 1) b → j ≡ i + 1 + b → IsLowPower j c → i + 1 - b ≤ begun.until
not_sooner sizes nodes i b j c begun is e is_j = elim (low_beside (i + 1) b is) [
  | inl next ↦ omega (arith, low_same j c (b + b) is_j (subst (λ n. IsLowPower n (b + b)) (sym e) next), begun.behind)
  | inr other ↦ elim (cases_lt begun.until (i + 1 - b)) [
    | inl sooner ↦ absurd (begun.last (i + 1 - b) (b + b) sooner (omega (arith, low_some (i + 1) b is)) other (omega (arith, low_within (i + 1) b is)))
    | inr within ↦ within
  ]
]

-- both nodes together are the node's size, and what comes before that
both_hold : (sizes nodes : List ℕ) (i b j c : ℕ) → AreBegun sizes nodes i → IsLowPower (i + 1) b → j ≡ i + 1 + b → j ≤ length sizes → IsLowPower j c
    → get_or nodes (j - 1) 0 + get_or nodes i 0 + front sizes (j - c) ≡ get_or sizes (j - 1) 0 + front sizes (i + 1)
both_hold sizes nodes i b j c are is e le is_j =
    let begun = are.begun j c (omega arith) le is_j in
    let until : begun.until ≡ i + 1 - b = omega (arith, not_after sizes nodes i b j c begun is e is_j, not_sooner sizes nodes i b j c begun is e is_j) in
    let at : i + 1 - 1 ≡ i = omega arith in
    omega (arith, begun.holds, ap (front sizes) until, complete sizes nodes i (i + 1) are refl (omega arith) b is, ap (λ n. get_or nodes n 0) at)

-- both nodes together are no more than the sum of all sizes
pub both_most : (sizes nodes : List ℕ) (i b : ℕ) → AreBegun sizes nodes i → IsLowPower (i + 1) b → i + b < length sizes → length sizes < 2 ^ 64
    → get_or nodes (i + b) 0 + get_or nodes i 0 ≤ sum sizes
both_most sizes nodes i b are is lt few =
    let j = i + 1 + b in
    let c = low_is j (omega arith) (omega arith) in
    let at : j - 1 ≡ i + b = omega arith in
    let next : j - 1 + 1 ≡ j = omega arith in
    omega (
      arith,
      both_hold sizes nodes i b j _ are is refl (omega arith) c.1,
      ap (λ n. get_or nodes n 0) at,
      front_one sizes (j - 1) (omega arith),
      front_rises sizes (i + 1) (j - 1) (omega (arith, low_some (i + 1) b is)),
      ap (front sizes) next,
      front_most sizes j,
    )

-- ---- one more node is added

-- a node to which it isn't added is as before
begun_still : (sizes nodes nodes' : List ℕ) (i b j c : ℕ) → IsBegun sizes nodes i j c → IsLowPower (i + 1) b → (j ≡ i + 1 + b → ⊥)
    → get_or nodes' (j - 1) 0 ≡ get_or nodes (j - 1) 0 → IsBegun sizes nodes' (i + 1) j c
begun_still sizes nodes nodes' i b j c begun is differ same = record {
  until = begun.until;
  behind = begun.behind;
  before = begun.before;
  added = elim begun.added [ inl first ↦ inl first | inr one ↦ inr (omega (arith, one.0), one.1) ];
  last = λ k d lt le is_k e. elim (cases_lt k (i + 1)) [
    | inl sooner ↦ begun.last k d lt (omega arith) is_k e
    | inr here ↦
        let k_is : k ≡ i + 1 = omega arith in
        differ (omega (arith, e, low_same (i + 1) b d is (subst (λ n. IsLowPower n d) k_is is_k)))
  ];
  holds = omega (arith, begun.holds, same);
}

-- the node to which it is added
begun_more : (sizes nodes nodes' : List ℕ) (i b j c : ℕ) → AreBegun sizes nodes i → IsLowPower (i + 1) b → j ≡ i + 1 + b → j ≤ length sizes → IsLowPower j c
    → get_or nodes' (j - 1) 0 ≡ get_or nodes (j - 1) 0 + get_or nodes i 0 → IsBegun sizes nodes' (i + 1) j c
begun_more sizes nodes nodes' i b j c are is e le is_j sum_is = record {
  until = i + 1;
  behind = omega (arith, low_next (i + 1) b c is (subst (λ n. IsLowPower n c) e is_j));
  before = omega (arith, low_some (i + 1) b is);
  added = inr (omega arith, (b, is, sym e));
  last = λ k d lt within is_k e. absurd (omega arith);
  holds = omega (arith, both_hold sizes nodes i b j c are is e le is_j, sum_is);
}

-- none is there to which it is added
pub none_added : (sizes nodes nodes' : List ℕ) (i b : ℕ) → AreBegun sizes nodes i → IsLowPower (i + 1) b → length sizes ≤ i + b → nodes' ≡ nodes → AreBegun sizes nodes' (i + 1)
none_added sizes nodes nodes' i b are is past same = subst (λ n. AreBegun sizes n (i + 1)) (sym same) (record {
  same = are.same;
  done = all_complete sizes nodes i are;
  begun = λ j c lt le is_j. begun_still sizes nodes nodes i b j c (are.begun j c (omega arith) le is_j) is (λ e. omega arith) refl;
})

-- a node is added to the next one that covers it
pub one_added : (sizes nodes nodes' : List ℕ) (i b : ℕ) → AreBegun sizes nodes i → IsLowPower (i + 1) b → i + b < length sizes
    → nodes' ≡ set nodes (i + b) (get_or nodes (i + b) 0 + get_or nodes i 0) → AreBegun sizes nodes' (i + 1)
one_added sizes nodes nodes' i b are is lt written =
    let new = get_or nodes (i + b) 0 + get_or nodes i 0 in
    let some = low_some (i + 1) b is in
    let other = λ (j : ℕ) (differ : j ≡ i + 1 + b → ⊥) (pos : 0 < j).
    let e : get_or nodes' (j - 1) 0 ≡ get_or nodes (j - 1) 0 = ap (λ n. get_or n (j - 1) 0) written ∙ get_or-set_other nodes (i + b) (j - 1) new 0 (λ e. differ (omega (arith, e))) in e in
    record {
      same = ap length written ∙ length-set nodes (i + b) new ∙ are.same;
      done = λ j pos le within c is_j. omega (arith, other j (λ e. omega arith) pos, all_complete sizes nodes i are j pos le within c is_j);
      begun = λ j c after le is_j. elim (cases_eq j (i + 1 + b)) [
        | inl here ↦
            let at : j - 1 ≡ i + b = omega arith in
            let e : get_or nodes' (j - 1) 0 ≡ new = ap (λ n. get_or n (j - 1) 0) written ∙ ap (λ n. get_or (set nodes (i + b) new) n 0) at ∙ get_or-set_same nodes (i + b) new 0 (omega (arith, are.same)) in
            begun_more sizes nodes nodes' i b j c are is here le is_j (omega (arith, e, ap (λ n. get_or nodes n 0) at))
        | inr differ ↦ begun_still sizes nodes nodes' i b j c (are.begun j c (omega arith) le is_j) is differ (other j differ (omega arith))
      ];
    }

-- after the last one the tree is made
pub nodes_end : (sizes nodes : List ℕ) (i : ℕ) → AreBegun sizes nodes i → length sizes ≤ i → IsTree sizes nodes
nodes_end sizes nodes i are past = record { same = are.same; node = λ j some le. are.done j some (omega arith) le }
