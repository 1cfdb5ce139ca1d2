-- A change of one size: from the first node that holds it, each next one is the power after it, and no others hold it.
use Rattle.std.proofs.Common.{◌≡◌, ℕ, ◌+◌, ◌-◌, ◌<◌, ◌≤◌, List, length, set, get_or, sym, ap, ◌∙◌, arith, inl, inr, subst, length-set}
use Rattle.std.specs.List.{sum}
use Rattle.std.proofs.lemmas.List.{get_or-set_same, get_or-set_other}
use Rattle.std.proofs.lemmas.Bool.{cases_order}
use Rattle.shrink_layout.specs.Sums.{IsLowPower, IsNode, IsTree}
use Rattle.shrink_layout.proofs.LowPowers.{low_some, low_apart, low_next}
use Rattle.shrink_layout.proofs.SumLaws.{front, front_rises, front_most, front_one, front_set_low, front_set_high}

-- the change of size i to v as far as node k: the nodes before k have the new sums, those from k on the old ones, and k holds i
pub record IsHalfway (sizes nodes : List ℕ) (i v k : ℕ) : Type 0 where
  pub same : length nodes ≡ length sizes
  pub behind : i < k
  pub done : (j : ℕ) → 0 < j → j < k → j ≤ length sizes → IsNode (set sizes i v) nodes j
  pub left : (j : ℕ) → k ≤ j → j ≤ length sizes → IsNode sizes nodes j
  pub covers : (b : ℕ) → IsLowPower k b → k - b ≤ i

-- the change begins at the node that ends with the size
pub change_begins : (sizes nodes : List ℕ) (i v : ℕ) → IsTree sizes nodes → i < length sizes → IsHalfway sizes nodes i v (i + 1)
change_begins sizes nodes i v tree within = record {
  same = tree.same;
  behind = omega arith;
  done = λ j some lt le b is.
      omega (arith, tree.node j some le b is, front_set_low sizes i j v (omega arith), front_set_low sizes i (j - b) v (omega arith));
  left = λ j ge le. tree.node j (omega arith) le;
  covers = λ b is. omega (arith, low_some (i + 1) b is);
}

-- a node that holds the size is no less than it
pub holds_size : (sizes nodes : List ℕ) (i v k b : ℕ) → IsHalfway sizes nodes i v k → IsLowPower k b → k ≤ length sizes
    → get_or nodes (k - 1) 0 + front sizes (k - b) ≡ front sizes k × (get_or sizes i 0 ≤ get_or nodes (k - 1) 0)
holds_size sizes nodes i v k b half is le =
    let node = half.left k (omega arith) le b is in
    let low = front_rises sizes (k - b) i (half.covers b is) in
    let one = front_one sizes i (omega (arith, half.behind)) in
    let high = front_rises sizes (i + 1) k (omega (arith, half.behind)) in
    (node, omega (arith, node, low, one, high))

-- the new node is no more than the new sum of all
pub new_node-le : (sizes nodes : List ℕ) (i v k b : ℕ) → IsHalfway sizes nodes i v k → IsLowPower k b → k ≤ length sizes
    → get_or nodes (k - 1) 0 - get_or sizes i 0 + v ≤ sum (set sizes i v)
new_node-le sizes nodes i v k b half is le =
    let held = holds_size sizes nodes i v k b half is le in
    let high = front_set_high sizes i k v half.behind (omega (arith, half.behind)) in
    omega (arith, held.0, held.1, high, front_most (set sizes i v) k)

-- one node more has changed
pub change_goes_on : (sizes nodes nodes' : List ℕ) (i v k b : ℕ) → IsHalfway sizes nodes i v k → IsLowPower k b → k ≤ length sizes
    → nodes' ≡ set nodes (k - 1) (get_or nodes (k - 1) 0 - get_or sizes i 0 + v) → IsHalfway sizes nodes' i v (k + b)
change_goes_on sizes nodes nodes' i v k b half is le written =
    let within : i < length sizes = omega (arith, half.behind) in
    let some = low_some k b is in
    let other = λ (j : ℕ) (some : 0 < j) (differ : j ≡ k → ⊥).
    let e : get_or nodes' (j - 1) 0 ≡ get_or nodes (j - 1) 0 = ap (λ n. get_or n (j - 1) 0) written ∙ get_or-set_other nodes (k - 1) (j - 1) _ 0 (λ e. differ (omega (arith, half.behind, e))) in e in
    let here : IsNode (set sizes i v) nodes' k = λ c is_c.
    let held = holds_size sizes nodes i v k c half is_c le in
    let in_nodes : k - 1 < length nodes = omega (arith, half.same, half.behind) in
    let new = ap (λ n. get_or n (k - 1) 0) written ∙ get_or-set_same nodes (k - 1) (get_or nodes (k - 1) 0 - get_or sizes i 0 + v) 0 in_nodes in
    omega (arith, held.0, held.1, new, front_set_low sizes i (k - c) v (half.covers c is_c), front_set_high sizes i k v half.behind within) in
    record {
      same = ap length written ∙ length-set nodes (k - 1) _ ∙ half.same;
      behind = omega (arith, half.behind);
      done = λ j some lt in_j c is_j. elim (cases_order j k) [
        | inl at ↦ subst (λ n. IsNode (set sizes i v) nodes' n) (sym at) here c is_j
        | inr differ ↦ elim differ [
          | inl before ↦ omega (arith, other j some (λ e. omega arith), half.done j some before in_j c is_j)
          | inr between ↦
              let near : c ≤ j - k = omega (arith, low_apart k j b c (j - k) is is_j (omega arith) (omega arith)) in
              omega (arith, other j some (λ e. omega arith), half.left j (omega arith) in_j c is_j, front_set_high sizes i (j - c) v (omega (arith, half.behind, near)) within, front_set_high sizes i j v (omega (arith, half.behind)) within)
        ]
      ];
      left = λ j ge in_j c is_j. omega (arith, other j (omega arith) (λ e. omega arith), half.left j (omega arith) in_j c is_j);
      covers = λ c is_c. omega (arith, low_next k b c is is_c, half.covers b is);
    }

-- after the last node all have changed
pub change_ends : (sizes nodes : List ℕ) (i v k : ℕ) → IsHalfway sizes nodes i v k → length sizes < k → IsTree (set sizes i v) nodes
change_ends sizes nodes i v k half past = record {
  same = half.same ∙ sym (length-set sizes i v);
  node = λ j some le. half.done j some (omega (arith, le, length-set sizes i v)) (omega (arith, le, length-set sizes i v));
}
