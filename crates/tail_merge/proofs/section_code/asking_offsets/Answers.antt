use Rattle.std.proofs.Common.{◌≡◌, Bool, true, false, subst}
use Rattle.std.specs.Prelude.{MatchBool}
use Rattle.std.specs.List.Sorted.{IsNonDecreasing}
use Rattle.std.proofs.lemmas.List.Sorted.{IsNonDecreasingBy-from_sort, IsPermutation-refl, non_decreasing_from_is_sorted}
use Rattle.block_cut.specs.Invariants.Fields.{IsSortedOf}
use Rattle.tail_merge.proofs.section_code.asking_offsets.Goals as goal

if_true : (b : Bool) (A B : Type 0) → b ≡ true → MatchBool b A B → A
if_true true A B is a = a
if_true false A B is b = absurd cc

pub returns-then-is_sorted : goal.returns-then-is_sorted
returns-then-is_sorted c =
    let xs = c.deref.result.now in
    let rise = if_true c.is_sorted.result _ _ c.if-is_sorted.true (non_decreasing_from_is_sorted xs c.is_sorted.result c.is_sorted.ensures.cases) in
    let held = c.in_ok-offsets.offsets.items in
    subst (λ given. IsSortedOf given held) c.in_ok-offsets.ensures
    (record { same = IsPermutation-refl held; rise = subst IsNonDecreasing c.deref.ensures.value rise })

pub returns : goal.returns
returns c =
    subst (λ given. IsSortedOf given c.sort_unstable.new.self.items) c.in_ok-offsets.ensures
    (record { same = c.sort_unstable.ensures.permutation; rise = IsNonDecreasingBy-from_sort (λ n. n) _ c.sort_unstable.ensures.sorted })
