-- What the loop over the accesses of a frame has seen.
use Rattle.std.proofs.Common.{◌≡◌, ◌≢◌, ℕ, ◌+◌, ◌<◌, List, length, Bool, true, false, Some, arith, get_or, set, get_or-set_same, get_or-set_other, length-set, below_more, inl, inr, ◌∙◌, sym, ap}
use Rattle.std.proofs.lemmas.Bool.{cases_eq}
use Rattle.std.specs.Prelude.{◌⊎◌}
use Rattle.std.specs.List.{slice_get}
use Rattle.rv_decode.specs.declared.instr.Instr.{Instr}
use Rattle.frame_match.specs.declared.slot.Access.{Access}
use Rattle.frame_match.specs.Invariants.Frames.{IsSlot}
use Rattle.frame_match.specs.Read.{slot_accessed}

-- each of n instructions from an index on uses a slot, and just those slots are marked
pub record Seen (which : Access) (bytes left_out : ℕ) (is : List Instr) (from : ℕ) (seen : List Bool) (n : ℕ) : Type 0 where
  pub each : (m : ℕ) → m < n → (j : ℕ) × IsSlot which bytes left_out j (slice_get is (from + m))
  pub marked : (m j : ℕ) → m < n → IsSlot which bytes left_out j (slice_get is (from + m)) → get_or seen j false ≡ true
  pub source : (j : ℕ) → j + left_out < 13 → get_or seen j false ≡ true
      → (m : ℕ) × (m < n) × IsSlot which bytes left_out j (slice_get is (from + m))
  pub size : length seen ≡ 13

-- one instruction more
pub seen_more : (which : Access) (bytes left_out : ℕ) (is : List Instr) (from : ℕ) (seen : List Bool) (n j : ℕ)
    → Seen which bytes left_out is from seen n → IsSlot which bytes left_out j (slice_get is (from + n))
    → ((k : ℕ) → IsSlot which bytes left_out k (slice_get is (from + n)) → Some k ≡ Some j)
    → Seen which bytes left_out is from (set seen j true) (n + 1)
seen_more which bytes left_out is from seen n j s new only =
    record {
      each = below_more _ _ s.each (j, new);
      marked = held;
      source = λ k b g. found k b g (cases_eq k j);
      size = rw length-set s.size;
    }
  where
    bound : j < length seen
    bound = let e = s.size in let b = new.0 in omega arith

    kept : (k : ℕ) → get_or seen k false ≡ true → get_or (set seen j true) k false ≡ true
    kept k h = by (cases_eq k j)
      where
        by : (k ≡ j) ⊎ (k ≢ j) → get_or (set seen j true) k false ≡ true
        by (inl e) = rw e (get_or-set_same seen j true false bound)
        by (inr ne) = get_or-set_other seen j k true false ne ∙ h

    held : (m k : ℕ) → m < n + 1 → IsSlot which bytes left_out k (slice_get is (from + m)) → get_or (set seen j true) k false ≡ true
    held m k l i = by (cases_eq m n)
      where
        by : (m ≡ n) ⊎ (m ≢ n) → get_or (set seen j true) k false ≡ true
        by (inl e) =
            let at : slice_get is (from + m) ≡ slice_get is (from + n) = ap (λ x. slice_get is (from + x)) e in
            let same : k ≡ j = let q = only k (i.0, ap (slot_accessed which) (sym at) ∙ i.1) in cc in
            rw same (get_or-set_same seen j true false bound)
        by (inr ne) = kept k (s.marked m k (omega arith) i)

    found : (k : ℕ) → k + left_out < 13 → get_or (set seen j true) k false ≡ true → (k ≡ j) ⊎ (k ≢ j)
        → (m : ℕ) × (m < n + 1) × IsSlot which bytes left_out k (slice_get is (from + m))
    found k b g (inl e) = (n, omega arith, rw e new)
    found k b g (inr ne) =
        let old : get_or seen k false ≡ true = let q = get_or-set_other seen j k true false ne in cc in
        let w = s.source k b old in
        (w.0, omega (arith, w.1), w.2)
