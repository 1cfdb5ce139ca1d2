-- The register lists, by how many of the 13 registers are missing from each. All facts are computed.
use Rattle.std.proofs.Common.{◌≡◌, ◌≢◌, ◌∙◌, ℕ, ◌+◌, ◌-◌, ◌*◌, ◌≤◌, Bool, true, length, refl, sym, ap, arith, eqb, ltb, leb, not}
use Rattle.std.specs.Prelude.{◌&&◌, ◌||◌}
use Rattle.std.proofs.lemmas.Bool.{agree_below_at, and_parts, eqb-true, eqb-false, leb-true, ltb-true, not-true, or_cases}
use Rattle.std.specs.Prelude.{◌⊎◌}
use Rattle.std.proofs.Common.{inl, inr}
use Rattle.zc_decode.specs.Lists.{stack_adjust_base, registers_of}
use Rattle.frame_match.specs.Invariants.Frames.{list_leaving_out, IsKnown}

-- the list without `left_out` registers has the others, and its smallest frame has room for them
pub record KnownFacts (left_out : ℕ) : Type 0 where
  pub low : 4 ≤ list_leaving_out left_out
  pub high : list_leaving_out left_out ≤ 15
  pub count : length (registers_of (list_leaving_out left_out)) + left_out ≡ 13
  pub room : 52 ≤ stack_adjust_base (list_leaving_out left_out) + 4 * left_out

abbrev tests : ℕ → Bool
tests n =
    eqb n 1
    || (leb 4 (list_leaving_out n) && (leb (list_leaving_out n) 15 && (eqb (length (registers_of (list_leaving_out n)) + n) 13 && leb 52 (stack_adjust_base (list_leaving_out n) + 4 * n))))

pub known_facts : (n : ℕ) → IsKnown n → KnownFacts n
known_facts n k = by (or_cases (eqb n 1) _ (agree_below_at tests (λ m. true) 13 n refl k.small))
  where
    other : n ≢ 1
    other = k.other

    by : (eqb n 1 ≡ true) ⊎ ((leb 4 (list_leaving_out n) && (leb (list_leaving_out n) 15 && (eqb (length (registers_of (list_leaving_out n)) + n) 13 && leb 52 (stack_adjust_base (list_leaving_out n) + 4 * n)))) ≡ true) → KnownFacts n
    by (inl e) = absurd (other (eqb-true n 1 e))
    by (inr h) =
        let p = and_parts (leb 4 (list_leaving_out n)) _ h in
        let q = and_parts (leb (list_leaving_out n) 15) _ p.1 in
        let r = and_parts (eqb (length (registers_of (list_leaving_out n)) + n) 13) _ q.1 in
        record { low = leb-true _ _ p.0; high = leb-true _ _ q.0; count = eqb-true _ _ r.0; room = leb-true _ _ r.1 }

-- how many of the 13 registers are missing from a list
pub record ListFacts (list : ℕ) : Type 0 where
  pub left_out : ℕ
  pub known : IsKnown left_out
  pub list_is : list_leaving_out left_out ≡ list

abbrev out_of : ℕ → ℕ
out_of list = 13 - length (registers_of list)

abbrev list_tests : ℕ → Bool
list_tests list = ltb (out_of list) 13 && (not (eqb (out_of list) 1) && eqb (list_leaving_out (out_of list)) list)

pub list_facts : (list : ℕ) → 4 ≤ list → list ≤ 15 → ListFacts list
list_facts list low high =
    let k : ℕ = list - 4 in
    let same : 4 + k ≡ list = omega (arith, low) in
    let h : list_tests list ≡ true =
    ap list_tests (sym same) ∙ agree_below_at (λ n. list_tests (4 + n)) (λ n. true) 12 k refl (omega (arith, low, high)) in
    let p = and_parts (ltb (out_of list) 13) _ h in
    let q = and_parts (not (eqb (out_of list) 1)) _ p.1 in
    record {
      left_out = out_of list;
      known = record { small = ltb-true _ _ p.0; other = eqb-false (out_of list) 1 (not-true _ q.0) };
      list_is = eqb-true _ _ q.1;
    }
