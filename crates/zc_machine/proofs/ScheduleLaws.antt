-- Entries in the order of their commits, one after another.
use Rattle.std.proofs.Common.{◌≡◌, ℕ, zero, suc, ◌+◌, ◌-◌, ◌^◌, ◌<◌, ◌≤◌, List, [], ◌∷◌, length, get_or, drop, Bool, true, false, cond, eqb, Some, refl, sym, ap, subst, ◌∙◌, arith}
use Rattle.std.specs.Prelude.{map, slice_get, IfSome}
use Rattle.std.specs.List.Sorted.{IsNonDecreasingBy}
use Rattle.std.proofs.lemmas.Bool.{cond-false, cond-true, eq-eqb, ne_eqb}
use Rattle.std.proofs.lemmas.List.{get_or-map, length-map}
use Rattle.std.proofs.lemmas.List.Sorted.{IsNonDecreasingBy-drop}
use Rattle.interrupt_plan.specs.Plan.{Entry, interrupts_at}
use Rattle.rv_decode.specs.State.{ZcCore}
use Rattle.zc_machine.specs.Interrupt.{all_interrupted, interrupted}
use Rattle.zc_machine.specs.Run.{interrupts_by}
use Rattle.zc_machine.specs.Schedule.{Timed, first_commit, made_at}

-- ---- the entries of a plan

-- an interrupt, as it is made
abbrev pub timed_entry : Entry → Timed
timed_entry e = record { at = e.at; makes = interrupted e.cut }

plan_made : (plan : List Entry) (k : ℕ) (z : ZcCore) → made_at (map timed_entry plan) k z ≡ interrupts_by plan k z
plan_made [] k z = refl
plan_made (e ∷ es) k z = either (eqb e.at k) (plan_made es k)
  where
    either :
        (b : Bool) → ((y : ZcCore) → made_at (map timed_entry es) k y ≡ interrupts_by es k y)
        → made_at (map timed_entry es) k (cond b (interrupted e.cut z) z) ≡ all_interrupted (cond b (e.cut ∷ interrupts_at es k) (interrupts_at es k)) z
    either true rest = rest (interrupted e.cut z)
    either false rest = rest z

-- the entries of a plan make its interrupts
pub plan_happens : (plan : List Entry) → made_at (map timed_entry plan) ≡ interrupts_by plan
plan_happens plan = λ i k z. plan_made plan k z i

-- what is made of a list in order, with the same key, is in order
pub in_order_mapped :
    {X : Type 0} (f : X → Timed) (key : X → ℕ) (xs : List X) → ((x : X) → (f x).at ≡ key x) → IsNonDecreasingBy key xs → IsNonDecreasingBy (λ (e : Timed). e.at) (map f xs)
in_order_mapped f key [] same up = λ i j d le lt. absurd (omega arith)
in_order_mapped f key (x ∷ xs) same up = λ i j d le lt.
    let within : j < length (x ∷ xs) = omega (arith, lt, length-map (x ∷ xs) f) in
    let at : (n : ℕ) → n < length (x ∷ xs) → (get_or (map f (x ∷ xs)) n d).at ≡ key (get_or (x ∷ xs) n x) =
    λ n less. ap (λ (e : Timed). e.at) (get_or-map f (x ∷ xs) n x d less) ∙ same (get_or (x ∷ xs) n x) in
    omega (arith, at i (omega (arith, le, within)), at j within, up i j x le within)

-- ---- which entries come before a commit

-- entries of later commits make nothing
none_made : (es : List Timed) (k : ℕ) (z : ZcCore) → ((j : ℕ) (d : Timed) → j < length es → k < (get_or es j d).at) → made_at es k z ≡ z
none_made [] k z later = refl
none_made (e ∷ es) k z later =
    let first : k < e.at = later 0 e (omega arith) in
    let other : eqb e.at k ≡ false = ne_eqb e.at k (λ same. omega arith) in
    ap (made_at es k) (cond-false (eqb e.at k) (e.makes z) z other) ∙ none_made es k z (λ j d lt. later (suc j) d (omega arith))

-- nothing comes before the first
pub none_before : (es : List Timed) (k : ℕ) (z : ZcCore) → IsNonDecreasingBy (λ (e : Timed). e.at) es → k < first_commit es → made_at es k z ≡ z
none_before [] k z up before = refl
none_before (e ∷ es) k z up before = none_made (e ∷ es) k z (λ j d lt. let after : e.at ≤ (get_or (e ∷ es) j d).at = up 0 j d (omega arith) lt in omega arith)

-- the first entry comes before this commit, or before an earlier one
first_now : (e : Timed) (es : List Timed) (k : ℕ) (z : ZcCore) → e.at ≡ k → made_at (e ∷ es) k z ≡ made_at es k (e.makes z)
first_now e es k z now = ap (made_at es k) (cond-true (eqb e.at k) (e.makes z) z (eq-eqb e.at k now))

first_earlier : (e : Timed) (es : List Timed) (k : ℕ) → e.at < k → made_at (e ∷ es) k ≡ made_at es k
first_earlier e es k past = λ i z. made_at es k (cond-false (eqb e.at k) (e.makes z) z (ne_eqb e.at k (λ same. omega arith)) i)

-- ---- the entry at an index

-- an index has an entry if the commit there isn't the last number
pub some_next : (es : List Timed) (n : ℕ) → first_commit (drop n es) < 2 ^ 64 - 1 → n < length es
some_next [] zero less = absurd (omega arith)
some_next [] (suc n) less = absurd (omega arith)
some_next (e ∷ es) zero less = omega arith
some_next (e ∷ es) (suc n) less = let later = some_next es n less in omega arith

-- without an entry the commit there is the last number
pub first_none : (es : List Timed) (n : ℕ) → length es ≤ n → first_commit (drop n es) ≡ 2 ^ 64 - 1
first_none [] zero le = refl
first_none [] (suc n) le = refl
first_none (e ∷ es) zero le = absurd (omega arith)
first_none (e ∷ es) (suc n) le = first_none es n (omega arith)

-- an entry's commit is the first of those from it on
pub first_at : (es : List Timed) (n at : ℕ) → n < length es → IfSome (slice_get es n) (λ e. at ≡ e.at) → at ≡ first_commit (drop n es)
first_at [] n at lt said = absurd (omega arith)
first_at (e ∷ es) zero at lt said = said
first_at (e ∷ es) (suc n) at lt said = first_at es n at (omega arith) said

record IsEntry (es : List Timed) (n : ℕ) (e : Timed) : Type 0 where
  here : slice_get es n ≡ Some e
  is : drop n es ≡ e ∷ drop (suc n) es
  up : e.at < 2 ^ 64 → e.at ≤ first_commit (drop (suc n) es)

entry_at : (es : List Timed) (n : ℕ) → IsNonDecreasingBy (λ (e : Timed). e.at) es → n < length es → (e : Timed) × IsEntry es n e
entry_at [] n up lt = absurd (omega arith)
entry_at (e ∷ es) zero up lt = (e, record { here = refl; is = refl; up = least es up })
  where
    least : (rest : List Timed) → IsNonDecreasingBy (λ (x : Timed). x.at) (e ∷ rest) → e.at < 2 ^ 64 → e.at ≤ first_commit rest
    least [] up small = omega arith
    least (x ∷ rest) up small = up 0 1 e (omega arith) (omega arith)
entry_at (e ∷ es) (suc n) up lt =
    let later = entry_at es n (IsNonDecreasingBy-drop (λ (x : Timed). x.at) 1 (e ∷ es) up) (omega arith) in
    (later.0, record { here = later.1.here; is = later.1.is; up = later.1.up })

-- the entry at an index was made before its commit
pub record EntryMade (es : List Timed) (n k : ℕ) (z z2 : ZcCore) : Type 0 where
  pub made : made_at (drop n es) k z ≡ made_at (drop (n + 1) es) k z2
  pub goes_on : (j : ℕ) → k < j → made_at (drop (n + 1) es) j ≡ made_at (drop n es) j
  pub not_past : k ≤ first_commit (drop (n + 1) es)

pub entry_made :
    (es : List Timed) (n k : ℕ) (z z2 : ZcCore) → IsNonDecreasingBy (λ (e : Timed). e.at) es → n < length es → first_commit (drop n es) ≡ k → k < 2 ^ 64
    → IfSome (slice_get es n) (λ e. z2 ≡ e.makes z) → EntryMade es n k z z2
entry_made es n k z z2 up lt first small said =
    let (e, at) = entry_at es n up lt in
    let rest = drop (n + 1) es in
    let more : suc n ≡ n + 1 = omega arith in
    let split : drop n es ≡ e ∷ rest = at.is ∙ ap (λ m. e ∷ drop m es) more in
    let now : e.at ≡ k = sym (ap first_commit split) ∙ first in
    let made : z2 ≡ e.makes z = subst (λ o. IfSome o (λ (x : Timed). z2 ≡ x.makes z)) at.here said in
    record {
      made = ap (λ xs. made_at xs k z) split ∙ first_now e rest k z now ∙ ap (made_at rest k) (sym made);
      goes_on = λ j less. sym (ap (λ xs. made_at xs j) split ∙ first_earlier e rest j (omega (arith, now, less)));
      not_past = let least = at.up (omega (arith, now)) in let same = ap (λ m. first_commit (drop m es)) more in omega (arith, now, least, same);
    }
