-- The interrupts of a plan before a commit: that they write bytes, and which entries they are, by the index of the
-- next entry.
use Rattle.std.proofs.Common.{◌≡◌, ℕ, zero, suc, ◌+◌, ◌<◌, ◌≤◌, List, [], ◌∷◌, length, get_or, drop, Bool, true, false, cond, eqb, refl, ap, ◌∙◌, arith}
use Rattle.std.specs.Prelude.{All}
use Rattle.std.proofs.lemmas.Bool.{cond-true, cond-false, eq-eqb, ne_eqb}
use Rattle.std.proofs.lemmas.List.{at_drop_more, get_or-drop, length-drop}
use Rattle.std.proofs.lemmas.List.Elements.{All-cons, All-head, All-nil, All-tail}
use Rattle.interrupt_plan.specs.Plan.{AreInterrupts, Entry, IsInterrupt, IsPlan, interrupts_at}

-- a plan's interrupts write bytes, so those before each commit do
pub interrupts_at-bytes : (plan : List Entry) → IsPlan plan → AreInterrupts (interrupts_at plan)
interrupts_at-bytes [] is k = All-nil IsInterrupt
interrupts_at-bytes (e ∷ es) is k = either (eqb e.at k) (interrupts_at-bytes es (All-tail (λ x. IsInterrupt x.cut) e es is) k)
  where
    either : (b : Bool) → All IsInterrupt (interrupts_at es k) → All IsInterrupt (cond b (e.cut ∷ interrupts_at es k) (interrupts_at es k))
    either true rest = All-cons IsInterrupt e.cut (interrupts_at es k) (All-head (λ x. IsInterrupt x.cut) e es is) rest
    either false rest = rest

-- ---- which entries come before commit k

-- entries of earlier commits have no interrupt before commit k
pub interrupts_at-drop : (n : ℕ) (plan : List Entry) (k : ℕ) → n ≤ length plan → ((j : ℕ) (d : Entry) → j < n → (get_or plan j d).at < k) → interrupts_at plan k ≡ interrupts_at (drop n plan) k
interrupts_at-drop zero plan k within past = refl
interrupts_at-drop (suc n) [] k within past = absurd (omega arith)
interrupts_at-drop (suc n) (e ∷ es) k within past =
    let first : e.at < k = past 0 e (omega arith) in
    let other : eqb e.at k ≡ false = ne_eqb e.at k (λ same. omega arith) in
    cond-false (eqb e.at k) (e.cut ∷ interrupts_at es k) (interrupts_at es k) other ∙ interrupts_at-drop n es k (omega arith) (λ j d lt. past (suc j) d (omega arith))

-- entries of later commits have no interrupt before commit k
none_later : (es : List Entry) (k : ℕ) → ((j : ℕ) (d : Entry) → j < length es → k < (get_or es j d).at) → interrupts_at es k ≡ []
none_later [] k later = refl
none_later (e ∷ es) k later =
    let first : k < e.at = later 0 e (omega arith) in
    let other : eqb e.at k ≡ false = ne_eqb e.at k (λ same. omega arith) in
    cond-false (eqb e.at k) (e.cut ∷ interrupts_at es k) (interrupts_at es k) other ∙ none_later es k (λ j d lt. later (suc j) d (omega arith))

pub interrupts_at-later : (n : ℕ) (plan : List Entry) (k : ℕ) → ((j : ℕ) (d : Entry) → n ≤ j → j < length plan → k < (get_or plan j d).at) → interrupts_at (drop n plan) k ≡ []
interrupts_at-later n plan k later =
    none_later (drop n plan) k (λ j d lt. let size = length-drop n plan in rw (get_or-drop n plan j d) (later (n + j) d (omega arith) (omega arith)))

-- entries of commit k have their interrupts before it, in order
pub interrupts_at-more : (n : ℕ) (plan : List Entry) (e : Entry) (k : ℕ) → n < length plan → get_or plan n e ≡ e → e.at ≡ k → interrupts_at (drop n plan) k ≡ e.cut ∷ interrupts_at (drop (n + 1) plan) k
interrupts_at-more n plan e k lt is now =
    at_drop_more (λ es. interrupts_at es k) plan n e lt
    ∙ ap (λ x. interrupts_at (x ∷ drop (n + 1) plan) k) is
    ∙ cond-true (eqb e.at k) (e.cut ∷ interrupts_at (drop (n + 1) plan) k) (interrupts_at (drop (n + 1) plan) k) (eq-eqb e.at k now)
