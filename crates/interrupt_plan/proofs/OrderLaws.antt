-- The order of entries: of those that are read one after another, and of one that is added.
use Rattle.std.proofs.Common.{◌≡◌, ℕ, ◌-◌, ◌<◌, ◌≤◌, zero, suc, List, [], ◌∷◌, ◌++◌, length, map, get_or, refl, ap, sym, subst, ◌∙◌, length-append, arith}
use Rattle.std.specs.Prelude.{All}
use Rattle.std.proofs.Math.ListN.{get_or-map}
use Rattle.std.proofs.lemmas.List.{get_or_push, length-map}
use Rattle.std.proofs.lemmas.List.Elements.{All-cons, All-nil}
use Rattle.std.proofs.lemmas.List.Sorted.{IsNonDecreasingBy-push}
use Rattle.interrupt_plan.specs.Order.{IsInOrder, IsSharedInOrder}
use Rattle.interrupt_plan.specs.Plan.{Entry}
use Rattle.interrupt_plan.specs.SharedPlan.{SharedEntry, without_cells}

-- ---- order, entry by entry

abbrev pub Ordered : ℕ → List SharedEntry → Type 0
Ordered low [] = Unit {0}
Ordered low (e ∷ es) = (low ≤ e.entry.at) × Ordered e.entry.at es

above : (low high : ℕ) (es : List SharedEntry) → low ≤ high → Ordered high es → All (λ x. low ≤ x.entry.at) es
above low high [] le sorted = All-nil (λ x. low ≤ x.entry.at)
above low high (e ∷ es) le sorted =
    let here : low ≤ e.entry.at = omega (arith, le, sorted.0) in
    All-cons (λ x. low ≤ x.entry.at) e es here (above low e.entry.at es here sorted.1)

pub in_order : (low : ℕ) (es : List SharedEntry) → Ordered low es → IsSharedInOrder es
in_order low [] sorted i j d le lt = absurd (omega (arith, lt))
in_order low (e ∷ es) sorted zero zero d le lt = omega arith
in_order low (e ∷ es) sorted zero (suc j) d le lt = above e.entry.at e.entry.at es (omega arith) sorted.1 j d (omega (arith, lt))
in_order low (e ∷ es) sorted (suc i) zero d le lt = absurd (omega (arith, le))
in_order low (e ∷ es) sorted (suc i) (suc j) d le lt = in_order e.entry.at es sorted.1 i j d (omega (arith, le)) (omega (arith, lt))

pub ordered : (low : ℕ) (es : List SharedEntry) → IsSharedInOrder es → ((e : SharedEntry) (rest : List SharedEntry) → es ≡ e ∷ rest → low ≤ e.entry.at) → Ordered low es
ordered low [] sorted first = tt
ordered low (e ∷ es) sorted first =
    (first e es refl, ordered e.entry.at es (λ i j d le lt. sorted (suc i) (suc j) d (omega (arith, le)) (omega (arith, lt))) (λ f rest is. next f rest is))
  where
    next : (f : SharedEntry) (rest : List SharedEntry) → es ≡ f ∷ rest → e.entry.at ≤ f.entry.at
    next f rest is =
        let size = ap length is in
        let at = ap (λ l. (get_or l 0 e).entry.at) is in
        let le = sorted 0 1 e (omega arith) (omega (arith, size)) in
        omega (arith, le, at)

-- ---- one entry more

pub last_pushed : (es new : List SharedEntry) (e d : SharedEntry) → new ≡ es ++ (e ∷ []) → get_or new (length new - 1) d ≡ e
last_pushed es new e d is =
    let size = length-append es (e ∷ []) in
    let at : length (es ++ (e ∷ [])) - 1 ≡ length es = omega (arith, size) in
    ap (λ l. get_or l (length l - 1) d) is ∙ ap (λ n. get_or (es ++ (e ∷ [])) n d) at ∙ get_or_push es e d (length es) refl

pub in_order_pushed : (es new : List SharedEntry) (e : SharedEntry) (low : ℕ) → new ≡ es ++ (e ∷ []) → IsSharedInOrder es → ((d : SharedEntry) → 0 < length es → (get_or es (length es - 1) d).entry.at ≤ low) → low ≤ e.entry.at → IsSharedInOrder new
in_order_pushed es new e low is sorted last on =
    let P : List SharedEntry → Type 0 = IsSharedInOrder in
    subst P (sym is) (IsNonDecreasingBy-push (λ x. x.entry.at) es e sorted (λ d some. let before = last d some in omega (arith, before, on)))

-- ---- plans without cells

-- a plan is in order where it is with no cells added
pub plain_in_order : (plan : List Entry) → IsSharedInOrder (map without_cells plan) → IsInOrder plan
plain_in_order plan sorted i j d le lt =
    let size = length-map plan without_cells in
    let here = sorted i j (without_cells d) le (omega (arith, size, lt)) in
    let first = ap (λ e. e.entry.at) (get_or-map without_cells plan i d) in
    let second = ap (λ e. e.entry.at) (get_or-map without_cells plan j d) in
    omega (arith, here, first, second)
