-- Plans that are generated from a number: one more interrupt, their order, and that they write bytes.
use Rattle.std.proofs.Common.{◌≡◌, ℕ, zero, suc, ◌+◌, ◌-◌, ◌/◌, ◌%◌, ◌^◌, ◌<◌, ◌≤◌, List, [], ◌∷◌, ◌++◌, length, get_or, filter, Bool, true, false, cond, eqb, sym, ap, subst, ◌∙◌, arith, append-nil, append_assoc}
use Rattle.std.specs.Prelude.{All}
use Rattle.std.specs.List.{range_with_len}
use Rattle.std.proofs.Math.Nat.{mod-lt}
use Rattle.std.proofs.lemmas.List.Elements.{All-cons, All-nil}
use Rattle.zc_base.specs.Draws.{drawn, stepped}
use Rattle.interrupt_plan.specs.Order.{IsInOrder}
use Rattle.interrupt_plan.specs.Plan.{Entry, IsInterrupt, IsPlan}
use Rattle.interrupt_plan.specs.Made.{after_dirt, cut_after, cuts_from, dirt_from, made_plan}

less : (n i : ℕ) → i < n → n - i ≡ suc (n - (i + 1))
less n i lt = omega arith

-- ---- accesses

filter_push : (p : ℕ → Bool) (a n : ℕ) → filter p (range_with_len a (n + 1)) ≡ filter p (range_with_len a n) ++ cond (p (a + n)) ((a + n) ∷ []) []
filter_push p a zero =
    let here : a ≡ a + 0 = omega arith in
    ap (λ k. cond (p k) (k ∷ []) []) here
filter_push p a (suc n) =
    let more : suc n + 1 ≡ suc (n + 1) = omega arith in
    let here : a + 1 + n ≡ a + suc n = omega arith in
    ap (λ k. filter p (range_with_len a k)) more ∙ by (p a) (filter_push p (a + 1) n)
    ∙ ap (λ k. cond (p a) (a ∷ filter p (range_with_len (a + 1) n)) (filter p (range_with_len (a + 1) n)) ++ cond (p k) (k ∷ []) []) here
  where
    by : (b : Bool) → filter p (range_with_len (a + 1) (n + 1)) ≡ filter p (range_with_len (a + 1) n) ++ cond (p (a + 1 + n)) ((a + 1 + n) ∷ []) []
        → cond b (a ∷ filter p (range_with_len (a + 1) (n + 1))) (filter p (range_with_len (a + 1) (n + 1))) ≡ cond b (a ∷ filter p (range_with_len (a + 1) n)) (filter p (range_with_len (a + 1) n)) ++ cond (p (a + 1 + n)) ((a + 1 + n) ∷ []) []
    by true rest = ap (λ l. a ∷ l) rest
    by false rest = rest

pub done_more : (bits a : ℕ) → filter (λ k. eqb (bits / 2 ^ k % 2) 1) (range_with_len 0 (a + 1)) ≡ filter (λ k. eqb (bits / 2 ^ k % 2) 1) (range_with_len 0 a) ++ cond (eqb (bits / 2 ^ a % 2) 1) (a ∷ []) []
done_more bits a =
    let here : 0 + a ≡ a = omega arith in
    filter_push (λ k. eqb (bits / 2 ^ k % 2) 1) 0 a ∙ ap (λ k. filter (λ j. eqb (bits / 2 ^ j % 2) 1) (range_with_len 0 a) ++ cond (eqb (bits / 2 ^ k % 2) 1) (k ∷ []) []) here

-- ---- bytes

pub dirt_more : (out : List (ℕ × ℕ)) (n i x : ℕ) → i < n → (out ++ (0x0FFF_F000 + drawn (stepped x) % 4096, drawn (stepped (stepped x)) % 256) ∷ []) ++ dirt_from (n - (i + 1)) (stepped (stepped x)) ≡ out ++ dirt_from (n - i) x
dirt_more out n i x lt = append_assoc out _ _ ∙ ap (λ m. out ++ dirt_from m x) (sym (less n i lt))

pub after_more : (n i x : ℕ) → i < n → after_dirt (n - (i + 1)) (stepped (stepped x)) ≡ after_dirt (n - i) x
after_more n i x lt = ap (λ m. after_dirt m x) (sym (less n i lt))

-- ---- interrupts

pub cuts_more : (out : List Entry) (n i at x : ℕ) → i < n → (out ++ cut_after at x ∷ []) ++ cuts_from (n - (i + 1)) (at + drawn (stepped x) % 64) (after_dirt 4 (stepped (stepped x))) ≡ out ++ cuts_from (n - i) at x
cuts_more out n i at x lt =
    append_assoc out (cut_after at x ∷ []) (cuts_from (n - (i + 1)) (at + drawn (stepped x) % 64) (after_dirt 4 (stepped (stepped x))))
    ∙ ap (λ m. out ++ cuts_from m at x) (sym (less n i lt))

cuts_low : (n at x j : ℕ) (d : Entry) → j < length (cuts_from n at x) → at ≤ (get_or (cuts_from n at x) j d).at
cuts_low zero at x j d lt = absurd (omega (arith, lt))
cuts_low (suc n) at x zero d lt = omega arith
cuts_low (suc n) at x (suc j) d lt =
    omega (arith, cuts_low n (at + drawn (stepped x) % 64) (after_dirt 4 (stepped (stepped x))) j d (omega (arith, lt)))

cuts_rise : (n at x : ℕ) → IsInOrder (cuts_from n at x)
cuts_rise zero at x i j d le lt = absurd (omega (arith, lt))
cuts_rise (suc n) at x zero zero d le lt = omega arith
cuts_rise (suc n) at x zero (suc j) d le lt = cuts_low n (at + drawn (stepped x) % 64) (after_dirt 4 (stepped (stepped x))) j d (omega (arith, lt))
cuts_rise (suc n) at x (suc i) zero d le lt = absurd (omega (arith, le))
cuts_rise (suc n) at x (suc i) (suc j) d le lt = cuts_rise n (at + drawn (stepped x) % 64) (after_dirt 4 (stepped (stepped x))) i j d (omega (arith, le)) (omega (arith, lt))

length-cuts : (n at x : ℕ) → length (cuts_from n at x) ≡ n
length-cuts zero at x = omega arith
length-cuts (suc n) at x = let rest = length-cuts n (at + drawn (stepped x) % 64) (after_dirt 4 (stepped (stepped x))) in omega (arith, rest)

-- at the end of the loop all interrupts are drawn
all_drawn : (out : List Entry) (number n i at x : ℕ) → n ≤ i → out ++ cuts_from (n - i) at x ≡ cuts_from n 0 number → out ≡ cuts_from n 0 number
all_drawn out number n i at x le are =
    let none : n - i ≡ 0 = omega arith in
    sym (ap (λ m. out ++ cuts_from m at x) none ∙ append-nil out) ∙ are

pub drawn_order : (out : List Entry) (number n i at x : ℕ) → n ≤ i → out ++ cuts_from (n - i) at x ≡ cuts_from n 0 number → IsInOrder out
drawn_order out number n i at x le are = subst IsInOrder (sym (all_drawn out number n i at x le are)) (cuts_rise n 0 number)

pub drawn_few : (out : List Entry) (number n i at x : ℕ) → n ≤ i → out ++ cuts_from (n - i) at x ≡ cuts_from n 0 number → length out ≡ n
drawn_few out number n i at x le are = ap length (all_drawn out number n i at x le are) ∙ length-cuts n 0 number

-- ---- all values that are written fit in a byte

dirt_bytes : (n x : ℕ) → All (λ d. d.1 < 256) (dirt_from n x)
dirt_bytes zero x = All-nil (λ d. d.1 < 256)
dirt_bytes (suc n) x =
    let next = stepped (stepped x) in
    All-cons (λ d. d.1 < 256) (0x0FFF_F000 + drawn (stepped x) % 4096, drawn next % 256) (dirt_from n next) (mod-lt (drawn next) (omega arith)) (dirt_bytes n next)

cuts_bytes : (n at x : ℕ) → IsPlan (cuts_from n at x)
cuts_bytes zero at x = All-nil (λ e. IsInterrupt e.cut)
cuts_bytes (suc n) at x =
    let next = stepped (stepped x) in
    All-cons (λ e. IsInterrupt e.cut) (cut_after at x) (cuts_from n (at + drawn (stepped x) % 64) (after_dirt 4 next)) (dirt_bytes 4 next) (cuts_bytes n (at + drawn (stepped x) % 64) (after_dirt 4 next))

-- a generated plan writes bytes
pub IsPlan-made : (number count : ℕ) → IsPlan (made_plan number count)
unfolding made_plan
IsPlan-made number count = cuts_bytes count 0 number
