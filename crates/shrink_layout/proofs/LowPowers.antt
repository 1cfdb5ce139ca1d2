-- Powers of two that divide numbers: the greatest one that divides a number says which node holds the node with that number.
use Rattle.std.proofs.Common.{◌≡◌, ℕ, zero, suc, ◌+◌, ◌-◌, ◌*◌, ◌/◌, ◌%◌, ◌^◌, ◌<◌, ◌≤◌, ◌⊎◌, min, refl, sym, ap, ◌∙◌, arith, inl, inr, subst, w64}
use Rattle.std.specs.Int.{bit_at, trailing_zeros}
use Rattle.std.proofs.Math.Nat.{mul-le-mul_right, le_of_mul-le-mul_right, mul_assoc, mod-one, zero-mul, mod-eq-sub-div-mul, div-mul-le_self}
use Rattle.std.proofs.lemmas.Bool.{cases_lt, cases_order}
use Rattle.std.proofs.lemmas.Nat.{pow-add, pow_pos, mod-pow-add}
use Rattle.std.proofs.lemmas.Nat.Bits.{bit_at-trailing_zeros}
use Rattle.shrink_layout.specs.Sums.{IsLowPower}

-- ---- multiples

-- a multiple of a number that is above another one is above it by that number at least
step_of : (u w m r : ℕ) → u * m + r ≡ w * m → 0 < r → m ≤ r
step_of u w m r e some =
    elim (cases_lt u w) [
      | inl lt ↦ omega (arith, mul-le-mul_right m lt, e)
      | inr ge ↦ absurd (omega (arith, mul-le-mul_right m ge, e))
    ]

-- equal multiples are of equal numbers
cancel : (u w m : ℕ) → 0 < m → u * m ≡ w * m → u ≡ w
cancel u w m some e =
    let le : u ≤ w = le_of_mul-le-mul_right (omega (arith, e)) some in
    let ge : w ≤ u = le_of_mul-le-mul_right (omega (arith, e)) some in
    omega arith

-- a multiple of a multiple is one
multiple : (w b d c k : ℕ) → k ≡ w * b → b ≡ d * c → k ≡ w * d * c
multiple w b d c k e e' = e ∙ ap (λ x. w * x) e' ∙ sym (mul_assoc w d c)

-- ---- powers

-- a power of two is a lower one, times a power of two
powers : (a c : ℕ) → a ≤ c → (d : ℕ) × (2 ^ c ≡ 2 ^ d * 2 ^ a)
powers a c le = (c - a, let e : c - a + a ≡ c = omega arith in ap (λ n. 2 ^ n) (sym e) ∙ pow-add 2 (c - a) a)

-- the next one is twice as much
doubled : (e b : ℕ) → b ≡ 2 ^ e → 2 ^ (e + 1) ≡ b + b
doubled e b is = let one : 2 ^ e * 2 ^ 1 ≡ b * 2 = ap (λ x. x * 2) (sym is) in omega (arith, pow-add 2 e 1, one)

-- ---- the greatest power of two that divides a number

-- the power isn't 0
pub low_some : (i b : ℕ) → IsLowPower i b → 0 < b
low_some i b is = subst (λ n. 0 < n) (sym is.power) (pow_pos is.exponent)

-- the power is no more than the number
pub low_within : (i b : ℕ) → IsLowPower i b → b ≤ i
low_within i b is = let le : 1 * b ≤ (2 * is.half + 1) * b = mul-le-mul_right b (omega arith) in omega (arith, le, is.odd)

-- within a block the power is no more than the distance from the block's first number
pub low_in_block : (i b : ℕ) → IsLowPower i b → (i % 64 ≡ 0 → ⊥) → b ≤ i % 64
low_in_block i b is some = by is.exponent is.power
  where
    by : (e : ℕ) → b ≡ 2 ^ e → b ≤ i % 64
    by zero e = let odd : i ≡ (2 * is.half + 1) * 1 = is.odd ∙ ap (λ n. (2 * is.half + 1) * n) e in omega (arith, odd, e)
    by (suc zero) e = let odd : i ≡ (2 * is.half + 1) * 2 = is.odd ∙ ap (λ n. (2 * is.half + 1) * n) e in omega (arith, odd, e)
    by (suc (suc zero)) e = let odd : i ≡ (2 * is.half + 1) * 4 = is.odd ∙ ap (λ n. (2 * is.half + 1) * n) e in omega (arith, odd, e)
    by (suc (suc (suc zero))) e = let odd : i ≡ (2 * is.half + 1) * 8 = is.odd ∙ ap (λ n. (2 * is.half + 1) * n) e in omega (arith, odd, e)
    by (suc (suc (suc (suc zero)))) e = let odd : i ≡ (2 * is.half + 1) * 16 = is.odd ∙ ap (λ n. (2 * is.half + 1) * n) e in omega (arith, odd, e)
    by (suc (suc (suc (suc (suc zero))))) e = let odd : i ≡ (2 * is.half + 1) * 32 = is.odd ∙ ap (λ n. (2 * is.half + 1) * n) e in omega (arith, odd, e)
    by (suc (suc (suc (suc (suc (suc d)))))) e =
        let power : 2 ^ (d + 6) ≡ 2 ^ d * 64 = pow-add 2 d 6 in
        let same : d + 6 ≡ suc (suc (suc (suc (suc (suc d))))) = omega arith in
        let whole : i ≡ (2 * is.half + 1) * 2 ^ d * 64 = is.odd ∙ ap (λ n. (2 * is.half + 1) * n) (e ∙ ap (λ n. 2 ^ n) (sym same) ∙ power) ∙ sym (mul_assoc (2 * is.half + 1) (2 ^ d) 64) in
        absurd (some (omega (arith, whole)))

-- where all lower bits are 0 the power of two divides
low_bits : (n t : ℕ) → ((i : ℕ) → i < t → bit_at n i ≡ 0) → n % 2 ^ t ≡ 0
low_bits n zero zeros = mod-one n
low_bits n (suc t) zeros =
    let before = low_bits n t (λ i lt. zeros i (omega arith)) in
    let here : n / 2 ^ t % 2 ≡ 0 = zeros t (omega arith) in
    let split : n % 2 ^ (1 + t) ≡ (n / 2 ^ t % 2 ^ 1) * 2 ^ t + n % 2 ^ t = mod-pow-add n 1 t in
    let none : (n / 2 ^ t % 2 ^ 1) * 2 ^ t ≡ 0 = ap (λ b. b * 2 ^ t) here ∙ zero-mul (2 ^ t) in
    let at : 2 ^ (1 + t) ≡ 2 ^ suc t = let e : 1 + t ≡ suc t = omega arith in ap (λ k. 2 ^ k) e in
    sym (ap (λ m. n % m) at) ∙ split ∙ omega (arith, none, before)

-- the place of the lowest bit that is 1 gives the greatest power
low_at : (n t : ℕ) → bit_at n t ≡ 1 → ((i : ℕ) → i < t → bit_at n i ≡ 0) → IsLowPower n (2 ^ t)
low_at n t one zeros =
    let q = n / 2 ^ t in
    let whole : n ≡ q * 2 ^ t = omega (arith, low_bits n t zeros, mod-eq-sub-div-mul n (2 ^ t), div-mul-le_self n (2 ^ t)) in
    let odd : q ≡ 2 * (q / 2) + 1 = omega (arith, one) in
    record { exponent = t; half = q / 2; power = refl; odd = whole ∙ ap (λ x. x * 2 ^ t) odd }

-- the number of zeros below that bit is the exponent
pub low_is : (n : ℕ) → 0 < n → n < 2 ^ 64 → (trailing_zeros w64 n < 64) × IsLowPower n (2 ^ trailing_zeros w64 n)
low_is n some fits = let bits = bit_at-trailing_zeros w64 n some fits in (bits.0, low_at n (trailing_zeros w64 n) bits.1 bits.2)

even_odd : (h x : ℕ) → 2 * h + 1 ≡ x * 2 → ⊥
even_odd h x e = omega (arith, e)

low_not_more : (k b c : ℕ) (is : IsLowPower k b) (is' : IsLowPower k c) → is.exponent < is'.exponent → ⊥
low_not_more k b c is is' lt =
    let p = powers (is.exponent + 1) is'.exponent (omega arith) in
    let two : 2 ^ (is.exponent + 1) ≡ 2 * b = omega (arith, doubled is.exponent b is.power) in
    let q : c ≡ 2 ^ p.0 * 2 * b = is'.power ∙ p.1 ∙ ap (λ n. 2 ^ p.0 * n) two ∙ sym (mul_assoc (2 ^ p.0) 2 b) in
    let e : (2 * is.half + 1) * b ≡ (2 * is'.half + 1) * (2 ^ p.0 * 2) * b = sym is.odd ∙ multiple (2 * is'.half + 1) c (2 ^ p.0 * 2) b k is'.odd q in
    let f : 2 * is.half + 1 ≡ (2 * is'.half + 1) * (2 ^ p.0 * 2) = cancel _ _ b (low_some k b is) e in
    even_odd is.half ((2 * is'.half + 1) * 2 ^ p.0) (f ∙ sym (mul_assoc (2 * is'.half + 1) (2 ^ p.0) 2))

-- there is only one such power
pub low_same : (k b c : ℕ) → IsLowPower k b → IsLowPower k c → b ≡ c
low_same k b c is is' =
    elim (cases_order is.exponent is'.exponent) [
      | inl e ↦ is.power ∙ ap (λ n. 2 ^ n) e ∙ sym is'.power
      | inr differ ↦ elim differ [
        | inl lt ↦ absurd (low_not_more k b c is is' lt)
        | inr gt ↦ absurd (low_not_more k c b is' is gt)
      ]
    ]

-- ---- those of two numbers

-- one of two powers is no more than the difference of the two numbers, since the lesser power divides both
pub low_apart : (i k b c r : ℕ) → IsLowPower i b → IsLowPower k c → i + r ≡ k → 0 < r → min b c ≤ r
low_apart i k b c r is is' apart some =
    elim (cases_lt is'.exponent is.exponent) [
      | inl less ↦
          let p = powers is'.exponent is.exponent (omega arith) in
          let q : b ≡ 2 ^ p.0 * c = is.power ∙ p.1 ∙ ap (λ n. 2 ^ p.0 * n) (sym is'.power) in
          let e : (2 * is.half + 1) * 2 ^ p.0 * c + r ≡ (2 * is'.half + 1) * c = ap (λ x. x + r) (sym (multiple (2 * is.half + 1) b (2 ^ p.0) c i is.odd q)) ∙ apart ∙ is'.odd in
          omega (arith, step_of ((2 * is.half + 1) * 2 ^ p.0) (2 * is'.half + 1) c r e some)
      | inr more ↦
          let p = powers is.exponent is'.exponent more in
          let q : c ≡ 2 ^ p.0 * b = is'.power ∙ p.1 ∙ ap (λ n. 2 ^ p.0 * n) (sym is.power) in
          let e : (2 * is.half + 1) * b + r ≡ (2 * is'.half + 1) * 2 ^ p.0 * b = ap (λ x. x + r) (sym is.odd) ∙ apart ∙ multiple (2 * is'.half + 1) c (2 ^ p.0) b k is'.odd q in
          omega (arith, step_of (2 * is.half + 1) ((2 * is'.half + 1) * 2 ^ p.0) b r e some)
    ]

odd_even : (h h' d : ℕ) → (2 * h + 2) * d ≡ 2 * h' + 1 → ⊥
odd_even h h' d e = omega (arith, e)

twice : (b d c : ℕ) → 0 < d → c ≡ d * (b + b) → b + b ≤ c
twice b d c some e = omega (arith, mul-le-mul_right (b + b) some, e)

-- the power of the number that is the power further on is at least twice as much
pub low_next : (k b c : ℕ) → IsLowPower k b → IsLowPower (k + b) c → b + b ≤ c
low_next k b c is is' =
    elim (cases_lt is.exponent is'.exponent) [
      | inl more ↦
          let p = powers (is.exponent + 1) is'.exponent (omega arith) in
          let two : 2 ^ (is.exponent + 1) ≡ b + b = doubled is.exponent b is.power in
          twice b (2 ^ p.0) c (pow_pos p.0) (is'.power ∙ p.1 ∙ ap (λ n. 2 ^ p.0 * n) two)
      | inr less ↦
          let p = powers is'.exponent is.exponent less in
          let q : b ≡ 2 ^ p.0 * c = is.power ∙ p.1 ∙ ap (λ n. 2 ^ p.0 * n) (sym is'.power) in
          let next : k + b ≡ (2 * is.half + 2) * b = omega (arith, is.odd) in
          let e : (2 * is.half + 2) * 2 ^ p.0 * c ≡ (2 * is'.half + 1) * c = sym (multiple (2 * is.half + 2) b (2 ^ p.0) c (k + b) next q) ∙ is'.odd in
          absurd (odd_even is.half is'.half (2 ^ p.0) (cancel _ _ c (low_some (k + b) c is') e))
    ]

-- of the two numbers that are the power away, one has a power just twice as much
pub low_beside : (k b : ℕ) → IsLowPower k b → IsLowPower (k + b) (b + b) ⊎ IsLowPower (k - b) (b + b)
low_beside k b is =
    let two : b + b ≡ 2 ^ (is.exponent + 1) = sym (doubled is.exponent b is.power) in
    let g = is.half / 2 in
    elim (cases_lt (is.half % 2) 1) [
      | inl even ↦
          let h : is.half ≡ 2 * g = omega arith in
          let k_is : k ≡ (2 * (2 * g) + 1) * b = is.odd ∙ ap (λ n. (2 * n + 1) * b) h in
          inl (record { exponent = is.exponent + 1; half = g; power = two; odd = omega (arith, k_is) })
      | inr odd ↦
          let h : is.half ≡ 2 * g + 1 = omega arith in
          let k_is : k ≡ (2 * (2 * g + 1) + 1) * b = is.odd ∙ ap (λ n. (2 * n + 1) * b) h in
          inr (record { exponent = is.exponent + 1; half = g; power = two; odd = omega (arith, k_is) })
    ]

before_even : (k b e h : ℕ) → b ≡ 2 ^ e → k ≡ (2 * h + 1) * b → (b ≡ 1) ⊎ IsLowPower (k - 1) 1
before_even k b zero h power odd = inl power
before_even k b (suc e) h power odd =
    let x = 2 ^ e in
    let next : 2 ^ suc e ≡ 2 ^ (e + 1) = let same : suc e ≡ e + 1 = omega arith in ap (λ n. 2 ^ n) same in
    let k_is : k ≡ (2 * h + 1) * (x + x) = odd ∙ ap (λ n. (2 * h + 1) * n) (power ∙ next ∙ doubled e x refl) in
    inr (record { exponent = 0; half = (2 * h + 1) * x - 1; power = refl; odd = omega (arith, k_is, pow_pos e) })

-- a number whose power isn't 1 is even, so that of the number before it is 1
pub low_before : (k b : ℕ) → IsLowPower k b → (b ≡ 1) ⊎ IsLowPower (k - 1) 1
low_before k b is = before_even k b is.exponent is.half is.power is.odd
