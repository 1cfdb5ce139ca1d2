-- What follows if a field's test passes: for registers, for offsets, and for numbers in two's complement.
use Rattle.std.proofs.Common.{◌≡◌, ℕ, zero, suc, ◌+◌, ◌-◌, ◌*◌, ◌%◌, ◌^◌, ◌<◌, ◌≤◌, Bool, true, false, Some, cond, refl, inl, inr, ap, ◌∙◌, arith, ℤ, pos, negsuc, eqb, ltb, leb}
use Rattle.std.specs.Prelude.{not, ◌&&◌, ◌⊎◌}
use Rattle.std.specs.Ordering.{int_eq}
use Rattle.std.proofs.lemmas.Bool.{and_parts, eqb-true, leb-true, ltb-true, lt-ltb, le-ltb, not-true}
use Rattle.std.proofs.lemmas.Bool.Decides.{Decides-int_eq}
use Rattle.std.proofs.lemmas.Nat.{mod_low}
use Rattle.rv_decode.specs.Bits.{as_word, signed}
use Rattle.zc_encode.specs.Halves.{has_bits, is_amount, is_offset, is_popular, is_signed, low_bits, when}

-- if a test guards a halfword and the halfword is returned, the test passed
pub when_some : (test : Bool) (value half : ℕ) → when test value ≡ Some half → (test ≡ true) × (half ≡ value)
when_some true value half is = (refl, cc)
when_some false value half is = absurd cc

-- a conjunction of three tests
pub and_three : (a b c : Bool) → (a && (b && c)) ≡ true → (a ≡ true) × (b ≡ true) × (c ≡ true)
and_three a b c h = let p = and_parts a (b && c) h in let q = and_parts b c p.1 in (p.0, q.0, q.1)

-- a conjunction of four tests
pub and_four : (a b c d : Bool) → (a && (b && (c && d))) ≡ true → (a ≡ true) × (b ≡ true) × (c ≡ true) × (d ≡ true)
and_four a b c d h = let p = and_parts a (b && (c && d)) h in let q = and_three b c d p.1 in (p.0, q.0, q.1, q.2)

pub bit_cases : (n : ℕ) → n < 2 → (n ≡ 0) ⊎ (n ≡ 1)
bit_cases zero lt = inl refl
bit_cases (suc zero) lt = inr refl
bit_cases (suc (suc n)) lt = absurd (omega arith)

pub popular : (r : ℕ) → is_popular r ≡ true → (8 ≤ r) × (r < 16)
popular r h = let p = and_parts (leb 8 r) (ltb r 16) h in (leb-true 8 r p.0, ltb-true r 16 p.1)

pub int_is : (a b : ℤ) → int_eq a b ≡ true → a ≡ b
int_is a b h = (Decides-int_eq a b).0 h

-- ---- offsets

pub record Offset (limit step : ℕ) (imm : ℤ) : Type 0 where
  pub value : pos (as_word imm) ≡ imm
  pub below : as_word imm < limit
  pub whole : as_word imm % step ≡ 0

pub offset : (limit step : ℕ) (imm : ℤ) → limit ≤ 2 ^ 32 → is_offset limit step imm ≡ true → Offset limit step imm
offset limit step (pos n) fits h =
    let p = and_parts (ltb n limit) (eqb (n % step) 0) h in
    let lt = ltb-true n limit p.0 in
    let same : n % 2 ^ 32 ≡ n = omega arith in
    record { value = ap pos same; below = omega (arith, same, lt); whole = ap (λ k. k % step) same ∙ eqb-true (n % step) 0 p.1 }
offset limit step (negsuc n) fits h = absurd cc

pub record Amount (imm : ℤ) : Type 0 where
  pub value : pos (as_word imm) ≡ imm
  pub below : as_word imm < 32
  pub some : eqb (as_word imm) 0 ≡ false

pub amount : (imm : ℤ) → is_amount imm ≡ true → Amount imm
amount imm h =
    let p = and_parts (is_offset 32 1 imm) (not (eqb (as_word imm) 0)) h in
    let o = offset 32 1 imm (omega arith) p.0 in
    record { value = o.value; below = o.below; some = not-true (eqb (as_word imm) 0) p.1 }

-- ---- two's complement

-- a number of `bits` bits is what its low bits encode; `high` is the value of a word's bits above these
module _ (bits high : ℕ) (word : 2 ^ 32 ≡ high * 2 ^ bits + 2 ^ bits) (twice : 2 ^ bits ≡ 2 * 2 ^ (bits - 1)) where
  low_is : (z : ℤ) → has_bits bits z ≡ true → signed bits (low_bits bits z) ≡ z
  low_is (pos n) h =
      let lt = ltb-true n (2 ^ (bits - 1)) h in
      let same : n % 2 ^ 32 ≡ 0 * 2 ^ bits + n = omega (arith, word, twice, lt) in
      let low : low_bits bits (pos n) ≡ n = ap (λ k. k % 2 ^ bits) same ∙ mod_low 0 bits n (omega (arith, twice, lt)) in
      ap (signed bits) low ∙ ap (λ b. cond b (pos n) (negsuc (2 ^ bits - n - 1))) (lt-ltb n (2 ^ (bits - 1)) lt)
  low_is (negsuc n) h =
      let lt = ltb-true n (2 ^ (bits - 1)) h in
      let same : (2 ^ 32 - suc n) % 2 ^ 32 ≡ high * 2 ^ bits + (2 ^ bits - suc n) = omega (arith, word, twice, lt) in
      let low : low_bits bits (negsuc n) ≡ 2 ^ bits - suc n = ap (λ k. k % 2 ^ bits) same ∙ mod_low high bits (2 ^ bits - suc n) (omega (arith, twice, lt)) in
      let back : 2 ^ bits - (2 ^ bits - suc n) - 1 ≡ n = omega (arith, twice, lt) in
      ap (signed bits) low
      ∙ ap (λ b. cond b (pos (2 ^ bits - suc n)) (negsuc (2 ^ bits - (2 ^ bits - suc n) - 1))) (le-ltb (2 ^ bits - suc n) (2 ^ (bits - 1)) (omega (arith, twice, lt)))
      ∙ ap negsuc back

pub six_is : (z : ℤ) → has_bits 6 z ≡ true → signed 6 (low_bits 6 z) ≡ z
six_is z h = low_is 6 (2 ^ 26 - 1) refl refl z h

pub record SignedOf (bits step : ℕ) (z : ℤ) : Type 0 where
  pub value : signed bits (low_bits bits z) ≡ z
  pub whole : low_bits bits z % step ≡ 0

signed_of : (bits high step : ℕ) (z : ℤ) → 2 ^ 32 ≡ high * 2 ^ bits + 2 ^ bits → 2 ^ bits ≡ 2 * 2 ^ (bits - 1) → is_signed bits step z ≡ true → SignedOf bits step z
signed_of bits high step z word twice h =
    let p = and_parts (has_bits bits z) (eqb (low_bits bits z % step) 0) h in
    record { value = low_is bits high word twice z p.0; whole = eqb-true (low_bits bits z % step) 0 p.1 }

pub signed_nine : (z : ℤ) → is_signed 9 2 z ≡ true → SignedOf 9 2 z
signed_nine z h = signed_of 9 (2 ^ 23 - 1) 2 z refl refl h

pub signed_ten : (z : ℤ) → is_signed 10 16 z ≡ true → SignedOf 10 16 z
signed_ten z h = signed_of 10 (2 ^ 22 - 1) 16 z refl refl h

pub signed_twelve : (z : ℤ) → is_signed 12 2 z ≡ true → SignedOf 12 2 z
signed_twelve z h = signed_of 12 (2 ^ 20 - 1) 2 z refl refl h
