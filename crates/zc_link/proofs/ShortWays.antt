-- Distances between addresses that are near. In two's complement such a distance is the difference, and between even addresses it
-- is in the range of `jal`.
use Rattle.std.proofs.Common.{◌≡◌, ℕ, suc, pos, negsuc, ◌+ℤ◌, ◌-ℤ◌, ◌+◌, ◌-◌, ◌%◌, ◌^◌, ◌<◌, ◌≤◌, inl, inr, true, eqb, ltb, sym, ap, ◌∙◌, arith}
use Rattle.std.specs.Int.{w32}
use Rattle.std.proofs.Math.Facts.{to_z-neg}
use Rattle.std.proofs.Math.IntN.{+ℤ-neg_ℤ_cancel, +ℤ_comm}
use Rattle.std.proofs.lemmas.Bool.{and_from, cases_lt, eq-eqb, lt-ltb}
use Rattle.std.proofs.lemmas.Int.{to_z_pos}
use Rattle.psabi_reloc.specs.Reaches.{jal_reach}
use Rattle.rv_decode.specs.Bits.{as_signed}
use Rattle.zc_link.specs.Values.{way}

-- the distance forward, and back
way_on : (a n : ℕ) → pos (a + n) -ℤ pos a ≡ pos n
way_on a n =
    let sum : n + a ≡ a + n = omega arith in
    ap (λ m. pos m -ℤ pos a) (sym sum) ∙ +ℤ-neg_ℤ_cancel (pos n) (pos a)

way_back : (b k : ℕ) → pos b -ℤ pos (b + suc k) ≡ negsuc k
way_back b k =
    let down : pos (b + suc k) +ℤ negsuc k ≡ pos b = +ℤ-neg_ℤ_cancel (pos b) (pos (suc k)) in
    let up : negsuc k +ℤ pos (b + suc k) ≡ pos b = +ℤ_comm (negsuc k) (pos (b + suc k)) ∙ down in
    ap (λ z. z -ℤ pos (b + suc k)) (sym up) ∙ +ℤ-neg_ℤ_cancel (negsuc k) (pos (b + suc k))

-- in two's complement a short distance is the difference
pub way_distance : (a b : ℕ) → a < 2 ^ 32 → b < 2 ^ 32 → b ≤ a + 0x9_0000 → a ≤ b + 0x9_0000 → as_signed (way a b) ≡ pos b -ℤ pos a
way_distance a b ha hb near back = elim (cases_lt b a) [
  | inr le ↦
      let n = b - a in
      let is : way a b ≡ n = omega arith in
      let sum : a + n ≡ b = omega arith in
      ap as_signed is ∙ to_z_pos w32 n (omega arith) ∙ sym (way_on a n) ∙ ap (λ m. pos m -ℤ pos a) sum
  | inl lt ↦
      let k = a - b - 1 in
      let is : way a b ≡ 2 ^ 32 - suc k = omega arith in
      let sum : b + suc k ≡ a = omega arith in
      ap as_signed is ∙ to_z-neg w32 k (omega arith) ∙ sym (way_back b k) ∙ ap (λ m. pos b -ℤ pos m) sum
]

-- a short distance between even addresses is in the range of `jal`
pub way_jumps : (a b : ℕ) → a < 2 ^ 32 → b < 2 ^ 32 → b ≤ a + 0x9_0000 → a ≤ b + 0x9_0000 → a % 2 ≡ 0 → b % 2 ≡ 0 → jal_reach (as_signed (way a b)) ≡ true
way_jumps a b ha hb near back wa wb = elim (cases_lt b a) [
  | inr le ↦
      let n = b - a in
      let is : way a b ≡ n = omega arith in
      ap jal_reach (ap as_signed is ∙ to_z_pos w32 n (omega arith))
      ∙ and_from (ltb n (2 ^ 20)) (eqb (n % 2) 0) (lt-ltb n (2 ^ 20) (omega arith)) (eq-eqb (n % 2) 0 (omega arith))
  | inl lt ↦
      let k = a - b - 1 in
      let is : way a b ≡ 2 ^ 32 - suc k = omega arith in
      ap jal_reach (ap as_signed is ∙ to_z-neg w32 k (omega arith))
      ∙ and_from (ltb k (2 ^ 20)) (eqb (k % 2) 1) (lt-ltb k (2 ^ 20) (omega arith)) (eq-eqb (k % 2) 1 (omega arith))
]
