-- The fields of a halfword that is made of fields: each is what was put there.
use Rattle.std.proofs.Common.{◌≡◌, ℕ, ◌+◌, ◌-◌, ◌*◌, ◌%◌, ◌^◌, ◌<◌, ◌≤◌, ◌∙◌, arith}
use Rattle.rv_decode.specs.Bits.{field}
use Rattle.zc_decode.specs.Fields.{addi4spn_of, byte_offset_of, group_of, half_offset_of, high_reg_of, low_reg_of, lwsp_of, swsp_of, word_offset_of}
use Rattle.zc_encode.specs.Halves.{half_of}

pub record Fields (group bit upper lower half : ℕ) : Type 0 where
  pub small : half < 2 ^ 16
  pub in_group : group_of half ≡ group
  pub twelfth : field half 12 1 ≡ bit
  pub above : field half 7 5 ≡ upper
  pub below : field half 2 5 ≡ lower

pub fields_of : (group bit upper lower half : ℕ) → half ≡ half_of group bit upper lower → group < 32 → bit < 2 → upper < 32 → lower < 32 → Fields group bit upper lower half
fields_of group bit upper lower half is five one high low = record {
  small = omega (arith, is, five, one, high, low);
  in_group = omega (arith, is, five, one, high, low);
  twelfth = omega (arith, is, five, one, high, low);
  above = omega (arith, is, five, one, high, low);
  below = omega (arith, is, five, one, high, low);
}

-- ---- what the fields make: from bits 12, 11 to 7 and 6 to 2

-- an even number of twelve bits is the sum of its parts
jump_parts : (n : ℕ) → n < 4096 → n % 2 ≡ 0 → field n 11 1 * 2 ^ 11 + field n 10 1 * 2 ^ 10 + field n 8 2 * 2 ^ 8 + field n 7 1 * 2 ^ 7 + field n 6 1 * 2 ^ 6 + field n 5 1 * 2 ^ 5 + field n 4 1 * 2 ^ 4 + field n 1 3 * 2 ≡ n
jump_parts n lt whole = omega (arith, lt, whole)

module _ (n half : ℕ) where
  pub word_offset_is : (r base : ℕ) → n < 128 → n % 4 ≡ 0 → r < 8 → base < 8 → field half 12 1 ≡ field n 5 1 → field half 7 5 ≡ field n 3 2 * 8 + base → field half 2 5 ≡ field n 2 1 * 16 + field n 6 1 * 8 + r → word_offset_of half ≡ n
  word_offset_is r base lt whole lr lb bit upper lower = omega (arith, lt, whole, lr, lb, bit, upper, lower)

  pub byte_offset_is : (r : ℕ) → n < 4 → r < 8 → field half 2 5 ≡ field n 0 1 * 16 + field n 1 1 * 8 + r → byte_offset_of half ≡ n
  byte_offset_is r lt lr lower = omega (arith, lt, lr, lower)

  pub half_offset_is : (bit r : ℕ) → n < 4 → n % 2 ≡ 0 → bit < 2 → r < 8 → field half 2 5 ≡ bit * 16 + field n 1 1 * 8 + r → half_offset_of half ≡ n
  half_offset_is bit r lt whole lb lr lower = omega (arith, lt, whole, lb, lr, lower)

  pub lwsp_is : n < 256 → n % 4 ≡ 0 → field half 12 1 ≡ field n 5 1 → field half 2 5 ≡ field n 2 3 * 4 + field n 6 2 → lwsp_of half ≡ n
  lwsp_is lt whole bit lower = omega (arith, lt, whole, bit, lower)

  pub swsp_is : n < 256 → n % 4 ≡ 0 → field half 12 1 ≡ field n 5 1 → field half 7 5 ≡ field n 2 3 * 4 + field n 6 2 → swsp_of half ≡ n
  swsp_is lt whole bit upper = omega (arith, lt, whole, bit, upper)

  pub addi4spn_is : (r : ℕ) → n < 1024 → n % 4 ≡ 0 → r < 8 → field half 12 1 ≡ field n 5 1 → field half 7 5 ≡ field n 4 1 * 16 + field n 6 4 → field half 2 5 ≡ field n 2 1 * 16 + field n 3 1 * 8 + r → addi4spn_of half ≡ n
  addi4spn_is r lt whole lr bit upper lower = omega (arith, lt, whole, lr, bit, upper, lower)

  pub ci_bits_is : n < 64 → field half 12 1 ≡ field n 5 1 → field half 2 5 ≡ field n 0 5 → field half 12 1 * 2 ^ 5 + field half 2 5 ≡ n
  ci_bits_is lt bit lower = omega (arith, lt, bit, lower)

  pub addi16sp_is : n < 1024 → n % 16 ≡ 0 → field half 12 1 ≡ field n 9 1 → field half 2 5 ≡ field n 4 1 * 16 + field n 6 1 * 8 + field n 7 2 * 2 + field n 5 1 → field half 12 1 * 2 ^ 9 + field half 3 2 * 2 ^ 7 + field half 5 1 * 2 ^ 6 + field half 2 1 * 2 ^ 5 + field half 6 1 * 2 ^ 4 ≡ n
  addi16sp_is lt whole bit lower = omega (arith, lt, whole, bit, lower)

  pub jump_is : n < 4096 → n % 2 ≡ 0 → field half 12 1 ≡ field n 11 1 → field half 7 5 ≡ field n 4 1 * 16 + field n 8 2 * 4 + field n 10 1 * 2 + field n 6 1 → field half 2 5 ≡ field n 7 1 * 16 + field n 1 3 * 2 + field n 5 1 → field half 12 1 * 2 ^ 11 + field half 8 1 * 2 ^ 10 + field half 9 2 * 2 ^ 8 + field half 6 1 * 2 ^ 7 + field half 7 1 * 2 ^ 6 + field half 2 1 * 2 ^ 5 + field half 11 1 * 2 ^ 4 + field half 3 3 * 2 ≡ n
  jump_is lt whole bit upper lower =
      let b10 : field half 8 1 ≡ field n 10 1 = omega (arith, upper) in
      let b9 : field half 9 2 ≡ field n 8 2 = omega (arith, upper) in
      let b7 : field half 6 1 ≡ field n 7 1 = omega (arith, lower) in
      let b6 : field half 7 1 ≡ field n 6 1 = omega (arith, upper) in
      let b5 : field half 2 1 ≡ field n 5 1 = omega (arith, lower) in
      let b4 : field half 11 1 ≡ field n 4 1 = omega (arith, upper) in
      let b3 : field half 3 3 ≡ field n 1 3 = omega (arith, lower) in
      (λ i. bit i * 2 ^ 11 + b10 i * 2 ^ 10 + b9 i * 2 ^ 8 + b7 i * 2 ^ 7 + b6 i * 2 ^ 6 + b5 i * 2 ^ 5 + b4 i * 2 ^ 4 + b3 i * 2) ∙ jump_parts n lt whole

  pub branch_is : (r : ℕ) → n < 512 → n % 2 ≡ 0 → r < 8 → field half 12 1 ≡ field n 8 1 → field half 7 5 ≡ field n 3 2 * 8 + r → field half 2 5 ≡ field n 6 2 * 8 + field n 1 2 * 2 + field n 5 1 → field half 12 1 * 2 ^ 8 + field half 5 2 * 2 ^ 6 + field half 2 1 * 2 ^ 5 + field half 10 2 * 2 ^ 3 + field half 3 2 * 2 ≡ n
  branch_is r lt whole lr bit upper lower = omega (arith, lt, whole, lr, bit, upper, lower)

-- the registers of three bits
module _ (half r above : ℕ) (least : 8 ≤ r) (greatest : r < 16) where
  pub high_is : field half 7 5 ≡ above * 8 + (r - 8) → high_reg_of half ≡ r
  high_is upper = omega (arith, upper, least, greatest)

  pub low_is : field half 2 5 ≡ above * 8 + (r - 8) → low_reg_of half ≡ r
  low_is lower = omega (arith, lower, least, greatest)
