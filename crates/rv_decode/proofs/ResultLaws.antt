-- Results are words, and products of words that are read in two's complement.
use Rattle.std.proofs.Common.{◌≡◌, ℕ, suc, ◌-◌, ◌%◌, Bool, cond, eqb, ltb, ◌*◌, ◌/◌, ◌^◌, ◌<◌, ◌≤◌, ap, ap₂, ◌∙◌, arith, ℤ, pos, negsuc, ◌*ℤ◌}
use Rattle.std.specs.Prelude.{FitsSigned, int_div, int_rem, unsigned_abs}
use Rattle.std.specs.Int.{w32, w64, cast_signed, cast_unsigned, int_shr}
use Rattle.std.specs.Int.Signed.{mag}
use Rattle.std.proofs.lemmas.Int.{fits_signed_mul, of_z-to_z, to_z-of_z}
use Rattle.std.proofs.Math.Facts.{sfits_to_z}
use Rattle.std.proofs.Math.Nat.{div-le_self, mod-le, mod-lt, mul-le-mul}
use Rattle.std.proofs.lemmas.Bool.{cond_both}
use Rattle.std.proofs.lemmas.Nat.{and_le_l, or_lt, xor_lt}
use Rattle.rv_decode.specs.Bits.{as_signed, as_word}
use Rattle.rv_decode.specs.Results.{imm_result, is_less, reg_result, upper_result}
use Rattle.rv_decode.specs.declared.instr.UpperOp.{UpperOp}
use Rattle.rv_decode.specs.declared.instr.UpperOp.TheVariants.{Lui, Auipc}
use Rattle.rv_decode.specs.declared.instr.ImmOp.{ImmOp}
use Rattle.rv_decode.specs.declared.instr.ImmOp.TheVariants.{Addi, Slti, Sltiu, Xori, Ori, Andi, Slli, Srli, Srai}
use Rattle.rv_decode.specs.declared.instr.RegOp.{RegOp}
use Rattle.rv_decode.specs.declared.instr.RegOp.TheVariants.{Add, Sub, Sll, Slt, Sltu, Xor, Srl, Sra, Or, And, Mul, Mulh, Mulhsu, Mulhu, Div, Divu, Rem, Remu}

-- the upper half of a product of 64 bits is that of its bits
pub upper_half-bits : (z : ℤ) → mag z < 2 ^ 63 → cast_unsigned w64 (cast_signed w64 (cast_unsigned w64 z)) / 2 ^ 32 ≡ as_word (int_shr z 32)
upper_half-bits (pos n) fits = ap (λ m. m / 2 ^ 32) (of_z-to_z w64 n (omega arith)) ∙ omega (arith, fits)
upper_half-bits (negsuc n) fits = ap (λ m. m / 2 ^ 32) (of_z-to_z w64 (2 ^ 64 - suc n) (omega arith)) ∙ omega (arith, fits)

as_signed_fits : (a : ℕ) → a < 2 ^ 32 → FitsSigned w32 (as_signed a)
as_signed_fits a lt = sfits_to_z {w = w32} {n = a} (record { fits = lt })

abs_below : (z : ℤ) → FitsSigned w32 z → unsigned_abs z ≤ 2147483648
abs_below (pos n) fits = omega (arith, fits)
abs_below (negsuc n) fits = omega (arith, fits)

wide : (z : ℤ) → FitsSigned w32 z → FitsSigned w64 z
wide (pos n) fits = omega (arith, fits)
wide (negsuc n) fits = omega (arith, fits)

-- two words that are read with their signs, and widened, have the product of what they were read as
pub product_is : (a b : ℕ) (x y : ℤ) → a < 2 ^ 32 → b < 2 ^ 32 → x ≡ cast_signed w32 (cast_unsigned w32 (as_signed a)) → y ≡ cast_signed w32 (cast_unsigned w32 (as_signed b))
    → cast_signed w64 (cast_unsigned w64 (cast_signed w64 (cast_unsigned w64 x) *ℤ cast_signed w64 (cast_unsigned w64 y))) ≡ as_signed a *ℤ as_signed b
product_is a b x y la lb is_x is_y =
    let fa : FitsSigned w32 (as_signed a) = as_signed_fits a la in
    let fb : FitsSigned w32 (as_signed b) = as_signed_fits b lb in
    let p : x ≡ as_signed a = is_x ∙ to_z-of_z w32 (as_signed a) fa in
    let q : y ≡ as_signed b = is_y ∙ to_z-of_z w32 (as_signed b) fb in
    ap₂ (λ u v. cast_signed w64 (cast_unsigned w64 (cast_signed w64 (cast_unsigned w64 u) *ℤ cast_signed w64 (cast_unsigned w64 v)))) p q
    ∙ ap₂ (λ u v. cast_signed w64 (cast_unsigned w64 (u *ℤ v))) (to_z-of_z w64 (as_signed a) (wide (as_signed a) fa)) (to_z-of_z w64 (as_signed b) (wide (as_signed b) fb))
    ∙ to_z-of_z w64 (as_signed a *ℤ as_signed b) (fits_signed_mul w64 (as_signed a) (as_signed b) 2147483648 2147483648 (abs_below (as_signed a) fa) (abs_below (as_signed b) fb) (omega arith))

-- ---- results are words

quotient_below : (a b : ℕ) → a < 2 ^ 32 → a / b < 2 ^ 32
quotient_below a b lt = omega (arith, div-le_self a b, lt)

product_below : (a b : ℕ) → a < 2 ^ 32 → b < 2 ^ 32 → a * b < 2 ^ 64
product_below a b la lb =
    let most_a : a ≤ 4294967295 = omega (arith, la) in
    let most_b : b ≤ 4294967295 = omega (arith, lb) in
    omega (arith, mul-le-mul most_a most_b)

either_below : (b : Bool) (m n : ℕ) → m < 2 ^ 32 → n < 2 ^ 32 → cond b m n < 2 ^ 32
either_below b m n lm ln = cond_both b m n (λ k. k < 2 ^ 32) (λ _. lm) (λ _. ln)

pub reg_result-below : (op : RegOp) (a b : ℕ) → a < 2 ^ 32 → b < 2 ^ 32 → reg_result op a b < 2 ^ 32
reg_result-below Add a b la lb = omega arith
reg_result-below Sub a b la lb = omega arith
reg_result-below Sll a b la lb = mod-lt _ (omega arith)
reg_result-below Slt a b la lb = either_below (is_less a b) 1 0 (omega arith) (omega arith)
reg_result-below Sltu a b la lb = either_below (ltb a b) 1 0 (omega arith) (omega arith)
reg_result-below Xor a b la lb = xor_lt 32 a b la lb
reg_result-below Srl a b la lb = quotient_below a (2 ^ (b % 32)) la
reg_result-below Sra a b la lb = mod-lt _ (omega arith)
reg_result-below Or a b la lb = or_lt 32 a b la lb
reg_result-below And a b la lb = omega (arith, and_le_l a b, la)
reg_result-below Mul a b la lb = mod-lt _ (omega arith)
reg_result-below Mulh a b la lb = mod-lt _ (omega arith)
reg_result-below Mulhsu a b la lb = mod-lt _ (omega arith)
reg_result-below Mulhu a b la lb = omega (arith, product_below a b la lb)
reg_result-below Div a b la lb = either_below (eqb b 0) (2 ^ 32 - 1) (as_word (int_div (as_signed a) (as_signed b))) (omega arith) (mod-lt _ (omega arith))
reg_result-below Divu a b la lb = either_below (eqb b 0) (2 ^ 32 - 1) (a / b) (omega arith) (quotient_below a b la)
reg_result-below Rem a b la lb = either_below (eqb b 0) a (as_word (int_rem (as_signed a) (as_signed b))) la (mod-lt _ (omega arith))
reg_result-below Remu a b la lb = either_below (eqb b 0) a (a % b) la (omega (arith, mod-le a b, la))

pub imm_result-below : (op : ImmOp) (n : ℕ) (imm : ℤ) → n < 2 ^ 32 → imm_result op n imm < 2 ^ 32
imm_result-below Addi n imm lt = omega arith
imm_result-below Slti n imm lt = reg_result-below Slt n (as_word imm) lt (omega arith)
imm_result-below Sltiu n imm lt = reg_result-below Sltu n (as_word imm) lt (omega arith)
imm_result-below Xori n imm lt = reg_result-below Xor n (as_word imm) lt (omega arith)
imm_result-below Ori n imm lt = reg_result-below Or n (as_word imm) lt (omega arith)
imm_result-below Andi n imm lt = reg_result-below And n (as_word imm) lt (omega arith)
imm_result-below Slli n imm lt = reg_result-below Sll n (as_word imm) lt (omega arith)
imm_result-below Srli n imm lt = reg_result-below Srl n (as_word imm) lt (omega arith)
imm_result-below Srai n imm lt = reg_result-below Sra n (as_word imm) lt (omega arith)

pub upper_result-below : (op : UpperOp) (pc imm : ℕ) → upper_result op pc imm < 2 ^ 32
upper_result-below Lui pc imm = mod-lt _ (omega arith)
upper_result-below Auipc pc imm = mod-lt _ (omega arith)
