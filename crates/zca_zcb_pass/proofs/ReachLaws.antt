-- A short branch or jump is found only if its distance is in range.
use Rattle.std.proofs.Common.{◌≡◌, ℕ, ◌-◌, ◌%◌, ◌^◌, ◌<◌, Option, Some, None, Bool, true, false, cond, refl, sym, subst, arith, ℤ, pos, negsuc, eqb, ltb}
use Rattle.std.specs.Prelude.{◌&&◌, IfSome}
use Rattle.std.proofs.lemmas.Bool.{and_from, and_parts, eq-eqb}
use Rattle.rv_decode.specs.declared.instr.Instr.{Instr}
use Rattle.rv_decode.specs.declared.instr.Instr.TheVariants.{Upper, Jal, Jalr, Branch, Load, Store, WithImm, WithReg, Fence, Ecall, Ebreak, Csrrw}
use Rattle.rv_decode.specs.declared.instr.BranchOp.{BranchOp}
use Rattle.rv_decode.specs.declared.instr.BranchOp.TheVariants.{Beq, Bne, Blt, Bge, Bltu, Bgeu}
use Rattle.rv_decode.specs.Bits.{IsEven}
use Rattle.rv_decode.specs.Normal.{greater_branch, normal_branch}
use Rattle.rv_decode.proofs.BitLaws.{signed-even}
use Rattle.psabi_reloc.specs.Reaches.{is_even_of, short_branch_reach, short_jump_reach}
use Rattle.zc_decode.specs.declared.short.Short.TheVariants.{Base}
use Rattle.zc_encode.specs.Halves.{beqz_half, encoded16, half_for, has_bits, is_popular, is_signed, jump_half, low_bits}
use Rattle.zc_encode.proofs.NumberLaws.{SignedOf, and_three, signed_nine, signed_twelve, when_some}
use Rattle.psabi_reloc.specs.Patched.{with_distance}
use Rattle.zca_zcb_pass.specs.Forms.{IsBranch, IsJump}

-- an even number that fits in `bits` bits
even_of : (bits : ℕ) (z : ℤ) → has_bits bits z ≡ true → IsEven z → is_even_of bits z ≡ true
even_of bits (pos n) few even = and_from (ltb n (2 ^ (bits - 1))) (eqb (n % 2) 0) few (eq-eqb (n % 2) 0 even)
even_of bits (negsuc n) few even = and_from (ltb n (2 ^ (bits - 1))) (eqb (n % 2) 1) few (eq-eqb (n % 2) 1 even)

signed_reaches : (bits : ℕ) (z : ℤ) → 2 ^ bits % 2 ≡ 0 → low_bits bits z < 2 ^ bits → SignedOf bits 2 z → is_signed bits 2 z ≡ true → is_even_of bits z ≡ true
signed_reaches bits z whole below s h =
    even_of bits z (and_parts (has_bits bits z) (eqb (low_bits bits z % 2) 0) h).0 (subst IsEven s.value (signed-even bits (low_bits bits z) whole below s.whole))

zero_reaches : (group first second half : ℕ) (distance : ℤ) → beqz_half group first second distance ≡ Some half → short_branch_reach distance ≡ true
zero_reaches group first second half distance h =
    let t = when_some (eqb second 0 && (is_popular first && is_signed 9 2 distance)) _ half h in
    let fits = (and_three (eqb second 0) (is_popular first) (is_signed 9 2 distance) t.0).2 in
    signed_reaches 9 distance refl (omega arith) (signed_nine distance fits) fits

jump_half_reaches : (group half : ℕ) (distance : ℤ) → jump_half group distance ≡ Some half → short_jump_reach distance ≡ true
jump_half_reaches group half distance h =
    let fits = (when_some (is_signed 12 2 distance) _ half h).0 in
    signed_reaches 12 distance refl (omega arith) (signed_twelve distance fits) fits

-- ---- branches

greater_reaches : (op : BranchOp) (group first second half : ℕ) (distance : ℤ) → ((a b : ℕ) → half_for (Branch op a b distance) ≡ beqz_half group a b distance) → half_for (greater_branch op first second distance) ≡ Some half → short_branch_reach distance ≡ true
greater_reaches op group first second half distance is h = either (ltb first second) h
  where
    either : (t : Bool) → half_for (cond t (Branch op second first distance) (Branch op first second distance)) ≡ Some half → short_branch_reach distance ≡ true
    either true g = zero_reaches group second first half distance (rw (is second first) at g)
    either false g = zero_reaches group first second half distance (rw (is first second) at g)

normal_reaches : (op : BranchOp) (first second half : ℕ) (distance : ℤ) → half_for (normal_branch op first second distance) ≡ Some half → short_branch_reach distance ≡ true
normal_reaches Beq first second half distance h = greater_reaches Beq 0b110_01 first second half distance (λ a b. refl) h
normal_reaches Bne first second half distance h = greater_reaches Bne 0b111_01 first second half distance (λ a b. refl) h
normal_reaches Blt first second half distance h = absurd cc
normal_reaches Bge first second half distance h = absurd cc
normal_reaches Bltu first second half distance h = absurd cc
normal_reaches Bgeu first second half distance h = absurd cc

-- ---- jumps

jal_reaches : (rd half : ℕ) (distance : ℤ) → half_for (Jal rd distance) ≡ Some half → short_jump_reach distance ≡ true
jal_reaches rd half distance h = by_tests (eqb rd 1) (eqb rd 0) h
  where
    by_tests : (a b : Bool) → cond a (jump_half 0b001_01 distance) (cond b (jump_half 0b101_01 distance) None) ≡ Some half → short_jump_reach distance ≡ true
    by_tests true b g = jump_half_reaches 0b001_01 half distance g
    by_tests false true g = jump_half_reaches 0b101_01 half distance g
    by_tests false false g = absurd cc

-- ---- instructions

-- if an instruction at a distance has a halfword, the distance is in range of that halfword
reaches : (i : Instr) (distance : ℤ) (half : ℕ) → encoded16 (Base (with_distance i distance)) ≡ Some half
    → (IsBranch i → short_branch_reach distance ≡ true) × (IsJump i → short_jump_reach distance ≡ true)
reaches (Branch op first second old) distance half is = (λ _. normal_reaches op first second half distance is, λ jump. absurd jump)
reaches (Jal rd old) distance half is = (λ branch. absurd branch, λ _. jal_reaches rd half distance is)
reaches (Upper op rd imm) distance half is = (λ branch. absurd branch, λ jump. absurd jump)
reaches (Jalr rd base imm) distance half is = (λ branch. absurd branch, λ jump. absurd jump)
reaches (Load op rd base imm) distance half is = (λ branch. absurd branch, λ jump. absurd jump)
reaches (Store op source base imm) distance half is = (λ branch. absurd branch, λ jump. absurd jump)
reaches (WithImm op rd first imm) distance half is = (λ branch. absurd branch, λ jump. absurd jump)
reaches (WithReg op rd first second) distance half is = (λ branch. absurd branch, λ jump. absurd jump)
reaches (Fence rest) distance half is = (λ branch. absurd branch, λ jump. absurd jump)
reaches Ecall distance half is = (λ branch. absurd branch, λ jump. absurd jump)
reaches Ebreak distance half is = (λ branch. absurd branch, λ jump. absurd jump)
reaches (Csrrw rd source) distance half is = (λ branch. absurd branch, λ jump. absurd jump)

pub branch_reaches : (i : Instr) (distance : ℤ) (o : Option ℕ) → o ≡ encoded16 (Base (with_distance i distance)) → IsBranch i → IfSome o (λ _. short_branch_reach distance ≡ true)
branch_reaches i distance None is branch = tt
branch_reaches i distance (Some half) is branch = (reaches i distance half (sym is)).0 branch

pub jump_reaches : (i : Instr) (distance : ℤ) (o : Option ℕ) → o ≡ encoded16 (Base (with_distance i distance)) → IsJump i → IfSome o (λ _. short_jump_reach distance ≡ true)
jump_reaches i distance None is jump = tt
jump_reaches i distance (Some half) is jump = (reaches i distance half (sym is)).1 jump
