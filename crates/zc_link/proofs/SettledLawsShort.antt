-- Short branches and jumps: one that has a short form at some distance has one at each distance that this reaches.
use Rattle.std.proofs.Common.{◌≡◌, ℕ, ℤ, Bool, true, false, cond, None, refl, sym, ap, ◌∙◌, eqb, ltb}
use Rattle.std.specs.Prelude.{◌&&◌, is_some}
use Rattle.std.proofs.lemmas.Bool.{and_from}
use Rattle.psabi_reloc.specs.Reaches.{short_branch_reach, short_jump_reach}
use Rattle.rv_decode.specs.declared.instr.BranchOp.{BranchOp}
use Rattle.rv_decode.specs.declared.instr.BranchOp.TheVariants.{Beq, Bne, Blt, Bge, Bltu, Bgeu}
use Rattle.rv_decode.specs.declared.instr.Instr.TheVariants as instr
use Rattle.rv_decode.specs.Normal.{greater_branch, normal_branch}
use Rattle.shrink_layout.specs.Pieces.{is_short}
use Rattle.zc_encode.specs.Halves.{beqz_half, half_for, is_popular, is_signed, jump_half}
use Rattle.zc_encode.proofs.NumberLaws.{and_three}
use Rattle.zca_zcb_pass.proofs.ShortDistances.{signed_two, when_is}

-- ---- branches

zero_short :
    (group first second : ℕ) (old d : ℤ) → short_branch_reach d ≡ true → is_some (beqz_half group first second old) ≡ true
    → is_some (beqz_half group first second d) ≡ true
zero_short group first second old d reach h =
    let three = and_three (eqb second 0) (is_popular first) (is_signed 9 2 old) (sym (when_is (eqb second 0 && (is_popular first && is_signed 9 2 old)) _) ∙ h) in
    when_is (eqb second 0 && (is_popular first && is_signed 9 2 d)) _
    ∙ and_from (eqb second 0) (is_popular first && is_signed 9 2 d) three.0 (and_from (is_popular first) (is_signed 9 2 d) three.1 (signed_two 9 refl d reach))

greater_short :
    (op : BranchOp) (group first second : ℕ) (old d : ℤ)
    → ((a b : ℕ) (z : ℤ) → half_for (instr.Branch op a b z) ≡ beqz_half group a b z) → short_branch_reach d ≡ true
    → is_some (half_for (greater_branch op first second old)) ≡ true → is_some (half_for (greater_branch op first second d)) ≡ true
greater_short op group first second old d is reach h = either (ltb first second) h
  where
    either : (t : Bool) → is_some (half_for (cond t (instr.Branch op second first old) (instr.Branch op first second old))) ≡ true
        → is_some (half_for (cond t (instr.Branch op second first d) (instr.Branch op first second d))) ≡ true
    either true g = ap is_some (is second first d) ∙ zero_short group second first old d reach (sym (ap is_some (is second first old)) ∙ g)
    either false g = ap is_some (is first second d) ∙ zero_short group first second old d reach (sym (ap is_some (is first second old)) ∙ g)

normal_short :
    (op : BranchOp) (first second : ℕ) (old d : ℤ) → short_branch_reach d ≡ true
    → is_some (half_for (normal_branch op first second old)) ≡ true → is_some (half_for (normal_branch op first second d)) ≡ true
normal_short Beq first second old d reach h = greater_short Beq 0b110_01 first second old d (λ a b z. refl) reach h
normal_short Bne first second old d reach h = greater_short Bne 0b111_01 first second old d (λ a b z. refl) reach h
normal_short Blt first second old d reach h = absurd cc
normal_short Bge first second old d reach h = absurd cc
normal_short Bltu first second old d reach h = absurd cc
normal_short Bgeu first second old d reach h = absurd cc

-- a branch with a short form has one at each distance that this reaches
pub branch_short :
    (op : BranchOp) (first second : ℕ) (old d : ℤ) → is_short (instr.Branch op first second old) ≡ true → short_branch_reach d ≡ true
    → is_short (instr.Branch op first second d) ≡ true
branch_short op first second old d h reach = normal_short op first second old d reach h

-- ---- jumps

jump_half_short : (group : ℕ) (old d : ℤ) → short_jump_reach d ≡ true → is_some (jump_half group d) ≡ true
jump_half_short group old d reach = when_is (is_signed 12 2 d) _ ∙ signed_two 12 refl d reach

jal_short :
    (rd : ℕ) (old d : ℤ) → short_jump_reach d ≡ true → is_some (half_for (instr.Jal rd old)) ≡ true
    → is_some (half_for (instr.Jal rd d)) ≡ true
jal_short rd old d reach h = by (eqb rd 1) (eqb rd 0) h
  where
    by :
        (a b : Bool) → is_some (cond a (jump_half 0b001_01 old) (cond b (jump_half 0b101_01 old) None)) ≡ true
        → is_some (cond a (jump_half 0b001_01 d) (cond b (jump_half 0b101_01 d) None)) ≡ true
    by true b g = jump_half_short 0b001_01 old d reach
    by false true g = jump_half_short 0b101_01 old d reach
    by false false g = absurd cc

-- a jump with a short form has one at each distance that this reaches
pub jump_short :
    (rd : ℕ) (old d : ℤ) → is_short (instr.Jal rd old) ≡ true → short_jump_reach d ≡ true → is_short (instr.Jal rd d) ≡ true
jump_short rd old d h reach = jal_short rd old d reach h
