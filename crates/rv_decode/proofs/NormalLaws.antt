-- Instructions with one normal form have the same effect: the operations that put their sources in order don't depend on it,
-- and a sum with register 0 is what an `addi` of 0 gives.
use Rattle.std.proofs.Common.{◌≡◌, ℕ, ◌+◌, ◌%◌, ◌^◌, Bool, true, false, cond, refl, sym, ap, ◌∙◌, arith, ℤ, pos, eqb, ltb}
use Rattle.std.specs.Prelude.{not}
use Rattle.std.proofs.lemmas.Bool.{eqb-true, eqb-false, eq-eqb, ne_eqb}
use Rattle.std.proofs.lemmas.Nat.{and_comm, or_comm, xor_comm}
use Rattle.std.proofs.Math.Nat.{mul_comm}
use Rattle.rv_decode.specs.declared.instr.Instr.{Instr}
use Rattle.rv_decode.specs.declared.instr.Instr.TheVariants.{Upper, Jal, Jalr, Branch, Load, Store, WithImm, WithReg, Fence, Ecall, Ebreak, Csrrw}
use Rattle.rv_decode.specs.declared.instr.BranchOp.{BranchOp}
use Rattle.rv_decode.specs.declared.instr.BranchOp.TheVariants.{Beq, Bne, Blt, Bge, Bltu, Bgeu}
use Rattle.rv_decode.specs.declared.instr.ImmOp.TheVariants.{Addi}
use Rattle.rv_decode.specs.declared.instr.RegOp.{RegOp}
use Rattle.rv_decode.specs.declared.instr.RegOp.TheVariants.{Add, Sub, Sll, Slt, Sltu, Xor, Srl, Sra, Or, And, Mul, Mulh, Mulhsu, Mulhu, Div, Divu, Rem, Remu}
use Rattle.rv_decode.specs.Effect.{branches, effect, gives}
use Rattle.rv_decode.specs.Normal.{SameEffect, greater_branch, greater_first, normal_branch, normal_of, normal_reg, normal_sum}
use Rattle.rv_decode.specs.Results.{is_taken, reg_result}
use Rattle.rv_decode.specs.State.{reg_in}

eqb_comm : (a b : ℕ) → eqb a b ≡ eqb b a
eqb_comm a b = either (eqb b a) refl
  where
    either : (t : Bool) → eqb b a ≡ t → eqb a b ≡ t
    either true h = eq-eqb a b (sym (eqb-true b a h))
    either false h = ne_eqb a b (λ same. eqb-false b a h (sym same))

add_comm : (a b : ℕ) → reg_result Add a b ≡ reg_result Add b a
add_comm a b = omega arith

-- the order of the sources of an operation that doesn't depend on it
sorted : (op : RegOp) (rd first second : ℕ) → ((a b : ℕ) → reg_result op a b ≡ reg_result op b a) → SameEffect (greater_first op rd first second) (WithReg op rd first second)
sorted op rd first second comm size z = either (ltb first second)
  where
    either : (t : Bool) → effect (cond t (WithReg op rd second first) (WithReg op rd first second)) size z ≡ effect (WithReg op rd first second) size z
    either true = ap (λ v. gives v rd size z) (comm (reg_in z second) (reg_in z first))
    either false = refl

sorted_branch : (op : BranchOp) (first second : ℕ) (distance : ℤ) → ((a b : ℕ) → is_taken op a b ≡ is_taken op b a) → SameEffect (greater_branch op first second distance) (Branch op first second distance)
sorted_branch op first second distance comm size z = either (ltb first second)
  where
    either : (t : Bool) → effect (cond t (Branch op second first distance) (Branch op first second distance)) size z ≡ effect (Branch op first second distance) size z
    either true = ap (λ b. branches b distance size z) (comm (reg_in z second) (reg_in z first))
    either false = refl

sum_same : (rd first second : ℕ) → SameEffect (normal_sum rd first second) (WithReg Add rd first second)
sum_same rd first second size z = either (eqb second 0) (eqb first 0) refl refl
  where
    turned : (m n : ℕ) → m ≡ 0 → (n + 0) % 2 ^ 32 ≡ (m + n) % 2 ^ 32
    turned m n e = omega (arith, e)

    either : (t u : Bool) → eqb second 0 ≡ t → eqb first 0 ≡ u → effect (cond t (WithImm Addi rd first (pos 0)) (cond u (WithImm Addi rd second (pos 0)) (greater_first Add rd first second))) size z ≡ effect (WithReg Add rd first second) size z
    either true u is _ = ap (λ r. gives (reg_result Add (reg_in z first) (reg_in z r)) rd size z) (sym (eqb-true second 0 is))
    either false true _ is =
        let none : reg_in z first ≡ 0 = ap (reg_in z) (eqb-true first 0 is) in
        ap (λ v. gives v rd size z) (turned (reg_in z first) (reg_in z second) none)
    either false false _ _ = sorted Add rd first second add_comm size z

reg_same : (op : RegOp) (rd first second : ℕ) → SameEffect (normal_reg op rd first second) (WithReg op rd first second)
reg_same Add rd first second = sum_same rd first second
reg_same Sub rd first second = λ size z. refl
reg_same Sll rd first second = λ size z. refl
reg_same Slt rd first second = λ size z. refl
reg_same Sltu rd first second = λ size z. refl
reg_same Xor rd first second = sorted Xor rd first second xor_comm
reg_same Srl rd first second = λ size z. refl
reg_same Sra rd first second = λ size z. refl
reg_same Or rd first second = sorted Or rd first second or_comm
reg_same And rd first second = sorted And rd first second and_comm
reg_same Mul rd first second = sorted Mul rd first second (λ a b. ap (λ n. n % 2 ^ 32) (mul_comm a b))
reg_same Mulh rd first second = λ size z. refl
reg_same Mulhsu rd first second = λ size z. refl
reg_same Mulhu rd first second = λ size z. refl
reg_same Div rd first second = λ size z. refl
reg_same Divu rd first second = λ size z. refl
reg_same Rem rd first second = λ size z. refl
reg_same Remu rd first second = λ size z. refl

branch_same : (op : BranchOp) (first second : ℕ) (distance : ℤ) → SameEffect (normal_branch op first second distance) (Branch op first second distance)
branch_same Beq first second distance = sorted_branch Beq first second distance eqb_comm
branch_same Bne first second distance = sorted_branch Bne first second distance (λ a b. ap not (eqb_comm a b))
branch_same Blt first second distance = λ size z. refl
branch_same Bge first second distance = λ size z. refl
branch_same Bltu first second distance = λ size z. refl
branch_same Bgeu first second distance = λ size z. refl

pub normal_same : (i : Instr) → SameEffect (normal_of i) i
normal_same (Upper op rd imm) = λ size z. refl
normal_same (Jal rd distance) = λ size z. refl
normal_same (Jalr rd base imm) = λ size z. refl
normal_same (Branch op first second distance) = branch_same op first second distance
normal_same (Load op rd base imm) = λ size z. refl
normal_same (Store op source base imm) = λ size z. refl
normal_same (WithImm op rd first imm) = λ size z. refl
normal_same (WithReg op rd first second) = reg_same op rd first second
normal_same (Fence rest) = λ size z. refl
normal_same Ecall = λ size z. refl
normal_same Ebreak = λ size z. refl
normal_same (Csrrw rd source) = λ size z. refl

-- so do two that have one normal form
pub same_effect : (i j : Instr) → normal_of i ≡ normal_of j → SameEffect i j
same_effect i j same size z = sym (normal_same i size z) ∙ ap (λ k. effect k size z) same ∙ normal_same j size z
