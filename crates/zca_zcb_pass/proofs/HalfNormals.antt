-- The normal forms of instructions of two bytes: none is `ecall`, a branch compares one of x8 to x15 with x0 for equality, and a
-- jump links x0 or ra; each goes an even distance in its range.
use Rattle.std.proofs.Common.{◌≡◌, ℕ, ℤ, pos, negsuc, ◌+◌, ◌-◌, ◌*◌, ◌%◌, ◌^◌, ◌<◌, ◌≤◌, ◌⊎◌, inl, inr, Bool, true, false, cond, eqb, ltb, Option, Some, None, refl, sym, subst, arith}
use Rattle.std.specs.Option.{option_map}
use Rattle.std.proofs.lemmas.Bool.{and_from, eq-eqb, le-ltb, lt-ltb}
use Rattle.std.proofs.lemmas.Option.{same_Some}
use Rattle.psabi_reloc.specs.Reaches.{is_even_of}
use Rattle.rv_decode.specs.Bits.{FitsIn, IsEven, field}
use Rattle.rv_decode.specs.Formats.{rd_of}
use Rattle.rv_decode.specs.Normal.{normal_of, normal_reg}
use Rattle.rv_decode.specs.declared.instr.BranchOp.{BranchOp}
use Rattle.rv_decode.specs.declared.instr.BranchOp.TheVariants.{Beq, Bne}
use Rattle.rv_decode.specs.declared.instr.ImmOp.TheVariants.{Addi}
use Rattle.rv_decode.specs.declared.instr.Instr.{Instr}
use Rattle.rv_decode.specs.declared.instr.Instr.TheVariants.{Jal, Branch, WithImm, WithReg, Ecall}
use Rattle.rv_decode.specs.declared.instr.RegOp.{RegOp}
use Rattle.rv_decode.specs.declared.instr.RegOp.TheVariants.{Add, Sub, Sll, Slt, Sltu, Xor, Srl, Sra, Or, And, Mul, Mulh, Mulhsu, Mulhu, Div, Divu, Rem, Remu}
use Rattle.rv_decode.proofs.BitLaws.{signed-even, signed-fits}
use Rattle.zc_decode.specs.Fields.{c_rs2_of, cb_offset_of, cj_offset_of, high_reg_of, low_reg_of}
use Rattle.zc_decode.specs.Halfwords.{decoded16, spelled}
use Rattle.zc_decode.specs.Rows.{form_of}
use Rattle.zc_decode.specs.declared.form.Form.{Form}
use Rattle.zc_decode.specs.declared.form.Form.TheVariants.{CAddi4spn, CLw, CSw, CLbu, CLhu, CLh, CSb, CSh, CNop, CAddi, CJal, CLi, CAddi16sp, CLui, CSrli, CSrai, CAndi, CSub, CXor, COr, CAnd, CMul, CZextB, CNot, CJ, CBeqz, CBnez, CSlli, CLwsp, CJr, CMv, CEbreak, CJalr, CAdd, CSwsp, CmPush, CmPop, CmPopretz, CmPopret, CmMvsa01, CmMva01s, CmJt, CmJalt}
use Rattle.zc_decode.specs.declared.short.Short.{Short}
use Rattle.zc_decode.specs.declared.short.Short.TheVariants.{Base, Push, Pop, PopRet, PopRetz, MoveSa, MoveAs, TableJump}

-- a branch that a halfword has, but for its distance
pub record IsZeroBranch (op : BranchOp) (first second : ℕ) : Type 0 where
  pub equal : (op ≡ Beq) ⊎ (op ≡ Bne)
  pub low : 8 ≤ first
  pub high : first < 16
  pub zero : second ≡ 0

-- an even distance that fits in so many bits
abbrev pub IsNear : ℕ → ℤ → Type 0
IsNear bits distance = FitsIn bits distance × IsEven distance

-- what the normal form of an instruction of two bytes can be
abbrev pub IsHalfNormal : Instr → Type 0
IsHalfNormal Ecall = ⊥
IsHalfNormal (Branch op first second distance) = IsZeroBranch op first second × IsNear 9 distance
IsHalfNormal (Jal rd distance) = ((rd ≡ 0) ⊎ (rd ≡ 1)) × IsNear 12 distance
IsHalfNormal other = Unit {0}

-- ---- distances

-- it is in reach
pub near_reaches : (bits : ℕ) (distance : ℤ) → IsNear bits distance → is_even_of bits distance ≡ true
near_reaches bits (pos n) near = and_from (ltb n (2 ^ (bits - 1))) (eqb (n % 2) 0) (lt-ltb n (2 ^ (bits - 1)) near.0) (eq-eqb (n % 2) 0 near.1)
near_reaches bits (negsuc n) near = and_from (ltb n (2 ^ (bits - 1))) (eqb (n % 2) 1) (lt-ltb n (2 ^ (bits - 1)) near.0) (eq-eqb (n % 2) 1 near.1)

module _ (half : ℕ) where
  abbrev branch_bits : ℕ
  branch_bits = field half 12 1 * 2 ^ 8 + field half 5 2 * 2 ^ 6 + field half 2 1 * 2 ^ 5 + field half 10 2 * 2 ^ 3 + field half 3 2 * 2

  nine : IsNear 9 (cb_offset_of half)
  nine = (signed-fits 9 branch_bits refl (omega arith), signed-even 9 branch_bits refl (omega arith) (omega arith))

  abbrev jump_bits : ℕ
  jump_bits = field half 12 1 * 2 ^ 11 + field half 8 1 * 2 ^ 10 + field half 9 2 * 2 ^ 8 + field half 6 1 * 2 ^ 7 + field half 7 1 * 2 ^ 6 + field half 2 1 * 2 ^ 5 + field half 11 1 * 2 ^ 4 + field half 3 3 * 2

  twelve : IsNear 12 (cj_offset_of half)
  twelve = (signed-fits 12 jump_bits refl (omega arith), signed-even 12 jump_bits refl (omega arith) (omega arith))

-- ---- rows

-- operations on two registers
in_order : (op : RegOp) (rd first second : ℕ) (less : Bool) → IsHalfNormal (cond less (WithReg op rd second first) (WithReg op rd first second))
in_order op rd first second true = tt
in_order op rd first second false = tt

reg_normal : (op : RegOp) (rd first second : ℕ) → IsHalfNormal (normal_reg op rd first second)
reg_normal Add rd first second = by (eqb second 0) (eqb first 0)
  where
    by :
        (a b : Bool)
        → IsHalfNormal (cond a (WithImm Addi rd first (pos 0)) (cond b (WithImm Addi rd second (pos 0)) (cond (ltb first second) (WithReg Add rd second first) (WithReg Add rd first second))))
    by true b = tt
    by false true = tt
    by false false = in_order Add rd first second (ltb first second)
reg_normal Xor rd first second = in_order Xor rd first second (ltb first second)
reg_normal Or rd first second = in_order Or rd first second (ltb first second)
reg_normal And rd first second = in_order And rd first second (ltb first second)
reg_normal Mul rd first second = in_order Mul rd first second (ltb first second)
reg_normal Sub rd first second = tt
reg_normal Sll rd first second = tt
reg_normal Slt rd first second = tt
reg_normal Sltu rd first second = tt
reg_normal Srl rd first second = tt
reg_normal Sra rd first second = tt
reg_normal Mulh rd first second = tt
reg_normal Mulhsu rd first second = tt
reg_normal Mulhu rd first second = tt
reg_normal Div rd first second = tt
reg_normal Divu rd first second = tt
reg_normal Rem rd first second = tt
reg_normal Remu rd first second = tt

-- a branch has its sources in order
zero_normal :
    (op : BranchOp) (half : ℕ) → (op ≡ Beq) ⊎ (op ≡ Bne)
    → IsHalfNormal (cond (ltb (high_reg_of half) 0) (Branch op 0 (high_reg_of half) (cb_offset_of half)) (Branch op (high_reg_of half) 0 (cb_offset_of half)))
zero_normal op half equal =
    let more : ltb (high_reg_of half) 0 ≡ false = le-ltb (high_reg_of half) 0 (omega arith) in
    subst (λ b. IsHalfNormal (cond b (Branch op 0 (high_reg_of half) (cb_offset_of half)) (Branch op (high_reg_of half) 0 (cb_offset_of half)))) (sym more)
    (record { equal = equal; low = omega arith; high = omega arith; zero = refl }, nine half)

abbrev IsShortNormal : Short → Type 0
IsShortNormal (Base i) = IsHalfNormal (normal_of i)
IsShortNormal (Push list adjust) = Unit {0}
IsShortNormal (Pop list adjust) = Unit {0}
IsShortNormal (PopRet list adjust) = Unit {0}
IsShortNormal (PopRetz list adjust) = Unit {0}
IsShortNormal (MoveSa first second) = Unit {0}
IsShortNormal (MoveAs first second) = Unit {0}
IsShortNormal (TableJump index) = Unit {0}

form_normal : (f : Form) (half : ℕ) → IsShortNormal (spelled f half)
form_normal CAddi4spn half = tt
form_normal CLw half = tt
form_normal CSw half = tt
form_normal CLbu half = tt
form_normal CLhu half = tt
form_normal CLh half = tt
form_normal CSb half = tt
form_normal CSh half = tt
form_normal CNop half = tt
form_normal CAddi half = tt
form_normal CJal half = (inr refl, twelve half)
form_normal CLi half = tt
form_normal CAddi16sp half = tt
form_normal CLui half = tt
form_normal CSrli half = tt
form_normal CSrai half = tt
form_normal CAndi half = tt
form_normal CSub half = reg_normal Sub (high_reg_of half) (high_reg_of half) (low_reg_of half)
form_normal CXor half = reg_normal Xor (high_reg_of half) (high_reg_of half) (low_reg_of half)
form_normal COr half = reg_normal Or (high_reg_of half) (high_reg_of half) (low_reg_of half)
form_normal CAnd half = reg_normal And (high_reg_of half) (high_reg_of half) (low_reg_of half)
form_normal CMul half = reg_normal Mul (high_reg_of half) (high_reg_of half) (low_reg_of half)
form_normal CZextB half = tt
form_normal CNot half = tt
form_normal CJ half = (inl refl, twelve half)
form_normal CBeqz half = zero_normal Beq half (inl refl)
form_normal CBnez half = zero_normal Bne half (inr refl)
form_normal CSlli half = tt
form_normal CLwsp half = tt
form_normal CJr half = tt
form_normal CMv half = reg_normal Add (rd_of half) 0 (c_rs2_of half)
form_normal CEbreak half = tt
form_normal CJalr half = tt
form_normal CAdd half = reg_normal Add (rd_of half) (rd_of half) (c_rs2_of half)
form_normal CSwsp half = tt
form_normal CmPush half = tt
form_normal CmPop half = tt
form_normal CmPopretz half = tt
form_normal CmPopret half = tt
form_normal CmMvsa01 half = tt
form_normal CmMva01s half = tt
form_normal CmJt half = tt
form_normal CmJalt half = tt

pub half_normal : (half : ℕ) (i : Instr) → decoded16 half ≡ Some (Base i) → IsHalfNormal (normal_of i)
unfolding decoded16
half_normal half i spells = by (form_of half) spells
  where
    by : (o : Option Form) → option_map (λ f. spelled f half) o ≡ Some (Base i) → IsHalfNormal (normal_of i)
    by None same = absurd cc
    by (Some f) same = subst IsShortNormal (same_Some (spelled f half) (Base i) same) (form_normal f half)
