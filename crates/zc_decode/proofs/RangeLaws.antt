-- An instruction that a halfword spells has immediates that a word has room for, and registers below 32, and so has its normal form.
use Rattle.std.proofs.Common.{◌≡◌, ℕ, ◌+◌, ◌*◌, ◌^◌, ◌<◌, ℤ, pos, negsuc, Bool, true, false, cond, Option, Some, None, refl, subst, arith, eqb}
use Rattle.std.specs.Option.{option_map}
use Rattle.std.specs.Prelude.{nat_lt}
use Rattle.rv_decode.specs.Bits.{FitsIn, IsEven, field}
use Rattle.rv_decode.specs.Immediates.{InRange}
use Rattle.rv_decode.specs.Registers.{HasRegisters}
use Rattle.rv_decode.specs.Normal.{greater_branch, greater_first, normal_branch, normal_of, normal_reg, normal_sum}
use Rattle.rv_decode.specs.declared.instr.Instr.{Instr}
use Rattle.rv_decode.specs.declared.instr.Instr.TheVariants.{Upper, Jal, Jalr, Branch, Load, Store, WithImm, WithReg, Fence, Ecall, Ebreak, Csrrw}
use Rattle.rv_decode.specs.declared.instr.BranchOp.{BranchOp}
use Rattle.rv_decode.specs.declared.instr.BranchOp.TheVariants.{Beq, Bne, Blt, Bge, Bltu, Bgeu}
use Rattle.rv_decode.specs.declared.instr.ImmOp.TheVariants.{Addi}
use Rattle.rv_decode.specs.declared.instr.RegOp.{RegOp}
use Rattle.rv_decode.specs.declared.instr.RegOp.TheVariants.{Add, Sub, Sll, Slt, Sltu, Xor, Srl, Sra, Or, And, Mul, Mulh, Mulhsu, Mulhu, Div, Divu, Rem, Remu}
use Rattle.rv_decode.proofs.BitLaws.{signed-even, signed-fits}
use Rattle.zc_decode.specs.Fields.{addi16sp_of, cb_offset_of, cj_offset_of, imm_ci_of}
use Rattle.zc_decode.specs.Halfwords.{decoded16, spelled}
use Rattle.zc_decode.specs.Rows.{form_of}
use Rattle.zc_decode.specs.declared.form.Form.{Form}
use Rattle.zc_decode.specs.declared.form.Form.TheVariants.{CAddi4spn, CLw, CSw, CLbu, CLhu, CLh, CSb, CSh, CNop, CAddi, CJal, CLi, CAddi16sp, CLui, CSrli, CSrai, CAndi, CSub, CXor, COr, CAnd, CMul, CZextB, CNot, CJ, CBeqz, CBnez, CSlli, CLwsp, CJr, CMv, CEbreak, CJalr, CAdd, CSwsp, CmPush, CmPop, CmPopretz, CmPopret, CmMvsa01, CmMva01s, CmJt, CmJalt}
use Rattle.zc_decode.specs.declared.short.Short.{Short}
use Rattle.zc_decode.specs.declared.short.Short.TheVariants.{Base}

-- ---- immediates

from_six : (z : ℤ) → FitsIn 6 z → FitsIn 12 z
from_six (pos n) lt = omega (arith, lt)
from_six (negsuc n) lt = omega (arith, lt)

from_ten : (z : ℤ) → FitsIn 10 z → FitsIn 12 z
from_ten (pos n) lt = omega (arith, lt)
from_ten (negsuc n) lt = omega (arith, lt)

from_nine : (z : ℤ) → FitsIn 9 z → FitsIn 13 z
from_nine (pos n) lt = omega (arith, lt)
from_nine (negsuc n) lt = omega (arith, lt)

from_twelve : (z : ℤ) → FitsIn 12 z → FitsIn 21 z
from_twelve (pos n) lt = omega (arith, lt)
from_twelve (negsuc n) lt = omega (arith, lt)

module _ (half : ℕ) where
  imm_ci : FitsIn 12 (imm_ci_of half)
  imm_ci = from_six (imm_ci_of half) (signed-fits 6 (field half 12 1 * 2 ^ 5 + field half 2 5) refl (omega arith))

  addi16sp : FitsIn 12 (addi16sp_of half)
  addi16sp = from_ten (addi16sp_of half) (signed-fits 10 (field half 12 1 * 2 ^ 9 + field half 3 2 * 2 ^ 7 + field half 5 1 * 2 ^ 6 + field half 2 1 * 2 ^ 5 + field half 6 1 * 2 ^ 4) refl (omega arith))

  abbrev jump_bits : ℕ
  jump_bits = field half 12 1 * 2 ^ 11 + field half 8 1 * 2 ^ 10 + field half 9 2 * 2 ^ 8 + field half 6 1 * 2 ^ 7 + field half 7 1 * 2 ^ 6 + field half 2 1 * 2 ^ 5 + field half 11 1 * 2 ^ 4 + field half 3 3 * 2

  jump : FitsIn 21 (cj_offset_of half) × IsEven (cj_offset_of half)
  jump = (from_twelve (cj_offset_of half) (signed-fits 12 jump_bits refl (omega arith)), signed-even 12 jump_bits refl (omega arith) (omega arith))

  abbrev branch_bits : ℕ
  branch_bits = field half 12 1 * 2 ^ 8 + field half 5 2 * 2 ^ 6 + field half 2 1 * 2 ^ 5 + field half 10 2 * 2 ^ 3 + field half 3 2 * 2

  branch : FitsIn 13 (cb_offset_of half) × IsEven (cb_offset_of half)
  branch = (from_nine (cb_offset_of half) (signed-fits 9 branch_bits refl (omega arith)), signed-even 9 branch_bits refl (omega arith) (omega arith))

-- ---- rows

-- what a halfword spells, if a word spells it too
abbrev IsShortInRange : Short → Type 0
IsShortInRange (Base i) = InRange i
IsShortInRange other = Unit {0}

short_in_range : (form : Form) (half : ℕ) → IsShortInRange (spelled form half)
short_in_range CAddi4spn half = omega arith
short_in_range CLw half = omega arith
short_in_range CSw half = omega arith
short_in_range CLbu half = omega arith
short_in_range CLhu half = omega arith
short_in_range CLh half = omega arith
short_in_range CSb half = omega arith
short_in_range CSh half = omega arith
short_in_range CNop half = imm_ci half
short_in_range CAddi half = imm_ci half
short_in_range CJal half = jump half
short_in_range CLi half = imm_ci half
short_in_range CAddi16sp half = addi16sp half
short_in_range CLui half = omega arith
short_in_range CSrli half = omega arith
short_in_range CSrai half = omega arith
short_in_range CAndi half = imm_ci half
short_in_range CSub half = tt
short_in_range CXor half = tt
short_in_range COr half = tt
short_in_range CAnd half = tt
short_in_range CMul half = tt
short_in_range CZextB half = omega arith
short_in_range CNot half = omega arith
short_in_range CJ half = jump half
short_in_range CBeqz half = branch half
short_in_range CBnez half = branch half
short_in_range CSlli half = omega arith
short_in_range CLwsp half = omega arith
short_in_range CJr half = omega arith
short_in_range CMv half = tt
short_in_range CEbreak half = tt
short_in_range CJalr half = omega arith
short_in_range CAdd half = tt
short_in_range CSwsp half = omega arith
short_in_range CmPush half = tt
short_in_range CmPop half = tt
short_in_range CmPopretz half = tt
short_in_range CmPopret half = tt
short_in_range CmMvsa01 half = tt
short_in_range CmMva01s half = tt
short_in_range CmJt half = tt
short_in_range CmJalt half = tt

-- ---- normal forms

either : (b : Bool) (i j : Instr) → InRange i → InRange j → InRange (cond b i j)
either true i j one two = one
either false i j one two = two

greater : (op : RegOp) (rd first second : ℕ) → InRange (greater_first op rd first second)
greater op rd first second = either (nat_lt first second) (WithReg op rd second first) (WithReg op rd first second) tt tt

sum : (rd first second : ℕ) → InRange (normal_sum rd first second)
sum rd first second =
    either (eqb second 0) (WithImm Addi rd first (pos 0)) _ (omega arith)
    (either (eqb first 0) (WithImm Addi rd second (pos 0)) (greater_first Add rd first second) (omega arith) (greater Add rd first second))

reg : (op : RegOp) (rd first second : ℕ) → InRange (normal_reg op rd first second)
reg Add rd first second = sum rd first second
reg Sub rd first second = tt
reg Sll rd first second = tt
reg Slt rd first second = tt
reg Sltu rd first second = tt
reg Xor rd first second = greater Xor rd first second
reg Srl rd first second = tt
reg Sra rd first second = tt
reg Or rd first second = greater Or rd first second
reg And rd first second = greater And rd first second
reg Mul rd first second = greater Mul rd first second
reg Mulh rd first second = tt
reg Mulhsu rd first second = tt
reg Mulhu rd first second = tt
reg Div rd first second = tt
reg Divu rd first second = tt
reg Rem rd first second = tt
reg Remu rd first second = tt

turned : (op : BranchOp) (first second : ℕ) (distance : ℤ) → FitsIn 13 distance × IsEven distance → InRange (greater_branch op first second distance)
turned op first second distance is = either (nat_lt first second) (Branch op second first distance) (Branch op first second distance) is is

branches : (op : BranchOp) (first second : ℕ) (distance : ℤ) → FitsIn 13 distance × IsEven distance → InRange (normal_branch op first second distance)
branches Beq first second distance is = turned Beq first second distance is
branches Bne first second distance is = turned Bne first second distance is
branches Blt first second distance is = is
branches Bge first second distance is = is
branches Bltu first second distance is = is
branches Bgeu first second distance is = is

normal_in_range : (i : Instr) → InRange i → InRange (normal_of i)
normal_in_range (Upper op rd imm) is = is
normal_in_range (Jal rd distance) is = is
normal_in_range (Jalr rd base imm) is = is
normal_in_range (Branch op first second distance) is = branches op first second distance is
normal_in_range (Load op rd base imm) is = is
normal_in_range (Store op source base imm) is = is
normal_in_range (WithImm op rd first imm) is = is
normal_in_range (WithReg op rd first second) is = reg op rd first second
normal_in_range (Fence rest) is = is
normal_in_range Ecall is = is
normal_in_range Ebreak is = is
normal_in_range (Csrrw rd source) is = is

-- ---- registers

abbrev HasShortRegisters : Short → Type 0
HasShortRegisters (Base i) = HasRegisters i
HasShortRegisters other = Unit {0}

short_registers : (form : Form) (half : ℕ) → HasShortRegisters (spelled form half)
short_registers CAddi4spn half = (omega arith, omega arith)
short_registers CLw half = (omega arith, omega arith)
short_registers CSw half = (omega arith, omega arith)
short_registers CLbu half = (omega arith, omega arith)
short_registers CLhu half = (omega arith, omega arith)
short_registers CLh half = (omega arith, omega arith)
short_registers CSb half = (omega arith, omega arith)
short_registers CSh half = (omega arith, omega arith)
short_registers CNop half = (omega arith, omega arith)
short_registers CAddi half = (omega arith, omega arith)
short_registers CJal half = omega arith
short_registers CLi half = (omega arith, omega arith)
short_registers CAddi16sp half = (omega arith, omega arith)
short_registers CLui half = omega arith
short_registers CSrli half = (omega arith, omega arith)
short_registers CSrai half = (omega arith, omega arith)
short_registers CAndi half = (omega arith, omega arith)
short_registers CSub half = (omega arith, omega arith, omega arith)
short_registers CXor half = (omega arith, omega arith, omega arith)
short_registers COr half = (omega arith, omega arith, omega arith)
short_registers CAnd half = (omega arith, omega arith, omega arith)
short_registers CMul half = (omega arith, omega arith, omega arith)
short_registers CZextB half = (omega arith, omega arith)
short_registers CNot half = (omega arith, omega arith)
short_registers CJ half = omega arith
short_registers CBeqz half = (omega arith, omega arith)
short_registers CBnez half = (omega arith, omega arith)
short_registers CSlli half = (omega arith, omega arith)
short_registers CLwsp half = (omega arith, omega arith)
short_registers CJr half = (omega arith, omega arith)
short_registers CMv half = (omega arith, omega arith, omega arith)
short_registers CEbreak half = tt
short_registers CJalr half = (omega arith, omega arith)
short_registers CAdd half = (omega arith, omega arith, omega arith)
short_registers CSwsp half = (omega arith, omega arith)
short_registers CmPush half = tt
short_registers CmPop half = tt
short_registers CmPopretz half = tt
short_registers CmPopret half = tt
short_registers CmMvsa01 half = tt
short_registers CmMva01s half = tt
short_registers CmJt half = tt
short_registers CmJalt half = tt

either_registers : (b : Bool) (i j : Instr) → HasRegisters i → HasRegisters j → HasRegisters (cond b i j)
either_registers true i j one two = one
either_registers false i j one two = two

greater_registers : (op : RegOp) (rd first second : ℕ) → rd < 32 → first < 32 → second < 32 → HasRegisters (greater_first op rd first second)
greater_registers op rd first second d one two = either_registers (nat_lt first second) (WithReg op rd second first) (WithReg op rd first second) (d, two, one) (d, one, two)

sum_registers : (rd first second : ℕ) → rd < 32 → first < 32 → second < 32 → HasRegisters (normal_sum rd first second)
sum_registers rd first second d one two =
    either_registers (eqb second 0) (WithImm Addi rd first (pos 0)) _ (d, one)
    (either_registers (eqb first 0) (WithImm Addi rd second (pos 0)) (greater_first Add rd first second) (d, two) (greater_registers Add rd first second d one two))

reg_registers : (op : RegOp) (rd first second : ℕ) → rd < 32 → first < 32 → second < 32 → HasRegisters (normal_reg op rd first second)
reg_registers Add rd first second d one two = sum_registers rd first second d one two
reg_registers Sub rd first second d one two = (d, one, two)
reg_registers Sll rd first second d one two = (d, one, two)
reg_registers Slt rd first second d one two = (d, one, two)
reg_registers Sltu rd first second d one two = (d, one, two)
reg_registers Xor rd first second d one two = greater_registers Xor rd first second d one two
reg_registers Srl rd first second d one two = (d, one, two)
reg_registers Sra rd first second d one two = (d, one, two)
reg_registers Or rd first second d one two = greater_registers Or rd first second d one two
reg_registers And rd first second d one two = greater_registers And rd first second d one two
reg_registers Mul rd first second d one two = greater_registers Mul rd first second d one two
reg_registers Mulh rd first second d one two = (d, one, two)
reg_registers Mulhsu rd first second d one two = (d, one, two)
reg_registers Mulhu rd first second d one two = (d, one, two)
reg_registers Div rd first second d one two = (d, one, two)
reg_registers Divu rd first second d one two = (d, one, two)
reg_registers Rem rd first second d one two = (d, one, two)
reg_registers Remu rd first second d one two = (d, one, two)

turned_registers : (op : BranchOp) (first second : ℕ) (distance : ℤ) → first < 32 → second < 32 → HasRegisters (greater_branch op first second distance)
turned_registers op first second distance one two = either_registers (nat_lt first second) (Branch op second first distance) (Branch op first second distance) (two, one) (one, two)

branch_registers : (op : BranchOp) (first second : ℕ) (distance : ℤ) → first < 32 → second < 32 → HasRegisters (normal_branch op first second distance)
branch_registers Beq first second distance one two = turned_registers Beq first second distance one two
branch_registers Bne first second distance one two = turned_registers Bne first second distance one two
branch_registers Blt first second distance one two = (one, two)
branch_registers Bge first second distance one two = (one, two)
branch_registers Bltu first second distance one two = (one, two)
branch_registers Bgeu first second distance one two = (one, two)

normal_registers : (i : Instr) → HasRegisters i → HasRegisters (normal_of i)
normal_registers (Upper op rd imm) is = is
normal_registers (Jal rd distance) is = is
normal_registers (Jalr rd base imm) is = is
normal_registers (Branch op first second distance) is = branch_registers op first second distance is.0 is.1
normal_registers (Load op rd base imm) is = is
normal_registers (Store op source base imm) is = is
normal_registers (WithImm op rd first imm) is = is
normal_registers (WithReg op rd first second) is = reg_registers op rd first second is.0 is.1 is.2
normal_registers (Fence rest) is = is
normal_registers Ecall is = is
normal_registers Ebreak is = is
normal_registers (Csrrw rd source) is = is

-- ---- halfwords

-- the normal form of what one spells
pub half_in_range : (half : ℕ) (i : Instr) → decoded16 half ≡ Some (Base i) → InRange (normal_of i)
unfolding decoded16
half_in_range half i is = by (form_of half) is
  where
    by : (o : Option Form) → option_map (λ form. spelled form half) o ≡ Some (Base i) → InRange (normal_of i)
    by None is = absurd cc
    by (Some form) is = let same : spelled form half ≡ Base i = cc in normal_in_range i (subst IsShortInRange same (short_in_range form half))

pub half_registers : (half : ℕ) (i : Instr) → decoded16 half ≡ Some (Base i) → HasRegisters (normal_of i)
unfolding decoded16
half_registers half i is = by (form_of half) is
  where
    by : (o : Option Form) → option_map (λ form. spelled form half) o ≡ Some (Base i) → HasRegisters (normal_of i)
    by None is = absurd cc
    by (Some form) is = let same : spelled form half ≡ Base i = cc in normal_registers i (subst HasShortRegisters same (short_registers form half))
