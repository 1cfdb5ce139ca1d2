-- An instruction that is assembled has an immediate that fits (`assembled_in_range`).
use Rattle.std.proofs.Common.{◌≡◌, ℕ, ℤ, pos, negsuc, ◌-◌, ◌%◌, ◌^◌, ◌<◌, Option, Some, None, Bool, true, false, cond, refl, sym, arith, subst, eqb, eqb-true, ltb}
use Rattle.std.specs.Prelude.{IfSome}
use Rattle.std.specs.Option.{option_map}
use Rattle.std.proofs.lemmas.Bool.{and_parts, ltb-true}
use Rattle.std.proofs.lemmas.Option.{cond_some, none-some, same_Some}
use Rattle.rv_decode.specs.Bits.{FitsIn, IsEven}
use Rattle.rv_decode.specs.Immediates.{ImmInRange, InRange, IsAmount}
use Rattle.rv_decode.specs.declared.instr.ImmOp.{ImmOp}
use Rattle.rv_decode.specs.declared.instr.ImmOp.TheVariants.{Addi, Slti, Sltiu, Xori, Ori, Andi, Slli, Srli, Srai}
use Rattle.rv_decode.specs.declared.instr.Instr.{Instr}
use Rattle.rv_decode.specs.declared.instr.Instr.TheVariants as instr
use Rattle.zc_encode.specs.Halves.{has_bits, is_offset, is_signed, low_bits}
use Rattle.instruction_text.specs.Assembly.{assembled, fitting_instr, imm_fits, natural_below}
use Rattle.instruction_text.specs.declared.operands.Operands.{Operands}
use Rattle.instruction_text.specs.declared.operands.Operands.TheVariants.{Nothing, OneNumber, TwoRegisters, RegisterNumber, RegistersNumber, ThreeRegisters}
use Rattle.instruction_text.specs.declared.operation.Operation.{Operation}
use Rattle.instruction_text.specs.declared.operation.Operation.TheVariants as operation

-- ---- tests of immediates

bits_fit : (bits : ℕ) (z : ℤ) → has_bits bits z ≡ true → FitsIn bits z
bits_fit bits (pos n) test = ltb-true n (2 ^ (bits - 1)) test
bits_fit bits (negsuc n) test = ltb-true n (2 ^ (bits - 1)) test

even_13 : (z : ℤ) → FitsIn 13 z → low_bits 13 z % 2 ≡ 0 → IsEven z
even_13 (pos n) fits even = omega (arith, fits, even)
even_13 (negsuc n) fits even = omega (arith, fits, even)

even_21 : (z : ℤ) → FitsIn 21 z → low_bits 21 z % 2 ≡ 0 → IsEven z
even_21 (pos n) fits even = omega (arith, fits, even)
even_21 (negsuc n) fits even = omega (arith, fits, even)

signed_13 : (z : ℤ) → is_signed 13 2 z ≡ true → FitsIn 13 z × IsEven z
signed_13 z test =
    let p = and_parts (has_bits 13 z) (eqb (low_bits 13 z % 2) 0) test in
    let fits = bits_fit 13 z p.0 in
    (fits, even_13 z fits (eqb-true (low_bits 13 z % 2) 0 p.1))

signed_21 : (z : ℤ) → is_signed 21 2 z ≡ true → FitsIn 21 z × IsEven z
signed_21 z test =
    let p = and_parts (has_bits 21 z) (eqb (low_bits 21 z % 2) 0) test in
    let fits = bits_fit 21 z p.0 in
    (fits, even_21 z fits (eqb-true (low_bits 21 z % 2) 0 p.1))

amount_is : (z : ℤ) → is_offset 32 1 z ≡ true → IsAmount z
amount_is (pos n) test = ltb-true n 32 (and_parts (ltb n 32) (eqb (n % 1) 0) test).0
amount_is (negsuc n) test = absurd cc

immediate_is : (op : ImmOp) (z : ℤ) → imm_fits op z ≡ true → ImmInRange op z
immediate_is Addi z test = bits_fit 12 z test
immediate_is Slti z test = bits_fit 12 z test
immediate_is Sltiu z test = bits_fit 12 z test
immediate_is Xori z test = bits_fit 12 z test
immediate_is Ori z test = bits_fit 12 z test
immediate_is Andi z test = bits_fit 12 z test
immediate_is Slli z test = amount_is z test
immediate_is Srli z test = amount_is z test
immediate_is Srai z test = amount_is z test

-- ---- instructions

-- what a number below a limit gives
below_is : (make : ℕ → Instr) (limit : ℕ) (z : ℤ) (i : Instr) → ((n : ℕ) → n < limit → InRange (make n)) → option_map make (natural_below limit z) ≡ Some i → InRange i
below_is make limit (pos n) i range is = either (ltb n limit) refl is
  where
    either : (b : Bool) → ltb n limit ≡ b → option_map make (cond b (Some n) None) ≡ Some i → InRange i
    either true test h = subst InRange (same_Some (make n) i h) (range n (ltb-true n limit test))
    either false test h = absurd (none-some i h)
below_is make limit (negsuc n) i range is = absurd (none-some i is)

fitting_is : (fits : Bool) (j i : Instr) → (fits ≡ true → InRange j) → fitting_instr fits j ≡ Some i → InRange i
fitting_is fits j i range is = let parts = cond_some fits j i is in subst InRange parts.1 (range parts.0)

pub assembled_in_range : (op : Operation) (os : Operands) (i : Instr) → assembled op os ≡ Some i → InRange i
assembled_in_range (operation.Upper op) (RegisterNumber rd imm) i is = below_is (instr.Upper op rd) (2 ^ 20) imm i (λ n lt. lt) is
assembled_in_range operation.Jal (RegisterNumber rd distance) i is = fitting_is _ (instr.Jal rd distance) i (signed_21 distance) is
assembled_in_range operation.Jalr (RegistersNumber rd base imm) i is = fitting_is _ (instr.Jalr rd base imm) i (bits_fit 12 imm) is
assembled_in_range (operation.Branch op) (RegistersNumber first second distance) i is =
    fitting_is _ (instr.Branch op first second distance) i (signed_13 distance) is
assembled_in_range (operation.Load op) (RegistersNumber rd base imm) i is = fitting_is _ (instr.Load op rd base imm) i (bits_fit 12 imm) is
assembled_in_range (operation.Store op) (RegistersNumber base source imm) i is = fitting_is _ (instr.Store op source base imm) i (bits_fit 12 imm) is
assembled_in_range (operation.WithImm op) (RegistersNumber rd first imm) i is = fitting_is _ (instr.WithImm op rd first imm) i (immediate_is op imm) is
assembled_in_range (operation.WithReg op) (ThreeRegisters rd first second) i is = subst InRange (same_Some (instr.WithReg op rd first second) i is) tt
assembled_in_range operation.Fence (OneNumber rest) i is = below_is instr.Fence (2 ^ 22) rest i (λ n lt. lt) is
assembled_in_range operation.Ecall Nothing i is = subst InRange (same_Some instr.Ecall i is) tt
assembled_in_range operation.Ebreak Nothing i is = subst InRange (same_Some instr.Ebreak i is) tt
assembled_in_range operation.Csrrw (TwoRegisters rd source) i is = subst InRange (same_Some (instr.Csrrw rd source) i is) tt
assembled_in_range other os i is = absurd (none-some i is)

pub assembled_some : (op : Operation) (os : Operands) (o : Option Instr) → o ≡ assembled op os → IfSome o InRange
assembled_some op os None is = tt
assembled_some op os (Some i) is = assembled_in_range op os i (sym is)
