-- The code that a name and operands spell: a line for each name, with the fields in which its operands stand (RISC-V unprivileged
-- manual, "RV32/64G Instruction Set Listings" and "RVC Instruction Set Listings"; RISC-V Zc specification 1.0).
use Rattle.std.specs.Prelude.{ℕ, ℤ, pos, negsuc, ◌+◌, ◌-◌, ◌*◌, ◌^◌, Bool, not, ◌==◌, ◌&&◌, nat_lt, if◌then◌else◌, Option, Some, None}
use Rattle.std.specs.Option.{option_and_then, option_map}
use Rattle.rv_decode.specs.Bits.{as_word, field}
use Rattle.rv_decode.specs.declared.instr.BranchOp.TheVariants.{Beq, Bne}
use Rattle.rv_decode.specs.declared.instr.ImmOp.{ImmOp}
use Rattle.rv_decode.specs.declared.instr.ImmOp.TheVariants.{Addi, Slti, Sltiu, Xori, Ori, Andi, Slli, Srli, Srai}
use Rattle.rv_decode.specs.declared.instr.Instr.{Instr}
use Rattle.rv_decode.specs.declared.instr.Instr.TheVariants as instr
use Rattle.zc_decode.specs.declared.form.Form.{Form}
use Rattle.zc_decode.specs.declared.form.Form.TheVariants.{CAddi4spn, CLw, CSw, CLbu, CLhu, CLh, CSb, CSh, CNop, CAddi, CJal, CLi, CAddi16sp, CLui, CSrli, CSrai, CAndi, CSub, CXor, COr, CAnd, CMul, CZextB, CNot, CJ, CBeqz, CBnez, CSlli, CLwsp, CJr, CMv, CEbreak, CJalr, CAdd, CSwsp, CmPush, CmPop, CmPopretz, CmPopret, CmMvsa01, CmMva01s, CmJt, CmJalt}
use Rattle.zc_encode.specs.Halves.{addi16sp_half, addi4spn_half, andi_half, branch_half, byte_half, half_half, half_of, has_bits, is_c_lui_imm, is_offset, is_popular, is_signed, jalr_half, jump_half, list_half, lwsp_half, move_half, move_sa_half, pair_half, six_half, swsp_half, table_half, unary_half, when, word_half}
use Rattle.instruction_text.specs.declared.operands.Operands.{Operands}
use Rattle.instruction_text.specs.declared.operands.Operands.TheVariants.{Nothing, OneNumber, TwoNumbers, TwoRegisters, RegisterNumber, RegistersNumber, ThreeRegisters}
use Rattle.instruction_text.specs.declared.operation.Operation.{Operation}
use Rattle.instruction_text.specs.declared.operation.Operation.TheVariants as operation

-- a number from 0 to below a limit
abbrev pub natural_below : ℕ → ℤ → Option ℕ
natural_below limit (pos n) = if nat_lt n limit then Some n else None
natural_below limit (negsuc n) = None

-- ---- words

-- an instruction whose immediate fits
abbrev pub fitting_instr : Bool → Instr → Option Instr
fitting_instr fits i = if fits then Some i else None

-- twelve bits with a sign, or a shift's amount
abbrev pub imm_fits : ImmOp → ℤ → Bool
imm_fits Addi imm = has_bits 12 imm
imm_fits Slti imm = has_bits 12 imm
imm_fits Sltiu imm = has_bits 12 imm
imm_fits Xori imm = has_bits 12 imm
imm_fits Ori imm = has_bits 12 imm
imm_fits Andi imm = has_bits 12 imm
imm_fits Slli imm = is_offset 32 1 imm
imm_fits Srli imm = is_offset 32 1 imm
imm_fits Srai imm = is_offset 32 1 imm

-- the instruction of an operation with operands, if they are of its kind and fit
abbrev pub assembled : Operation → Operands → Option Instr
assembled (operation.Upper op) (RegisterNumber rd imm) = option_map (instr.Upper op rd) (natural_below (2 ^ 20) imm)
assembled operation.Jal (RegisterNumber rd distance) = fitting_instr (is_signed 21 2 distance) (instr.Jal rd distance)
assembled operation.Jalr (RegistersNumber rd base imm) = fitting_instr (has_bits 12 imm) (instr.Jalr rd base imm)
assembled (operation.Branch op) (RegistersNumber first second distance) = fitting_instr (is_signed 13 2 distance) (instr.Branch op first second distance)
assembled (operation.Load op) (RegistersNumber rd base imm) = fitting_instr (has_bits 12 imm) (instr.Load op rd base imm)
assembled (operation.Store op) (RegistersNumber base source imm) = fitting_instr (has_bits 12 imm) (instr.Store op source base imm)
assembled (operation.WithImm op) (RegistersNumber rd first imm) = fitting_instr (imm_fits op imm) (instr.WithImm op rd first imm)
assembled (operation.WithReg op) (ThreeRegisters rd first second) = Some (instr.WithReg op rd first second)
assembled operation.Fence (OneNumber rest) = option_map instr.Fence (natural_below (2 ^ 22) rest)
assembled operation.Ecall Nothing = Some instr.Ecall
assembled operation.Ebreak Nothing = Some instr.Ebreak
assembled operation.Csrrw (TwoRegisters rd source) = Some (instr.Csrrw rd source)
assembled other operands = None

-- ---- rows of halfwords that have hints

-- c.addi, c.nop too
abbrev pub any_addi_half : ℕ → ℕ → ℤ → Option ℕ
any_addi_half rd first imm = when (first == rd && has_bits 6 imm) (six_half 0b000_01 rd imm)

abbrev pub any_li_half : ℕ → ℕ → ℤ → Option ℕ
any_li_half rd first imm = when (first == 0 && has_bits 6 imm) (six_half 0b010_01 rd imm)

abbrev pub any_lui_half : ℕ → ℕ → Option ℕ
any_lui_half rd imm = when (not (rd == 2) && is_c_lui_imm imm) (half_of 0b011_01 (field imm 5 1) rd (field imm 0 5))

-- c.srli and c.srai: bits 11 to 10 tell which
abbrev pub any_right_half : ℕ → ℕ → ℕ → ℤ → Option ℕ
any_right_half which rd first imm =
    when (first == rd && (is_popular rd && is_offset 32 1 imm)) (half_of 0b100_01 0 (which * 8 + (rd - 8)) (as_word imm))

abbrev pub any_slli_half : ℕ → ℕ → ℤ → Option ℕ
any_slli_half rd first imm = when (first == rd && is_offset 32 1 imm) (half_of 0b000_10 0 rd (as_word imm))

abbrev pub any_mv_half : ℕ → ℕ → ℕ → Option ℕ
any_mv_half rd first second = when (first == 0 && not (second == 0)) (half_of 0b100_10 0 rd second)

abbrev pub any_add_half : ℕ → ℕ → ℕ → Option ℕ
any_add_half rd first second = when (first == rd && not (second == 0)) (half_of 0b100_10 1 rd second)

-- ---- other rows

-- an operation on two registers: the first source is rd
abbrev pub own_pair_half : ℕ → ℕ → ℕ → ℕ → ℕ → Option ℕ
own_pair_half bit which rd first second = if first == rd then pair_half bit which rd second else None

-- a jump with this rd
abbrev pub own_jump_half : ℕ → ℕ → ℕ → ℤ → Option ℕ
own_jump_half group own rd distance = if rd == own then jump_half group distance else None

-- a jump to a register, with this rd
abbrev pub own_jalr_half : ℕ → ℕ → ℕ → ℤ → Option ℕ
own_jalr_half own rd base imm = if rd == own then jalr_half rd base imm else None

-- a push or pop, by numbers
abbrev pub numbers_half : ℕ → ℤ → ℤ → Option ℕ
numbers_half kind list adjust =
    option_and_then (λ l. option_and_then (λ a. list_half kind l a) (natural_below 256 adjust)) (natural_below 256 list)

-- ---- halfwords

-- the halfword of a row with operands, if they are of its kind and fit; its operands are those of the instruction that it expands to
abbrev pub assembled_half : Form → Operands → Option ℕ
assembled_half CAddi4spn (RegistersNumber rd first imm) = addi4spn_half rd first imm
assembled_half CLw (RegistersNumber rd base imm) = word_half 0b010_00 rd base imm
assembled_half CSw (RegistersNumber base source imm) = word_half 0b110_00 source base imm
assembled_half CLbu (RegistersNumber rd base imm) = byte_half 0b00 rd base imm
assembled_half CLhu (RegistersNumber rd base imm) = half_half 0b01 0 rd base imm
assembled_half CLh (RegistersNumber rd base imm) = half_half 0b01 1 rd base imm
assembled_half CSb (RegistersNumber base source imm) = byte_half 0b10 source base imm
assembled_half CSh (RegistersNumber base source imm) = half_half 0b11 0 source base imm
assembled_half CNop (RegistersNumber rd first imm) = any_addi_half rd first imm
assembled_half CAddi (RegistersNumber rd first imm) = any_addi_half rd first imm
assembled_half CJal (RegisterNumber rd distance) = own_jump_half 0b001_01 1 rd distance
assembled_half CLi (RegistersNumber rd first imm) = any_li_half rd first imm
assembled_half CAddi16sp (RegistersNumber rd first imm) = addi16sp_half rd first imm
assembled_half CLui (RegisterNumber rd imm) = option_and_then (any_lui_half rd) (natural_below (2 ^ 20) imm)
assembled_half CSrli (RegistersNumber rd first imm) = any_right_half 0b00 rd first imm
assembled_half CSrai (RegistersNumber rd first imm) = any_right_half 0b01 rd first imm
assembled_half CAndi (RegistersNumber rd first imm) = andi_half rd first imm
assembled_half CSub (ThreeRegisters rd first second) = own_pair_half 0 0b00 rd first second
assembled_half CXor (ThreeRegisters rd first second) = own_pair_half 0 0b01 rd first second
assembled_half COr (ThreeRegisters rd first second) = own_pair_half 0 0b10 rd first second
assembled_half CAnd (ThreeRegisters rd first second) = own_pair_half 0 0b11 rd first second
assembled_half CMul (ThreeRegisters rd first second) = own_pair_half 1 0b10 rd first second
assembled_half CZextB (RegistersNumber rd first imm) = unary_half (pos 255) 0b11000 rd first imm
assembled_half CNot (RegistersNumber rd first imm) = unary_half (negsuc 0) 0b11101 rd first imm
assembled_half CJ (RegisterNumber rd distance) = own_jump_half 0b101_01 0 rd distance
assembled_half CBeqz (RegistersNumber first second distance) = branch_half Beq first second distance
assembled_half CBnez (RegistersNumber first second distance) = branch_half Bne first second distance
assembled_half CSlli (RegistersNumber rd first imm) = any_slli_half rd first imm
assembled_half CLwsp (RegistersNumber rd base imm) = lwsp_half rd base imm
assembled_half CJr (RegistersNumber rd base imm) = own_jalr_half 0 rd base imm
assembled_half CMv (ThreeRegisters rd first second) = any_mv_half rd first second
assembled_half CEbreak Nothing = Some 0x9002
assembled_half CJalr (RegistersNumber rd base imm) = own_jalr_half 1 rd base imm
assembled_half CAdd (ThreeRegisters rd first second) = any_add_half rd first second
assembled_half CSwsp (RegistersNumber base source imm) = swsp_half source base imm
assembled_half CmPush (TwoNumbers list adjust) = numbers_half 0b1000 list adjust
assembled_half CmPop (TwoNumbers list adjust) = numbers_half 0b1010 list adjust
assembled_half CmPopretz (TwoNumbers list adjust) = numbers_half 0b1100 list adjust
assembled_half CmPopret (TwoNumbers list adjust) = numbers_half 0b1110 list adjust
assembled_half CmMvsa01 (TwoRegisters first second) = move_sa_half first second
assembled_half CmMva01s (TwoRegisters first second) = move_half 0b11 first second
assembled_half CmJt (OneNumber index) = option_and_then table_half (natural_below 256 index)
assembled_half CmJalt (OneNumber index) = option_and_then table_half (natural_below 256 index)
assembled_half other operands = None
