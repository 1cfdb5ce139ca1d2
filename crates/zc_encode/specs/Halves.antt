-- The halfword of each row for an instruction in normal form, by its fields (RISC-V unprivileged manual, "RVC Instruction Set
-- Listings"; RISC-V Zc specification 1.0, "Zcb", "Zcmp" and "Zcmt").
use Rattle.std.specs.Prelude.{ℕ, ℤ, pos, negsuc, ◌+◌, ◌-◌, ◌*◌, ◌%◌, ◌^◌, Bool, false, not, ◌==◌, ◌&&◌, ◌||◌, nat_lt, nat_le, if◌then◌else◌, Option, Some, None, ◌/◌}
use Rattle.std.specs.Option.{option_or}
use Rattle.std.specs.Ordering.{int_eq}
use Rattle.rv_decode.specs.declared.instr.Instr.{Instr}
use Rattle.rv_decode.specs.declared.instr.Instr.TheVariants.{Upper, Jal, Jalr, Branch, Load, Store, WithImm, WithReg, Fence, Ecall, Ebreak, Csrrw}
use Rattle.rv_decode.specs.declared.instr.UpperOp.{UpperOp}
use Rattle.rv_decode.specs.declared.instr.UpperOp.TheVariants.{Lui, Auipc}
use Rattle.rv_decode.specs.declared.instr.BranchOp.{BranchOp}
use Rattle.rv_decode.specs.declared.instr.BranchOp.TheVariants.{Beq, Bne, Blt, Bge, Bltu, Bgeu}
use Rattle.rv_decode.specs.declared.instr.LoadOp.{LoadOp}
use Rattle.rv_decode.specs.declared.instr.LoadOp.TheVariants.{Lb, Lh, Lw, Lbu, Lhu}
use Rattle.rv_decode.specs.declared.instr.StoreOp.{StoreOp}
use Rattle.rv_decode.specs.declared.instr.StoreOp.TheVariants.{Sb, Sh, Sw}
use Rattle.rv_decode.specs.declared.instr.ImmOp.{ImmOp}
use Rattle.rv_decode.specs.declared.instr.ImmOp.TheVariants.{Addi, Slti, Sltiu, Xori, Ori, Andi, Slli, Srli, Srai}
use Rattle.rv_decode.specs.declared.instr.RegOp.{RegOp}
use Rattle.rv_decode.specs.declared.instr.RegOp.TheVariants.{Add, Sub, Sll, Slt, Sltu, Xor, Srl, Sra, Or, And, Mul, Mulh, Mulhsu, Mulhu, Div, Divu, Rem, Remu}
use Rattle.rv_decode.specs.Bits.{as_word, field}
use Rattle.rv_decode.specs.Normal.{normal_of}
use Rattle.zc_decode.specs.declared.short.Short.{Short}
use Rattle.zc_decode.specs.declared.short.Short.TheVariants.{Base, Push, Pop, PopRet, PopRetz, MoveSa, MoveAs, TableJump}
use Rattle.zc_decode.specs.Lists.{stack_adjust_base}

-- ---- fields

-- a halfword by its group (bits 15 to 13 and 1 to 0), bit 12, bits 11 to 7, and bits 6 to 2
abbrev pub half_of : ℕ → ℕ → ℕ → ℕ → ℕ
half_of group bit upper lower = field group 2 3 * 2 ^ 13 + bit * 2 ^ 12 + upper * 2 ^ 7 + lower * 2 ^ 2 + field group 0 2

-- the halfword, if there is one
abbrev pub when : Bool → ℕ → Option ℕ
when test half = if test then Some half else None

-- x8 to x15, whose numbers are encoded in three bits
abbrev pub is_popular : ℕ → Bool
is_popular r = nat_le 8 r && nat_lt r 16

-- an offset below a limit, and a multiple of a step
abbrev pub is_offset : ℕ → ℕ → ℤ → Bool
is_offset limit step (pos n) = nat_lt n limit && (n % step == 0)
is_offset limit step (negsuc n) = false

-- a signed number of `bits` bits
abbrev pub has_bits : ℕ → ℤ → Bool
has_bits bits (pos n) = nat_lt n (2 ^ (bits - 1))
has_bits bits (negsuc n) = nat_lt n (2 ^ (bits - 1))

-- the low `bits` bits of a number, in two's complement
abbrev pub low_bits : ℕ → ℤ → ℕ
low_bits bits z = as_word z % 2 ^ bits

-- a signed number of `bits` bits, and a multiple of a step
abbrev pub is_signed : ℕ → ℕ → ℤ → Bool
is_signed bits step z = has_bits bits z && (low_bits bits z % step == 0)

-- the amount of a shift, except 0
abbrev pub is_amount : ℤ → Bool
is_amount imm = is_offset 32 1 imm && not (as_word imm == 0)

-- ---- loads and stores

-- c.lw and c.sw
abbrev pub word_half : ℕ → ℕ → ℕ → ℤ → Option ℕ
word_half group r base imm =
    let n = as_word imm in
    when (is_popular r && (is_popular base && is_offset 128 4 imm))
    (half_of group (field n 5 1) (field n 3 2 * 8 + (base - 8)) (field n 2 1 * 16 + field n 6 1 * 8 + (r - 8)))

-- c.lbu and c.sb, distinguished by bits 11 to 10
abbrev pub byte_half : ℕ → ℕ → ℕ → ℤ → Option ℕ
byte_half which r base imm =
    let n = as_word imm in
    when (is_popular r && (is_popular base && is_offset 4 1 imm))
    (half_of 0b100_00 0 (which * 8 + (base - 8)) (field n 0 1 * 16 + field n 1 1 * 8 + (r - 8)))

-- c.lhu, c.lh and c.sh, distinguished by bits 11 to 10 and 6
abbrev pub half_half : ℕ → ℕ → ℕ → ℕ → ℤ → Option ℕ
half_half which bit r base imm =
    let n = as_word imm in
    when (is_popular r && (is_popular base && is_offset 4 2 imm))
    (half_of 0b100_00 0 (which * 8 + (base - 8)) (bit * 16 + field n 1 1 * 8 + (r - 8)))

-- c.lwsp
abbrev pub lwsp_half : ℕ → ℕ → ℤ → Option ℕ
lwsp_half rd base imm =
    let n = as_word imm in
    when (base == 2 && (not (rd == 0) && is_offset 256 4 imm))
    (half_of 0b010_10 (field n 5 1) rd (field n 2 3 * 4 + field n 6 2))

-- c.swsp
abbrev pub swsp_half : ℕ → ℕ → ℤ → Option ℕ
swsp_half source base imm =
    let n = as_word imm in
    when (base == 2 && is_offset 256 4 imm) (half_of 0b110_10 (field n 5 1) (field n 2 3 * 4 + field n 6 2) source)

abbrev pub load_half : LoadOp → ℕ → ℕ → ℤ → Option ℕ
load_half Lb rd base imm = None
load_half Lh rd base imm = half_half 0b01 1 rd base imm
load_half Lw rd base imm = option_or (word_half 0b010_00 rd base imm) (lwsp_half rd base imm)
load_half Lbu rd base imm = byte_half 0b00 rd base imm
load_half Lhu rd base imm = half_half 0b01 0 rd base imm

abbrev pub store_half : StoreOp → ℕ → ℕ → ℤ → Option ℕ
store_half Sb source base imm = byte_half 0b10 source base imm
store_half Sh source base imm = half_half 0b11 0 source base imm
store_half Sw source base imm = option_or (word_half 0b110_00 source base imm) (swsp_half source base imm)

-- ---- operations with an immediate

-- c.addi4spn
abbrev pub addi4spn_half : ℕ → ℕ → ℤ → Option ℕ
addi4spn_half rd first imm =
    let n = as_word imm in
    when (first == 2 && (is_popular rd && (is_offset 1024 4 imm && not (n == 0))))
    (half_of 0b000_00 (field n 5 1) (field n 4 1 * 16 + field n 6 4) (field n 2 1 * 16 + field n 3 1 * 8 + (rd - 8)))

-- a halfword with a signed immediate of six bits: c.addi and c.nop, c.li, and c.andi
abbrev pub six_half : ℕ → ℕ → ℤ → ℕ
six_half group upper imm = let n = low_bits 6 imm in half_of group (field n 5 1) upper (field n 0 5)

-- c.nop
abbrev pub nop_half : ℕ → ℕ → ℤ → Option ℕ
nop_half rd first imm = when (rd == 0 && (first == 0 && int_eq imm (pos 0))) (six_half 0b000_01 0 (pos 0))

-- c.addi, whose immediate isn't 0
abbrev pub addi_half : ℕ → ℕ → ℤ → Option ℕ
addi_half rd first imm =
    when (first == rd && (not (rd == 0) && (has_bits 6 imm && not (int_eq imm (pos 0))))) (six_half 0b000_01 rd imm)

-- c.li
abbrev pub li_half : ℕ → ℕ → ℤ → Option ℕ
li_half rd first imm = when (first == 0 && (not (rd == 0) && has_bits 6 imm)) (six_half 0b010_01 rd imm)

-- c.addi16sp
abbrev pub addi16sp_half : ℕ → ℕ → ℤ → Option ℕ
addi16sp_half rd first imm =
    let n = low_bits 10 imm in
    when (rd == 2 && (first == 2 && (is_signed 10 16 imm && not (n == 0))))
    (half_of 0b011_01 (field n 9 1) 2 (field n 4 1 * 16 + field n 6 1 * 8 + field n 7 2 * 2 + field n 5 1))

-- c.mv, as a sum with 0
abbrev pub mv_half : ℕ → ℕ → ℤ → Option ℕ
mv_half rd first imm = when (int_eq imm (pos 0) && (not (rd == 0) && not (first == 0))) (half_of 0b100_10 0 rd first)

-- the rows that can encode an `addi`, in order
abbrev pub sum_half : ℕ → ℕ → ℤ → Option ℕ
sum_half rd first imm =
    option_or (addi4spn_half rd first imm)
    (option_or (nop_half rd first imm)
    (option_or (addi_half rd first imm)
    (option_or (li_half rd first imm)
    (option_or (addi16sp_half rd first imm) (mv_half rd first imm)))))

-- c.srli and c.srai, distinguished by bits 11 to 10
abbrev pub right_half : ℕ → ℕ → ℕ → ℤ → Option ℕ
right_half which rd first imm =
    when (first == rd && (is_popular rd && is_amount imm)) (half_of 0b100_01 0 (which * 8 + (rd - 8)) (as_word imm))

-- c.slli
abbrev pub slli_half : ℕ → ℕ → ℤ → Option ℕ
slli_half rd first imm = when (first == rd && (not (rd == 0) && is_amount imm)) (half_of 0b000_10 0 rd (as_word imm))

-- c.andi
abbrev pub andi_half : ℕ → ℕ → ℤ → Option ℕ
andi_half rd first imm = when (first == rd && (is_popular rd && has_bits 6 imm)) (six_half 0b100_01 (0b10 * 8 + (rd - 8)) imm)

-- c.zext.b and c.not: an operation on one register and this immediate
abbrev pub unary_half : ℤ → ℕ → ℕ → ℕ → ℤ → Option ℕ
unary_half wanted which rd first imm =
    when (first == rd && (is_popular rd && int_eq imm wanted)) (half_of 0b100_01 1 (0b11 * 8 + (rd - 8)) which)

abbrev pub with_imm_half : ImmOp → ℕ → ℕ → ℤ → Option ℕ
with_imm_half Addi rd first imm = sum_half rd first imm
with_imm_half Slti rd first imm = None
with_imm_half Sltiu rd first imm = None
with_imm_half Xori rd first imm = unary_half (negsuc 0) 0b11101 rd first imm
with_imm_half Ori rd first imm = None
with_imm_half Andi rd first imm = option_or (andi_half rd first imm) (unary_half (pos 255) 0b11000 rd first imm)
with_imm_half Slli rd first imm = slli_half rd first imm
with_imm_half Srli rd first imm = right_half 0b00 rd first imm
with_imm_half Srai rd first imm = right_half 0b01 rd first imm

-- ---- operations on two registers

-- c.sub, c.xor, c.or, c.and and c.mul, with the second source; distinguished by bits 12 and 6 to 5
abbrev pub pair_half : ℕ → ℕ → ℕ → ℕ → Option ℕ
pair_half bit which rd second =
    when (is_popular rd && is_popular second) (half_of 0b100_01 bit (0b11 * 8 + (rd - 8)) (which * 8 + (second - 8)))

-- c.sub, c.xor, c.or, c.and and c.mul, where the sources may be swapped
abbrev pub either_half : ℕ → ℕ → ℕ → ℕ → ℕ → Option ℕ
either_half bit which rd first second =
    if first == rd then pair_half bit which rd second else
    (if second == rd then pair_half bit which rd first else None)

-- c.add, with the second source
abbrev pub plus_half : ℕ → ℕ → Option ℕ
plus_half rd second = when (not (rd == 0) && not (second == 0)) (half_of 0b100_10 1 rd second)

abbrev pub add_half : ℕ → ℕ → ℕ → Option ℕ
add_half rd first second =
    if first == rd then plus_half rd second else
    (if second == rd then plus_half rd first else None)

abbrev pub with_reg_half : RegOp → ℕ → ℕ → ℕ → Option ℕ
with_reg_half Add rd first second = add_half rd first second
with_reg_half Sub rd first second = if first == rd then pair_half 0 0b00 rd second else None
with_reg_half Sll rd first second = None
with_reg_half Slt rd first second = None
with_reg_half Sltu rd first second = None
with_reg_half Xor rd first second = either_half 0 0b01 rd first second
with_reg_half Srl rd first second = None
with_reg_half Sra rd first second = None
with_reg_half Or rd first second = either_half 0 0b10 rd first second
with_reg_half And rd first second = either_half 0 0b11 rd first second
with_reg_half Mul rd first second = either_half 1 0b10 rd first second
with_reg_half Mulh rd first second = None
with_reg_half Mulhsu rd first second = None
with_reg_half Mulhu rd first second = None
with_reg_half Div rd first second = None
with_reg_half Divu rd first second = None
with_reg_half Rem rd first second = None
with_reg_half Remu rd first second = None

-- ---- upper immediates, jumps and branches

-- the 20 bits of c.lui: six bits with a sign, and not 0
abbrev pub is_c_lui_imm : ℕ → Bool
is_c_lui_imm imm = (nat_lt 0 imm && nat_lt imm 32) || (nat_le (2 ^ 20 - 32) imm && nat_lt imm (2 ^ 20))

abbrev pub lui_half : UpperOp → ℕ → ℕ → Option ℕ
lui_half Lui rd imm = when (not (rd == 0) && (not (rd == 2) && is_c_lui_imm imm)) (half_of 0b011_01 (field imm 5 1) rd (field imm 0 5))
lui_half Auipc rd imm = None

-- c.j and c.jal
abbrev pub jump_half : ℕ → ℤ → Option ℕ
jump_half group distance =
    let n = low_bits 12 distance in
    when (is_signed 12 2 distance)
    (half_of group (field n 11 1) (field n 4 1 * 16 + field n 8 2 * 4 + field n 10 1 * 2 + field n 6 1)
    (field n 7 1 * 16 + field n 1 3 * 2 + field n 5 1))

abbrev pub jal_half : ℕ → ℤ → Option ℕ
jal_half rd distance =
    if rd == 1 then jump_half 0b001_01 distance else
    (if rd == 0 then jump_half 0b101_01 distance else None)

-- c.jr and c.jalr, distinguished by rd
abbrev pub jalr_half : ℕ → ℕ → ℤ → Option ℕ
jalr_half rd base imm = when (nat_lt rd 2 && (not (base == 0) && int_eq imm (pos 0))) (half_of 0b100_10 rd base 0)

-- c.beqz and c.bnez
abbrev pub beqz_half : ℕ → ℕ → ℕ → ℤ → Option ℕ
beqz_half group first second distance =
    let n = low_bits 9 distance in
    when (second == 0 && (is_popular first && is_signed 9 2 distance))
    (half_of group (field n 8 1) (field n 3 2 * 8 + (first - 8)) (field n 6 2 * 8 + field n 1 2 * 2 + field n 5 1))

abbrev pub branch_half : BranchOp → ℕ → ℕ → ℤ → Option ℕ
branch_half Beq first second distance = beqz_half 0b110_01 first second distance
branch_half Bne first second distance = beqz_half 0b111_01 first second distance
branch_half Blt first second distance = None
branch_half Bge first second distance = None
branch_half Bltu first second distance = None
branch_half Bgeu first second distance = None

-- ---- instructions

-- the halfword of the first row that an instruction in normal form has
abbrev pub half_for : Instr → Option ℕ
half_for (Upper op rd imm) = lui_half op rd imm
half_for (Jal rd distance) = jal_half rd distance
half_for (Jalr rd base imm) = jalr_half rd base imm
half_for (Branch op first second distance) = branch_half op first second distance
half_for (Load op rd base imm) = load_half op rd base imm
half_for (Store op source base imm) = store_half op source base imm
half_for (WithImm op rd first imm) = with_imm_half op rd first imm
half_for (WithReg op rd first second) = with_reg_half op rd first second
half_for (Fence rest) = None
half_for Ecall = None
half_for Ebreak = Some 0x9002
half_for (Csrrw rd source) = None

-- ---- Zcmp and Zcmt

-- a push or pop, by bits 11 to 8, its register list, and the stack adjustment beyond the list's base, in units of 16
-- bytes
abbrev pub list_half : ℕ → ℕ → ℕ → Option ℕ
list_half kind list adjust =
    let more = adjust - stack_adjust_base list in
    when (nat_le 4 list && (nat_lt list 16 && (nat_le (stack_adjust_base list) adjust && (more % 16 == 0 && nat_lt more 64))))
    (half_of 0b101_10 1 (kind * 2 + field list 3 1) (field list 0 3 * 4 + more / 16))

-- the three-bit code of s0 to s7; 8 for any other register
abbrev pub s_code : ℕ → ℕ
s_code r = if nat_le 8 r && nat_lt r 10 then r - 8 else (if nat_le 18 r && nat_lt r 24 then r - 16 else 8)

-- a move between two s registers and a0 and a1; `which` is bits 6 and 5
abbrev pub move_half : ℕ → ℕ → ℕ → Option ℕ
move_half which first second =
    when (nat_lt (s_code first) 8 && nat_lt (s_code second) 8) (half_of 0b101_10 0 (24 + s_code first) (which * 8 + s_code second))

-- a move of a0 and a1 to two different s registers
abbrev pub move_sa_half : ℕ → ℕ → Option ℕ
move_sa_half first second = if first == second then None else move_half 0b01 first second

abbrev pub table_half : ℕ → Option ℕ
table_half index = when (nat_lt index 256) (half_of 0b101_10 0 (index / 32) (index % 32))

-- the halfword of what a halfword can encode
abbrev pub encoded16 : Short → Option ℕ
encoded16 (Base i) = half_for (normal_of i)
encoded16 (Push list adjust) = list_half 0b1000 list adjust
encoded16 (Pop list adjust) = list_half 0b1010 list adjust
encoded16 (PopRet list adjust) = list_half 0b1110 list adjust
encoded16 (PopRetz list adjust) = list_half 0b1100 list adjust
encoded16 (MoveSa first second) = move_sa_half first second
encoded16 (MoveAs first second) = move_half 0b11 first second
encoded16 (TableJump index) = table_half index
