-- The words of instructions (RISC-V unprivileged manual, "Base Instruction Formats" and "RV32/64G Instruction Set Listings").
use Rattle.std.specs.Prelude.{ℕ, ℤ, pos, negsuc, ◌+◌, ◌-◌, ◌*◌, ◌/◌, ◌^◌, unsigned_abs}
use Rattle.rv_decode.specs.declared.instr.Instr.{Instr}
use Rattle.rv_decode.specs.declared.instr.Instr.TheVariants.{Upper, Jal, Jalr, Branch, Load, Store, WithImm, WithReg, Fence, Ecall, Ebreak, Csrrw}
use Rattle.rv_decode.specs.Bits.{field}
use Rattle.rv_encode.specs.declared.codes.ImmCode.{ImmCode}
use Rattle.rv_encode.specs.declared.codes.ImmCode.TheVariants.{Operand, Shift}
use Rattle.rv_encode.specs.Codes.{branch_funct3, imm_code, load_funct3, reg_funct, store_funct3, upper_opcode}

-- ---- words by their fields

-- R, I, S and B: twelve bits, rs1, funct3, five bits, and the opcode
abbrev pub fields_word : ℕ → ℕ → ℕ → ℕ → ℕ → ℕ
fields_word high rs1 funct3 low opcode = high * 2 ^ 20 + rs1 * 2 ^ 15 + funct3 * 2 ^ 12 + low * 2 ^ 7 + opcode

-- U and J: twenty bits, five bits, and the opcode
abbrev pub upper_word_of : ℕ → ℕ → ℕ → ℕ
upper_word_of upper low opcode = upper * 2 ^ 12 + low * 2 ^ 7 + opcode

-- seven bits followed by five: the upper twelve bits of the formats R, S and B
abbrev pub twelve_of : ℕ → ℕ → ℕ
twelve_of seven five = seven * 2 ^ 5 + five

-- the bits of a branch's distance that are the upper seven of the word: 12, and 10 to 5
abbrev pub branch_seven_of : ℕ → ℕ
branch_seven_of bits = field bits 12 1 * 2 ^ 6 + field bits 5 6

-- the bits of a branch's distance in place of rd: 4 to 1, and 11
abbrev pub branch_five_of : ℕ → ℕ
branch_five_of bits = field bits 1 4 * 2 + field bits 11 1

-- the bits of a jump's distance, the upper twenty of the word: 20, 10 to 1, 11, and 19 to 12
abbrev pub jump_twenty_of : ℕ → ℕ
jump_twenty_of bits = field bits 20 1 * 2 ^ 19 + field bits 1 10 * 2 ^ 9 + field bits 11 1 * 2 ^ 8 + field bits 12 8

-- a signed number that fits in `bits` bits, in two's complement
abbrev pub bits_of : ℕ → ℤ → ℕ
bits_of bits (pos n) = n
bits_of bits (negsuc n) = 2 ^ bits - n - 1

-- ---- words of instructions

-- S and B: the seven bits before rs2 and the five in place of rd are parts of the immediate
abbrev pub store_word : ℕ → ℕ → ℕ → ℕ → ℕ
store_word bits rs2 rs1 funct3 = fields_word (twelve_of (field bits 5 7) rs2) rs1 funct3 (field bits 0 5) 0b0100011

abbrev pub branch_word : ℕ → ℕ → ℕ → ℕ → ℕ
branch_word bits rs2 rs1 funct3 = fields_word (twelve_of (branch_seven_of bits) rs2) rs1 funct3 (branch_five_of bits) 0b1100011

-- R, and I for a shift, whose amount is in place of rs2; `funct` has the ten bits of funct7 and funct3
abbrev pub funct_word : ℕ → ℕ → ℕ → ℕ → ℕ → ℕ
funct_word funct rs2 rs1 rd opcode = fields_word (twelve_of (field funct 3 7) rs2) rs1 (field funct 0 3) rd opcode

-- an operation with an immediate, by its code
abbrev pub op_imm_word : ImmCode → ℕ → ℕ → ℤ → ℕ
op_imm_word (Operand funct3) rd rs1 imm = fields_word (bits_of 12 imm) rs1 funct3 rd 0b0010011
op_imm_word (Shift funct) rd rs1 imm = funct_word funct (unsigned_abs imm) rs1 rd 0b0010011

-- the word of an instruction whose immediate fits its field
unfoldable pub encoded : Instr → ℕ
encoded (Upper op rd imm) = upper_word_of imm rd (upper_opcode op)
encoded (Jal rd distance) = upper_word_of (jump_twenty_of (bits_of 21 distance)) rd 0b1101111
encoded (Jalr rd base imm) = fields_word (bits_of 12 imm) base 0b000 rd 0b1100111
encoded (Branch op first second distance) = branch_word (bits_of 13 distance) second first (branch_funct3 op)
encoded (Load op rd base imm) = fields_word (bits_of 12 imm) base (load_funct3 op) rd 0b0000011
encoded (Store op source base imm) = store_word (bits_of 12 imm) source base (store_funct3 op)
encoded (WithImm op rd first imm) = op_imm_word (imm_code op) rd first imm
encoded (WithReg op rd first second) = funct_word (reg_funct op) second first rd 0b0110011
encoded (Fence rest) = upper_word_of (rest / 2 ^ 5 * 2 ^ 3) (field rest 0 5) 0b0001111
encoded Ecall = 0x00000073
encoded Ebreak = 0x00100073
encoded (Csrrw rd source) = fields_word 0x017 source 0b001 rd 0b1110011
