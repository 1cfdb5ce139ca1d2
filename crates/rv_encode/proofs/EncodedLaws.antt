-- The word of an instruction decodes to that instruction: the fields of a word are read back, and so are the
-- immediates, so the word has the format of its instruction.
use Rattle.std.proofs.Common.{◌≡◌, ℕ, ℤ, pos, negsuc, ◌+◌, ◌-◌, ◌*◌, ◌/◌, ◌%◌, ◌^◌, ◌<◌, ◌≤◌, Some, refl, sym, ap, ◌∙◌, arith, ltb, lit<}
use Rattle.std.specs.Prelude.{unsigned_abs}
use Rattle.std.proofs.lemmas.Bool.{cond-false, cond-true, le-ltb, lt-ltb}
use Rattle.rv_decode.specs.declared.instr.Instr.{Instr}
use Rattle.rv_decode.specs.declared.instr.Instr.TheVariants.{Upper, Jal, Jalr, Branch, Load, Store, WithImm, WithReg, Fence, Ecall, Ebreak, Csrrw}
use Rattle.rv_decode.specs.declared.instr.UpperOp.{UpperOp}
use Rattle.rv_decode.specs.declared.instr.UpperOp.TheVariants.{Lui, Auipc}
use Rattle.rv_decode.specs.declared.instr.BranchOp.{BranchOp}
use Rattle.rv_decode.specs.declared.instr.BranchOp.TheVariants.{Beq, Bne, Blt, Bge, Bltu, Bgeu}
use Rattle.rv_decode.specs.declared.instr.LoadOp.{LoadOp}
use Rattle.rv_decode.specs.declared.instr.LoadOp.TheVariants.{Lb, Lh, Lw, Lbu, Lhu}
use Rattle.rv_decode.specs.declared.instr.StoreOp.{StoreOp}
use Rattle.rv_decode.specs.declared.instr.StoreOp.TheVariants.{Sb, Sh, Sw}
use Rattle.rv_decode.specs.declared.instr.ImmOp.{ImmOp}
use Rattle.rv_decode.specs.declared.instr.ImmOp.TheVariants.{Addi, Slti, Sltiu, Xori, Ori, Andi, Slli, Srli, Srai}
use Rattle.rv_decode.specs.declared.instr.RegOp.{RegOp}
use Rattle.rv_decode.specs.declared.instr.RegOp.TheVariants.{Add, Sub, Sll, Slt, Sltu, Xor, Srl, Sra, Or, And, Mul, Mulh, Mulhsu, Mulhu, Div, Divu, Rem, Remu}
use Rattle.rv_decode.specs.Bits.{FitsIn, IsEven, field, signed}
use Rattle.rv_decode.specs.Decode.{branch_ops, decoded, funct_of, imm_ops, load_ops, reg_ops, row_of, shift_ops, store_ops}
use Rattle.rv_decode.specs.Formats.{funct3_of, imm_b_of, imm_j_of, imm_s_of, opcode_of, rd_of, rs1_of, rs2_of}
use Rattle.rv_decode.specs.Immediates.{ImmInRange, InRange, IsAmount}
use Rattle.rv_decode.specs.Registers.{HasRegisters}
use Rattle.rv_decode.proofs.DecodeLaws.{OfBranch, OfCsrrw, OfEbreak, OfEcall, OfFence, OfImm, OfJal, OfJalr, OfLoad, OfReg, OfShift, OfStore, OfUpper, format-decoded}
use Rattle.rv_encode.specs.declared.codes.ImmCode.{ImmCode}
use Rattle.rv_encode.specs.declared.codes.ImmCode.TheVariants.{Operand, Shift}
use Rattle.rv_encode.specs.Codes.{branch_funct3, imm_code, load_funct3, reg_funct, store_funct3, upper_opcode}
use Rattle.rv_encode.specs.Words.{bits_of, branch_five_of, branch_seven_of, branch_word, encoded, fields_word, funct_word, op_imm_word, jump_twenty_of, store_word, twelve_of, upper_word_of}

-- ---- fields

-- the fields of a word of the formats R, I, S and B
record HasFields (word high rs1 funct3 low opcode : ℕ) : Type 0 where
  op : opcode_of word ≡ opcode
  rd : rd_of word ≡ low
  middle : funct3_of word ≡ funct3
  first : rs1_of word ≡ rs1
  top : field word 20 12 ≡ high

fields : (word high rs1 funct3 low opcode : ℕ) → word ≡ fields_word high rs1 funct3 low opcode → high < 2 ^ 12 → rs1 < 2 ^ 5 → funct3 < 2 ^ 3 → low < 2 ^ 5 → opcode < 2 ^ 7 → HasFields word high rs1 funct3 low opcode
fields word high rs1 funct3 low opcode is twelve first three five seven = record {
  op = omega (arith, is, seven);
  rd = omega (arith, is, seven, five);
  middle = omega (arith, is, seven, five, three);
  first = omega (arith, is, seven, five, three, first);
  top = omega (arith, is, seven, five, three, first, twelve);
}

-- the fields of a word of the formats U and J
record HasUpper (word upper low opcode : ℕ) : Type 0 where
  op : opcode_of word ≡ opcode
  rd : rd_of word ≡ low
  top : field word 12 20 ≡ upper

upper_fields : (word upper low opcode : ℕ) → word ≡ upper_word_of upper low opcode → upper < 2 ^ 20 → low < 2 ^ 5 → opcode < 2 ^ 7 → HasUpper word upper low opcode
upper_fields word upper low opcode is twenty five seven = record {
  op = omega (arith, is, seven);
  rd = omega (arith, is, seven, five);
  top = omega (arith, is, seven, five, twenty);
}

-- the upper twelve bits are seven bits followed by five
twelve_below : (seven five : ℕ) → seven < 2 ^ 7 → five < 2 ^ 5 → twelve_of seven five < 2 ^ 12
twelve_below seven five high low = omega (arith, high, low)

rs2_is : (word seven five : ℕ) → field word 20 12 ≡ twelve_of seven five → five < 2 ^ 5 → rs2_of word ≡ five
rs2_is word seven five is small = omega (arith, is, small)

funct7_is : (word seven five : ℕ) → field word 20 12 ≡ twelve_of seven five → five < 2 ^ 5 → field word 25 7 ≡ seven
funct7_is word seven five is small = omega (arith, is, small)

-- ---- two's complement

bits_below : (bits : ℕ) (z : ℤ) → 2 ^ bits ≡ 2 * 2 ^ (bits - 1) → FitsIn bits z → bits_of bits z < 2 ^ bits
bits_below bits (pos n) twice fits = omega (arith, twice, fits)
bits_below bits (negsuc n) twice fits = omega (arith, twice, fits)

-- a signed number that fits its field is read back
signed_back : (bits : ℕ) (z : ℤ) → 2 ^ bits ≡ 2 * 2 ^ (bits - 1) → FitsIn bits z → signed bits (bits_of bits z) ≡ z
signed_back bits (pos n) twice fits = cond-true (ltb n (2 ^ (bits - 1))) (pos n) (negsuc (2 ^ bits - n - 1)) (lt-ltb n (2 ^ (bits - 1)) fits)
signed_back bits (negsuc n) twice fits =
    let m = 2 ^ bits - n - 1 in
    let high : 2 ^ (bits - 1) ≤ m = omega (arith, twice, fits) in
    let back : 2 ^ bits - m - 1 ≡ n = omega (arith, twice, fits) in
    cond-false (ltb m (2 ^ (bits - 1))) (pos m) (negsuc (2 ^ bits - m - 1)) (le-ltb m (2 ^ (bits - 1)) high) ∙ ap negsuc back

bits_even : (bits : ℕ) (z : ℤ) → 2 ^ bits ≡ 2 * 2 ^ (bits - 1) → FitsIn bits z → IsEven z → bits_of bits z % 2 ≡ 0
bits_even bits (pos n) twice fits even = even
bits_even bits (negsuc n) twice fits even = omega (arith, twice, fits, even)

-- ---- rows

branch_row : (op : BranchOp) → (branch_funct3 op < 2 ^ 3) × (row_of branch_ops (branch_funct3 op) ≡ Some op)
branch_row Beq = (lit< tt, refl)
branch_row Bne = (lit< tt, refl)
branch_row Blt = (lit< tt, refl)
branch_row Bge = (lit< tt, refl)
branch_row Bltu = (lit< tt, refl)
branch_row Bgeu = (lit< tt, refl)

load_row : (op : LoadOp) → (load_funct3 op < 2 ^ 3) × (row_of load_ops (load_funct3 op) ≡ Some op)
load_row Lb = (lit< tt, refl)
load_row Lh = (lit< tt, refl)
load_row Lw = (lit< tt, refl)
load_row Lbu = (lit< tt, refl)
load_row Lhu = (lit< tt, refl)

store_row : (op : StoreOp) → (store_funct3 op < 2 ^ 3) × (row_of store_ops (store_funct3 op) ≡ Some op)
store_row Sb = (lit< tt, refl)
store_row Sh = (lit< tt, refl)
store_row Sw = (lit< tt, refl)

reg_row : (op : RegOp) → (reg_funct op < 2 ^ 10) × (row_of reg_ops (reg_funct op) ≡ Some op)
reg_row Add = (lit< tt, refl)
reg_row Sub = (lit< tt, refl)
reg_row Sll = (lit< tt, refl)
reg_row Slt = (lit< tt, refl)
reg_row Sltu = (lit< tt, refl)
reg_row Xor = (lit< tt, refl)
reg_row Srl = (lit< tt, refl)
reg_row Sra = (lit< tt, refl)
reg_row Or = (lit< tt, refl)
reg_row And = (lit< tt, refl)
reg_row Mul = (lit< tt, refl)
reg_row Mulh = (lit< tt, refl)
reg_row Mulhsu = (lit< tt, refl)
reg_row Mulhu = (lit< tt, refl)
reg_row Div = (lit< tt, refl)
reg_row Divu = (lit< tt, refl)
reg_row Rem = (lit< tt, refl)
reg_row Remu = (lit< tt, refl)

-- an operation with an immediate is in one of two tables, and its immediate fits the field of that table
CodeFits : ImmOp → ℤ → ImmCode → Type 0
CodeFits op imm (Operand funct3) = (funct3 < 2 ^ 3) × (row_of imm_ops funct3 ≡ Some op) × FitsIn 12 imm
CodeFits op imm (Shift funct) = (funct < 2 ^ 10) × (row_of shift_ops funct ≡ Some op) × IsAmount imm

imm_row : (op : ImmOp) (imm : ℤ) → ImmInRange op imm → CodeFits op imm (imm_code op)
unfolding CodeFits
imm_row Addi imm fits = (lit< tt, refl, fits)
imm_row Slti imm fits = (lit< tt, refl, fits)
imm_row Sltiu imm fits = (lit< tt, refl, fits)
imm_row Xori imm fits = (lit< tt, refl, fits)
imm_row Ori imm fits = (lit< tt, refl, fits)
imm_row Andi imm fits = (lit< tt, refl, fits)
imm_row Slli imm fits = (lit< tt, refl, fits)
imm_row Srli imm fits = (lit< tt, refl, fits)
imm_row Srai imm fits = (lit< tt, refl, fits)

amount_below : (imm : ℤ) → IsAmount imm → unsigned_abs imm < 2 ^ 5
amount_below (pos n) lt = lt
amount_below (negsuc n) none = absurd none

amount_is : (imm : ℤ) → IsAmount imm → pos (unsigned_abs imm) ≡ imm
amount_is (pos n) lt = refl
amount_is (negsuc n) none = absurd none

-- ---- instructions, by format

upper_decodes : (op : UpperOp) (rd imm : ℕ) → rd < 32 → imm < 2 ^ 20 → decoded (upper_word_of imm rd (upper_opcode op)) ≡ Some (Upper op rd imm)
upper_decodes Lui rd imm result fits =
    let word = upper_word_of imm rd 0b0110111 in
    let has = upper_fields word imm rd 0b0110111 refl fits result (lit< tt) in
    format-decoded word (Upper Lui rd imm) (OfUpper Lui has.op (λ i. Upper Lui (sym has.rd i) (sym has.top i)))
upper_decodes Auipc rd imm result fits =
    let word = upper_word_of imm rd 0b0010111 in
    let has = upper_fields word imm rd 0b0010111 refl fits result (lit< tt) in
    format-decoded word (Upper Auipc rd imm) (OfUpper Auipc has.op (λ i. Upper Auipc (sym has.rd i) (sym has.top i)))

-- the bits of a jump's distance, in their places
jump_back : (word bits : ℕ) → field word 12 20 ≡ jump_twenty_of bits → bits < 2 ^ 21 → bits % 2 ≡ 0 → field word 31 1 * 2 ^ 20 + field word 12 8 * 2 ^ 12 + field word 20 1 * 2 ^ 11 + field word 21 10 * 2 ≡ bits
jump_back word bits is below even =
    let a : field word 12 8 ≡ field bits 12 8 = omega (arith, is) in
    let b : field word 20 1 ≡ field bits 11 1 = omega (arith, is) in
    let c : field word 21 10 ≡ field bits 1 10 = omega (arith, is) in
    let d : field word 31 1 ≡ field bits 20 1 = omega (arith, is) in
    omega (arith, a, b, c, d, below, even)

jal_decodes : (rd : ℕ) (distance : ℤ) → rd < 32 → FitsIn 21 distance → IsEven distance → decoded (upper_word_of (jump_twenty_of (bits_of 21 distance)) rd 0b1101111) ≡ Some (Jal rd distance)
jal_decodes rd distance result fits even =
    let bits = bits_of 21 distance in
    let word = upper_word_of (jump_twenty_of bits) rd 0b1101111 in
    let has = upper_fields word (jump_twenty_of bits) rd 0b1101111 refl (twenty bits) result (lit< tt) in
    let same = jump_back word bits has.top (bits_below 21 distance refl fits) (bits_even 21 distance refl fits even) in
    let back : imm_j_of word ≡ distance = ap (signed 21) same ∙ signed_back 21 distance refl fits in
    format-decoded word (Jal rd distance) (OfJal has.op (λ i. Jal (sym has.rd i) (sym back i)))
  where
    twenty : (bits : ℕ) → jump_twenty_of bits < 2 ^ 20
    twenty bits = omega arith

jalr_decodes : (rd base : ℕ) (imm : ℤ) → rd < 32 → base < 32 → FitsIn 12 imm → decoded (fields_word (bits_of 12 imm) base 0b000 rd 0b1100111) ≡ Some (Jalr rd base imm)
jalr_decodes rd base imm result first fits =
    let bits = bits_of 12 imm in
    let word = fields_word bits base 0b000 rd 0b1100111 in
    let has = fields word bits base 0b000 rd 0b1100111 refl (bits_below 12 imm refl fits) first (lit< tt) result (lit< tt) in
    let back = ap (signed 12) has.top ∙ signed_back 12 imm refl fits in
    format-decoded word (Jalr rd base imm) (OfJalr has.op has.middle (λ i. Jalr (sym has.rd i) (sym has.first i) (sym back i)))

load_decodes : (op : LoadOp) (rd base : ℕ) (imm : ℤ) → rd < 32 → base < 32 → FitsIn 12 imm → decoded (fields_word (bits_of 12 imm) base (load_funct3 op) rd 0b0000011) ≡ Some (Load op rd base imm)
load_decodes op rd base imm result first fits =
    let bits = bits_of 12 imm in
    let row = load_row op in
    let word = fields_word bits base (load_funct3 op) rd 0b0000011 in
    let has = fields word bits base (load_funct3 op) rd 0b0000011 refl (bits_below 12 imm refl fits) first row.0 result (lit< tt) in
    let back = ap (signed 12) has.top ∙ signed_back 12 imm refl fits in
    format-decoded word (Load op rd base imm) (OfLoad op has.op (ap (row_of load_ops) has.middle ∙ row.1) (λ i. Load op (sym has.rd i) (sym has.first i) (sym back i)))

branch_back : (word bits : ℕ) → field word 25 7 ≡ branch_seven_of bits → rd_of word ≡ branch_five_of bits → bits < 2 ^ 13 → bits % 2 ≡ 0 → field word 31 1 * 2 ^ 12 + field word 7 1 * 2 ^ 11 + field word 25 6 * 2 ^ 5 + field word 8 4 * 2 ≡ bits
branch_back word bits high low below even = omega (arith, high, low, below, even)

branch_decodes : (op : BranchOp) (first second : ℕ) (distance : ℤ) → first < 32 → second < 32 → FitsIn 13 distance → IsEven distance → decoded (branch_word (bits_of 13 distance) second first (branch_funct3 op)) ≡ Some (Branch op first second distance)
branch_decodes op first second distance one two fits even =
    let bits = bits_of 13 distance in
    let row = branch_row op in
    let high = branch_seven_of bits in
    let word = branch_word bits second first (branch_funct3 op) in
    let has = fields word (twelve_of high second) first (branch_funct3 op) (branch_five_of bits) 0b1100011 refl (twelve_below high second (seven bits) two) one row.0 (five bits) (lit< tt) in
    let b = rs2_is word high second has.top two in
    let same = branch_back word bits (funct7_is word high second has.top two) has.rd (bits_below 13 distance refl fits) (bits_even 13 distance refl fits even) in
    let back : imm_b_of word ≡ distance = ap (signed 13) same ∙ signed_back 13 distance refl fits in
    format-decoded word (Branch op first second distance) (OfBranch op has.op (ap (row_of branch_ops) has.middle ∙ row.1) (λ i. Branch op (sym has.first i) (sym b i) (sym back i)))
  where
    seven : (bits : ℕ) → branch_seven_of bits < 2 ^ 7
    seven bits = omega arith

    five : (bits : ℕ) → branch_five_of bits < 2 ^ 5
    five bits = omega arith

store_back : (word bits : ℕ) → field word 25 7 ≡ field bits 5 7 → rd_of word ≡ field bits 0 5 → bits < 2 ^ 12 → field word 25 7 * 2 ^ 5 + field word 7 5 ≡ bits
store_back word bits high low below = omega (arith, high, low, below)

store_decodes : (op : StoreOp) (source base : ℕ) (imm : ℤ) → source < 32 → base < 32 → FitsIn 12 imm → decoded (store_word (bits_of 12 imm) source base (store_funct3 op)) ≡ Some (Store op source base imm)
store_decodes op source base imm second first fits =
    let bits = bits_of 12 imm in
    let row = store_row op in
    let high = field bits 5 7 in
    let word = store_word bits source base (store_funct3 op) in
    let has = fields word (twelve_of high source) base (store_funct3 op) (field bits 0 5) 0b0100011 refl (twelve_below high source (seven bits) second) first row.0 (five bits) (lit< tt) in
    let b = rs2_is word high source has.top second in
    let same = store_back word bits (funct7_is word high source has.top second) has.rd (bits_below 12 imm refl fits) in
    let back : imm_s_of word ≡ imm = ap (signed 12) same ∙ signed_back 12 imm refl fits in
    format-decoded word (Store op source base imm) (OfStore op has.op (ap (row_of store_ops) has.middle ∙ row.1) (λ i. Store op (sym b i) (sym has.first i) (sym back i)))
  where
    seven : (bits : ℕ) → field bits 5 7 < 2 ^ 7
    seven bits = omega arith

    five : (bits : ℕ) → field bits 0 5 < 2 ^ 5
    five bits = omega arith

-- the fields of a word with ten bits of funct7 and funct3
record HasFunct (word funct rs2 rs1 low opcode : ℕ) : Type 0 where
  op : opcode_of word ≡ opcode
  rd : rd_of word ≡ low
  first : rs1_of word ≡ rs1
  second : rs2_of word ≡ rs2
  ten : funct_of word ≡ funct

funct_fields : (word funct rs2 rs1 low opcode : ℕ) → word ≡ funct_word funct rs2 rs1 low opcode → funct < 2 ^ 10 → rs2 < 2 ^ 5 → rs1 < 2 ^ 5 → low < 2 ^ 5 → opcode < 2 ^ 7 → HasFunct word funct rs2 rs1 low opcode
funct_fields word funct rs2 rs1 low opcode is below two one result small =
    let high = field funct 3 7 in
    let seven : high < 2 ^ 7 = omega arith in
    let three : field funct 0 3 < 2 ^ 3 = omega arith in
    let has = fields word (twelve_of high rs2) rs1 (field funct 0 3) low opcode is (twelve_below high rs2 seven two) one three result small in
    let top = funct7_is word high rs2 has.top two in
    let middle = has.middle in
    record { op = has.op; rd = has.rd; first = has.first; second = rs2_is word high rs2 has.top two; ten = omega (arith, top, middle, below) }

with_reg_decodes : (op : RegOp) (rd first second : ℕ) → rd < 32 → first < 32 → second < 32 → decoded (funct_word (reg_funct op) second first rd 0b0110011) ≡ Some (WithReg op rd first second)
with_reg_decodes op rd first second result one two =
    let row = reg_row op in
    let word = funct_word (reg_funct op) second first rd 0b0110011 in
    let has = funct_fields word (reg_funct op) second first rd 0b0110011 refl row.0 two one result (lit< tt) in
    format-decoded word (WithReg op rd first second) (OfReg op has.op (ap (row_of reg_ops) has.ten ∙ row.1) (λ i. WithReg op (sym has.rd i) (sym has.first i) (sym has.second i)))

-- an operation with an immediate, by its code
code_decodes : (op : ImmOp) (code : ImmCode) (rd first : ℕ) (imm : ℤ) → rd < 32 → first < 32 → CodeFits op imm code → decoded (op_imm_word code rd first imm) ≡ Some (WithImm op rd first imm)
unfolding CodeFits
code_decodes op (Operand funct3) rd first imm result one row =
    let bits = bits_of 12 imm in
    let word = fields_word bits first funct3 rd 0b0010011 in
    let has = fields word bits first funct3 rd 0b0010011 refl (bits_below 12 imm refl row.2) one row.0 result (lit< tt) in
    let back = ap (signed 12) has.top ∙ signed_back 12 imm refl row.2 in
    format-decoded word (WithImm op rd first imm) (OfImm op has.op (ap (row_of imm_ops) has.middle ∙ row.1) (λ i. WithImm op (sym has.rd i) (sym has.first i) (sym back i)))
code_decodes op (Shift funct) rd first imm result one row =
    let word = funct_word funct (unsigned_abs imm) first rd 0b0010011 in
    let has = funct_fields word funct (unsigned_abs imm) first rd 0b0010011 refl row.0 (amount_below imm row.2) one result (lit< tt) in
    let back = ap pos has.second ∙ amount_is imm row.2 in
    format-decoded word (WithImm op rd first imm) (OfShift op has.op (ap (row_of shift_ops) has.ten ∙ row.1) (λ i. WithImm op (sym has.rd i) (sym has.first i) (sym back i)))

fence_decodes : (rest : ℕ) → rest < 2 ^ 22 → decoded (upper_word_of (rest / 2 ^ 5 * 2 ^ 3) (field rest 0 5) 0b0001111) ≡ Some (Fence rest)
fence_decodes rest below =
    let word = upper_word_of (rest / 2 ^ 5 * 2 ^ 3) (field rest 0 5) 0b0001111 in
    let has = upper_fields word (rest / 2 ^ 5 * 2 ^ 3) (field rest 0 5) 0b0001111 refl (omega (arith, below)) (omega arith) (lit< tt) in
    let back = parts word has.top has.rd in
    format-decoded word (Fence rest) (OfFence has.op back.0 (λ i. Fence (sym back.1 i)))
  where
    parts : (word : ℕ) → field word 12 20 ≡ rest / 2 ^ 5 * 2 ^ 3 → rd_of word ≡ field rest 0 5 → (funct3_of word ≡ 0b000) × (field word 15 17 * 2 ^ 5 + field word 7 5 ≡ rest)
    parts word high low = (omega (arith, high), omega (arith, high, low, below))

csrrw_decodes : (rd source : ℕ) → rd < 32 → source < 32 → decoded (fields_word 0x017 source 0b001 rd 0b1110011) ≡ Some (Csrrw rd source)
csrrw_decodes rd source result first =
    let word = fields_word 0x017 source 0b001 rd 0b1110011 in
    let has = fields word 0x017 source 0b001 rd 0b1110011 refl (lit< tt) first (lit< tt) result (lit< tt) in
    format-decoded word (Csrrw rd source) (OfCsrrw has.op has.middle has.top (λ i. Csrrw (sym has.rd i) (sym has.first i)))

-- ---- all instructions

pub encoded-decodes : (i : Instr) → InRange i → HasRegisters i → decoded (encoded i) ≡ Some i
unfolding encoded
encoded-decodes (Upper op rd imm) fits has = upper_decodes op rd imm has fits
encoded-decodes (Jal rd distance) fits has = jal_decodes rd distance has fits.0 fits.1
encoded-decodes (Jalr rd base imm) fits has = jalr_decodes rd base imm has.0 has.1 fits
encoded-decodes (Branch op first second distance) fits has = branch_decodes op first second distance has.0 has.1 fits.0 fits.1
encoded-decodes (Load op rd base imm) fits has = load_decodes op rd base imm has.0 has.1 fits
encoded-decodes (Store op source base imm) fits has = store_decodes op source base imm has.0 has.1 fits
encoded-decodes (WithImm op rd first imm) fits has = code_decodes op (imm_code op) rd first imm has.0 has.1 (imm_row op imm fits)
encoded-decodes (WithReg op rd first second) fits has = with_reg_decodes op rd first second has.0 has.1 has.2
encoded-decodes (Fence rest) fits has = fence_decodes rest fits
encoded-decodes Ecall fits has = format-decoded 0x00000073 Ecall (OfEcall refl refl)
encoded-decodes Ebreak fits has = format-decoded 0x00100073 Ebreak (OfEbreak refl refl)
encoded-decodes (Csrrw rd source) fits has = csrrw_decodes rd source has.0 has.1

pub word_decodes : (word : ℕ) (i : Instr) → word ≡ encoded i → InRange i → HasRegisters i → decoded word ≡ Some i
word_decodes word i is fits has = ap decoded is ∙ encoded-decodes i fits has
