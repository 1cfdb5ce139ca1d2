-- The word of a decoded instruction is the word that it was decoded from (`encoded_back`), and the instruction is that of its operation
-- and operands (`assembled_back`).
use Rattle.std.proofs.Common.{◌≡◌, ℕ, ℤ, pos, negsuc, ◌+◌, ◌-◌, ◌*◌, ◌/◌, ◌%◌, ◌^◌, ◌<◌, Some, None, Bool, true, false, cond, refl, sym, ap, ap₂, ◌∙◌, arith, ltb, eqb, eq-eqb}
use Rattle.std.specs.Option.{option_map}
use Rattle.std.proofs.lemmas.Bool.{lt-ltb, and_from}
use Rattle.rv_decode.specs.Bits.{FitsIn, IsEven, field, signed}
use Rattle.rv_decode.specs.Decode.{branch_ops, decoded, funct_of, imm_ops, load_ops, reg_ops, shift_ops, store_ops}
use Rattle.rv_decode.specs.Formats.{funct3_of, imm_b_of, imm_i_of, imm_j_of, imm_s_of, imm_u_of, opcode_of, rd_of, rs1_of, rs2_of}
use Rattle.rv_decode.specs.Immediates.{ImmInRange, InRange, IsAmount}
use Rattle.rv_decode.specs.declared.instr.ImmOp.{ImmOp}
use Rattle.rv_decode.specs.declared.instr.ImmOp.TheVariants.{Addi, Slti, Sltiu, Xori, Ori, Andi, Slli, Srli, Srai}
use Rattle.rv_decode.specs.declared.instr.Instr.{Instr}
use Rattle.rv_decode.specs.declared.instr.Instr.TheVariants.{Upper, Jal, Jalr, Branch, Load, Store, WithImm, WithReg, Fence, Ecall, Ebreak, Csrrw}
use Rattle.rv_decode.specs.declared.instr.UpperOp.TheVariants.{Lui, Auipc}
use Rattle.rv_decode.proofs.DecodeLaws.{Format, OfBranch, OfCsrrw, OfEbreak, OfEcall, OfFence, OfImm, OfJal, OfJalr, OfLoad, OfReg, OfShift, OfStore, OfUpper, decoded-format}
use Rattle.rv_decode.proofs.RowLaws.{row_found}
use Rattle.rv_encode.specs.Codes.{branch_funct3, imm_code, load_funct3, reg_funct, store_funct3}
use Rattle.rv_encode.specs.Words.{bits_of, branch_five_of, branch_seven_of, branch_word, encoded, fields_word, funct_word, jump_twenty_of, op_imm_word, store_word, twelve_of, upper_word_of}
use Rattle.rv_encode.specs.declared.codes.ImmCode.TheVariants.{Operand, Shift}
use Rattle.zc_encode.specs.Halves.{has_bits, is_offset, low_bits}
use Rattle.instruction_text.specs.Assembly.{assembled, fitting_instr, imm_fits, natural_below}
use Rattle.instruction_text.specs.Names.{operation_of}
use Rattle.instruction_text.specs.Operands.{operands_of}

-- ---- the word

-- the bits of a number in two's complement
bits_signed : (bits n : ℕ) → n < 2 ^ bits → bits_of bits (signed bits n) ≡ n
bits_signed bits n lt = either (ltb n (2 ^ (bits - 1)))
  where
    either : (b : Bool) → bits_of bits (cond b (pos n) (negsuc (2 ^ bits - n - 1))) ≡ n
    either true = refl
    either false = omega (arith, lt)

module _ (word : ℕ) (small : word < 2 ^ 32) where
  upper_back : (opcode : ℕ) → opcode_of word ≡ opcode → upper_word_of (imm_u_of word) (rd_of word) opcode ≡ word
  upper_back opcode o = omega (arith, o, small)

  jal_back : opcode_of word ≡ 0b1101111 → upper_word_of (jump_twenty_of (bits_of 21 (imm_j_of word))) (rd_of word) 0b1101111 ≡ word
  jal_back o =
      let n = field word 31 1 * 2 ^ 20 + field word 12 8 * 2 ^ 12 + field word 20 1 * 2 ^ 11 + field word 21 10 * 2 in
      let twenty : jump_twenty_of n ≡ field word 12 20 = omega arith in
      ap (λ m. upper_word_of (jump_twenty_of m) (rd_of word) 0b1101111) (bits_signed 21 n (omega arith))
      ∙ ap (λ t. upper_word_of t (rd_of word) 0b1101111) twenty ∙ omega (arith, o, small)

  i_back : (opcode : ℕ) → opcode_of word ≡ opcode → fields_word (bits_of 12 (imm_i_of word)) (rs1_of word) (funct3_of word) (rd_of word) opcode ≡ word
  i_back opcode o =
      ap (λ m. fields_word m (rs1_of word) (funct3_of word) (rd_of word) opcode) (bits_signed 12 (field word 20 12) (omega arith))
      ∙ omega (arith, o, small)

  store_back : opcode_of word ≡ 0b0100011 → store_word (bits_of 12 (imm_s_of word)) (rs2_of word) (rs1_of word) (funct3_of word) ≡ word
  store_back o =
      let n = field word 25 7 * 2 ^ 5 + field word 7 5 in
      let seven : field n 5 7 ≡ field word 25 7 = omega arith in
      let five : field n 0 5 ≡ field word 7 5 = omega arith in
      ap (λ m. store_word m (rs2_of word) (rs1_of word) (funct3_of word)) (bits_signed 12 n (omega arith))
      ∙ ap₂ (λ s f. fields_word (twelve_of s (rs2_of word)) (rs1_of word) (funct3_of word) f 0b0100011) seven five ∙ omega (arith, o, small)

  branch_back : opcode_of word ≡ 0b1100011 → branch_word (bits_of 13 (imm_b_of word)) (rs2_of word) (rs1_of word) (funct3_of word) ≡ word
  branch_back o =
      let n = field word 31 1 * 2 ^ 12 + field word 7 1 * 2 ^ 11 + field word 25 6 * 2 ^ 5 + field word 8 4 * 2 in
      let seven : branch_seven_of n ≡ field word 25 7 = omega arith in
      let five : branch_five_of n ≡ field word 7 5 = omega arith in
      ap (λ m. branch_word m (rs2_of word) (rs1_of word) (funct3_of word)) (bits_signed 13 n (omega arith))
      ∙ ap₂ (λ s f. fields_word (twelve_of s (rs2_of word)) (rs1_of word) (funct3_of word) f 0b1100011) seven five ∙ omega (arith, o, small)

  -- R, and I for a shift
  funct_back : (opcode : ℕ) → opcode_of word ≡ opcode → funct_word (funct_of word) (rs2_of word) (rs1_of word) (rd_of word) opcode ≡ word
  funct_back opcode o =
      let seven : field (funct_of word) 3 7 ≡ field word 25 7 = omega arith in
      let three : field (funct_of word) 0 3 ≡ funct3_of word = omega arith in
      ap₂ (λ s t. fields_word (twelve_of s (rs2_of word)) (rs1_of word) t (rd_of word) opcode) seven three ∙ omega (arith, o, small)

  fence_back : opcode_of word ≡ 0b0001111 → funct3_of word ≡ 0 → encoded (Fence (field word 15 17 * 2 ^ 5 + field word 7 5)) ≡ word
  unfolding encoded
  fence_back o f =
      let rest = field word 15 17 * 2 ^ 5 + field word 7 5 in
      let high : rest / 2 ^ 5 ≡ field word 15 17 = omega arith in
      let low : field rest 0 5 ≡ field word 7 5 = omega arith in
      ap₂ (λ h l. upper_word_of (h * 2 ^ 3) l 0b0001111) high low ∙ omega (arith, o, f, small)

  csrrw_back : opcode_of word ≡ 0b1110011 → funct3_of word ≡ 0b001 → field word 20 12 ≡ 0x017 → fields_word 0x017 (rs1_of word) 0b001 (rd_of word) 0b1110011 ≡ word
  csrrw_back o f csr = omega (arith, o, f, csr, small)

  by_format : (i : Instr) → Format word i → encoded i ≡ word
  unfolding encoded
  by_format i (OfUpper Lui o is) = ap encoded is ∙ upper_back _ o
  by_format i (OfUpper Auipc o is) = ap encoded is ∙ upper_back _ o
  by_format i (OfJal o is) = ap encoded is ∙ jal_back o
  by_format i (OfJalr o f is) = ap encoded is ∙ ap (λ t. fields_word (bits_of 12 (imm_i_of word)) (rs1_of word) t (rd_of word) 0b1100111) (sym f) ∙ i_back _ o
  by_format i (OfBranch op o row is) =
      ap encoded is
      ∙ ap (λ t. branch_word (bits_of 13 (imm_b_of word)) (rs2_of word) (rs1_of word) t)
      (row_found (λ n p. branch_funct3 p ≡ n) branch_ops (funct3_of word) op (refl, (refl, (refl, (refl, (refl, (refl, tt)))))) row)
      ∙ branch_back o
  by_format i (OfLoad op o row is) =
      ap encoded is
      ∙ ap (λ t. fields_word (bits_of 12 (imm_i_of word)) (rs1_of word) t (rd_of word) 0b0000011)
      (row_found (λ n p. load_funct3 p ≡ n) load_ops (funct3_of word) op (refl, (refl, (refl, (refl, (refl, tt))))) row)
      ∙ i_back _ o
  by_format i (OfStore op o row is) =
      ap encoded is
      ∙ ap (λ t. store_word (bits_of 12 (imm_s_of word)) (rs2_of word) (rs1_of word) t)
      (row_found (λ n p. store_funct3 p ≡ n) store_ops (funct3_of word) op (refl, (refl, (refl, tt))) row)
      ∙ store_back o
  by_format i (OfImm op o row is) =
      ap encoded is
      ∙ ap (λ code. op_imm_word code (rd_of word) (rs1_of word) (imm_i_of word))
      (row_found (λ n p. imm_code p ≡ Operand n) imm_ops (funct3_of word) op (refl, (refl, (refl, (refl, (refl, (refl, tt)))))) row)
      ∙ i_back _ o
  by_format i (OfShift op o row is) =
      ap encoded is
      ∙ ap (λ code. op_imm_word code (rd_of word) (rs1_of word) (pos (rs2_of word)))
      (row_found (λ n p. imm_code p ≡ Shift n) shift_ops (funct_of word) op (refl, (refl, (refl, tt))) row)
      ∙ funct_back _ o
  by_format i (OfReg op o row is) =
      ap encoded is
      ∙ ap (λ funct. funct_word funct (rs2_of word) (rs1_of word) (rd_of word) 0b0110011)
      (row_found (λ n p. reg_funct p ≡ n) reg_ops (funct_of word) op
      (refl, (refl, (refl, (refl, (refl, (refl, (refl, (refl, (refl, (refl, (refl, (refl, (refl, (refl, (refl, (refl, (refl, (refl, tt)))))))))))))))))) row)
      ∙ funct_back _ o
  by_format i (OfFence o f is) = ap encoded is ∙ fence_back o f
  by_format i (OfEcall w is) = ap encoded is ∙ sym w
  by_format i (OfEbreak w is) = ap encoded is ∙ sym w
  by_format i (OfCsrrw o f csr is) = ap encoded is ∙ csrrw_back o f csr

pub encoded_back : (word : ℕ) (i : Instr) → word < 2 ^ 32 → decoded word ≡ Some i → encoded i ≡ word
encoded_back word i small is = by_format word small i (decoded-format word i is)

-- ---- the instruction

-- a number that fits
fits_bits : (bits : ℕ) (z : ℤ) → FitsIn bits z → has_bits bits z ≡ true
fits_bits bits (pos n) fits = lt-ltb n (2 ^ (bits - 1)) fits
fits_bits bits (negsuc n) fits = lt-ltb n (2 ^ (bits - 1)) fits

even_13 : (z : ℤ) → FitsIn 13 z → IsEven z → low_bits 13 z % 2 ≡ 0
even_13 (pos n) fits even = omega (arith, fits, even)
even_13 (negsuc n) fits even = omega (arith, fits, even)

even_21 : (z : ℤ) → FitsIn 21 z → IsEven z → low_bits 21 z % 2 ≡ 0
even_21 (pos n) fits even = omega (arith, fits, even)
even_21 (negsuc n) fits even = omega (arith, fits, even)

amount_fits : (z : ℤ) → IsAmount z → is_offset 32 1 z ≡ true
amount_fits (pos n) lt = and_from (ltb n 32) (eqb (n % 1) 0) (lt-ltb n 32 lt) (eq-eqb (n % 1) 0 (omega arith))
amount_fits (negsuc n) none = absurd none

immediate_fits : (op : ImmOp) (z : ℤ) → ImmInRange op z → imm_fits op z ≡ true
immediate_fits Addi z fits = fits_bits 12 z fits
immediate_fits Slti z fits = fits_bits 12 z fits
immediate_fits Sltiu z fits = fits_bits 12 z fits
immediate_fits Xori z fits = fits_bits 12 z fits
immediate_fits Ori z fits = fits_bits 12 z fits
immediate_fits Andi z fits = fits_bits 12 z fits
immediate_fits Slli z fits = amount_fits z fits
immediate_fits Srli z fits = amount_fits z fits
immediate_fits Srai z fits = amount_fits z fits

below_limit : (limit n : ℕ) → n < limit → natural_below limit (pos n) ≡ Some n
below_limit limit n lt = ap (λ b. cond b (Some n) None) (lt-ltb n limit lt)

fitting : (fits : Bool) (i : Instr) → fits ≡ true → fitting_instr fits i ≡ Some i
fitting fits i is = ap (λ b. fitting_instr b i) is

pub assembled_back : (i : Instr) → InRange i → assembled (operation_of i) (operands_of i) ≡ Some i
assembled_back (Upper op rd imm) range = ap (option_map (Upper op rd)) (below_limit (2 ^ 20) imm range)
assembled_back (Jal rd distance) range =
    fitting _ _ (and_from (has_bits 21 distance) (eqb (low_bits 21 distance % 2) 0) (fits_bits 21 distance range.0) (eq-eqb _ _ (even_21 distance range.0 range.1)))
assembled_back (Jalr rd base imm) range = fitting _ _ (fits_bits 12 imm range)
assembled_back (Branch op first second distance) range =
    fitting _ _ (and_from (has_bits 13 distance) (eqb (low_bits 13 distance % 2) 0) (fits_bits 13 distance range.0) (eq-eqb _ _ (even_13 distance range.0 range.1)))
assembled_back (Load op rd base imm) range = fitting _ _ (fits_bits 12 imm range)
assembled_back (Store op source base imm) range = fitting _ _ (fits_bits 12 imm range)
assembled_back (WithImm op rd first imm) range = fitting _ _ (immediate_fits op imm range)
assembled_back (WithReg op rd first second) range = refl
assembled_back (Fence rest) range = ap (option_map Fence) (below_limit (2 ^ 22) rest range)
assembled_back Ecall range = refl
assembled_back Ebreak range = refl
assembled_back (Csrrw rd source) range = refl
