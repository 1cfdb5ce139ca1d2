-- What a word of each format spells, and that every word that spells something is of one of them. An operation that joins
-- a table brings nothing; a format that joins brings a constructor, and a line of each law that goes by formats.
use Rattle.std.proofs.Common.{◌≡◌, ℕ, ◌+◌, ◌*◌, ◌%◌, ◌^◌, ◌<◌, Option, Some, None, Bool, true, false, cond, refl, sym, ap, ap₂, ◌∙◌, subst, ⊎_elim, inl, inr, arith, eqb, pos}
use Rattle.std.specs.Prelude.{◌⊎◌, ◌&&◌}
use Rattle.std.specs.Option.{option_flatten, option_map, option_or}
use Rattle.std.proofs.Math.Nat.{mod-lt}
use Rattle.std.proofs.lemmas.Bool.{and_parts, eqb-true, ne_eqb}
use Rattle.rv_decode.specs.declared.instr.Instr.{Instr}
use Rattle.rv_decode.specs.declared.instr.Instr.TheVariants.{Upper, Jal, Jalr, Branch, Load, Store, WithImm, WithReg, Fence, Ecall, Ebreak, Csrrw}
use Rattle.rv_decode.specs.declared.instr.UpperOp.{UpperOp}
use Rattle.rv_decode.specs.declared.instr.UpperOp.TheVariants.{Lui, Auipc}
use Rattle.rv_decode.specs.declared.instr.BranchOp.{BranchOp}
use Rattle.rv_decode.specs.declared.instr.LoadOp.{LoadOp}
use Rattle.rv_decode.specs.declared.instr.StoreOp.{StoreOp}
use Rattle.rv_decode.specs.declared.instr.ImmOp.{ImmOp}
use Rattle.rv_decode.specs.declared.instr.RegOp.{RegOp}
use Rattle.rv_decode.specs.Bits.{FitsIn, field, signed}
use Rattle.rv_decode.specs.Decode.{branch_ops, decoded, funct_of, imm_ops, load_ops, opcodes, reg_ops, row_of, shift_ops, store_ops}
use Rattle.rv_decode.specs.Formats.{funct3_of, imm_b_of, imm_i_of, imm_j_of, imm_s_of, imm_u_of, opcode_of, rd_of, rs1_of, rs2_of}
use Rattle.rv_decode.specs.Immediates.{ImmInRange, InRange}
use Rattle.rv_decode.specs.Registers.{HasRegisters}
use Rattle.rv_decode.proofs.BitLaws.{signed-even, signed-fits}
use Rattle.rv_decode.proofs.RowLaws.{EachRow, option_map-some, row_found}

-- ---- formats

abbrev pub upper_opcode : UpperOp → ℕ
upper_opcode Lui = 0b0110111
upper_opcode Auipc = 0b0010111

-- a word of one of the formats, and what it spells
pub data Format (word : ℕ) (i : Instr) : Type 0 where
  OfUpper : (op : UpperOp) → opcode_of word ≡ upper_opcode op → i ≡ Upper op (rd_of word) (imm_u_of word) → Format word i
  OfJal : opcode_of word ≡ 0b1101111 → i ≡ Jal (rd_of word) (imm_j_of word) → Format word i
  OfJalr : opcode_of word ≡ 0b1100111 → funct3_of word ≡ 0b000 → i ≡ Jalr (rd_of word) (rs1_of word) (imm_i_of word) → Format word i
  OfBranch : (op : BranchOp) → opcode_of word ≡ 0b1100011 → row_of branch_ops (funct3_of word) ≡ Some op → i ≡ Branch op (rs1_of word) (rs2_of word) (imm_b_of word) → Format word i
  OfLoad : (op : LoadOp) → opcode_of word ≡ 0b0000011 → row_of load_ops (funct3_of word) ≡ Some op → i ≡ Load op (rd_of word) (rs1_of word) (imm_i_of word) → Format word i
  OfStore : (op : StoreOp) → opcode_of word ≡ 0b0100011 → row_of store_ops (funct3_of word) ≡ Some op → i ≡ Store op (rs2_of word) (rs1_of word) (imm_s_of word) → Format word i
  OfImm : (op : ImmOp) → opcode_of word ≡ 0b0010011 → row_of imm_ops (funct3_of word) ≡ Some op → i ≡ WithImm op (rd_of word) (rs1_of word) (imm_i_of word) → Format word i
  OfShift : (op : ImmOp) → opcode_of word ≡ 0b0010011 → row_of shift_ops (funct_of word) ≡ Some op → i ≡ WithImm op (rd_of word) (rs1_of word) (pos (rs2_of word)) → Format word i
  OfReg : (op : RegOp) → opcode_of word ≡ 0b0110011 → row_of reg_ops (funct_of word) ≡ Some op → i ≡ WithReg op (rd_of word) (rs1_of word) (rs2_of word) → Format word i
  OfFence : opcode_of word ≡ 0b0001111 → funct3_of word ≡ 0b000 → i ≡ Fence (field word 15 17 * 2 ^ 5 + field word 7 5) → Format word i
  OfEcall : word ≡ 0x00000073 → i ≡ Ecall → Format word i
  OfEbreak : word ≡ 0x00100073 → i ≡ Ebreak → Format word i
  OfCsrrw : opcode_of word ≡ 0b1110011 → funct3_of word ≡ 0b001 → field word 20 12 ≡ 0x017 → i ≡ Csrrw (rd_of word) (rs1_of word) → Format word i

-- ---- a word that spells something is of a format

-- all words with an opcode that spell something are of a format
abbrev Formatted : ℕ → Type 0
Formatted opcode = (word : ℕ) (i : Instr) → opcode_of word ≡ opcode → option_flatten (row_of (opcodes word) opcode) ≡ Some i → Format word i

upper_format : (op : UpperOp) → Formatted (upper_opcode op)
upper_format Lui word i o h = OfUpper Lui o cc
upper_format Auipc word i o h = OfUpper Auipc o cc

jal_format : Formatted 0b1101111
jal_format word i o h = OfJal o cc

jalr_format : Formatted 0b1100111
jalr_format word i o h = either (eqb (funct3_of word) 0b000) refl h
  where
    either : (b : Bool) → eqb (funct3_of word) 0b000 ≡ b → cond b (Some (Jalr (rd_of word) (rs1_of word) (imm_i_of word))) None ≡ Some i → Format word i
    either true is g = OfJalr o (eqb-true (funct3_of word) 0b000 is) cc
    either false is g = absurd cc

branch_format : Formatted 0b1100011
branch_format word i o h = let q = option_map-some (λ op. Branch op (rs1_of word) (rs2_of word) (imm_b_of word)) (row_of branch_ops (funct3_of word)) i h in OfBranch q.0 o q.1 q.2

load_format : Formatted 0b0000011
load_format word i o h = let q = option_map-some (λ op. Load op (rd_of word) (rs1_of word) (imm_i_of word)) (row_of load_ops (funct3_of word)) i h in OfLoad q.0 o q.1 q.2

store_format : Formatted 0b0100011
store_format word i o h = let q = option_map-some (λ op. Store op (rs2_of word) (rs1_of word) (imm_s_of word)) (row_of store_ops (funct3_of word)) i h in OfStore q.0 o q.1 q.2

with_imm_format : Formatted 0b0010011
with_imm_format word i o h = either (row_of imm_ops (funct3_of word)) refl h
  where
    either : (p : Option ImmOp) → row_of imm_ops (funct3_of word) ≡ p → option_or (option_map (λ op. WithImm op (rd_of word) (rs1_of word) (imm_i_of word)) p) (option_map (λ op. WithImm op (rd_of word) (rs1_of word) (pos (rs2_of word))) (row_of shift_ops (funct_of word))) ≡ Some i → Format word i
    either (Some op) is g = OfImm op o is cc
    either None is g = let q = option_map-some (λ op. WithImm op (rd_of word) (rs1_of word) (pos (rs2_of word))) (row_of shift_ops (funct_of word)) i g in OfShift q.0 o q.1 q.2

with_reg_format : Formatted 0b0110011
with_reg_format word i o h = let q = option_map-some (λ op. WithReg op (rd_of word) (rs1_of word) (rs2_of word)) (row_of reg_ops (funct_of word)) i h in OfReg q.0 o q.1 q.2

fence_format : Formatted 0b0001111
fence_format word i o h = either (eqb (funct3_of word) 0b000) refl h
  where
    either : (b : Bool) → eqb (funct3_of word) 0b000 ≡ b → cond b (Some (Fence (field word 15 17 * 2 ^ 5 + field word 7 5))) None ≡ Some i → Format word i
    either true is g = OfFence o (eqb-true (funct3_of word) 0b000 is) cc
    either false is g = absurd cc

system_format : Formatted 0b1110011
system_format word i o h = either (eqb word 0x00000073) (eqb word 0x00100073) (eqb (funct3_of word) 0b001 && eqb (field word 20 12) 0x017) refl refl refl h
  where
    either : (a b c : Bool) → eqb word 0x00000073 ≡ a → eqb word 0x00100073 ≡ b → (eqb (funct3_of word) 0b001 && eqb (field word 20 12) 0x017) ≡ c → cond a (Some Ecall) (cond b (Some Ebreak) (cond c (Some (Csrrw (rd_of word) (rs1_of word))) None)) ≡ Some i → Format word i
    either true b c is other last g = OfEcall (eqb-true word 0x00000073 is) cc
    either false true c other is last g = OfEbreak (eqb-true word 0x00100073 is) cc
    either false false true other second is g =
        let q = and_parts (eqb (funct3_of word) 0b001) (eqb (field word 20 12) 0x017) is in
        OfCsrrw o (eqb-true (funct3_of word) 0b001 q.0) (eqb-true (field word 20 12) 0x017 q.1) cc
    either false false false other second last g = absurd cc

-- the same of each row
each_format : (word : ℕ) (i : Instr) → EachRow (λ opcode spelled. opcode_of word ≡ opcode → spelled ≡ Some i → Format word i) (opcodes word)
each_format word i = (upper_format Lui word i, (upper_format Auipc word i, (jal_format word i, (jalr_format word i, (branch_format word i, (load_format word i, (store_format word i, (with_imm_format word i, (with_reg_format word i, (fence_format word i, (system_format word i, tt)))))))))))

-- a word that spells something has a row
opcode_row : (word : ℕ) (i : Instr) → decoded word ≡ Some i → (spelled : Option Instr) × (row_of (opcodes word) (opcode_of word) ≡ Some spelled) × (spelled ≡ Some i)
unfolding decoded
opcode_row word i h = either (row_of (opcodes word) (opcode_of word)) refl h
  where
    either : (o : Option (Option Instr)) → row_of (opcodes word) (opcode_of word) ≡ o → option_flatten o ≡ Some i → (spelled : Option Instr) × (row_of (opcodes word) (opcode_of word) ≡ Some spelled) × (spelled ≡ Some i)
    either None is g = absurd cc
    either (Some spelled) is g = (spelled, is, g)

pub decoded-format : (word : ℕ) (i : Instr) → decoded word ≡ Some i → Format word i
decoded-format word i h =
    let row = opcode_row word i h in
    row_found (λ opcode spelled. opcode_of word ≡ opcode → spelled ≡ Some i → Format word i) (opcodes word) (opcode_of word) row.0 (each_format word i) row.1 refl row.2

-- ---- a word of a format spells it

-- no shift has the funct3 of another operation with an immediate
shift_funct3 : (word : ℕ) (op : ImmOp) → row_of shift_ops (funct_of word) ≡ Some op → row_of imm_ops (funct3_of word) ≡ None
shift_funct3 word op is = ⊎_elim
    (λ left. ap (row_of imm_ops) (let e : funct3_of word ≡ 1 = omega (arith, left) in e))
    (λ right. ap (row_of imm_ops) (let e : funct3_of word ≡ 5 = omega (arith, right) in e))
    (row_found (λ n _. (n % 8 ≡ 1) ⊎ (n % 8 ≡ 5)) shift_ops (funct_of word) op (inl refl, (inr refl, (inr refl, tt))) is)

-- a word of an opcode spells what the opcode's row says
pub decoded_by_opcode : (word opcode : ℕ) → opcode_of word ≡ opcode → decoded word ≡ option_flatten (row_of (opcodes word) opcode)
unfolding decoded
decoded_by_opcode word opcode o = ap (λ n. option_flatten (row_of (opcodes word) n)) o

pub format-decoded : (word : ℕ) (i : Instr) → Format word i → decoded word ≡ Some i
unfolding decoded
format-decoded word i (OfUpper Lui o is) = decoded_by_opcode word _ o ∙ ap Some (sym is)
format-decoded word i (OfUpper Auipc o is) = decoded_by_opcode word _ o ∙ ap Some (sym is)
format-decoded word i (OfJal o is) = decoded_by_opcode word _ o ∙ ap Some (sym is)
format-decoded word i (OfJalr o f is) = decoded_by_opcode word _ o ∙ ap (λ n. cond (eqb n 0b000) (Some (Jalr (rd_of word) (rs1_of word) (imm_i_of word))) None) f ∙ ap Some (sym is)
format-decoded word i (OfBranch op o row is) = decoded_by_opcode word _ o ∙ ap (option_map (λ op. Branch op (rs1_of word) (rs2_of word) (imm_b_of word))) row ∙ ap Some (sym is)
format-decoded word i (OfLoad op o row is) = decoded_by_opcode word _ o ∙ ap (option_map (λ op. Load op (rd_of word) (rs1_of word) (imm_i_of word))) row ∙ ap Some (sym is)
format-decoded word i (OfStore op o row is) = decoded_by_opcode word _ o ∙ ap (option_map (λ op. Store op (rs2_of word) (rs1_of word) (imm_s_of word))) row ∙ ap Some (sym is)
format-decoded word i (OfImm op o row is) =
    decoded_by_opcode word _ o
    ∙ ap (λ r. option_or (option_map (λ op. WithImm op (rd_of word) (rs1_of word) (imm_i_of word)) r) (option_map (λ op. WithImm op (rd_of word) (rs1_of word) (pos (rs2_of word))) (row_of shift_ops (funct_of word)))) row
    ∙ ap Some (sym is)
format-decoded word i (OfShift op o row is) =
    decoded_by_opcode word _ o
    ∙ ap (λ r. option_or (option_map (λ op. WithImm op (rd_of word) (rs1_of word) (imm_i_of word)) r) (option_map (λ op. WithImm op (rd_of word) (rs1_of word) (pos (rs2_of word))) (row_of shift_ops (funct_of word)))) (shift_funct3 word op row)
    ∙ ap (option_map (λ op. WithImm op (rd_of word) (rs1_of word) (pos (rs2_of word)))) row
    ∙ ap Some (sym is)
format-decoded word i (OfReg op o row is) = decoded_by_opcode word _ o ∙ ap (option_map (λ op. WithReg op (rd_of word) (rs1_of word) (rs2_of word))) row ∙ ap Some (sym is)
format-decoded word i (OfFence o f is) = decoded_by_opcode word _ o ∙ ap (λ n. cond (eqb n 0b000) (Some (Fence (field word 15 17 * 2 ^ 5 + field word 7 5))) None) f ∙ ap Some (sym is)
format-decoded word i (OfEcall w is) = ap decoded w ∙ ap Some (sym is)
format-decoded word i (OfEbreak w is) = ap decoded w ∙ ap Some (sym is)
format-decoded word i (OfCsrrw o f csr is) =
    decoded_by_opcode word _ o
    ∙ ap (λ b. cond b (Some Ecall) (cond (eqb word 0x00100073) (Some Ebreak) (cond (eqb (funct3_of word) 0b001 && eqb (field word 20 12) 0x017) (Some (Csrrw (rd_of word) (rs1_of word))) None))) (ne_eqb word 0x00000073 (λ e. omega (arith, e, f)))
    ∙ ap (λ b. cond b (Some Ebreak) (cond (eqb (funct3_of word) 0b001 && eqb (field word 20 12) 0x017) (Some (Csrrw (rd_of word) (rs1_of word))) None)) (ne_eqb word 0x00100073 (λ e. omega (arith, e, f)))
    ∙ ap₂ (λ m n. cond (eqb m 0b001 && eqb n 0x017) (Some (Csrrw (rd_of word) (rs1_of word))) None) f csr
    ∙ ap Some (sym is)

-- ---- laws by format

-- the low two bits of a word of 32 bits are 11
pub decoded-low_bits : (word : ℕ) (i : Instr) → decoded word ≡ Some i → field word 0 2 ≡ 3
decoded-low_bits word i h =
    let row = opcode_row word i h in
    let low = row_found (λ opcode _. opcode % 4 ≡ 3) (opcodes word) (opcode_of word) row.0 (refl, (refl, (refl, (refl, (refl, (refl, (refl, (refl, (refl, (refl, (refl, tt))))))))))) row.1 in
    omega (arith, low)

-- every register that is named is one of the 32
pub decoded-registers : (word : ℕ) (i : Instr) → decoded word ≡ Some i → HasRegisters i
decoded-registers word i h = by_format (decoded-format word i h)
  where
    number : (low : ℕ) → field word low 5 < 32
    number low = mod-lt _ (omega arith)

    by_format : Format word i → HasRegisters i
    by_format (OfUpper op o is) = subst HasRegisters (sym is) (number 7)
    by_format (OfJal o is) = subst HasRegisters (sym is) (number 7)
    by_format (OfJalr o f is) = subst HasRegisters (sym is) (number 7, number 15)
    by_format (OfBranch op o row is) = subst HasRegisters (sym is) (number 15, number 20)
    by_format (OfLoad op o row is) = subst HasRegisters (sym is) (number 7, number 15)
    by_format (OfStore op o row is) = subst HasRegisters (sym is) (number 20, number 15)
    by_format (OfImm op o row is) = subst HasRegisters (sym is) (number 7, number 15)
    by_format (OfShift op o row is) = subst HasRegisters (sym is) (number 7, number 15)
    by_format (OfReg op o row is) = subst HasRegisters (sym is) (number 7, number 15, number 20)
    by_format (OfFence o f is) = subst HasRegisters (sym is) tt
    by_format (OfEcall w is) = subst HasRegisters (sym is) tt
    by_format (OfEbreak w is) = subst HasRegisters (sym is) tt
    by_format (OfCsrrw o f csr is) = subst HasRegisters (sym is) (number 7, number 15)

-- the immediate of what decodes has room in a word
pub decoded-in_range : (word : ℕ) (i : Instr) → decoded word ≡ Some i → InRange i
decoded-in_range word i h = by_format (decoded-format word i h)
  where
    twelve : (n : ℕ) → n < 2 ^ 12 → FitsIn 12 (signed 12 n)
    twelve n lt = signed-fits 12 n refl lt

    fits : FitsIn 12 (imm_i_of word)
    fits = twelve (field word 20 12) (omega arith)

    amount : rs2_of word < 32
    amount = omega arith

    stored : FitsIn 12 (imm_s_of word)
    stored = twelve (field word 25 7 * 2 ^ 5 + field word 7 5) (omega arith)

    by_format : Format word i → InRange i
    by_format (OfUpper op o is) = subst InRange (sym is) (omega arith)
    by_format (OfJal o is) = subst InRange (sym is) (signed-fits 21 (field word 31 1 * 2 ^ 20 + field word 12 8 * 2 ^ 12 + field word 20 1 * 2 ^ 11 + field word 21 10 * 2) refl (omega arith), signed-even 21 (field word 31 1 * 2 ^ 20 + field word 12 8 * 2 ^ 12 + field word 20 1 * 2 ^ 11 + field word 21 10 * 2) refl (omega arith) (omega arith))
    by_format (OfJalr o f is) = subst InRange (sym is) fits
    by_format (OfBranch op o row is) = subst InRange (sym is) (signed-fits 13 (field word 31 1 * 2 ^ 12 + field word 7 1 * 2 ^ 11 + field word 25 6 * 2 ^ 5 + field word 8 4 * 2) refl (omega arith), signed-even 13 (field word 31 1 * 2 ^ 12 + field word 7 1 * 2 ^ 11 + field word 25 6 * 2 ^ 5 + field word 8 4 * 2) refl (omega arith) (omega arith))
    by_format (OfLoad op o row is) = subst InRange (sym is) fits
    by_format (OfStore op o row is) = subst InRange (sym is) stored
    by_format (OfImm op o row is) = subst InRange (sym is) (row_found (λ _ op. ImmInRange op (imm_i_of word)) imm_ops (funct3_of word) op (fits, (fits, (fits, (fits, (fits, (fits, tt)))))) row)
    by_format (OfShift op o row is) = subst InRange (sym is) (row_found (λ _ op. ImmInRange op (pos (rs2_of word))) shift_ops (funct_of word) op (amount, (amount, (amount, tt))) row)
    by_format (OfReg op o row is) = subst InRange (sym is) tt
    by_format (OfFence o f is) = subst InRange (sym is) (omega arith)
    by_format (OfEcall w is) = subst InRange (sym is) tt
    by_format (OfEbreak w is) = subst InRange (sym is) tt
    by_format (OfCsrrw o f csr is) = subst InRange (sym is) tt
