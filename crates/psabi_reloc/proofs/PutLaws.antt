-- A word that has an immediate put into it spells the same instruction with that immediate. A law a format, in three steps:
-- the word is of the format, since what it spells passes the test of it; the bits that stay are the fields of the format that
-- tell its operation and its registers; so the other word is of the same format, with these fields and its own immediate.
use Rattle.std.proofs.Common.{◌≡◌, ℕ, ℤ, pos, Bool, true, false, Some, refl, sym, ap, ◌∙◌, arith}
use Rattle.std.specs.Prelude.{◌||◌, None, Option}
use Rattle.psabi_reloc.specs.Kinds.{fits, is_auipc, is_lui, is_store, is_sum}
use Rattle.psabi_reloc.specs.declared.kind.RelocKind.TheVariants.{Branch as BranchKind, Jal as JalKind}
use Rattle.psabi_reloc.specs.Patched.{with_distance, with_imm, with_upper}
use Rattle.rv_decode.specs.declared.instr.Instr.{Instr}
use Rattle.rv_decode.specs.declared.instr.Instr.TheVariants.{Upper, Jal, Jalr, Branch, Load, Store, WithImm}
use Rattle.rv_decode.specs.Bits.{field}
use Rattle.rv_decode.specs.Decode.{branch_ops, decoded, funct_of, imm_ops, load_ops, row_of, shift_ops, store_ops}
use Rattle.rv_decode.specs.Formats.{funct3_of, imm_b_of, imm_i_of, imm_j_of, imm_s_of, imm_u_of, opcode_of, rd_of, rs1_of, rs2_of}
use Rattle.rv_decode.proofs.DecodeLaws.{Format, OfBranch, OfCsrrw, OfEbreak, OfEcall, OfFence, OfImm, OfJal, OfJalr, OfLoad, OfReg, OfShift, OfStore, OfUpper, decoded-format, format-decoded}
use Rattle.rv_decode.proofs.RowLaws.{row_found}

-- what passes a test is no instruction that doesn't
other : (test : Option Instr → Bool) (i j : Instr) → test (Some i) ≡ true → i ≡ j → test (Some j) ≡ false → ⊥
other test i j passes same fails = let both : true ≡ false = sym passes ∙ ap (λ k. test (Some k)) same ∙ fails in cc

-- what a format spells
abbrev spelled_by : {word : ℕ} {i : Instr} → Format word i → (j : Instr) × (i ≡ j)
spelled_by (OfUpper op o is) = (_, is)
spelled_by (OfJal o is) = (_, is)
spelled_by (OfJalr o f is) = (_, is)
spelled_by (OfBranch op o row is) = (_, is)
spelled_by (OfLoad op o row is) = (_, is)
spelled_by (OfStore op o row is) = (_, is)
spelled_by (OfImm op o row is) = (_, is)
spelled_by (OfShift op o row is) = (_, is)
spelled_by (OfReg op o row is) = (_, is)
spelled_by (OfFence o f is) = (_, is)
spelled_by (OfEcall w is) = (_, is)
spelled_by (OfEbreak w is) = (_, is)
spelled_by (OfCsrrw o f csr is) = (_, is)

-- ---- the upper twenty bits: U

module _ (word result : ℕ) (rest : field result 0 12 ≡ field word 0 12) where
  opcode_stays : opcode_of result ≡ opcode_of word
  opcode_stays = omega (arith, rest)

  rd_stays : rd_of result ≡ rd_of word
  rd_stays = omega (arith, rest)

-- is `lui` or `auipc`
abbrev is_upper : Option Instr → Bool
is_upper i = is_lui i || is_auipc i

pub upper_put : (word result k : ℕ) → field result 0 12 ≡ field word 0 12 → imm_u_of result ≡ k → (i : Instr) → decoded word ≡ Some i → is_upper (Some i) ≡ true → decoded result ≡ Some (with_upper i k)
upper_put word result k rest part i h passes = by_format (decoded-format word i h)
  where
    no : (j : Instr) → i ≡ j → is_upper (Some j) ≡ false → decoded result ≡ Some (with_upper i k)
    no j same fails = absurd (other is_upper i j passes same fails)

    by_format : Format word i → decoded result ≡ Some (with_upper i k)
    by_format (OfUpper op o is) =
        format-decoded result (Upper op (rd_of word) k) (OfUpper op (opcode_stays word result rest ∙ o) (λ p. Upper op (sym (rd_stays word result rest) p) (sym part p)))
        ∙ ap (λ j. Some (with_upper j k)) (sym is)
    by_format f = no (spelled_by f).0 (spelled_by f).1 refl

-- ---- the upper twelve bits: I

module _ (word result : ℕ) (rest : field result 0 20 ≡ field word 0 20) where
  opcode_is : opcode_of result ≡ opcode_of word
  opcode_is = omega (arith, rest)

  rd_is : rd_of result ≡ rd_of word
  rd_is = omega (arith, rest)

  funct3_is : funct3_of result ≡ funct3_of word
  funct3_is = omega (arith, rest)

  rs1_is : rs1_of result ≡ rs1_of word
  rs1_is = omega (arith, rest)

pub sum_put : (word result : ℕ) (k : ℤ) → field result 0 20 ≡ field word 0 20 → imm_i_of result ≡ k → (i : Instr) → decoded word ≡ Some i → is_sum (Some i) ≡ true → decoded result ≡ Some (with_imm i k)
sum_put word result k rest part i h passes = by_format (decoded-format word i h)
  where
    no : (j : Instr) → i ≡ j → is_sum (Some j) ≡ false → decoded result ≡ Some (with_imm i k)
    no j same fails = absurd (other is_sum i j passes same fails)

    opcode : opcode_of result ≡ opcode_of word
    opcode = opcode_is word result rest

    rd : rd_of result ≡ rd_of word
    rd = rd_is word result rest

    funct3 : funct3_of result ≡ funct3_of word
    funct3 = funct3_is word result rest

    rs1 : rs1_of result ≡ rs1_of word
    rs1 = rs1_is word result rest

    by_format : Format word i → decoded result ≡ Some (with_imm i k)
    by_format (OfJalr o f is) =
        format-decoded result (Jalr (rd_of word) (rs1_of word) k) (OfJalr (opcode ∙ o) (funct3 ∙ f) (λ p. Jalr (sym rd p) (sym rs1 p) (sym part p)))
        ∙ ap (λ j. Some (with_imm j k)) (sym is)
    by_format (OfLoad op o row is) =
        format-decoded result (Load op (rd_of word) (rs1_of word) k) (OfLoad op (opcode ∙ o) (ap (row_of load_ops) funct3 ∙ row) (λ p. Load op (sym rd p) (sym rs1 p) (sym part p)))
        ∙ ap (λ j. Some (with_imm j k)) (sym is)
    by_format (OfImm op o row is) =
        format-decoded result (WithImm op (rd_of word) (rs1_of word) k) (OfImm op (opcode ∙ o) (ap (row_of imm_ops) funct3 ∙ row) (λ p. WithImm op (sym rd p) (sym rs1 p) (sym part p)))
        ∙ ap (λ j. Some (with_imm j k)) (sym is)
    by_format (OfShift op o row is) = no _ is (row_found (λ _ op. is_sum (Some (WithImm op (rd_of word) (rs1_of word) (pos (rs2_of word)))) ≡ false) shift_ops (funct_of word) op (refl, (refl, (refl, tt))) row)
    by_format f = no (spelled_by f).0 (spelled_by f).1 refl

-- ---- the upper seven bits, and five above the opcode: S

module _ (word result : ℕ) (middle : field result 12 13 ≡ field word 12 13) where
  funct3_same : funct3_of result ≡ funct3_of word
  funct3_same = omega (arith, middle)

  rs1_same : rs1_of result ≡ rs1_of word
  rs1_same = omega (arith, middle)

  rs2_same : rs2_of result ≡ rs2_of word
  rs2_same = omega (arith, middle)

pub store_put :
    (word result : ℕ) (k : ℤ) → field result 0 7 ≡ field word 0 7 → field result 12 13 ≡ field word 12 13 → imm_s_of result ≡ k
    → (i : Instr) → decoded word ≡ Some i → is_store (Some i) ≡ true → decoded result ≡ Some (with_imm i k)
store_put word result k opcode middle part i h passes = by_format (decoded-format word i h)
  where
    no : (j : Instr) → i ≡ j → is_store (Some j) ≡ false → decoded result ≡ Some (with_imm i k)
    no j same fails = absurd (other is_store i j passes same fails)

    by_format : Format word i → decoded result ≡ Some (with_imm i k)
    by_format (OfStore op o row is) =
        let funct3 = funct3_same word result middle in
        let rs1 = rs1_same word result middle in
        let rs2 = rs2_same word result middle in
        format-decoded result (Store op (rs2_of word) (rs1_of word) k) (OfStore op (opcode ∙ o) (ap (row_of store_ops) funct3 ∙ row) (λ p. Store op (sym rs2 p) (sym rs1 p) (sym part p)))
        ∙ ap (λ j. Some (with_imm j k)) (sym is)
    by_format f = no (spelled_by f).0 (spelled_by f).1 refl

-- ---- the same bits with a distance in them: B

-- is a branch, or `jal`
abbrev is_branch : Option Instr → Bool
is_branch i = fits BranchKind i None

abbrev is_jal : Option Instr → Bool
is_jal i = fits JalKind i None

pub branch_put :
    (word result : ℕ) (k : ℤ) → field result 0 7 ≡ field word 0 7 → field result 12 13 ≡ field word 12 13 → imm_b_of result ≡ k
    → (i : Instr) → decoded word ≡ Some i → is_branch (Some i) ≡ true → decoded result ≡ Some (with_distance i k)
branch_put word result k opcode middle part i h passes = by_format (decoded-format word i h)
  where
    no : (j : Instr) → i ≡ j → is_branch (Some j) ≡ false → decoded result ≡ Some (with_distance i k)
    no j same fails = absurd (other is_branch i j passes same fails)

    by_format : Format word i → decoded result ≡ Some (with_distance i k)
    by_format (OfBranch op o row is) =
        let funct3 = funct3_same word result middle in
        let rs1 = rs1_same word result middle in
        let rs2 = rs2_same word result middle in
        format-decoded result (Branch op (rs1_of word) (rs2_of word) k) (OfBranch op (opcode ∙ o) (ap (row_of branch_ops) funct3 ∙ row) (λ p. Branch op (sym rs1 p) (sym rs2 p) (sym part p)))
        ∙ ap (λ j. Some (with_distance j k)) (sym is)
    by_format f = no (spelled_by f).0 (spelled_by f).1 refl

-- ---- the upper twenty bits with a distance in them: J

pub jal_put : (word result : ℕ) (k : ℤ) → field result 0 12 ≡ field word 0 12 → imm_j_of result ≡ k → (i : Instr) → decoded word ≡ Some i → is_jal (Some i) ≡ true → decoded result ≡ Some (with_distance i k)
jal_put word result k rest part i h passes = by_format (decoded-format word i h)
  where
    no : (j : Instr) → i ≡ j → is_jal (Some j) ≡ false → decoded result ≡ Some (with_distance i k)
    no j same fails = absurd (other is_jal i j passes same fails)

    by_format : Format word i → decoded result ≡ Some (with_distance i k)
    by_format (OfJal o is) =
        format-decoded result (Jal (rd_of word) k) (OfJal (opcode_stays word result rest ∙ o) (λ p. Jal (sym (rd_stays word result rest) p) (sym part p)))
        ∙ ap (λ j. Some (with_distance j k)) (sym is)
    by_format f = no (spelled_by f).0 (spelled_by f).1 refl
