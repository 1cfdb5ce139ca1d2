-- Instructions of the system are words that the table doesn't have.
use Rattle.std.proofs.Common.{◌≡◌, ℕ, ◌%◌, Option, Some, None, Bool, true, false, cond, refl, ap, ◌∙◌, arith, eqb}
use Rattle.std.specs.Prelude.{◌&&◌, ◌||◌, not}
use Rattle.std.proofs.lemmas.Bool.{and_parts, eqb-false, eqb-true, ne_eqb}
use Rattle.rv_decode.specs.Bits.{field}
use Rattle.rv_decode.specs.Decode.{decoded}
use Rattle.rv_decode.specs.Formats.{funct3_of, opcode_of, rd_of, rs1_of}
use Rattle.rv_decode.specs.System.{is_system}
use Rattle.rv_decode.specs.declared.instr.Instr.{Instr}
use Rattle.rv_decode.specs.declared.instr.Instr.TheVariants.{Ecall, Ebreak, Csrrw}
use Rattle.rv_decode.proofs.DecodeLaws.{decoded_by_opcode}

-- the opcode is SYSTEM
system-opcode : (word : ℕ) → is_system word ≡ true → opcode_of word ≡ 0b1110011
system-opcode word is = eqb-true (opcode_of word) 0b1110011 (and_parts (eqb (opcode_of word) 0b1110011) _ is).0

-- the low two bits are 11, as those of each word of 32 bits
pub system-low_bits : (word : ℕ) → is_system word ≡ true → field word 0 2 ≡ 3
system-low_bits word is = let o = system-opcode word is in omega (arith, o)

-- of the rows of this opcode, ecall and ebreak have funct3 0, and csrrw is on jvt
no_row : (word : ℕ) → opcode_of word ≡ 0b1110011 → (funct3_of word % 4 ≡ 0 → ⊥) → eqb (field word 20 12) 0x017 ≡ false → decoded word ≡ None
no_row word o low csr =
    decoded_by_opcode word _ o
    ∙ ap (λ b. cond b (Some Ecall) (cond (eqb word 0x00100073) (Some Ebreak) (jvt (eqb (field word 20 12) 0x017)))) (ne_eqb word 0x00000073 (λ e. low (ap (λ w. funct3_of w % 4) e)))
    ∙ ap (λ b. cond b (Some Ebreak) (jvt (eqb (field word 20 12) 0x017))) (ne_eqb word 0x00100073 (λ e. low (ap (λ w. funct3_of w % 4) e)))
    ∙ ap jvt csr
    ∙ neither (eqb (funct3_of word) 0b001)
  where
    jvt : Bool → Option Instr
    jvt b = cond (eqb (funct3_of word) 0b001 && b) (Some (Csrrw (rd_of word) (rs1_of word))) None

    neither : (b : Bool) → cond (b && false) (Some (Csrrw (rd_of word) (rs1_of word))) None ≡ None
    neither true = refl
    neither false = refl

-- the table has no row for `wfi`
wfi-not_decoded : decoded 0x1050_0073 ≡ None
unfolding decoded
wfi-not_decoded = refl

-- nor for any other
pub system-not_decoded : (word : ℕ) → is_system word ≡ true → decoded word ≡ None
system-not_decoded word is = either (eqb (funct3_of word % 4) 0) (eqb (field word 20 12) 0x017) refl refl (and_parts (eqb (opcode_of word) 0b1110011) _ is).1
  where
    waits : (b : Bool) → eqb word 0x1050_0073 ≡ b → (false || b) ≡ true → decoded word ≡ None
    waits true w h = ap decoded (eqb-true word 0x1050_0073 w) ∙ wfi-not_decoded
    waits false w h = absurd cc

    either : (a b : Bool) → eqb (funct3_of word % 4) 0 ≡ a → eqb (field word 20 12) 0x017 ≡ b → ((not a && not b) || eqb word 0x1050_0073) ≡ true → decoded word ≡ None
    either false false low csr h = no_row word (system-opcode word is) (eqb-false (funct3_of word % 4) 0 low) csr
    either true b low csr h = waits (eqb word 0x1050_0073) refl h
    either false true low csr h = waits (eqb word 0x1050_0073) refl h
