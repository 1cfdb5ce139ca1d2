-- The text of an instruction, by its code.
use Rattle.std.specs.Prelude.{◌≡◌, ◌≢◌, ℕ, ◌<◌, ◌%◌, ◌^◌, Bool, not, ◌==◌, ◌&&◌, nat_lt, List, [], ◌∷◌, Option, Some, None, codes}
use Rattle.std.specs.List.{join_with_byte}
use Rattle.zc_base.specs.Fields.{half_bytes, word_bytes}
use Rattle.rv_decode.specs.Decode.{decoded}
use Rattle.rv_decode.specs.declared.instr.Instr.{Instr}
use Rattle.zc_decode.specs.Halfwords.{spelled}
use Rattle.zc_decode.specs.Rows.{form_of}
use Rattle.zc_decode.specs.declared.form.Form.{Form}
use Rattle.text_lines.specs.Hex.{hex_at, hex_word}
use Rattle.instruction_text.specs.Names.{form_name, operation_name, operation_of}
use Rattle.instruction_text.specs.Operands.{operand_words, operands_of, operands_of_short}
use Rattle.instruction_text.specs.declared.machine_code.MachineCode.{MachineCode}
use Rattle.instruction_text.specs.declared.machine_code.MachineCode.TheVariants.{Half, Word}
use Rattle.instruction_text.specs.declared.operands.Operands.{Operands}

-- a name and operands, with a space before each operand
abbrev pub named_text : List ℕ → Operands → List ℕ
named_text name operands = join_with_byte 32 (name ∷ operand_words operands)

-- a 16-bit number as four hexadecimal digits
abbrev pub hex_half : ℕ → List ℕ
hex_half n = hex_at n 12 ∷ hex_at n 8 ∷ hex_at n 4 ∷ hex_at n 0 ∷ []

-- ---- words

-- an instruction's name and operands, or the digits of a word that the table doesn't have
abbrev pub instr_text : ℕ → Option Instr → List ℕ
instr_text word None = join_with_byte 32 (codes ".word" ∷ hex_word word ∷ [])
instr_text word (Some i) = named_text (operation_name (operation_of i)) (operands_of i)

unfoldable pub word_text : ℕ → List ℕ
word_text word = instr_text word (decoded word)

-- ---- halfwords

-- the name of a halfword's row and its operands, or the digits of a halfword that the tables don't have
abbrev pub form_text : ℕ → Option Form → List ℕ
form_text half None = join_with_byte 32 (codes ".half" ∷ hex_half half ∷ [])
form_text half (Some form) = named_text (form_name form) (operands_of_short (spelled form half))

unfoldable pub half_text : ℕ → List ℕ
half_text half = form_text half (form_of half)

-- ---- either

abbrev pub code_text : MachineCode → List ℕ
code_text (Half half) = half_text half
code_text (Word word) = word_text word

-- the bytes of the code, the low one first
abbrev pub machine_code_bytes : MachineCode → List ℕ
machine_code_bytes (Half half) = half_bytes half
machine_code_bytes (Word word) = word_bytes word

-- the low two bits are 11 in a word, and aren't in a halfword
abbrev pub IsMachineCode : MachineCode → Type 0
IsMachineCode (Half half) = (half < 2 ^ 16) × (half % 4 ≢ 3)
IsMachineCode (Word word) = (word < 2 ^ 32) × (word % 4 ≡ 3)

-- the same, as a test
abbrev pub is_machine_code : MachineCode → Bool
is_machine_code (Half half) = nat_lt half (2 ^ 16) && not (half % 4 == 3)
is_machine_code (Word word) = nat_lt word (2 ^ 32) && word % 4 == 3
