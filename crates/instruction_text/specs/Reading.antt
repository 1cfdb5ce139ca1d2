-- The code that a text spells.
use Rattle.std.specs.Prelude.{ℕ, ◌+◌, ◌*◌, bytes_eq, if◌then◌else◌, List, [], ◌∷◌, take, drop, Option, Some, None, codes}
use Rattle.std.specs.Option.{option_and_then, option_map}
use Rattle.rv_encode.specs.Words.{encoded}
use Rattle.zc_decode.specs.declared.form.Form.{Form}
use Rattle.text_lines.specs.Lines.{words_of}
use Rattle.text_lines.specs.Number.{hex_byte_of, hex_word_of, if_text_of}
use Rattle.instruction_text.specs.Assembly.{assembled, assembled_half}
use Rattle.instruction_text.specs.Names.{form_named, operation_named}
use Rattle.instruction_text.specs.Operands.{operands_in}
use Rattle.instruction_text.specs.Texts.{is_machine_code, code_text}
use Rattle.instruction_text.specs.declared.machine_code.MachineCode.{MachineCode}
use Rattle.instruction_text.specs.declared.machine_code.MachineCode.TheVariants.{Half, Word}
use Rattle.instruction_text.specs.declared.operands.Operands.{Operands}
use Rattle.instruction_text.specs.declared.operation.Operation.{Operation}

-- a 16-bit number as four lower-case hexadecimal digits: those of its high byte, then those of its low one
abbrev pub hex_half_of : List ℕ → Option ℕ
hex_half_of word = option_and_then (λ high. option_map (λ low. 256 * high + low) (hex_byte_of (drop 2 word))) (hex_byte_of (take 2 word))

-- a word that is all there is
abbrev pub only_word : List (List ℕ) → Option (List ℕ)
only_word [] = None
only_word (word ∷ []) = Some word
only_word (word ∷ (next ∷ more)) = None

-- the digits of a halfword
abbrev pub half_in_digits : List (List ℕ) → Option MachineCode
half_in_digits words = option_map Half (option_and_then hex_half_of (only_word words))

-- the digits of a word
abbrev pub word_in_digits : List (List ℕ) → Option MachineCode
word_in_digits words = option_map Word (option_and_then hex_word_of (only_word words))

-- the code of an operation or a row with operands
abbrev pub code_for : Option Operation → Option Form → Operands → Option MachineCode
code_for (Some op) form operands = option_map (λ i. Word (encoded i)) (assembled op operands)
code_for None (Some form) operands = option_map Half (assembled_half form operands)
code_for None None operands = None

-- the code of a name and the words after it
abbrev pub code_named : List ℕ → List (List ℕ) → Option MachineCode
code_named name rest =
    if bytes_eq name (codes ".half") then half_in_digits rest else
    (if bytes_eq name (codes ".word") then word_in_digits rest else
    option_and_then (code_for (operation_named name) (form_named name)) (operands_in rest))

-- the code of words
abbrev pub code_in_words : List (List ℕ) → Option MachineCode
code_in_words [] = None
code_in_words (name ∷ rest) = code_named name rest

-- the code that a text spells by its name and operands, if the text is the one of that code
unfoldable pub code_spelled : List ℕ → Option MachineCode
code_spelled text = option_and_then (λ c. if_text_of (is_machine_code c) code_text c text) (code_in_words (words_of text))
