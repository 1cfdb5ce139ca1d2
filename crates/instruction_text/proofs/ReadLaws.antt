-- Where a text spells nothing: there are more words than there may be, or too few digits.
use Rattle.std.proofs.Common.{◌≡◌, ℕ, ◌<◌, ◌+◌, ◌*◌, Some, None, List, [], ◌∷◌, length, eqb, ap, ◌∙◌, arith}
use Rattle.std.specs.Option.{option_and_then, option_map}
use Rattle.text_lines.specs.Lines.{words_of}
use Rattle.text_lines.specs.Number.{hex_byte_of}
use Rattle.text_lines.proofs.HexLaws.{hex_byte_of-long}
use Rattle.text_lines.proofs.SplitLaws.{some_part}
use Rattle.instruction_text.specs.Operands.{operand_in, operands_after_three, operands_after_two}
use Rattle.instruction_text.specs.Reading.{hex_half_of, only_word}
use Rattle.instruction_text.specs.declared.operands.Operand.{Operand}

pub two_words : (word rest : List ℕ) → only_word (word ∷ words_of rest) ≡ None
two_words word rest = let part = some_part (λ b. eqb b 32) rest in ap (λ ws. only_word (word ∷ ws)) part.2

pub four_words : (x y z : Operand) (word rest : List ℕ) → operand_in word ≡ Some z → operands_after_two x y (word ∷ words_of rest) ≡ None
four_words x y z word rest is =
    let part = some_part (λ b. eqb b 32) rest in
    ap (option_and_then (λ o. operands_after_three x y o (words_of rest))) is ∙ ap (operands_after_three x y z) part.2

pub too_short : (word : List ℕ) → length word < 2 → hex_half_of word ≡ None
too_short [] short = ap (option_and_then (λ high. option_map (λ low. 256 * high + low) (hex_byte_of []))) (hex_byte_of-long [] (λ two. omega (arith, two)))
too_short (a ∷ []) short = ap (option_and_then (λ high. option_map (λ low. 256 * high + low) (hex_byte_of []))) (hex_byte_of-long (a ∷ []) (λ two. omega (arith, two)))
too_short (a ∷ (b ∷ more)) short = absurd (omega (arith, short))
