-- Operands are read back from their words (`operands_back`), and a name and operands are the words of their text (`named_words`).
use Rattle.std.proofs.Common.{◌≡◌, ℕ, ℤ, pos, negsuc, suc, ◌-◌, ◌^◌, ◌<◌, Some, cond, List, [], ◌∷◌, refl, ap, ap₂, ◌∙◌, arith, lit<}
use Rattle.std.specs.Prelude.{All}
use Rattle.std.specs.Fmt.{decimal, signed_decimal}
use Rattle.std.specs.Option.{option_and_then, option_map}
use Rattle.std.specs.Str.Parse.{IsNumeral}
use Rattle.std.proofs.lemmas.Bool.{ne_eqb}
use Rattle.std.proofs.lemmas.Fmt.{decimal_is_IsNumeral}
use Rattle.std.proofs.lemmas.List.Elements.{All-cons, All-nil}
use Rattle.std.proofs.lemmas.Str.Parse.{digit_at}
use Rattle.rv_decode.specs.Bits.{FitsIn}
use Rattle.rv_decode.specs.Immediates.{ImmInRange, InRange, IsAmount}
use Rattle.rv_decode.specs.Registers.{HasRegisters}
use Rattle.rv_decode.specs.declared.instr.ImmOp.{ImmOp}
use Rattle.rv_decode.specs.declared.instr.ImmOp.TheVariants.{Addi, Slti, Sltiu, Xori, Ori, Andi, Slli, Srli, Srai}
use Rattle.rv_decode.specs.declared.instr.Instr.{Instr}
use Rattle.rv_decode.specs.declared.instr.Instr.TheVariants.{Upper, Jal, Jalr, Branch, Load, Store, WithImm, WithReg, Fence, Ecall, Ebreak, Csrrw}
use Rattle.text_lines.specs.Lines.{words_of}
use Rattle.text_lines.specs.Number.{decimal_of}
use Rattle.text_lines.proofs.NumberLaws.{decimal_of-Some}
use Rattle.text_lines.proofs.PlainLaws.{IsLine, IsPlain, decimal_plain, joined_line, words_again}
use Rattle.instruction_text.specs.Operands.{negative, negative_in, operand_in, operand_words, operands_after_one, operands_after_three, operands_after_two, operands_in, operands_of, register_in, register_word}
use Rattle.instruction_text.specs.Texts.{named_text}
use Rattle.instruction_text.specs.declared.operands.Operand.{Operand}
use Rattle.instruction_text.specs.declared.operands.Operand.TheVariants.{Register, Number}
use Rattle.instruction_text.specs.declared.operands.Operands.{Operands}
use Rattle.instruction_text.specs.declared.operands.Operands.TheVariants.{Nothing, OneNumber, TwoNumbers, TwoRegisters, RegisterNumber, RegistersNumber, ThreeRegisters}

-- ---- operands that are read back

abbrev pub IsSmall : ℤ → Type 0
IsSmall (pos n) = n < 2 ^ 31
IsSmall (negsuc n) = n < 2 ^ 31 - 1

abbrev pub AreSmall : Operands → Type 0
AreSmall Nothing = Unit {0}
AreSmall (OneNumber z) = IsSmall z
AreSmall (TwoNumbers z w) = IsSmall z × IsSmall w
AreSmall (TwoRegisters a b) = (a < 32) × (b < 32)
AreSmall (RegisterNumber a z) = (a < 32) × IsSmall z
AreSmall (RegistersNumber a b z) = (a < 32) × (b < 32) × IsSmall z
AreSmall (ThreeRegisters a b c) = (a < 32) × (b < 32) × (c < 32)

-- those of an instruction that a word has room for
twelve : (z : ℤ) → FitsIn 12 z → IsSmall z
twelve (pos n) fits = omega (arith, fits)
twelve (negsuc n) fits = omega (arith, fits)

thirteen : (z : ℤ) → FitsIn 13 z → IsSmall z
thirteen (pos n) fits = omega (arith, fits)
thirteen (negsuc n) fits = omega (arith, fits)

twenty_one : (z : ℤ) → FitsIn 21 z → IsSmall z
twenty_one (pos n) fits = omega (arith, fits)
twenty_one (negsuc n) fits = omega (arith, fits)

amount : (z : ℤ) → IsAmount z → IsSmall z
amount (pos n) fits = omega (arith, fits)
amount (negsuc n) fits = absurd fits

immediate : (op : ImmOp) (z : ℤ) → ImmInRange op z → IsSmall z
immediate Addi z fits = twelve z fits
immediate Slti z fits = twelve z fits
immediate Sltiu z fits = twelve z fits
immediate Xori z fits = twelve z fits
immediate Ori z fits = twelve z fits
immediate Andi z fits = twelve z fits
immediate Slli z fits = amount z fits
immediate Srli z fits = amount z fits
immediate Srai z fits = amount z fits

pub word_small : (i : Instr) → HasRegisters i → InRange i → AreSmall (operands_of i)
word_small (Upper op rd imm) has fits = (has, omega (arith, fits))
word_small (Jal rd distance) has fits = (has, twenty_one distance fits.0)
word_small (Jalr rd base imm) has fits = (has.0, has.1, twelve imm fits)
word_small (Branch op first second distance) has fits = (has.0, has.1, thirteen distance fits.0)
word_small (Load op rd base imm) has fits = (has.0, has.1, twelve imm fits)
word_small (Store op source base imm) has fits = (has.1, has.0, twelve imm fits)
word_small (WithImm op rd first imm) has fits = (has.0, has.1, immediate op imm fits)
word_small (WithReg op rd first second) has fits = has
word_small (Fence rest) has fits = omega (arith, fits)
word_small Ecall has fits = tt
word_small Ebreak has fits = tt
word_small (Csrrw rd source) has fits = has

-- ---- one operand

register_back : (r : ℕ) → r < 32 → operand_in (register_word r) ≡ Some (Register r)
register_back r lt = ap (option_map Register) (decimal_of-Some 31 r (decimal r) (lit< tt) (omega (arith, lt)) refl)

digits_operand : (ds : List ℕ) (n : ℕ) → IsNumeral 10 ds → decimal_of (2 ^ 31 - 1) ds ≡ Some n → operand_in ds ≡ Some (Number (pos n))
digits_operand [] n is value = absurd (omega (arith, is.0))
digits_operand (c ∷ cs) n is value =
    let digit = digit_at (c ∷ cs) 0 is.1 is.0 in
    ap₂ (λ a b. cond a (register_in cs) (cond b (negative_in cs) (option_map (λ m. Number (pos m)) (decimal_of (2 ^ 31 - 1) (c ∷ cs)))))
    (ne_eqb c 120 (λ same. omega (arith, digit, same))) (ne_eqb c 45 (λ same. omega (arith, digit, same)))
    ∙ ap (option_map (λ m. Number (pos m))) value

number_back : (z : ℤ) → IsSmall z → operand_in (signed_decimal z) ≡ Some (Number z)
number_back (pos n) lt =
    digits_operand (decimal n) n (decimal_is_IsNumeral n (omega (arith, lt))).0
    (decimal_of-Some (2 ^ 31 - 1) n (decimal n) (lit< tt) (omega (arith, lt)) refl)
number_back (negsuc n) lt =
    ap (λ o. option_map Number (option_and_then negative o))
    (decimal_of-Some (2 ^ 31 - 1) (suc n) (decimal (suc n)) (lit< tt) (omega (arith, lt)) refl)

-- ---- all operands

one_back : (word : List ℕ) (x : Operand) → operand_in word ≡ Some x → operands_in (word ∷ []) ≡ operands_after_one x []
one_back word x is = ap (option_and_then (λ y. operands_after_one y [])) is

two_back : (v w : List ℕ) (x y : Operand) → operand_in v ≡ Some x → operand_in w ≡ Some y → operands_in (v ∷ w ∷ []) ≡ operands_after_two x y []
two_back v w x y first second =
    ap (option_and_then (λ o. operands_after_one o (w ∷ []))) first
    ∙ ap (option_and_then (λ o. operands_after_two x o [])) second

three_back : (u v w : List ℕ) (x y z : Operand) → operand_in u ≡ Some x → operand_in v ≡ Some y → operand_in w ≡ Some z → operands_in (u ∷ v ∷ w ∷ []) ≡ operands_after_three x y z []
three_back u v w x y z first second third =
    ap (option_and_then (λ o. operands_after_one o (v ∷ w ∷ []))) first
    ∙ ap (option_and_then (λ o. operands_after_two x o (w ∷ []))) second
    ∙ ap (option_and_then (λ o. operands_after_three x y o [])) third

pub operands_back : (os : Operands) → AreSmall os → operands_in (operand_words os) ≡ Some os
operands_back Nothing small = refl
operands_back (OneNumber z) small = one_back (signed_decimal z) (Number z) (number_back z small)
operands_back (TwoNumbers z w) small =
    two_back (signed_decimal z) (signed_decimal w) (Number z) (Number w) (number_back z small.0) (number_back w small.1)
operands_back (TwoRegisters a b) small =
    two_back (register_word a) (register_word b) (Register a) (Register b) (register_back a small.0) (register_back b small.1)
operands_back (RegisterNumber a z) small =
    two_back (register_word a) (signed_decimal z) (Register a) (Number z) (register_back a small.0) (number_back z small.1)
operands_back (RegistersNumber a b z) small =
    three_back (register_word a) (register_word b) (signed_decimal z) (Register a) (Register b) (Number z)
    (register_back a small.0) (register_back b small.1) (number_back z small.2)
operands_back (ThreeRegisters a b c) small =
    three_back (register_word a) (register_word b) (register_word c) (Register a) (Register b) (Register c)
    (register_back a small.0) (register_back b small.1) (register_back c small.2)

-- ---- the words of a text

register_plain : (r : ℕ) → r < 32 → IsPlain (register_word r)
register_plain r lt = All-cons (λ b. 32 < b) 120 (decimal r) (lit< tt) (decimal_plain r (omega (arith, lt)))

number_plain : (z : ℤ) → IsSmall z → IsPlain (signed_decimal z)
number_plain (pos n) lt = decimal_plain n (omega (arith, lt))
number_plain (negsuc n) lt = All-cons (λ b. 32 < b) 45 (decimal (suc n)) (lit< tt) (decimal_plain (suc n) (omega (arith, lt)))

one_plain : (w : List ℕ) → IsPlain w → All IsPlain (w ∷ [])
one_plain w p = All-cons IsPlain w [] p (All-nil IsPlain)

two_plain : (v w : List ℕ) → IsPlain v → IsPlain w → All IsPlain (v ∷ w ∷ [])
two_plain v w p q = All-cons IsPlain v (w ∷ []) p (one_plain w q)

three_plain : (u v w : List ℕ) → IsPlain u → IsPlain v → IsPlain w → All IsPlain (u ∷ v ∷ w ∷ [])
three_plain u v w p q r = All-cons IsPlain u (v ∷ w ∷ []) p (two_plain v w q r)

operands_plain : (os : Operands) → AreSmall os → All IsPlain (operand_words os)
operands_plain Nothing small = All-nil IsPlain
operands_plain (OneNumber z) small = one_plain (signed_decimal z) (number_plain z small)
operands_plain (TwoNumbers z w) small = two_plain (signed_decimal z) (signed_decimal w) (number_plain z small.0) (number_plain w small.1)
operands_plain (TwoRegisters a b) small = two_plain (register_word a) (register_word b) (register_plain a small.0) (register_plain b small.1)
operands_plain (RegisterNumber a z) small = two_plain (register_word a) (signed_decimal z) (register_plain a small.0) (number_plain z small.1)
operands_plain (RegistersNumber a b z) small =
    three_plain (register_word a) (register_word b) (signed_decimal z) (register_plain a small.0) (register_plain b small.1) (number_plain z small.2)
operands_plain (ThreeRegisters a b c) small =
    three_plain (register_word a) (register_word b) (register_word c) (register_plain a small.0) (register_plain b small.1) (register_plain c small.2)

pub named_words : (name : List ℕ) (os : Operands) → IsPlain name → AreSmall os → words_of (named_text name os) ≡ name ∷ operand_words os
named_words name os plain small = words_again name (operand_words os) (All-cons IsPlain name (operand_words os) plain (operands_plain os small))

pub named_line : (name : List ℕ) (os : Operands) → IsPlain name → AreSmall os → IsLine (named_text name os)
named_line name os plain small = joined_line (name ∷ operand_words os) (All-cons IsPlain name (operand_words os) plain (operands_plain os small))
