-- The text of an instruction spells it (`code_back`), and a text that spells one is its text (`code_is`).
use Rattle.std.proofs.Common.{◌≡◌, ℕ, ◌%◌, ◌^◌, ◌<◌, Option, Some, None, Bool, true, false, cond, List, [], ◌∷◌, length, refl, sym, ap, ap₂, ◌∙◌, subst, arith, eqb, ltb, eq-eqb, eqb-true, lit<}
use Rattle.std.specs.Prelude.{not, bytes_eq, codes, All}
use Rattle.std.specs.List.{join_with_byte}
use Rattle.std.specs.Option.{option_and_then, option_map}
use Rattle.std.proofs.lemmas.Bool.{and_from, and_parts, lt-ltb, ltb-true, ne_eqb}
use Rattle.std.proofs.lemmas.List.Elements.{All-cons, All-nil}
use Rattle.std.proofs.lemmas.Option.{none-some}
use Rattle.rv_decode.specs.Decode.{decoded}
use Rattle.rv_decode.specs.declared.instr.Instr.{Instr}
use Rattle.rv_decode.proofs.DecodeLaws.{decoded-in_range, decoded-registers}
use Rattle.rv_encode.specs.Words.{encoded}
use Rattle.zc_decode.specs.Halfwords.{spelled}
use Rattle.zc_decode.specs.Rows.{form_of}
use Rattle.zc_decode.specs.declared.form.Form.{Form}
use Rattle.text_lines.specs.Hex.{hex_word}
use Rattle.text_lines.specs.Lines.{words_of}
use Rattle.text_lines.specs.Number.{if_text_of}
use Rattle.text_lines.proofs.HexLaws.{hex_word_of-Some}
use Rattle.text_lines.proofs.NumberLaws.{if_text_of-Some, spelled_is}
use Rattle.text_lines.proofs.PlainLaws.{IsLine, IsPlain, joined_line, words_again}
use Rattle.instruction_text.specs.Names.{form_name, form_named, operation_name, operation_named, operation_of}
use Rattle.instruction_text.specs.Operands.{operand_words, operands_in, operands_of, operands_of_short}
use Rattle.instruction_text.specs.Reading.{code_for, code_in_words, code_named, code_spelled, half_in_digits, word_in_digits}
use Rattle.instruction_text.specs.Texts.{IsMachineCode, code_text, form_text, half_text, hex_half, instr_text, is_machine_code, named_text, word_text}
use Rattle.instruction_text.specs.declared.machine_code.MachineCode.{MachineCode}
use Rattle.instruction_text.specs.declared.machine_code.MachineCode.TheVariants.{Half, Word}
use Rattle.instruction_text.specs.declared.operands.Operands.{Operands}
use Rattle.instruction_text.proofs.DigitLaws.{hex_half_back, hex_half_plain, hex_word_plain}
use Rattle.instruction_text.proofs.HalvesBack.{half_back, half_small}
use Rattle.instruction_text.proofs.NamesBack.{IsName, named_form, named_operation, plain_is}
use Rattle.instruction_text.proofs.OperandsBack.{AreSmall, named_line, named_words, operands_back, word_small}
use Rattle.instruction_text.proofs.WordsBack.{assembled_back, encoded_back}

-- ---- a text that spells something is its text

test_is : (c : MachineCode) → is_machine_code c ≡ true → IsMachineCode c
test_is (Half half) test =
    let parts = and_parts (ltb half (2 ^ 16)) (not (eqb (half % 4) 3)) test in
    (ltb-true half (2 ^ 16) parts.0, λ same. not_both (eqb (half % 4) 3) (eq-eqb (half % 4) 3 same) parts.1)
  where
    not_both : (b : Bool) → b ≡ true → not b ≡ true → ⊥
    not_both true is other = absurd cc
    not_both false is other = absurd cc
test_is (Word word) test =
    let parts = and_parts (ltb word (2 ^ 32)) (eqb (word % 4) 3) test in
    (ltb-true word (2 ^ 32) parts.0, eqb-true (word % 4) 3 parts.1)

is_test : (c : MachineCode) → IsMachineCode c → is_machine_code c ≡ true
is_test (Half half) is = and_from (ltb half (2 ^ 16)) (not (eqb (half % 4) 3)) (lt-ltb half (2 ^ 16) is.0) (ap not (ne_eqb (half % 4) 3 is.1))
is_test (Word word) is = and_from (ltb word (2 ^ 32)) (eqb (word % 4) 3) (lt-ltb word (2 ^ 32) is.0) (eq-eqb (word % 4) 3 is.1)

pub code_is : (text : List ℕ) (c : MachineCode) → code_spelled text ≡ Some c → (text ≡ code_text c) × IsMachineCode c
unfolding code_spelled
code_is text c is = either (code_in_words (words_of text)) is
  where
    either : (o : Option MachineCode) → option_and_then (λ d. if_text_of (is_machine_code d) code_text d text) o ≡ Some c → (text ≡ code_text c) × IsMachineCode c
    either None h = absurd (none-some c h)
    either (Some d) h =
        let parts = spelled_is (is_machine_code d) code_text d text c h in
        (parts.1 ∙ ap code_text parts.2, subst IsMachineCode parts.2 (test_is d parts.0))

-- ---- the words of a text

-- what is known of the words of an instruction's text
pub record CodeWords (c : MachineCode) : Type 0 where
  pub name : List ℕ
  pub rest : List (List ℕ)
  pub words : words_of (code_text c) ≡ name ∷ rest
  pub line : IsLine (code_text c)
  pub some : 0 < length (code_text c)
  pub bytes : bytes_eq name (codes ".byte") ≡ false
  pub zeros : bytes_eq name (codes ".zero") ≡ false
  pub spells : code_in_words (name ∷ rest) ≡ Some c

joined_some : (name : List ℕ) (rest : List (List ℕ)) → 0 < length name → 0 < length (join_with_byte 32 (name ∷ rest))
joined_some name [] some = some
joined_some [] (word ∷ more) some = absurd (omega (arith, some))
joined_some (c ∷ cs) (word ∷ more) some = omega arith

-- words of a text that is a name and operands
module _ (c : MachineCode) (name : List ℕ) (os : Operands) (is : IsName name) (small : AreSmall os) (text : code_text c ≡ named_text name os) (spells : code_for (operation_named name) (form_named name) os ≡ Some c) where
  named_spells : code_named name (operand_words os) ≡ Some c
  named_spells =
      let rest = operand_words os in
      ap₂ (λ a b. cond a (half_in_digits rest) (cond b (word_in_digits rest) (option_and_then (code_for (operation_named name) (form_named name)) (operands_in rest)))) is.half is.word
      ∙ ap (option_and_then (code_for (operation_named name) (form_named name))) (operands_back os small)
      ∙ spells

  named_code : CodeWords c
  named_code = record {
    name = name;
    rest = operand_words os;
    words = ap words_of text ∙ named_words name os (plain_is name is.plain) small;
    line = subst IsLine (sym text) (named_line name os (plain_is name is.plain) small);
    some = subst (λ t. 0 < length t) (sym text) (joined_some name (operand_words os) (ltb-true 0 (length name) is.some));
    bytes = is.bytes;
    zeros = is.zeros;
    spells = named_spells;
  }

-- words of a text that is digits after a name
digits_plain : (name digits : List ℕ) → IsPlain name → IsPlain digits → All IsPlain (name ∷ digits ∷ [])
digits_plain name digits one two = All-cons IsPlain name (digits ∷ []) one (All-cons IsPlain digits [] two (All-nil IsPlain))

module _ (c : MachineCode) (name digits : List ℕ) (some : 0 < length name) (bytes : bytes_eq name (codes ".byte") ≡ false) (zeros : bytes_eq name (codes ".zero") ≡ false) (one : IsPlain name) (two : IsPlain digits) (text : code_text c ≡ join_with_byte 32 (name ∷ digits ∷ [])) (spells : code_in_words (name ∷ digits ∷ []) ≡ Some c) where
  digits_code : CodeWords c
  digits_code = record {
    name = name;
    rest = digits ∷ [];
    words = ap words_of text ∙ words_again name (digits ∷ []) (digits_plain name digits one two);
    line = subst IsLine (sym text) (joined_line (name ∷ digits ∷ []) (digits_plain name digits one two));
    some = subst (λ t. 0 < length t) (sym text) (joined_some name (digits ∷ []) some);
    bytes = bytes;
    zeros = zeros;
    spells = spells;
  }

-- ---- each instruction

word_code : (word : ℕ) → IsMachineCode (Word word) → CodeWords (Word word)
unfolding word_text
word_code word is = either (decoded word) refl
  where
    either : (o : Option Instr) → decoded word ≡ o → CodeWords (Word word)
    either None none =
        digits_code (Word word) (codes ".word") (hex_word word) (lit< tt) refl refl (plain_is (codes ".word") refl) (hex_word_plain word) (ap (instr_text word) none)
        (ap (option_map Word) (hex_word_of-Some word (hex_word word) is.0 refl))
    either (Some i) found =
        let op = operation_of i in
        let named = named_operation op in
        let range = decoded-in_range word i found in
        named_code (Word word) (operation_name op) (operands_of i) named.is_name (word_small i (decoded-registers word i found) range) (ap (instr_text word) found)
        (ap (λ o. code_for o (form_named (operation_name op)) (operands_of i)) named.found
        ∙ ap (option_map (λ j. Word (encoded j))) (assembled_back i range)
        ∙ ap (λ w. Some (Word w)) (encoded_back word i is.0 found))

half_code : (half : ℕ) → IsMachineCode (Half half) → CodeWords (Half half)
unfolding half_text
half_code half is = either (form_of half) refl
  where
    either : (o : Option Form) → form_of half ≡ o → CodeWords (Half half)
    either None none =
        digits_code (Half half) (codes ".half") (hex_half half) (lit< tt) refl refl (plain_is (codes ".half") refl) (hex_half_plain half) (ap (form_text half) none)
        (ap (option_map Half) (hex_half_back half is.0))
    either (Some form) found =
        let named = named_form form in
        let os = operands_of_short (spelled form half) in
        named_code (Half half) (form_name form) os named.is_name (half_small half form is.0 found) (ap (form_text half) found)
        (ap₂ (λ o f. code_for o f os) named.other named.found
        ∙ ap (option_map Half) (named.same os ∙ half_back half form is.0 found))

pub code_words : (c : MachineCode) → IsMachineCode c → CodeWords c
code_words (Half half) is = half_code half is
code_words (Word word) is = word_code word is

-- ---- a text is read back

pub code_back : (c : MachineCode) → IsMachineCode c → code_spelled (code_text c) ≡ Some c
unfolding code_spelled
code_back c is =
    let w = code_words c is in
    ap (λ ws. option_and_then (λ d. if_text_of (is_machine_code d) code_text d (code_text c)) (code_in_words ws)) w.words
    ∙ ap (option_and_then (λ d. if_text_of (is_machine_code d) code_text d (code_text c))) w.spells
    ∙ if_text_of-Some (is_machine_code c) code_text c (code_text c) (is_test c is) refl
