-- The line of an instruction, of bytes or of zeros spells it, and no other line does.
use Rattle.std.proofs.Common.{◌≡◌, ℕ, ◌+◌, ◌/◌, ◌%◌, ◌^◌, ◌<◌, Some, None, Bool, true, false, cond, List, [], ◌∷◌, ◌++◌, map, length, take, drop, eqb, ltb, refl, sym, ap, ap₂, subst, ◌∙◌, arith, lit<}
use Rattle.std.specs.Prelude.{All, bytes_eq, codes}
use Rattle.std.specs.Fmt.{decimal}
use Rattle.std.specs.List.{join_with_byte}
use Rattle.std.specs.Option.{option_and_then, option_map}
use Rattle.std.proofs.lemmas.Bool.{cond_both, cond-false, cond-true, ne_eqb}
use Rattle.std.proofs.lemmas.List.{length-map, take-append-drop}
use Rattle.std.proofs.lemmas.List.Elements.{All-append, All-cons, All-from_recursion, All-head, All-map, All-nil, All-tail, All-weaker}
use Rattle.std.proofs.lemmas.List.Splits.{join_with_byte-slice_split}
use Rattle.std.proofs.lemmas.Option.{none-some, option_and_then_some, same_Some}
use Rattle.std.proofs.lemmas.Slice.Eq.{bytes_eq-Decides}
use Rattle.text_lines.specs.Hex.{hex_byte, hex_digit, hex_word}
use Rattle.text_lines.specs.Lines.{words_of}
use Rattle.text_lines.specs.Number.{decimal_of, hex_byte_of}
use Rattle.text_lines.proofs.HexLaws.{hex_byte_of-Some, hex_byte_of_is}
use Rattle.text_lines.proofs.NumberLaws.{decimal_of-Some, number_of_is}
use Rattle.text_lines.proofs.OptionLaws.{mapped, picked}
use Rattle.text_lines.proofs.PlainLaws.{IsLine, IsPlain, decimal_plain, joined_line, words_again}
use Rattle.instruction_text.proofs.CodeLaws.{code_back, code_is, code_words}
use Rattle.instruction_text.specs.Reading.{code_spelled}
use Rattle.instruction_text.specs.Texts.{IsMachineCode, code_text}
use Rattle.zc_list.specs.Listing.{Bytes, Content, Instruction, Zeros, content_line, content_text}
use Rattle.zc_list.specs.Spelled.{bytes_of_words, content_at, content_of_words, some_bytes, zeros_of_words}

-- an instruction has its low bits, bytes are some, and numbers fit their types
abbrev pub FitsContent : Content → Type 0
FitsContent (Instruction code) = IsMachineCode code
FitsContent (Bytes bytes) = (0 < length bytes) × All (λ b. b < 256) bytes
FitsContent (Zeros n) = n < 2 ^ 32

-- ---- words

above : (d : ℕ) → 32 < hex_digit d
above d = cond_both (ltb d 10) (48 + d) (87 + d) (λ x. 32 < x) (λ _. omega arith) (λ _. omega arith)

byte_plain : (n : ℕ) → IsPlain (hex_byte n)
byte_plain n = All-from_recursion (λ b. 32 < b) (hex_byte n) (above (n / 2 ^ 4 % 16), (above (n / 2 ^ 0 % 16), tt))

pub word_plain : (n : ℕ) → IsPlain (hex_word n)
word_plain n =
    let h = λ (shift : ℕ). above (n / 2 ^ shift % 16) in
    All-from_recursion (λ b. 32 < b) (hex_word n) (h 28, (h 24, (h 20, (h 16, (h 12, (h 8, (h 4, (h 0, tt))))))))

dot_byte : IsPlain (codes ".byte")
dot_byte = All-from_recursion (λ b. 32 < b) (codes ".byte") (lit< tt, (lit< tt, (lit< tt, (lit< tt, (lit< tt, tt)))))

dot_zero : IsPlain (codes ".zero")
dot_zero = All-from_recursion (λ b. 32 < b) (codes ".zero") (lit< tt, (lit< tt, (lit< tt, (lit< tt, (lit< tt, tt)))))

bytes_plain : (bytes : List ℕ) → All IsPlain (codes ".byte" ∷ map hex_byte bytes)
bytes_plain bytes = All-cons IsPlain (codes ".byte") (map hex_byte bytes) dot_byte (All-map IsPlain hex_byte bytes (λ k d lt. byte_plain _))

zeros_plain : (n : ℕ) → n < 2 ^ 32 → All IsPlain (codes ".zero" ∷ (decimal n ∷ []))
zeros_plain n lt = All-cons IsPlain (codes ".zero") (decimal n ∷ []) dot_zero (All-cons IsPlain (decimal n) [] (decimal_plain n (omega (arith, lt))) (All-nil IsPlain))

-- ---- its text spells it

bytes_back : (bytes : List ℕ) → All (λ b. b < 256) bytes → bytes_of_words (map hex_byte bytes) ≡ Some bytes
bytes_back [] fits = refl
bytes_back (b ∷ bytes) fits =
    ap (option_and_then (λ x. option_map (λ xs. x ∷ xs) (bytes_of_words (map hex_byte bytes)))) (hex_byte_of-Some b (hex_byte b) (All-head (λ b. b < 256) b bytes fits) refl)
    ∙ ap (option_map (λ xs. b ∷ xs)) (bytes_back bytes (All-tail (λ b. b < 256) b bytes fits))

some_back : (bytes : List ℕ) → 0 < length bytes → All (λ b. b < 256) bytes → some_bytes (map hex_byte bytes) ≡ Some (Bytes bytes)
some_back [] some fits = absurd (omega (arith, some))
some_back (b ∷ bytes) some fits = ap (option_map Bytes) (bytes_back (b ∷ bytes) fits)

-- text whose first word is no other line's is an instruction's
code_first : (text first : List ℕ) (words all : List (List ℕ)) → all ≡ first ∷ words → bytes_eq first (codes ".byte") ≡ false → bytes_eq first (codes ".zero") ≡ false
    → content_of_words text all ≡ option_map Instruction (code_spelled text)
code_first text first words all is byte zero =
    ap (content_of_words text) is
    ∙ cond-false (bytes_eq first (codes ".byte")) (some_bytes words) (cond (bytes_eq first (codes ".zero")) (zeros_of_words words) (option_map Instruction (code_spelled text))) byte
    ∙ cond-false (bytes_eq first (codes ".zero")) (zeros_of_words words) (option_map Instruction (code_spelled text)) zero

text_back : (content : Content) → FitsContent content → content_of_words (content_text content) (words_of (content_text content)) ≡ Some content
unfolding content_text
text_back (Instruction code) fits =
    let w = code_words code fits in
    code_first (code_text code) w.name w.rest (words_of (code_text code)) w.words w.bytes w.zeros ∙ ap (option_map Instruction) (code_back code fits)
text_back (Bytes bytes) fits =
    ap (content_of_words (join_with_byte 32 (codes ".byte" ∷ map hex_byte bytes))) (words_again (codes ".byte") (map hex_byte bytes) (bytes_plain bytes))
    ∙ some_back bytes fits.0 fits.1
text_back (Zeros n) fits =
    ap (content_of_words (join_with_byte 32 (codes ".zero" ∷ (decimal n ∷ [])))) (words_again (codes ".zero") (decimal n ∷ []) (zeros_plain n fits))
    ∙ ap (option_map Zeros) (decimal_of-Some 0xFFFF_FFFF n (decimal n) (lit< tt) (omega (arith, fits)) refl)

pub content_back : (at : ℕ) (content : Content) → FitsContent content → content_at at (content_line at content) ≡ Some content
unfolding content_at
content_back at content fits =
    cond-true (bytes_eq (hex_word at ++ (32 ∷ [])) (hex_word at ++ (32 ∷ []))) (content_of_words (content_text content) (words_of (content_text content))) None
    ((bytes_eq-Decides (hex_word at ++ (32 ∷ [])) (hex_word at ++ (32 ∷ []))).1 refl)
    ∙ text_back content fits

-- a line has no line feed
pub content_is_line : (at : ℕ) (content : Content) → FitsContent content → IsLine (content_line at content)
unfolding content_text
content_is_line at content fits =
    let plain : All (λ b. eqb b 10 ≡ false) (hex_word at) = All-weaker (λ b. 32 < b) (λ b. eqb b 10 ≡ false) (λ b over. ne_eqb b 10 (λ same. omega (arith, over, same))) (hex_word at) (word_plain at) in
    All-append (λ b. eqb b 10 ≡ false) (hex_word at) (32 ∷ content_text content) plain (All-cons (λ b. eqb b 10 ≡ false) 32 (content_text content) refl (text_line content fits))
  where
    text_line : (content : Content) → FitsContent content → IsLine (content_text content)
    text_line (Instruction code) fits = let w = code_words code fits in w.line
    text_line (Bytes bytes) fits = joined_line (codes ".byte" ∷ map hex_byte bytes) (bytes_plain bytes)
    text_line (Zeros n) fits = joined_line (codes ".zero" ∷ (decimal n ∷ [])) (zeros_plain n fits)

-- ---- no other text does

ReadBytes : List (List ℕ) → List ℕ → Type 0
ReadBytes words bytes = (words ≡ map hex_byte bytes) × All (λ b. b < 256) bytes

bytes_are : (words : List (List ℕ)) (bytes : List ℕ) → bytes_of_words words ≡ Some bytes → ReadBytes words bytes
unfolding ReadBytes
bytes_are [] bytes is = subst (ReadBytes []) (same_Some [] bytes is) (refl, All-nil (λ b. b < 256))
bytes_are (word ∷ words) bytes is =
    option_and_then_some (λ b. option_map (λ bs. b ∷ bs) (bytes_of_words words)) (hex_byte_of word) bytes is (λ b first rest.
    mapped (λ bs. b ∷ bs) (bytes_of_words words) bytes rest (λ more others same.
    let here = hex_byte_of_is word b first in
    let there = bytes_are words more others in
    subst (ReadBytes (word ∷ words)) same (ap₂ (λ w ws. w ∷ ws) here.1 there.0, All-cons (λ b. b < 256) b more here.0 there.1)))

-- what words spell, with the text that they are the words of
Read : List ℕ → Content → Type 0
Read text content = (text ≡ content_text content) × FitsContent content

some_are : (text first : List ℕ) (words : List (List ℕ)) (content : Content) → text ≡ join_with_byte 32 (first ∷ words) → first ≡ codes ".byte" → some_bytes words ≡ Some content → Read text content
unfolding Read ReadBytes content_text
some_are text first [] content joined is found = absurd (none-some content found)
some_are text first (word ∷ words) content joined is found =
    mapped Bytes (bytes_of_words (word ∷ words)) content found (λ bytes spells same.
    let b = bytes_are (word ∷ words) bytes spells in
    let size : length (word ∷ words) ≡ length bytes = ap length b.0 ∙ length-map bytes hex_byte in
    subst (Read text) same (joined ∙ ap₂ (λ f ws. join_with_byte 32 (f ∷ ws)) is b.0, (omega (arith, size), b.1)))

zeros_are : (text first : List ℕ) (words : List (List ℕ)) (content : Content) → text ≡ join_with_byte 32 (first ∷ words) → first ≡ codes ".zero" → zeros_of_words words ≡ Some content → Read text content
unfolding Read content_text
zeros_are text first [] content joined is found = absurd (none-some content found)
zeros_are text first (word ∷ []) content joined is found =
    mapped Zeros (decimal_of 0xFFFF_FFFF word) content found (λ n spells same.
    let number = number_of_is 0xFFFF_FFFF word n spells in
    subst (Read text) same (joined ∙ ap₂ (λ f w. join_with_byte 32 (f ∷ (w ∷ []))) is number.1, omega (arith, number.0)))
zeros_are text first (word ∷ (next ∷ words)) content joined is found = absurd (none-some content found)

text_is : (text : List ℕ) (words : List (List ℕ)) (content : Content) → text ≡ join_with_byte 32 words → content_of_words text words ≡ Some content → Read text content
unfolding Read content_text
text_is text [] content joined found = absurd (none-some content found)
text_is text (first ∷ words) content joined found = by_first (bytes_eq first (codes ".byte")) refl found
  where
    coded : option_map Instruction (code_spelled text) ≡ Some content → Read text content
    coded found = mapped Instruction (code_spelled text) content found (λ code spells same. subst (Read text) same (code_is text code spells))

    by_second : (b : Bool) → bytes_eq first (codes ".zero") ≡ b → cond b (zeros_of_words words) (option_map Instruction (code_spelled text)) ≡ Some content → Read text content
    by_second true is found = zeros_are text first words content joined ((bytes_eq-Decides first (codes ".zero")).0 is) found
    by_second false is found = coded found

    by_first : (b : Bool) → bytes_eq first (codes ".byte") ≡ b → cond b (some_bytes words) (cond (bytes_eq first (codes ".zero")) (zeros_of_words words) (option_map Instruction (code_spelled text))) ≡ Some content → Read text content
    by_first true is found = some_are text first words content joined ((bytes_eq-Decides first (codes ".byte")).0 is) found
    by_first false is found = by_second (bytes_eq first (codes ".zero")) refl found

pub content_is : (at : ℕ) (line : List ℕ) (content : Content) → content_at at line ≡ Some content → (line ≡ content_line at content) × FitsContent content
unfolding content_at Read
content_is at line content found =
    let parts = picked (bytes_eq (take 9 line) (hex_word at ++ (32 ∷ []))) (content_of_words (drop 9 line) (words_of (drop 9 line))) content found in
    let start = (bytes_eq-Decides (take 9 line) (hex_word at ++ (32 ∷ []))).0 parts.0 in
    let text = text_is (drop 9 line) (words_of (drop 9 line)) content (sym (join_with_byte-slice_split 32 (drop 9 line))) parts.1 in
    (sym (take-append-drop 9 line) ∙ ap₂ (λ a t. a ++ t) start text.0, text.1)
