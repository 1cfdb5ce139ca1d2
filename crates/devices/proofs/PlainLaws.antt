-- No word of a text of devices holds a space or a line feed, so its lines and words are found again.
use Rattle.std.proofs.Common.{◌≡◌, ℕ, ◌+◌, ◌/◌, ◌%◌, ◌^◌, ◌<◌, false, List, [], ◌∷◌, map, eqb, ltb, ne_eqb, arith, lit<}
use Rattle.std.specs.Prelude.{All, codes}
use Rattle.std.proofs.lemmas.Bool.{cond_both}
use Rattle.std.proofs.lemmas.List.Elements.{All-cons, All-from_recursion, All-map, All-nil, All-weaker}
use Rattle.text_lines.specs.Hex.{hex_byte, hex_digit, hex_word}
use Rattle.text_lines.specs.Lines.{words_of}
use Rattle.text_lines.proofs.PlainLaws.{IsLine, IsPlain, joined_line, words_again}
use Rattle.devices.specs.Lines.{DevicesLine, Range, Registers, Reset, Output, Answer, Then}
use Rattle.devices.specs.Text.{devices_line, devices_title, devices_words}

-- ---- words are plain

hex_plain : (d : ℕ) → 32 < hex_digit d
hex_plain d = cond_both (ltb d 10) (48 + d) (87 + d) (λ x. 32 < x) (λ _. omega arith) (λ _. omega arith)

word_plain : (n : ℕ) → IsPlain (hex_word n)
word_plain n =
    let h = λ (shift : ℕ). hex_plain (n / 2 ^ shift % 16) in
    All-from_recursion (λ b. 32 < b) (hex_word n) (h 28, (h 24, (h 20, (h 16, (h 12, (h 8, (h 4, (h 0, tt))))))))

byte_plain : (n : ℕ) → IsPlain (hex_byte n)
byte_plain n =
    let h = λ (shift : ℕ). hex_plain (n / 2 ^ shift % 16) in
    All-from_recursion (λ b. 32 < b) (hex_byte n) (h 4, (h 0, tt))

bytes_plain : (bytes : List ℕ) → All IsPlain (map hex_byte bytes)
bytes_plain bytes = All-map IsPlain hex_byte bytes (λ k d lt. byte_plain _)

six_plain : (a b c d e f : ℕ) → 32 < a → 32 < b → 32 < c → 32 < d → 32 < e → 32 < f → IsPlain (a ∷ (b ∷ (c ∷ (d ∷ (e ∷ (f ∷ []))))))
six_plain a b c d e f la lb lc ld le lf = All-from_recursion (λ x. 32 < x) (a ∷ (b ∷ (c ∷ (d ∷ (e ∷ (f ∷ [])))))) (la, (lb, (lc, (ld, (le, (lf, tt))))))

words_plain : (l : DevicesLine) → All IsPlain (devices_words l)
words_plain (Range d) =
    All-cons IsPlain (codes "device") (hex_word d.at ∷ (hex_word d.size ∷ [])) (six_plain 100 101 118 105 99 101 (lit< tt) (lit< tt) (lit< tt) (lit< tt) (lit< tt) (lit< tt))
    (All-cons IsPlain (hex_word d.at) (hex_word d.size ∷ []) (word_plain d.at)
    (All-cons IsPlain (hex_word d.size) [] (word_plain d.size) (All-nil IsPlain)))
words_plain Registers =
    All-cons IsPlain (codes "registers") [] (All-from_recursion (λ b. 32 < b) (codes "registers") (lit< tt, (lit< tt, (lit< tt, (lit< tt, (lit< tt, (lit< tt, (lit< tt, (lit< tt, (lit< tt, tt)))))))))) (All-nil IsPlain)
words_plain Reset =
    All-cons IsPlain (codes "reset") [] (All-from_recursion (λ b. 32 < b) (codes "reset") (lit< tt, (lit< tt, (lit< tt, (lit< tt, (lit< tt, tt)))))) (All-nil IsPlain)
words_plain (Output a) =
    All-cons IsPlain (codes "output") (hex_word a ∷ []) (six_plain 111 117 116 112 117 116 (lit< tt) (lit< tt) (lit< tt) (lit< tt) (lit< tt) (lit< tt))
    (All-cons IsPlain (hex_word a) [] (word_plain a) (All-nil IsPlain))
words_plain (Answer bytes) =
    All-cons IsPlain (codes "answer") (map hex_byte bytes) (six_plain 97 110 115 119 101 114 (lit< tt) (lit< tt) (lit< tt) (lit< tt) (lit< tt) (lit< tt)) (bytes_plain bytes)
words_plain (Then bytes) =
    All-cons IsPlain (codes "then") (map hex_byte bytes) (All-from_recursion (λ b. 32 < b) (codes "then") (lit< tt, (lit< tt, (lit< tt, (lit< tt, tt))))) (bytes_plain bytes)

-- ---- a line is split into its words again, and has no line feed

pub words_back : (l : DevicesLine) → words_of (devices_line l) ≡ devices_words l
words_back (Range d) = words_again (codes "device") (hex_word d.at ∷ (hex_word d.size ∷ [])) (words_plain (Range d))
words_back Registers = words_again (codes "registers") [] (words_plain Registers)
words_back Reset = words_again (codes "reset") [] (words_plain Reset)
words_back (Output a) = words_again (codes "output") (hex_word a ∷ []) (words_plain (Output a))
words_back (Answer bytes) = words_again (codes "answer") (map hex_byte bytes) (words_plain (Answer bytes))
words_back (Then bytes) = words_again (codes "then") (map hex_byte bytes) (words_plain (Then bytes))

pub no_line_feed : (l : DevicesLine) → IsLine (devices_line l)
no_line_feed l = joined_line (devices_words l) (words_plain l)

pub title_line : IsLine devices_title
title_line =
    All-weaker (λ b. 31 < b) (λ b. eqb b 10 ≡ false) (λ b more. ne_eqb b 10 (λ same. omega (arith, more, same))) devices_title
    (All-from_recursion (λ b. 31 < b) devices_title (lit< tt, (lit< tt, (lit< tt, (lit< tt, (lit< tt, (lit< tt, (lit< tt, (lit< tt, (lit< tt, (lit< tt, (lit< tt, (lit< tt, (lit< tt, (lit< tt, tt)))))))))))))))
