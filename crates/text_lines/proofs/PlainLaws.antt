-- Words whose bytes are all above a space: a line of them is split into them again (`words_again`), and has no line
-- feed (`joined_line`).
use Rattle.std.proofs.Common.{◌≡◌, ℕ, ◌^◌, ◌<◌, false, List, [], ◌∷◌, eqb, refl, ap, ◌∙◌, arith, lit<}
use Rattle.std.specs.Prelude.{All}
use Rattle.std.specs.Fmt.{decimal}
use Rattle.std.specs.List.{join_with_byte, slice_split}
use Rattle.std.proofs.lemmas.Bool.{eq-eqb, ne_eqb}
use Rattle.std.proofs.lemmas.Fmt.{decimal_is_IsNumeral}
use Rattle.std.proofs.lemmas.List.Elements.{All-append, All-cons, All-from_get_or, All-head, All-nil, All-tail, All-weaker}
use Rattle.std.proofs.lemmas.List.Splits.{slice_split_at, slice_split_none}
use Rattle.std.proofs.lemmas.Str.Parse.{digit_at}
use Rattle.text_lines.specs.Lines.{words_of}

-- each byte is above a space
abbrev pub IsPlain : List ℕ → Type 0
IsPlain word = All (λ b. 32 < b) word

-- no byte is a line feed
abbrev pub IsLine : List ℕ → Type 0
IsLine line = All (λ b. eqb b 10 ≡ false) line

pub decimal_plain : (n : ℕ) → n < 2 ^ 64 → IsPlain (decimal n)
decimal_plain n lt =
    All-from_get_or (λ b. 32 < b) (decimal n) 0 (λ i within. let digit = digit_at (decimal n) i (decimal_is_IsNumeral n lt).0.1 within in omega (arith, digit))

-- ---- joined words are split again

split_join : (c : ℕ) (word : List ℕ) (words : List (List ℕ)) → All (λ w. All (λ b. eqb b c ≡ false) w) (word ∷ words) → slice_split (λ b. eqb b c) (join_with_byte c (word ∷ words)) ≡ word ∷ words
split_join c word [] lack = slice_split_none (λ b. eqb b c) word (All-head (λ w. All (λ b. eqb b c ≡ false) w) word [] lack)
split_join c word (next ∷ words) lack =
    slice_split_at (λ b. eqb b c) word c (join_with_byte c (next ∷ words)) (All-head (λ w. All (λ b. eqb b c ≡ false) w) word (next ∷ words) lack) (eq-eqb c c refl)
    ∙ ap (λ ws. word ∷ ws) (split_join c next words (All-tail (λ w. All (λ b. eqb b c ≡ false) w) word (next ∷ words) lack))

no_space : (word : List ℕ) → IsPlain word → All (λ b. eqb b 32 ≡ false) word
no_space word plain = All-weaker (λ b. 32 < b) (λ b. eqb b 32 ≡ false) (λ b above. ne_eqb b 32 (λ same. omega (arith, above, same))) word plain

pub words_again : (word : List ℕ) (words : List (List ℕ)) → All IsPlain (word ∷ words) → words_of (join_with_byte 32 (word ∷ words)) ≡ word ∷ words
words_again word words plain = split_join 32 word words (All-weaker IsPlain (λ w. All (λ b. eqb b 32 ≡ false) w) no_space (word ∷ words) plain)

-- ---- joined words have no line feed

joined_above : (words : List (List ℕ)) → All IsPlain words → All (λ b. 31 < b) (join_with_byte 32 words)
joined_above [] plain = All-nil (λ b. 31 < b)
joined_above (word ∷ []) plain = All-weaker (λ b. 32 < b) (λ b. 31 < b) (λ b above. omega (arith, above)) word (All-head IsPlain word [] plain)
joined_above (word ∷ (next ∷ words)) plain =
    All-append (λ b. 31 < b) word (32 ∷ join_with_byte 32 (next ∷ words))
    (All-weaker (λ b. 32 < b) (λ b. 31 < b) (λ b above. omega (arith, above)) word (All-head IsPlain word (next ∷ words) plain))
    (All-cons (λ b. 31 < b) 32 (join_with_byte 32 (next ∷ words)) (lit< tt) (joined_above (next ∷ words) (All-tail IsPlain word (next ∷ words) plain)))

pub joined_line : (words : List (List ℕ)) → All IsPlain words → IsLine (join_with_byte 32 words)
joined_line words plain =
    All-weaker (λ b. 31 < b) (λ b. eqb b 10 ≡ false) (λ b above. ne_eqb b 10 (λ same. omega (arith, above, same))) (join_with_byte 32 words) (joined_above words plain)
