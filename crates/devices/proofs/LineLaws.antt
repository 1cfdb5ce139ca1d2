-- What the words of a line spell, as they are taken off one after another.
use Rattle.std.proofs.Common.{◌≡◌, ℕ, ◌+◌, Some, None, Option, List, [], ◌∷◌, ◌++◌, true, false, cond, eqb, length, refl, ap, sym, ◌∙◌, append_assoc, Bor}
use Rattle.std.specs.Option.{option_and_then, option_copied, option_map}
use Rattle.std.specs.Prelude.{bytes_eq, codes, is_some}
use Rattle.std.proofs.lemmas.Bool.{cond-false, cond-true, false≢true}
use Rattle.text_lines.specs.Lines.{words_in}
use Rattle.text_lines.specs.Number.{hex_byte_of, hex_word_of}
use Rattle.text_lines.proofs.SplitLaws.{some_part}
use Rattle.devices.specs.Lines.{DevicesLine, Range, Registers, Reset, Answer, Then}
use Rattle.devices.specs.Text.{line_alone, line_bytes, line_of_words, line_output, line_range}

-- what is left of a line
abbrev pub room : Option (List ℕ) → ℕ
room None = 0
room (Some line) = length line + 1

-- ---- the first word

-- what a line is by its first word
abbrev pub by_then : List ℕ → List (List ℕ) → Option DevicesLine
by_then first others = cond (bytes_eq first (codes "then")) (option_map Then (line_bytes others)) None

abbrev pub by_answer : List ℕ → List (List ℕ) → Option DevicesLine
by_answer first others = cond (bytes_eq first (codes "answer")) (option_map Answer (line_bytes others)) (by_then first others)

abbrev pub by_output : List ℕ → List (List ℕ) → Option DevicesLine
by_output first others = cond (bytes_eq first (codes "output")) (line_output others) (by_answer first others)

abbrev pub by_reset : List ℕ → List (List ℕ) → Option DevicesLine
by_reset first others = cond (bytes_eq first (codes "reset")) (line_alone Reset others) (by_output first others)

abbrev pub by_registers : List ℕ → List (List ℕ) → Option DevicesLine
by_registers first others = cond (bytes_eq first (codes "registers")) (line_alone Registers others) (by_reset first others)

module _ (words : List (List ℕ)) (first : List ℕ) (others : List (List ℕ)) (is : words ≡ first ∷ others) where
  pub is_device : bytes_eq first (codes "device") ≡ true → line_of_words words ≡ line_range others
  unfolding line_of_words
  is_device same = ap line_of_words is ∙ cond-true (bytes_eq first (codes "device")) (line_range others) (by_registers first others) same

  module _ (no_device : bytes_eq first (codes "device") ≡ false) where
    behind_device : line_of_words words ≡ by_registers first others
    unfolding line_of_words
    behind_device = ap line_of_words is ∙ cond-false (bytes_eq first (codes "device")) (line_range others) (by_registers first others) no_device

    pub is_registers_line : bytes_eq first (codes "registers") ≡ true → line_of_words words ≡ line_alone Registers others
    is_registers_line same = behind_device ∙ cond-true (bytes_eq first (codes "registers")) (line_alone Registers others) (by_reset first others) same

    module _ (no_registers : bytes_eq first (codes "registers") ≡ false) where
      behind_registers : line_of_words words ≡ by_reset first others
      behind_registers = behind_device ∙ cond-false (bytes_eq first (codes "registers")) (line_alone Registers others) (by_reset first others) no_registers

      pub is_reset_line : bytes_eq first (codes "reset") ≡ true → line_of_words words ≡ line_alone Reset others
      is_reset_line same = behind_registers ∙ cond-true (bytes_eq first (codes "reset")) (line_alone Reset others) (by_output first others) same

      module _ (no_reset : bytes_eq first (codes "reset") ≡ false) where
        behind_reset : line_of_words words ≡ by_output first others
        behind_reset = behind_registers ∙ cond-false (bytes_eq first (codes "reset")) (line_alone Reset others) (by_output first others) no_reset

        pub is_output : bytes_eq first (codes "output") ≡ true → line_of_words words ≡ line_output others
        is_output same = behind_reset ∙ cond-true (bytes_eq first (codes "output")) (line_output others) (by_answer first others) same

        module _ (no_output : bytes_eq first (codes "output") ≡ false) where
          behind_output : line_of_words words ≡ by_answer first others
          behind_output = behind_reset ∙ cond-false (bytes_eq first (codes "output")) (line_output others) (by_answer first others) no_output

          pub is_answers : bytes_eq first (codes "answer") ≡ true → line_of_words words ≡ option_map Answer (line_bytes others)
          is_answers same = behind_output ∙ cond-true (bytes_eq first (codes "answer")) (option_map Answer (line_bytes others)) (by_then first others) same

          module _ (no_answer : bytes_eq first (codes "answer") ≡ false) where
            behind_answer : line_of_words words ≡ by_then first others
            behind_answer = behind_output ∙ cond-false (bytes_eq first (codes "answer")) (option_map Answer (line_bytes others)) (by_then first others) no_answer

            pub is_last : bytes_eq first (codes "then") ≡ true → line_of_words words ≡ option_map Then (line_bytes others)
            is_last same = behind_answer ∙ cond-true (bytes_eq first (codes "then")) (option_map Then (line_bytes others)) None same

            pub is_none_of_these : bytes_eq first (codes "then") ≡ false → line_of_words words ≡ None
            is_none_of_these other = behind_answer ∙ cond-false (bytes_eq first (codes "then")) (option_map Then (line_bytes others)) None other

-- ---- words that are left

-- a rest of a line has a word
pub some_word : {A : Type 0} (f : List (List ℕ) → A) (none : A) → ((word : List ℕ) (words : List (List ℕ)) → f (word ∷ words) ≡ none) → (rest : Option (Bor (List ℕ))) → is_some rest ≡ true → f (words_in (option_copied rest)) ≡ none
some_word f none always (Some line) is = let parts = some_part (λ b. eqb b 32) line.now in ap f parts.2 ∙ always _ _
some_word f none always None is = absurd (false≢true is)

pub no_word : (rest : Option (Bor (List ℕ))) → is_some rest ≡ false → words_in (option_copied rest) ≡ []
no_word (Some line) is = absurd (false≢true (sym is))
no_word None is = refl

-- ---- bytes

-- bytes, followed by those of the other words
abbrev pub with_bytes : List ℕ → Option (List ℕ) → Option (List ℕ)
with_bytes bytes others = option_map (λ more. bytes ++ more) others

pub bytes_more : (bytes new word : List ℕ) (words : List (List ℕ)) (b : ℕ) → hex_byte_of word ≡ Some b → new ≡ bytes ++ (b ∷ []) → with_bytes bytes (line_bytes (word ∷ words)) ≡ with_bytes new (line_bytes words)
bytes_more bytes new word words b is pushed =
    ap (λ o. with_bytes bytes (option_and_then (λ x. option_map (λ more. x ∷ more) (line_bytes words)) o)) is
    ∙ by (line_bytes words)
    ∙ ap (λ l. with_bytes l (line_bytes words)) (sym pushed)
  where
    by : (o : Option (List ℕ)) → with_bytes bytes (option_map (λ more. b ∷ more) o) ≡ with_bytes (bytes ++ (b ∷ [])) o
    by None = refl
    by (Some more) = ap Some (sym (append_assoc bytes (b ∷ []) more))

pub bytes_bad : (bytes word : List ℕ) (words : List (List ℕ)) → hex_byte_of word ≡ None → with_bytes bytes (line_bytes (word ∷ words)) ≡ None
bytes_bad bytes word words bad = ap (λ o. with_bytes bytes (option_and_then (λ x. option_map (λ more. x ∷ more) (line_bytes words)) o)) bad

pub bytes_none : (o : Option (List ℕ)) → with_bytes [] o ≡ o
bytes_none None = refl
bytes_none (Some more) = refl

-- ---- a range

pub range_read : (first second : List ℕ) (a n : ℕ) → hex_word_of first ≡ Some a → hex_word_of second ≡ Some n → line_range (first ∷ (second ∷ [])) ≡ Some (Range (record { at = a; size = n }))
range_read first second a n one two =
    ap (option_and_then (λ at. option_map (λ size. Range (record { at = at; size = size })) (hex_word_of second))) one
    ∙ ap (option_map (λ size. Range (record { at = a; size = size }))) two
