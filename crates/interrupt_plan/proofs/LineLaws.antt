-- A line's words are read from the first on: what is read so far, followed by what the other words spell.
use Rattle.std.proofs.Common.{◌≡◌, ℕ, ◌+◌, Some, None, Option, List, [], ◌∷◌, ◌++◌, true, false, eqb, length, refl, ap, ◌∙◌, Bor}
use Rattle.std.specs.Option.{option_and_then, option_copied}
use Rattle.std.specs.Prelude.{bytes_eq, codes, is_some}
use Rattle.std.proofs.lemmas.Bool.{cond-false, cond-true, false≢true}
use Rattle.text_lines.specs.Lines.{words_in, words_of}
use Rattle.text_lines.specs.Number.{decimal_of}
use Rattle.text_lines.proofs.SplitLaws.{some_part}
use Rattle.interrupt_plan.specs.SharedPlan.{SharedEntry}
use Rattle.interrupt_plan.specs.Text.{access_of, entry_from, entry_of_parts, entry_of_words, if_none_left, leading, written_of}

-- what is left of a line
abbrev pub room : Option (List ℕ) → ℕ
room None = 0
room (Some line) = length line + 1

-- ---- what the first words spell

-- values, followed by what the other words spell
abbrev pub after_values : {A : Type 0} → List A → List A × List (List ℕ) → List A × List (List ℕ)
after_values xs others = (xs ++ others.0, others.1)

-- ---- what a line's other words spell

-- accesses, bytes and cells, taken off one after another
pub parts_read : (at : ℕ) (words behind_done behind_dirt left : List (List ℕ)) (done : List ℕ) (dirt cells : List (ℕ × ℕ)) → leading access_of words ≡ (done, behind_done) → leading (written_of (codes "d")) behind_done ≡ (dirt, behind_dirt) → leading (written_of (codes "s")) behind_dirt ≡ (cells, left) → entry_of_parts at words ≡ if_none_left (entry_from at done dirt cells) left
parts_read at words behind_done behind_dirt left done dirt cells first second third = rw (first, second, third) refl

-- words are left
pub some_left : (e : SharedEntry) (rest : Option (Bor (List ℕ))) → is_some rest ≡ true → if_none_left e (words_in (option_copied rest)) ≡ None
some_left e (Some line) is = let parts = some_part (λ b. eqb b 32) line.now in ap (if_none_left e) parts.2
some_left e None is = absurd (false≢true is)

-- ---- a line's first two words, and what its other words spell

-- the words of a line, taken off one after another
pub two_words : (line first rest number : List ℕ) (behind others : Option (List ℕ)) → words_of line ≡ first ∷ words_in behind → behind ≡ Some rest → words_of rest ≡ number ∷ words_in others → words_of line ≡ first ∷ (number ∷ words_in others)
two_words line first rest number behind others is some then = is ∙ ap (λ b. first ∷ words_in b) some ∙ ap (λ ws. first ∷ ws) then

pub one_word : (line first : List ℕ) (behind : Option (List ℕ)) → words_of line ≡ first ∷ words_in behind → behind ≡ None → entry_of_words (words_of line) ≡ None
unfolding entry_of_words
one_word line first behind is none = ap entry_of_words (is ∙ ap (λ b. first ∷ words_in b) none)

pub other_word : (words others : List (List ℕ)) (first : List ℕ) → words ≡ first ∷ others → bytes_eq first (codes "cut") ≡ false → entry_of_words words ≡ None
unfolding entry_of_words
other_word words [] first is other = ap entry_of_words is
other_word words (number ∷ others) first is other =
    ap entry_of_words is ∙ cond-false (bytes_eq first (codes "cut")) (option_and_then (λ at. entry_of_parts at others) (decimal_of 0xFFFF_FFFF_FFFF_FFFF number)) None other

-- after `cut` come a number and other words
module _ (words others : List (List ℕ)) (first number : List ℕ) (is : words ≡ first ∷ (number ∷ others)) (cut : bytes_eq first (codes "cut") ≡ true) where
  behind_cut : entry_of_words words ≡ option_and_then (λ at. entry_of_parts at others) (decimal_of 0xFFFF_FFFF_FFFF_FFFF number)
  unfolding entry_of_words
  behind_cut =
      ap entry_of_words is ∙ cond-true (bytes_eq first (codes "cut")) (option_and_then (λ at. entry_of_parts at others) (decimal_of 0xFFFF_FFFF_FFFF_FFFF number)) None cut

  pub bad_number : decimal_of 0xFFFF_FFFF_FFFF_FFFF number ≡ None → entry_of_words words ≡ None
  bad_number bad = behind_cut ∙ ap (option_and_then (λ at. entry_of_parts at others)) bad

  pub numbered : (at : ℕ) → decimal_of 0xFFFF_FFFF_FFFF_FFFF number ≡ Some at → entry_of_words words ≡ entry_of_parts at others
  numbered at good = behind_cut ∙ ap (option_and_then (λ at. entry_of_parts at others)) good
