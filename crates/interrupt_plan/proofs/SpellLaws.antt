-- The words of an entry spell it, and no others do.
use Rattle.std.proofs.Common.{◌≡◌, ◌≢◌, ℕ, ◌<◌, Some, None, Option, List, [], ◌∷◌, ◌++◌, map, get_or, refl, ap, ap₂, sym, subst, ◌∙◌, append-nil, arith, lit<}
use Rattle.std.specs.Prelude.{All, bytes_eq, codes}
use Rattle.std.specs.Fmt.{decimal}
use Rattle.std.specs.Option.{option_and_then}
use Rattle.std.proofs.lemmas.List.Elements.{All-cons, All-head, All-nil, All-tail}
use Rattle.std.proofs.lemmas.Option.{none-some, option_and_then_some, same_Some}
use Rattle.std.proofs.lemmas.Slice.Eq.{bytes_eq-Decides}
use Rattle.text_lines.specs.Number.{decimal_of}
use Rattle.text_lines.proofs.NumberLaws.{decimal_of-Some, number_of_is}
use Rattle.text_lines.proofs.OptionLaws.{picked}
use Rattle.interrupt_plan.specs.SharedPlan.{SharedEntry}
use Rattle.interrupt_plan.specs.Text.{FitsByte, FitsEntry, access_of, access_word, before_others, entry_from, entry_of_parts, entry_of_words, entry_words, if_none_left, leading, part_words, written_of, written_word}
use Rattle.interrupt_plan.proofs.LineLaws.{parts_read}
use Rattle.interrupt_plan.proofs.WordLaws.{access_of-None, access_of-Some, access_of_is, written_of-None, written_of-Some, written_of_is}

-- ---- what the first words spell

module _ {A : Type 0} (spelled : List ℕ → Option A) (text : A → List ℕ) (Fits : A → Type 0) where
  -- words are the texts of what the first of them spell, and the others
  AreLeading : List (List ℕ) → List A × List (List ℕ) → Type 0
  AreLeading words r = (words ≡ map text r.0 ++ r.1) × All Fits r.0

  pub leading_is : ((word : List ℕ) (x : A) → spelled word ≡ Some x → Fits x × (word ≡ text x)) → (words : List (List ℕ)) → (words ≡ map text (leading spelled words).0 ++ (leading spelled words).1) × All Fits (leading spelled words).0
  unfolding AreLeading
  leading_is is [] = (refl, All-nil Fits)
  leading_is is (word ∷ words) = either (leading_is is words) (spelled word) refl
    where
      either : AreLeading words (leading spelled words) → (o : Option A) → spelled word ≡ o → AreLeading (word ∷ words) (before_others o (word ∷ words) (leading spelled words))
      either there None first = (refl, All-nil Fits)
      either there (Some x) first =
          let here = is word x first in
          (ap₂ (λ w ws. w ∷ ws) here.1 there.0, All-cons Fits x (leading spelled words).0 here.0 there.1)

  -- the texts of values spell them, up to words of which the first spells nothing
  pub leading_back : ((x : A) → Fits x → spelled (text x) ≡ Some x) → (xs : List A) (rest : List (List ℕ)) → All Fits xs → leading spelled rest ≡ ([], rest) → leading spelled (map text xs ++ rest) ≡ (xs, rest)
  leading_back back [] rest fits stops = stops
  leading_back back (x ∷ xs) rest fits stops =
      ap (λ o. before_others o (text x ∷ (map text xs ++ rest)) (leading spelled (map text xs ++ rest))) (back x (All-head Fits x xs fits))
      ∙ ap (λ r. (x ∷ r.0, r.1)) (leading_back back xs rest (All-tail Fits x xs fits) stops)

-- texts of other values spell nothing
leading_none : {A B : Type 0} (spelled : List ℕ → Option A) (text : B → List ℕ) → ((y : B) → spelled (text y) ≡ None) → (ys : List B) (rest : List (List ℕ)) → leading spelled rest ≡ ([], rest) → leading spelled (map text ys ++ rest) ≡ ([], map text ys ++ rest)
leading_none spelled text none [] rest stops = stops
leading_none spelled text none (y ∷ ys) rest stops =
    ap (λ o. before_others o (text y ∷ (map text ys ++ rest)) (leading spelled (map text ys ++ rest))) (none y)

leading_none_last : {A B : Type 0} (spelled : List ℕ → Option A) (text : B → List ℕ) → ((y : B) → spelled (text y) ≡ None) → (ys : List B) → leading spelled (map text ys) ≡ ([], map text ys)
leading_none_last spelled text none ys =
    let P : List (List ℕ) → Type 0 = λ words. leading spelled words ≡ ([], words) in
    subst P (append-nil (map text ys)) (leading_none spelled text none ys [] refl)

-- ---- if words spell an entry, they are the entry's words

none_left_is : (e f : SharedEntry) (left : List (List ℕ)) → if_none_left e left ≡ Some f → (left ≡ []) × (e ≡ f)
none_left_is e f [] is = (refl, same_Some e f is)
none_left_is e f (word ∷ words) is = absurd (none-some f is)

ReadParts : ℕ → List (List ℕ) → SharedEntry → Type 0
ReadParts at words e =
    (at ≡ e.entry.at) × (words ≡ part_words e) × All (λ n. n < 256) e.entry.cut.done × All FitsByte e.entry.cut.dirt × All FitsByte e.cells

parts_are : (at : ℕ) (words : List (List ℕ)) (e : SharedEntry) → entry_of_parts at words ≡ Some e → ReadParts at words e
unfolding ReadParts
parts_are at words e is =
    let done = leading access_of words in
    let dirt = leading (written_of (codes "d")) done.1 in
    let cells = leading (written_of (codes "s")) dirt.1 in
    let first = leading_is access_of access_word (λ n. n < 256) access_of_is words in
    let second = leading_is (written_of (codes "d")) (written_word (codes "d")) FitsByte (written_of_is 100) done.1 in
    let third = leading_is (written_of (codes "s")) (written_word (codes "s")) FitsByte (written_of_is 115) dirt.1 in
    let last = none_left_is (entry_from at done.0 dirt.0 cells.0) e cells.1 is in
    let end : dirt.1 ≡ map (written_word (codes "s")) cells.0 = third.0 ∙ ap (λ ws. map (written_word (codes "s")) cells.0 ++ ws) last.0 ∙ append-nil (map (written_word (codes "s")) cells.0) in
    subst (ReadParts at words) last.1 (
      refl,
      first.0 ∙ ap (λ ws. map access_word done.0 ++ ws) (second.0 ∙ ap (λ ws. map (written_word (codes "d")) dirt.0 ++ ws) end),
      first.1,
      second.1,
      third.1,
    )

pub entry_of_is : (words : List (List ℕ)) (e : SharedEntry) → entry_of_words words ≡ Some e → (words ≡ entry_words e) × FitsEntry e
unfolding entry_of_words ReadParts
entry_of_is [] e is = absurd (none-some e is)
entry_of_is (first ∷ []) e is = absurd (none-some e is)
entry_of_is (first ∷ (number ∷ words)) e is =
    let parts = picked (bytes_eq first (codes "cut")) (option_and_then (λ at. entry_of_parts at words) (decimal_of 0xFFFF_FFFF_FFFF_FFFF number)) e is in
    option_and_then_some (λ at. entry_of_parts at words) (decimal_of 0xFFFF_FFFF_FFFF_FFFF number) e parts.1 (λ at second rest.
    let cut = (bytes_eq-Decides first (codes "cut")).0 parts.0 in
    let n = number_of_is 0xFFFF_FFFF_FFFF_FFFF number at second in
    let there = parts_are at words e rest in
    (ap₂ (λ w ws. w ∷ ws) cut (ap₂ (λ w ws. w ∷ ws) (n.1 ∙ ap decimal there.0) there.1), (omega (arith, n.0, there.0), there.2, there.3, there.4)))

-- ---- the words of an entry spell it

no_access : (c : ℕ) → c ≢ 97 → (d : ℕ × ℕ) → access_of (written_word (c ∷ []) d) ≡ None
no_access c other d = access_of-None (written_word (c ∷ []) d) (λ n lt same. other (ap (λ w. get_or w 0 0) same))

no_byte : (b c : ℕ) → c ≢ b → (d : ℕ × ℕ) → written_of (b ∷ []) (written_word (c ∷ []) d) ≡ None
no_byte b c other d = written_of-None b (written_word (c ∷ []) d) (λ x fits same. other (ap (λ w. get_or w 0 0) same))

byte_back : (c : ℕ) (d : ℕ × ℕ) → FitsByte d → written_of (c ∷ []) (written_word (c ∷ []) d) ≡ Some d
byte_back c d fits = written_of-Some c d (written_word (c ∷ []) d) fits refl

parts_back : (e : SharedEntry) → FitsEntry e → entry_of_parts e.entry.at (part_words e) ≡ Some e
parts_back e fits =
    let dirt_words = map (written_word (codes "d")) e.entry.cut.dirt in
    let cell_words = map (written_word (codes "s")) e.cells in
    let first = leading_back access_of access_word (λ n. n < 256) (λ n lt. access_of-Some n (access_word n) lt refl) e.entry.cut.done (dirt_words ++ cell_words) fits.1
    (leading_none access_of (written_word (codes "d")) (no_access 100 (λ same. absurd (omega (arith, same)))) e.entry.cut.dirt cell_words
    (leading_none_last access_of (written_word (codes "s")) (no_access 115 (λ same. absurd (omega (arith, same)))) e.cells)) in
    let second = leading_back (written_of (codes "d")) (written_word (codes "d")) FitsByte (byte_back 100) e.entry.cut.dirt cell_words fits.2
    (leading_none_last (written_of (codes "d")) (written_word (codes "s")) (no_byte 100 115 (λ same. absurd (omega (arith, same)))) e.cells) in
    let third : leading (written_of (codes "s")) cell_words ≡ (e.cells, []) =
    ap (leading (written_of (codes "s"))) (sym (append-nil cell_words))
    ∙ leading_back (written_of (codes "s")) (written_word (codes "s")) FitsByte (byte_back 115) e.cells [] fits.3 refl in
    parts_read e.entry.at (part_words e) (dirt_words ++ cell_words) cell_words [] e.entry.cut.done e.entry.cut.dirt e.cells first second third

pub entry_back : (e : SharedEntry) → FitsEntry e → entry_of_words (entry_words e) ≡ Some e
unfolding entry_of_words
entry_back e fits =
    ap (option_and_then (λ at. entry_of_parts at (part_words e))) (decimal_of-Some 0xFFFF_FFFF_FFFF_FFFF e.entry.at (decimal e.entry.at) (lit< tt) (omega (arith, fits.0)) refl)
    ∙ parts_back e fits
