-- What the words of a plan's lines spell, and that these are their words.
use Rattle.std.proofs.Common.{◌≡◌, ℕ, ◌^◌, ◌<◌, Some, None, List, [], ◌∷◌, ◌++◌, length, get_or, take, drop, ltb, ap, ap₂, sym, ◌∙◌, arith}
use Rattle.std.specs.Prelude.{◌&&◌, slice_range}
use Rattle.std.specs.Str.Parse.{digits_value}
use Rattle.std.proofs.lemmas.Bool.{and_from, and_parts, lt-ltb, ltb-true}
use Rattle.std.proofs.lemmas.List.{drop-drop, take-append-drop}
use Rattle.std.proofs.Math.Seq.{drop-cons}
use Rattle.text_lines.specs.Number.{hex_byte_of, hex_word_of}
use Rattle.text_lines.proofs.HexLaws.{hex_byte_of-Some, hex_byte_of_is, hex_word_of-Some, hex_word_of_is, value_byte, value_word}
use Rattle.text_lines.proofs.NumberLaws.{if_text_of-None, if_text_of-Some, spelled_is, value_decimal}
use Rattle.interrupt_plan.specs.Text.{FitsByte, access_of, access_word, written_of, written_word}

-- ---- an access

pub access_of-Some : (n : ℕ) (word : List ℕ) → n < 256 → word ≡ access_word n → access_of word ≡ Some n
unfolding access_of
access_of-Some n word lt same =
    let value : digits_value 10 (drop 1 word) ≡ n = ap (λ w. digits_value 10 (drop 1 w)) same ∙ value_decimal n (omega (arith, lt)) in
    if_text_of-Some (ltb (digits_value 10 (drop 1 word)) 256) access_word (digits_value 10 (drop 1 word)) word (lt-ltb _ _ (omega (arith, value, lt))) (same ∙ ap access_word (sym value))
    ∙ ap Some value

pub access_of-None : (word : List ℕ) → ((n : ℕ) → n < 256 → word ≡ access_word n → ⊥) → access_of word ≡ None
unfolding access_of
access_of-None word never =
    if_text_of-None (ltb (digits_value 10 (drop 1 word)) 256) access_word (digits_value 10 (drop 1 word)) word (λ below same. never (digits_value 10 (drop 1 word)) (ltb-true _ _ below) same)

pub access_of_is : (word : List ℕ) (n : ℕ) → access_of word ≡ Some n → (n < 256) × (word ≡ access_word n)
unfolding access_of
access_of_is word n is =
    let parts = spelled_is (ltb (digits_value 10 (drop 1 word)) 256) access_word (digits_value 10 (drop 1 word)) word n is in
    (let below = ltb-true _ _ parts.0 in omega (arith, below, parts.2), parts.1 ∙ ap access_word parts.2)

-- ---- a byte

value_of : List ℕ → ℕ × ℕ
value_of word = (digits_value 16 (slice_range word 1 9), digits_value 16 (drop 10 word))

value_word_of : (c : ℕ) (d : ℕ × ℕ) (word : List ℕ) → d.0 < 2 ^ 32 → d.1 < 256 → word ≡ written_word (c ∷ []) d → value_of word ≡ d
unfolding value_of
value_word_of c d word l r same =
    ap₂ (λ a b. (a, b)) (ap (λ w. digits_value 16 (slice_range w 1 9)) same ∙ value_word d.0 l) (ap (λ w. digits_value 16 (drop 10 w)) same ∙ value_byte d.1 r)

pub written_of-Some : (c : ℕ) (d : ℕ × ℕ) (word : List ℕ) → FitsByte d → word ≡ written_word (c ∷ []) d → written_of (c ∷ []) word ≡ Some d
unfolding written_of value_of
written_of-Some c d word fits same =
    let v = value_of word in
    let value = value_word_of c d word fits.0 fits.1 same in
    if_text_of-Some (ltb v.0 (2 ^ 32) && ltb v.1 256) (written_word (c ∷ [])) v word
    (and_from _ _ (lt-ltb v.0 (2 ^ 32) (rw (ap (λ x. x.0) value) fits.0)) (lt-ltb v.1 256 (rw (ap (λ x. x.1) value) fits.1))) (same ∙ ap (written_word (c ∷ [])) (sym value))
    ∙ ap Some value

pub written_of-None : (c : ℕ) (word : List ℕ) → ((d : ℕ × ℕ) → FitsByte d → word ≡ written_word (c ∷ []) d → ⊥) → written_of (c ∷ []) word ≡ None
unfolding written_of value_of
written_of-None c word never =
    let v = value_of word in
    if_text_of-None (ltb v.0 (2 ^ 32) && ltb v.1 256) (written_word (c ∷ [])) v word (λ small same.
    let both = and_parts (ltb v.0 (2 ^ 32)) (ltb v.1 256) small in
    never v (ltb-true _ _ both.0, ltb-true _ _ both.1) same)

pub written_of_is : (c : ℕ) (word : List ℕ) (d : ℕ × ℕ) → written_of (c ∷ []) word ≡ Some d → FitsByte d × (word ≡ written_word (c ∷ []) d)
unfolding written_of value_of
written_of_is c word d is =
    let v = value_of word in
    let parts = spelled_is (ltb v.0 (2 ^ 32) && ltb v.1 256) (written_word (c ∷ [])) v word d is in
    let both = and_parts (ltb v.0 (2 ^ 32)) (ltb v.1 256) parts.0 in
    ((rw (← ap (λ x. x.0) parts.2) (ltb-true v.0 (2 ^ 32) both.0), rw (← ap (λ x. x.1) parts.2) (ltb-true v.1 256 both.1)), parts.1 ∙ ap (written_word (c ∷ [])) parts.2)

-- ---- what the readers find

-- the length of a word that spells a byte, and what stands in the places of its letter and of `:`
abbrev pub HasMarks : ℕ → List ℕ → Type 0
HasMarks c word = (length word ≡ 12) × (get_or word 0 0 ≡ c) × (get_or word 9 0 ≡ 58)

-- a word without them spells no byte
pub written_of-marks : (c : ℕ) (word : List ℕ) → (HasMarks c word → ⊥) → written_of (c ∷ []) word ≡ None
written_of-marks c word never =
    written_of-None c word (λ d fits same. never (ap length same, ap (λ w. get_or w 0 0) same, ap (λ w. get_or w 9 0) same))

-- a word whose digits are no address or no byte spells no byte
pub written_of-address : (c : ℕ) (word : List ℕ) → hex_word_of (take 8 (drop 1 word)) ≡ None → written_of (c ∷ []) word ≡ None
written_of-address c word bad =
    written_of-None c word (λ d fits same. let good = hex_word_of-Some d.0 (take 8 (drop 1 word)) fits.0 (ap (λ w. take 8 (drop 1 w)) same) in cc)

pub written_of-byte : (c : ℕ) (word : List ℕ) → hex_byte_of (drop 10 word) ≡ None → written_of (c ∷ []) word ≡ None
written_of-byte c word bad =
    written_of-None c word (λ d fits same. let good = hex_byte_of-Some d.1 (drop 10 word) fits.1 (ap (drop 10) same) in cc)

marked : (c : ℕ) (word : List ℕ) → HasMarks c word → word ≡ c ∷ (take 8 (drop 1 word) ++ (58 ∷ drop 10 word))
marked c word marks =
    let first : 0 < length word = omega (arith, marks.0) in
    let tenth : 9 < length word = omega (arith, marks.0) in
    drop-cons word 0 0 first
    ∙ ap₂ (λ b rest. b ∷ rest) marks.1
    (sym (take-append-drop 8 (drop 1 word))
    ∙ ap (λ rest. take 8 (drop 1 word) ++ rest) (drop-drop 8 1 word ∙ drop-cons word 9 0 tenth ∙ ap (λ b. b ∷ drop 10 word) marks.2))

pub byte_read : (c : ℕ) (word : List ℕ) (a b : ℕ) → HasMarks c word → hex_word_of (take 8 (drop 1 word)) ≡ Some a → hex_byte_of (drop 10 word) ≡ Some b → written_of (c ∷ []) word ≡ Some (a, b)
byte_read c word a b marks address byte =
    let l = hex_word_of_is (take 8 (drop 1 word)) a address in
    let r = hex_byte_of_is (drop 10 word) b byte in
    written_of-Some c (a, b) word (l.0, r.0) (marked c word marks ∙ ap₂ (λ x y. c ∷ (x ++ (58 ∷ y))) l.1 r.1)
