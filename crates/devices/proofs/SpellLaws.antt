-- The words of a line spell it, and no others do.
use Rattle.std.proofs.Common.{◌≡◌, ℕ, ◌<◌, Some, None, Bool, true, false, cond, List, [], ◌∷◌, map, refl, ap, ap₂, subst, ◌∙◌}
use Rattle.std.specs.Prelude.{All, bytes_eq, codes}
use Rattle.std.specs.Option.{option_and_then, option_map}
use Rattle.std.proofs.lemmas.List.Elements.{All-cons, All-head, All-nil, All-tail}
use Rattle.std.proofs.lemmas.Option.{none-some, option_and_then_some, same_Some}
use Rattle.std.proofs.lemmas.Slice.Eq.{bytes_eq-Decides}
use Rattle.text_lines.specs.Hex.{hex_byte, hex_word}
use Rattle.text_lines.specs.Number.{hex_byte_of, hex_word_of}
use Rattle.text_lines.proofs.HexLaws.{hex_byte_of-Some, hex_byte_of_is, hex_word_of-Some, hex_word_of_is}
use Rattle.text_lines.proofs.OptionLaws.{mapped}
use Rattle.devices.specs.Lines.{DevicesLine, Range, Registers, Reset, Output, Answer, Then}
use Rattle.devices.specs.Text.{FitsLine, devices_words, line_alone, line_bytes, line_of_words, line_output, line_range}
use Rattle.devices.proofs.LineLaws.{by_answer, by_output, by_registers, by_reset, by_then}

-- ---- bytes

AreBytes : List (List ℕ) → List ℕ → Type 0
AreBytes words bytes = (words ≡ map hex_byte bytes) × All (λ b. b < 256) bytes

bytes_are : (words : List (List ℕ)) (bytes : List ℕ) → line_bytes words ≡ Some bytes → AreBytes words bytes
unfolding AreBytes
bytes_are [] bytes is = subst (AreBytes []) (same_Some [] bytes is) (refl, All-nil (λ b. b < 256))
bytes_are (word ∷ words) bytes is =
    option_and_then_some (λ b. option_map (λ more. b ∷ more) (line_bytes words)) (hex_byte_of word) bytes is (λ b first rest.
    mapped (λ more. b ∷ more) (line_bytes words) bytes rest (λ more others same.
    let here = hex_byte_of_is word b first in
    let there = bytes_are words more others in
    subst (AreBytes (word ∷ words)) same (ap₂ (λ w ws. w ∷ ws) here.1 there.0, All-cons (λ x. x < 256) b more here.0 there.1)))

bytes_back : (bytes : List ℕ) → All (λ b. b < 256) bytes → line_bytes (map hex_byte bytes) ≡ Some bytes
bytes_back [] fits = refl
bytes_back (b ∷ bytes) fits =
    ap (option_and_then (λ x. option_map (λ more. x ∷ more) (line_bytes (map hex_byte bytes)))) (hex_byte_of-Some b (hex_byte b) (All-head (λ x. x < 256) b bytes fits) refl)
    ∙ ap (option_map (λ more. b ∷ more)) (bytes_back bytes (All-tail (λ x. x < 256) b bytes fits))

-- ---- if words spell a line, they are the line's words

IsSpelled : List (List ℕ) → DevicesLine → Type 0
IsSpelled words l = (words ≡ devices_words l) × FitsLine l

range_is : (first : List ℕ) (words : List (List ℕ)) (l : DevicesLine) → first ≡ codes "device" → line_range words ≡ Some l → IsSpelled (first ∷ words) l
unfolding IsSpelled
range_is first [] l same is = absurd (none-some l is)
range_is first (a ∷ []) l same is = absurd (none-some l is)
range_is first (a ∷ (s ∷ [])) l same is =
    option_and_then_some (λ at. option_map (λ n. Range (record { at = at; size = n })) (hex_word_of s)) (hex_word_of a) l is (λ at one rest.
    mapped (λ n. Range (record { at = at; size = n })) (hex_word_of s) l rest (λ n two all.
    let p = hex_word_of_is a at one in
    let q = hex_word_of_is s n two in
    subst (IsSpelled (first ∷ (a ∷ (s ∷ [])))) all (ap₂ (λ w ws. w ∷ ws) same (ap₂ (λ v w. v ∷ (w ∷ [])) p.1 q.1), (p.0, q.0))))
range_is first (a ∷ (s ∷ (x ∷ xs))) l same is = absurd (none-some l is)

output_is : (first : List ℕ) (words : List (List ℕ)) (l : DevicesLine) → first ≡ codes "output" → line_output words ≡ Some l → IsSpelled (first ∷ words) l
unfolding IsSpelled
output_is first [] l same is = absurd (none-some l is)
output_is first (a ∷ []) l same is =
    mapped Output (hex_word_of a) l is (λ at one all.
    let p = hex_word_of_is a at one in
    subst (IsSpelled (first ∷ (a ∷ []))) all (ap₂ (λ w ws. w ∷ ws) same (ap (λ v. v ∷ []) p.1), p.0))
output_is first (a ∷ (x ∷ xs)) l same is = absurd (none-some l is)

registers_is : (first : List ℕ) (words : List (List ℕ)) (l : DevicesLine) → first ≡ codes "registers" → line_alone Registers words ≡ Some l → IsSpelled (first ∷ words) l
unfolding IsSpelled
registers_is first [] l same is = subst (IsSpelled (first ∷ [])) (same_Some Registers l is) (ap (λ w. w ∷ []) same, tt)
registers_is first (word ∷ words) l same is = absurd (none-some l is)

reset_is : (first : List ℕ) (words : List (List ℕ)) (l : DevicesLine) → first ≡ codes "reset" → line_alone Reset words ≡ Some l → IsSpelled (first ∷ words) l
unfolding IsSpelled
reset_is first [] l same is = subst (IsSpelled (first ∷ [])) (same_Some Reset l is) (ap (λ w. w ∷ []) same, tt)
reset_is first (word ∷ words) l same is = absurd (none-some l is)

answer_is : (first : List ℕ) (words : List (List ℕ)) (l : DevicesLine) → first ≡ codes "answer" → option_map Answer (line_bytes words) ≡ Some l → IsSpelled (first ∷ words) l
unfolding IsSpelled AreBytes
answer_is first words l same is =
    mapped Answer (line_bytes words) l is (λ bytes some all.
    let are = bytes_are words bytes some in
    subst (IsSpelled (first ∷ words)) all (ap₂ (λ w ws. w ∷ ws) same are.0, are.1))

then_is : (first : List ℕ) (words : List (List ℕ)) (l : DevicesLine) → first ≡ codes "then" → option_map Then (line_bytes words) ≡ Some l → IsSpelled (first ∷ words) l
unfolding IsSpelled AreBytes
then_is first words l same is =
    mapped Then (line_bytes words) l is (λ bytes some all.
    let are = bytes_are words bytes some in
    subst (IsSpelled (first ∷ words)) all (ap₂ (λ w ws. w ∷ ws) same are.0, are.1))

by_keyword : (words : List (List ℕ)) (l : DevicesLine) → line_of_words words ≡ Some l → IsSpelled words l
unfolding line_of_words
by_keyword [] l is = absurd (none-some l is)
by_keyword (first ∷ words) l is = device (bytes_eq first (codes "device")) refl is
  where
    last : (b : Bool) → bytes_eq first (codes "then") ≡ b → cond b (option_map Then (line_bytes words)) None ≡ Some l → IsSpelled (first ∷ words) l
    last true same h = then_is first words l ((bytes_eq-Decides first (codes "then")).0 same) h
    last false other h = absurd (none-some l h)

    answer : (b : Bool) → bytes_eq first (codes "answer") ≡ b → cond b (option_map Answer (line_bytes words)) (by_then first words) ≡ Some l → IsSpelled (first ∷ words) l
    answer true same h = answer_is first words l ((bytes_eq-Decides first (codes "answer")).0 same) h
    answer false other h = last (bytes_eq first (codes "then")) refl h

    output : (b : Bool) → bytes_eq first (codes "output") ≡ b → cond b (line_output words) (by_answer first words) ≡ Some l → IsSpelled (first ∷ words) l
    output true same h = output_is first words l ((bytes_eq-Decides first (codes "output")).0 same) h
    output false other h = answer (bytes_eq first (codes "answer")) refl h

    reset : (b : Bool) → bytes_eq first (codes "reset") ≡ b → cond b (line_alone Reset words) (by_output first words) ≡ Some l → IsSpelled (first ∷ words) l
    reset true same h = reset_is first words l ((bytes_eq-Decides first (codes "reset")).0 same) h
    reset false other h = output (bytes_eq first (codes "output")) refl h

    registers : (b : Bool) → bytes_eq first (codes "registers") ≡ b → cond b (line_alone Registers words) (by_reset first words) ≡ Some l → IsSpelled (first ∷ words) l
    registers true same h = registers_is first words l ((bytes_eq-Decides first (codes "registers")).0 same) h
    registers false other h = reset (bytes_eq first (codes "reset")) refl h

    device : (b : Bool) → bytes_eq first (codes "device") ≡ b → cond b (line_range words) (by_registers first words) ≡ Some l → IsSpelled (first ∷ words) l
    device true same h = range_is first words l ((bytes_eq-Decides first (codes "device")).0 same) h
    device false other h = registers (bytes_eq first (codes "registers")) refl h

pub line_is : (words : List (List ℕ)) (l : DevicesLine) → line_of_words words ≡ Some l → (words ≡ devices_words l) × FitsLine l
unfolding IsSpelled
line_is words l is = by_keyword words l is

-- ---- the words of a line spell it

pub line_back : (l : DevicesLine) → FitsLine l → line_of_words (devices_words l) ≡ Some l
unfolding line_of_words
line_back (Range d) fits =
    ap (option_and_then (λ a. option_map (λ n. Range (record { at = a; size = n })) (hex_word_of (hex_word d.size)))) (hex_word_of-Some d.at (hex_word d.at) fits.0 refl)
    ∙ ap (option_map (λ n. Range (record { at = d.at; size = n }))) (hex_word_of-Some d.size (hex_word d.size) fits.1 refl)
line_back Registers fits = refl
line_back Reset fits = refl
line_back (Output a) fits = ap (option_map Output) (hex_word_of-Some a (hex_word a) fits refl)
line_back (Answer bytes) fits = ap (option_map Answer) (bytes_back bytes fits)
line_back (Then bytes) fits = ap (option_map Then) (bytes_back bytes fits)
