use Rattle.std.proofs.Common.{◌≡◌, ℕ, ◌<◌, Some, None, true, false, List, [], ◌∷◌, ◌++◌, length, take, drop, ap, ap₂, arith, sym, lit<, ◌∙◌}
use Rattle.std.specs.Prelude.{bytes_eq, decimal}
use Rattle.std.proofs.lemmas.List.{take-append-drop}
use Rattle.std.proofs.lemmas.Slice.Eq.{bytes_eq-Decides}
use Rattle.text_lines.specs.Number.{decimal_of}
use Rattle.text_lines.proofs.NumberLaws.{decimal_of-Some}
use Rattle.interrupt_plan.specs.Text.{access_of}
use Rattle.interrupt_plan.proofs.WordLaws.{access_of-None, access_of-Some}
use Rattle.interrupt_plan.proofs.word.read_access.Goals as goal

-- the first letter isn't `a`
other_letter : (word letter : List ℕ) → letter ≡ 97 ∷ [] → bytes_eq (take (length letter) word) letter ≡ false → access_of word ≡ None
other_letter word letter a other =
    access_of-None word (λ n lt same.
    let read = ap (λ l. bytes_eq (take (length l) word) l) a in
    let is = ap (λ w. bytes_eq (take 1 w) (97 ∷ [])) same in
    cc)

-- the letter isn't followed by a number
no_number : (word letter digits : List ℕ) → letter ≡ 97 ∷ [] → digits ≡ drop (length letter) word → decimal_of 255 digits ≡ None → access_of word ≡ None
no_number word letter digits a behind bad =
    access_of-None word (λ n lt same.
    let is = behind ∙ ap (λ l. drop (length l) word) a ∙ ap (drop 1) same in
    let good = decimal_of-Some 255 n digits (lit< tt) (omega (arith, lt)) is in
    cc)

number_behind : (word letter digits : List ℕ) (n : ℕ) → letter ≡ 97 ∷ [] → bytes_eq (take (length letter) word) letter ≡ true → digits ≡ drop (length letter) word → digits ≡ decimal n → n < 256 → access_of word ≡ Some n
number_behind word letter digits n a first behind is lt =
    access_of-Some n word lt
    (sym (take-append-drop (length letter) word)
    ∙ ap₂ (λ x y. x ++ y) ((bytes_eq-Decides (take (length letter) word) letter).0 first ∙ a) (sym behind ∙ is))

pub returns-in_err-digits : goal.returns-in_err-digits
returns-in_err-digits c = rw c.from_residual.ensures (sym (other_letter c.args.word.now c.as_slice.result.now c.as_slice.ensures c.in_err-digits.ensures.cases))

pub returns-in_err-number : goal.returns-in_err-number
returns-in_err-number c =
    rw c.from_residual-in_err-number.ensures (sym (no_number c.args.word.now c.as_slice.result.now c.in_ok-digits.digits.now c.as_slice.ensures c.in_ok-digits.ensures.cases.1 (sym c.in_err-number.ensures.value)))

pub returns : goal.returns
returns c =
    sym (number_behind c.args.word.now c.as_slice.result.now c.in_ok-digits.digits.now c.in_ok-number.number c.as_slice.ensures c.in_ok-digits.ensures.cases.0 c.in_ok-digits.ensures.cases.1 c.in_ok-number.ensures.spells (omega (arith, c.in_ok-number.ensures.below)))
