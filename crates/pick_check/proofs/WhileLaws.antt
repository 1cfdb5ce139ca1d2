-- Lines that are read one after another, as far as they can be.
use Rattle.std.proofs.Common.{◌≡◌, ℕ, zero, suc, ◌+◌, ◌<◌, Some, None, Option, List, [], ◌∷◌, ◌++◌, map, length, take, drop, refl, ap, ap₂, sym, subst, ◌∙◌, arith, append_assoc, length-append}
use Rattle.std.specs.Prelude.{All}
use Rattle.std.proofs.lemmas.List.{drop-drop, take_all}
use Rattle.std.proofs.lemmas.List.Elements.{All-cons, All-head, All-nil, All-tail}
use Rattle.std.proofs.lemmas.Option.{none-some}
use Rattle.pick_check.specs.Text.{more_read, read_first, read_while}

-- ---- the first line

pub step_first : {A : Type 0} (read : List ℕ → Option A) (line : List ℕ) (lines : List (List ℕ)) → 0 < length lines → read_first read (line ∷ lines) ≡ read line
step_first read line [] some = absurd (omega (arith, some))
step_first read line (next ∷ lines) some = refl

pub step_while : {A : Type 0} (read : List ℕ → Option A) (line : List ℕ) (lines : List (List ℕ)) → 0 < length lines → read_while read (line ∷ lines) ≡ more_read (read line) (read_while read lines)
step_while read line [] some = absurd (omega (arith, some))
step_while read line (next ∷ lines) some = refl

pub first_split : {A : Type 0} (read : List ℕ → Option A) (lines : List (List ℕ)) (x : A) → read_first read lines ≡ Some x → (line : List ℕ) × (next : List ℕ) × (more : List (List ℕ)) × (lines ≡ line ∷ (next ∷ more)) × (read line ≡ Some x)
first_split read [] x is = absurd (none-some x is)
first_split read (rest ∷ []) x is = absurd (none-some x is)
first_split read (line ∷ (next ∷ more)) x is = (line, next, more, refl, is)

pub while_none : {A : Type 0} (read : List ℕ → Option A) (lines : List (List ℕ)) → read_first read lines ≡ None → read_while read lines ≡ []
while_none read [] is = refl
while_none read (rest ∷ []) is = refl
while_none read (line ∷ (next ∷ more)) is = ap (λ o. more_read o (read_while read (next ∷ more))) is

pub while_some : {A : Type 0} (read : List ℕ → Option A) (lines : List (List ℕ)) (x : A) → read_first read lines ≡ Some x → read_while read lines ≡ x ∷ read_while read (drop 1 lines)
while_some read [] x is = absurd (none-some x is)
while_some read (rest ∷ []) x is = absurd (none-some x is)
while_some read (line ∷ (next ∷ more)) x is = ap (λ o. more_read o (read_while read (next ∷ more))) is

-- one line more is read, and the lines after it are left
pub while_step : {A : Type 0} (read : List ℕ → Option A) (before : List A) (lines rest : List (List ℕ)) (x : A) → read_first read lines ≡ Some x → rest ≡ drop 1 lines → before ++ read_while read lines ≡ (before ++ x ∷ []) ++ read_while read rest
while_step read before lines rest x is there =
    ap (λ xs. before ++ xs) (while_some read lines x is ∙ ap (λ ls. x ∷ read_while read ls) (sym there)) ∙ sym (append_assoc before (x ∷ []) (read_while read rest))

pub place_step : {A : Type 0} (before new : List A) (x : A) (all lines rest : List (List ℕ)) → new ≡ before ++ x ∷ [] → lines ≡ drop (length before) all → rest ≡ drop 1 lines → rest ≡ drop (length new) all
place_step before new x all lines rest is place there =
    let size = ap length is in
    let one = length-append before (x ∷ []) in
    let more : length before + 1 ≡ length new = omega (arith, size, one) in
    there ∙ ap (drop 1) place ∙ drop-drop 1 (length before) all ∙ ap (λ n. drop n all) more

-- ---- all that can be read

-- something is left: the line that can't be read, or what has no line feed
pub while_short : {A : Type 0} (read : List ℕ → Option A) (lines : List (List ℕ)) → 0 < length lines → length (read_while read lines) < length lines
while_short read [] some = absurd (omega (arith, some))
while_short read (rest ∷ []) some = omega arith
while_short {A} read (line ∷ (next ∷ more)) some = either (read line) (while_short read (next ∷ more) (omega arith))
  where
    either : (o : Option A) → length (read_while read (next ∷ more)) < length (next ∷ more) → length (more_read o (read_while read (next ∷ more))) < length (line ∷ (next ∷ more))
    either None h = omega arith
    either (Some x) h = omega (arith, h)

-- lines that were written for values are read as these values, up to a line that can't be read
pub while_back : {A : Type 0} (read : List ℕ → Option A) (spell : A → List ℕ) (xs : List A) (lines : List (List ℕ)) → All (λ x. read (spell x) ≡ Some x) xs → 0 < length lines → read_first read lines ≡ None → read_while read (map spell xs ++ lines) ≡ xs
while_back read spell [] lines back some none = while_none read lines none
while_back read spell (x ∷ xs) lines back some none =
    let size = length-append (map spell xs) lines in
    step_while read (spell x) (map spell xs ++ lines) (omega (arith, size, some))
    ∙ ap (λ o. more_read o (read_while read (map spell xs ++ lines))) (All-head (λ y. read (spell y) ≡ Some y) x xs back)
    ∙ ap (λ ys. x ∷ ys) (while_back read spell xs lines (All-tail (λ y. read (spell y) ≡ Some y) x xs back) some none)

-- what is read of lines is what they were written from, and the others are left
pub while_is : {A : Type 0} (read : List ℕ → Option A) (spell : A → List ℕ) (Fits : A → Type 0) → ((line : List ℕ) (x : A) → read line ≡ Some x → (line ≡ spell x) × Fits x) → (n : ℕ) (lines : List (List ℕ)) → (lines ≡ map spell (take n (read_while read lines)) ++ drop (length (take n (read_while read lines))) lines) × All Fits (take n (read_while read lines))
while_is read spell Fits is zero lines = (refl, All-nil Fits)
while_is read spell Fits is (suc n) [] = (refl, All-nil Fits)
while_is read spell Fits is (suc n) (rest ∷ []) = (refl, All-nil Fits)
while_is {A} read spell Fits is (suc n) (line ∷ (next ∷ more)) = either (read line) refl (while_is read spell Fits is n (next ∷ more))
  where
    either : (o : Option A) → read line ≡ o → (next ∷ more ≡ map spell (take n (read_while read (next ∷ more))) ++ drop (length (take n (read_while read (next ∷ more)))) (next ∷ more)) × All Fits (take n (read_while read (next ∷ more)))
        → (line ∷ (next ∷ more) ≡ map spell (take (suc n) (more_read o (read_while read (next ∷ more)))) ++ drop (length (take (suc n) (more_read o (read_while read (next ∷ more))))) (line ∷ (next ∷ more))) × All Fits (take (suc n) (more_read o (read_while read (next ∷ more))))
    either None first others = (refl, All-nil Fits)
    either (Some x) first others =
        let here = is line x first in
        (ap₂ (λ l ls. l ∷ ls) here.0 others.0, All-cons Fits x (take n (read_while read (next ∷ more))) here.1 others.1)

pub while_all : {A : Type 0} (read : List ℕ → Option A) (spell : A → List ℕ) (Fits : A → Type 0) → ((line : List ℕ) (x : A) → read line ≡ Some x → (line ≡ spell x) × Fits x) → (lines : List (List ℕ)) → (lines ≡ map spell (read_while read lines) ++ drop (length (read_while read lines)) lines) × All Fits (read_while read lines)
while_all read spell Fits is lines =
    let xs = read_while read lines in
    let all = take_all (length xs) xs (omega arith) in
    subst (λ ys. (lines ≡ map spell ys ++ drop (length ys) lines) × All Fits ys) all (while_is read spell Fits is (length xs) lines)

-- what is read doesn't depend on the lines after the first that can't be read
pub while_same : {A : Type 0} (read : List ℕ → Option A) (n : ℕ) (xs : List (List ℕ)) (a : List ℕ) (al : List (List ℕ)) (b : List ℕ) (bl : List (List ℕ)) → length (take n (read_while read (xs ++ a ∷ al))) < length xs → take n (read_while read (xs ++ b ∷ bl)) ≡ take n (read_while read (xs ++ a ∷ al))
while_same read zero xs a al b bl lt = refl
while_same read (suc n) [] a al b bl lt = absurd (omega (arith, lt))
while_same {A} read (suc n) (x ∷ xs) a al b bl lt =
    let left = step_while read x (xs ++ a ∷ al) (omega (arith, length-append xs (a ∷ al))) in
    let right = step_while read x (xs ++ b ∷ bl) (omega (arith, length-append xs (b ∷ bl))) in
    let size = ap (λ ys. length (take (suc n) ys)) left in
    ap (take (suc n)) right ∙ either (read x) (λ h. while_same read n xs a al b bl h) (omega (arith, lt, size)) ∙ ap (take (suc n)) (sym left)
  where
    either : (o : Option A) → (length (take n (read_while read (xs ++ a ∷ al))) < length xs → take n (read_while read (xs ++ b ∷ bl)) ≡ take n (read_while read (xs ++ a ∷ al)))
        → length (take (suc n) (more_read o (read_while read (xs ++ a ∷ al)))) < suc (length xs) → take (suc n) (more_read o (read_while read (xs ++ b ∷ bl))) ≡ take (suc n) (more_read o (read_while read (xs ++ a ∷ al)))
    either None later short = refl
    either (Some y) later short = ap (λ ys. y ∷ ys) (later (omega (arith, short)))

pub all_same : {A : Type 0} (read : List ℕ → Option A) (xs : List (List ℕ)) (a : List ℕ) (al : List (List ℕ)) (b : List ℕ) (bl : List (List ℕ)) → length (read_while read (xs ++ a ∷ al)) < length xs → read_while read (xs ++ b ∷ bl) ≡ read_while read (xs ++ a ∷ al)
all_same read xs a al b bl lt =
    let left = read_while read (xs ++ a ∷ al) in
    let right = read_while read (xs ++ b ∷ bl) in
    let n = length left + length right in
    let whole_left = take_all n left (omega arith) in
    let whole_right = take_all n right (omega arith) in
    let size = ap length whole_left in
    sym whole_right ∙ while_same read n xs a al b bl (omega (arith, lt, size)) ∙ whole_left
