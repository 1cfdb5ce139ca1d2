-- Objects that are put under their names, one after another: the names differ, since their numbers do, so each keeps its bytes
-- while the others are put.
use Rattle.std.proofs.Common.{◌≡◌, ◌≢◌, ℕ, zero, suc, ◌+◌, ◌^◌, ◌<◌, ◌≤◌, List, [], ◌∷◌, ◌++◌, length, get_or, take, refl, sym, ap, ◌∙◌, arith, length-append}
use Rattle.std.specs.Prelude.{codes, decimal}
use Rattle.std.specs.Str.Parse.{digits_value}
use Rattle.text_lines.proofs.NumberLaws.{value_decimal}
use Rattle.zcld.specs.ObjectNames.{named_from, names_from, object_name}
use Rattle.zcld.specs.Puts.{IsOtherName}

-- ---- objects

-- there are as many named files as objects
pub named_count : (prefix : List ℕ) (k : ℕ) (objects : List (List ℕ)) → length (named_from prefix k objects) ≡ length objects
named_count prefix k [] = refl
named_count prefix k (object ∷ objects) = ap suc (named_count prefix (suc k) objects)

-- an object more
pub named_more :
    (prefix : List ℕ) (k : ℕ) (objects : List (List ℕ)) (i : ℕ) (bytes : List ℕ) → i < length objects → bytes ≡ get_or objects i bytes
    → take (i + 1) (named_from prefix k objects) ≡ take i (named_from prefix k objects) ++ (object_name prefix (k + i), bytes) ∷ []
named_more prefix k [] i bytes within is = absurd (omega (arith, within))
named_more prefix k (object ∷ objects) zero bytes within is =
    let here : k ≡ k + 0 = omega arith in
    ap (λ b. (object_name prefix k, b) ∷ []) (sym is) ∙ ap (λ n. (object_name prefix n, bytes) ∷ []) here
named_more prefix k (object ∷ objects) (suc i) bytes within is =
    let more : suc i + 1 ≡ suc (i + 1) = omega arith in
    let here : suc k + i ≡ k + suc i = omega arith in
    ap (λ n. take n (named_from prefix k (object ∷ objects))) more
    ∙ ap (λ files. (object_name prefix k, object) ∷ files) (named_more prefix (suc k) objects i bytes (omega (arith, within)) is)
    ∙ ap (λ n. (object_name prefix k, object) ∷ (take i (named_from prefix (suc k) objects) ++ (object_name prefix n, bytes) ∷ [])) here

-- ---- names

cancel_front : (xs ys zs : List ℕ) → xs ++ ys ≡ xs ++ zs → ys ≡ zs
cancel_front [] ys zs same = same
cancel_front (x ∷ xs) ys zs same = let rest : xs ++ ys ≡ xs ++ zs = cc in cancel_front xs ys zs rest

cancel_back : (xs ys zs : List ℕ) → xs ++ zs ≡ ys ++ zs → xs ≡ ys
cancel_back [] [] zs same = refl
cancel_back [] (y ∷ ys) zs same = absurd (omega (arith, ap length same, length-append ys zs))
cancel_back (x ∷ xs) [] zs same = absurd (omega (arith, ap length same, length-append xs zs))
cancel_back (x ∷ xs) (y ∷ ys) zs same =
    let first : x ≡ y = cc in
    let rest : xs ++ zs ≡ ys ++ zs = cc in
    ap (λ w. w ∷ xs) first ∙ ap (λ ws. y ∷ ws) (cancel_back xs ys zs rest)

-- other numbers have other names
names_differ : (prefix : List ℕ) (m n : ℕ) → m < n → n < 2 ^ 64 → object_name prefix n ≢ object_name prefix m
names_differ prefix m n lt small same =
    let digits = cancel_front prefix (decimal n) (decimal m) (cancel_back (prefix ++ decimal n) (prefix ++ decimal m) (codes ".o") same) in
    omega (arith, lt, sym (value_decimal n small) ∙ ap (digits_value 10) digits ∙ value_decimal m (omega (arith, lt, small)))

-- an object's name is none of the names before it
pub other_names :
    (prefix : List ℕ) (n k : ℕ) (objects : List (List ℕ)) (i : ℕ) → k + i ≤ n → n < 2 ^ 64
    → IsOtherName (object_name prefix n) (take i (named_from prefix k objects))
other_names prefix n k objects zero within small = tt
other_names prefix n k [] (suc i) within small = tt
other_names prefix n k (object ∷ objects) (suc i) within small = (
  names_differ prefix k n (omega (arith, within)) small,
  other_names prefix n (suc k) objects i (omega (arith, within)) small,
)

-- as many as were asked for
pub names_count : (prefix : List ℕ) (k n : ℕ) → length (names_from prefix k n) ≡ n
names_count prefix k zero = refl
names_count prefix k (suc n) = ap suc (names_count prefix (suc k) n)

-- a name more
pub names_more : (prefix : List ℕ) (k n : ℕ) → names_from prefix k (n + 1) ≡ names_from prefix k n ++ object_name prefix (k + n) ∷ []
names_more prefix k zero = let here : k ≡ k + 0 = omega arith in ap (λ m. object_name prefix m ∷ []) here
names_more prefix k (suc n) =
    let more : suc n + 1 ≡ suc (n + 1) = omega arith in
    let here : suc k + n ≡ k + suc n = omega arith in
    ap (names_from prefix k) more
    ∙ ap (λ names. object_name prefix k ∷ names) (names_more prefix (suc k) n)
    ∙ ap (λ m. object_name prefix k ∷ (names_from prefix (suc k) n ++ object_name prefix m ∷ [])) here

-- the name with a number among them
pub name_at :
    (prefix : List ℕ) (k n i : ℕ) (name : List ℕ) → i < n → name ≡ get_or (names_from prefix k n) i name → name ≡ object_name prefix (k + i)
name_at prefix k zero i name within is = absurd (omega (arith, within))
name_at prefix k (suc n) zero name within is = let here : k ≡ k + 0 = omega arith in is ∙ ap (object_name prefix) here
name_at prefix k (suc n) (suc i) name within is =
    let here : suc k + i ≡ k + suc i = omega arith in name_at prefix (suc k) n i name (omega (arith, within)) is ∙ ap (object_name prefix) here
