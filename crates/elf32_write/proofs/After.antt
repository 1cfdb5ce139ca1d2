-- What is read after other bytes: fields, parts, and rows of one size.
use Rattle.std.proofs.Common.{◌≡◌, ℕ, ◌+◌, ◌*◌, ◌/◌, ◌%◌, ◌^◌, ◌<◌, List, [], ◌∷◌, ◌++◌, length, take, drop, map, refl, sym, ap, ◌∙◌, arith, append_assoc, length-append}
use Rattle.std.specs.Prelude.{All}
use Rattle.std.specs.List.{flat_map, range_with_len}
use Rattle.std.proofs.lemmas.List.{get_or-append-add, take_at, drop_at}
use Rattle.std.proofs.lemmas.List.Elements.{All-head, All-tail}
use Rattle.zc_base.specs.Fields.{half_in, word_in}

-- the bytes of a number are its own
pub word_of_bytes : (v : ℕ) → v < 2 ^ 32 → v % 256 + 256 * (v / 256 % 256) + 65536 * (v / 65536 % 256) + 16777216 * (v / 16777216 % 256) ≡ v
word_of_bytes v lt = omega arith

pub half_of_bytes : (v : ℕ) → v < 2 ^ 16 → v % 256 + 256 * (v / 256 % 256) ≡ v
half_of_bytes v lt = omega arith

-- a field after other bytes
pub word_in-append : (front rest : List ℕ) (at k : ℕ) → at ≡ length front + k → word_in (front ++ rest) at ≡ word_in rest k
unfolding word_in
word_in-append front rest at k e =
    let s1 : length front + k + 1 ≡ length front + (k + 1) = omega arith in
    let s2 : length front + k + 2 ≡ length front + (k + 2) = omega arith in
    let s3 : length front + k + 3 ≡ length front + (k + 3) = omega arith in
    let e0 = get_or-append-add front rest k 0 in
    let e1 = get_or-append-add front rest (k + 1) 0 in
    let e2 = get_or-append-add front rest (k + 2) 0 in
    let e3 = get_or-append-add front rest (k + 3) 0 in
    rw (e, s1, s2, s3, e0, e1, e2, e3) refl

pub half_in-append : (front rest : List ℕ) (at k : ℕ) → at ≡ length front + k → half_in (front ++ rest) at ≡ half_in rest k
unfolding half_in
half_in-append front rest at k e =
    let s1 : length front + k + 1 ≡ length front + (k + 1) = omega arith in
    let e0 = get_or-append-add front rest k 0 in
    let e1 = get_or-append-add front rest (k + 1) 0 in
    rw (e, s1, e0, e1) refl

-- a part between others
pub part_between : {A : Type 0} (bytes front part rest : List A) (at n : ℕ) → bytes ≡ front ++ (part ++ rest) → at ≡ length front → n ≡ length part → take n (drop at bytes) ≡ part
part_between bytes front part rest at n e start size =
    ap (λ l. take n (drop at l)) e ∙ ap (take n) (drop_at front (part ++ rest) at (sym start)) ∙ take_at part rest n (sym size)

-- Rows of one size, each of which reads back after whatever stands before it, read back in order.
pub rows_back : {X : Type 0} (read : List ℕ → ℕ → X) (write : X → List ℕ) (size : ℕ) (IsRow : X → Type 0) (at : ℕ → ℕ) → ((front rest : List ℕ) (x : X) → IsRow x → read (front ++ (write x ++ rest)) (length front) ≡ x) → ((x : X) → length (write x) ≡ size) → ((k : ℕ) → at (k + 1) ≡ at k + size) → (bytes front : List ℕ) (xs : List X) (rest : List ℕ) (k : ℕ) → bytes ≡ front ++ (flat_map write xs ++ rest) → at k ≡ length front → All IsRow xs → map (λ i. read bytes (at i)) (range_with_len k (length xs)) ≡ xs
rows_back read write size IsRow at back long next bytes front [] rest k e start rows = refl
rows_back read write size IsRow at back long next bytes front (x ∷ xs) rest k e start rows =
    let split : bytes ≡ front ++ (write x ++ (flat_map write xs ++ rest)) = e ∙ ap (λ l. front ++ l) (append_assoc (write x) (flat_map write xs) rest) in
    let split_next : bytes ≡ (front ++ write x) ++ (flat_map write xs ++ rest) = split ∙ sym (append_assoc front (write x) (flat_map write xs ++ rest)) in
    let start_next : at (k + 1) ≡ length (front ++ write x) = omega (arith, next k, start, long x, length-append front (write x)) in
    let head : read bytes (at k) ≡ x = ap (λ n. read bytes n) start ∙ ap (λ l. read l (length front)) split ∙ back front (flat_map write xs ++ rest) x (All-head IsRow x xs rows) in
    let tail = rows_back read write size IsRow at back long next bytes (front ++ write x) xs rest (k + 1) split_next start_next (All-tail IsRow x xs rows) in
    λ i. head i ∷ tail i
