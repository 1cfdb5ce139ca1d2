-- Two numbers say how many fields overlap one that has bytes: how many begin before its end, and how many of those end before it
-- begins. Each field is counted by the first exactly if it overlaps or is counted by the second. Numbers in ascending order have the
-- same counts as in the order of the relocations, and a number is among them exactly if a search finds it.
use Rattle.std.proofs.Common.{◌≡◌, ◌≢◌, ℕ, zero, suc, ◌+◌, ◌<◌, ◌≤◌, List, [], ◌∷◌, length, get_or, map, max, min, Bool, true, false, cond, refl, sym, ap, ◌∙◌, arith, filter, inl, inr}
use Rattle.std.specs.Prelude.{Result, Ok, Err, nat_lt, ◌&&◌, ◌||◌, ◌==◌}
use Rattle.std.specs.List.{count_by, list_any}
use Rattle.std.specs.List.Sorted.{IsBinarySearchResult, IsNonDecreasing, IsPartitionPoint}
use Rattle.std.specs.Ordering.{nat_cmp}
use Rattle.std.specs.Result.{is_ok}
use Rattle.std.proofs.lemmas.List.Folds.{list_any_at}
use Rattle.std.proofs.lemmas.List.Recursion.{or_from_places}
use Rattle.std.proofs.lemmas.Bool.{cases_lt, eq-eqb, ne_eqb, le-ltb, lt-ltb}
use Rattle.std.proofs.lemmas.List.Sorted.{searched, sum_by-IsPermutation}
use Rattle.std.proofs.lemmas.List.Sums.{length-filter, sum_by-cons}
use Rattle.elf32_read.specs.declared.reloc.Reloc.{Reloc}
use Rattle.block_cut.specs.declared.fields.FieldEnds.{FieldEnds}
use Rattle.block_cut.specs.declared.fields.Fields.{Fields}
use Rattle.block_cut.specs.Invariants.Fields.{AreEnds, AreFields, IsSortedOf, ends_of, has_field, is_upper, starts_of, uppers_of}
use Rattle.block_cut.specs.Relocs.{field_end, field_of, overlaps_another, overlap}

-- ---- counts

-- the count of the numbers of what is kept
count_kept : (p : Reloc → Bool) (f : Reloc → ℕ) (q : ℕ → Bool) (rs : List Reloc) → count_by q (map f (filter p rs)) ≡ count_by (λ r. p r && q (f r)) rs
count_kept p f q [] = refl
count_kept p f q (r ∷ rs) =
    let rest = count_kept p f q rs in
    let all = sum_by-cons (λ s. cond (p s && q (f s)) 1 0) r rs in
    by (p r) rest ∙ sym all
  where
    by : (b : Bool) → count_by q (map f (filter p rs)) ≡ count_by (λ s. p s && q (f s)) rs
        → count_by q (map f (cond b (r ∷ filter p rs) (filter p rs))) ≡ cond (b && q (f r)) 1 0 + count_by (λ s. p s && q (f s)) rs
    by true rest = sum_by-cons (λ n. cond (q n) 1 0) (f r) (map f (filter p rs)) ∙ ap (λ n. cond (q (f r)) 1 0 + n) rest
    by false rest = omega (arith, rest)

-- numbers in another order have the same counts
count_sorted : (q : ℕ → Bool) (numbers sorted : List ℕ) → IsSortedOf numbers sorted → count_by q sorted ≡ count_by q numbers
count_sorted q numbers sorted is = sum_by-IsPermutation (λ n. cond (q n) 1 0) numbers sorted is.same

-- some element passes a test exactly if the count of those that pass isn't 0
any_counted : {X : Type 0} (p : X → Bool) (xs : List X) → list_any p xs ≡ nat_lt 0 (count_by p xs)
any_counted p [] = refl
any_counted p (x ∷ xs) = by (p x) (any_counted p xs) ∙ ap (nat_lt 0) (sym (sum_by-cons (λ y. cond (p y) 1 0) x xs))
  where
    by : (b : Bool) → list_any p xs ≡ nat_lt 0 (count_by p xs) → (b || list_any p xs) ≡ nat_lt 0 (cond b 1 0 + count_by p xs)
    by true rest = sym (lt-ltb 0 (1 + count_by p xs) (omega arith))
    by false rest = rest ∙ ap (nat_lt 0) (omega arith)

-- a partition point is the number of elements that pass the test before it
pub count_at : (p : ℕ → Bool) (xs : List ℕ) (i : ℕ) → i ≤ length xs → IsPartitionPoint (λ y. p y ≡ true) (λ y. p y ≡ false) xs i → i ≡ count_by p xs
count_at p [] i within is = omega arith
count_at p (x ∷ xs) zero within is =
    let here : p x ≡ false = is.1 0 0 (omega arith) (omega arith) in
    count_at p xs zero (omega arith) ((λ k d low high. absurd (omega (arith, high))), (λ k d low high. is.1 (suc k) d (omega arith) (omega (arith, high))))
    ∙ sym (sum_by-cons (λ y. cond (p y) 1 0) x xs ∙ ap (λ b. cond b 1 0 + count_by p xs) here ∙ omega arith)
count_at p (x ∷ xs) (suc i) within is =
    let here : p x ≡ true = is.0 0 0 (omega arith) (omega arith) in
    ap suc (count_at p xs i (omega (arith, within)) ((λ k d low high. is.0 (suc k) d (omega arith) (omega (arith, high))), (λ k d low high. is.1 (suc k) d (omega (arith, low)) (omega (arith, high)))))
    ∙ sym (sum_by-cons (λ y. cond (p y) 1 0) x xs ∙ ap (λ b. cond b 1 0 + count_by p xs) here ∙ omega arith)

-- ---- fields that overlap

-- a field begins before the end of another exactly if it overlaps, or ends before the other begins
overlap_one : (r s : Reloc) → 0 < field_of r
    → cond (has_field s && nat_lt (field_end s) (r.offset + 1)) 1 0 + cond (overlap r s) 1 0 ≡ cond (has_field s && nat_lt s.offset (field_end r)) 1 0
overlap_one r s has =
    let low = max r.offset s.offset in
    let high = min (field_end r) (field_end s) in
    elim (cases_lt 0 (field_of s)) [
      | inl some ↦ elim (cases_lt (field_end s) (r.offset + 1)) [
        | inl before ↦
            by (lt-ltb 0 (field_of s) some) (lt-ltb (field_end s) (r.offset + 1) before) (lt-ltb s.offset (field_end r) (omega (arith, before, some)))
            (le-ltb low high (omega (arith, before))) refl
        | inr after ↦ elim (cases_lt s.offset (field_end r)) [
          | inl begins ↦
              by (lt-ltb 0 (field_of s) some) (le-ltb (field_end s) (r.offset + 1) after) (lt-ltb s.offset (field_end r) begins)
              (lt-ltb low high (omega (arith, after, begins, some, has))) refl
          | inr past ↦
              by (lt-ltb 0 (field_of s) some) (le-ltb (field_end s) (r.offset + 1) after) (le-ltb s.offset (field_end r) past) (le-ltb low high (omega (arith, past))) refl
        ]
      ]
      | inr none ↦ by (le-ltb 0 (field_of s) none) refl refl (le-ltb low high (omega (arith, none))) refl
    ]
  where
    by : {some before begins over : Bool} → {a b c d : Bool} → some ≡ a → before ≡ b → begins ≡ c → over ≡ d
        → cond (a && b) 1 0 + cond d 1 0 ≡ cond (a && c) 1 0 → cond (some && before) 1 0 + cond over 1 0 ≡ cond (some && begins) 1 0
    by is_some is_before is_begun is_over h = (λ j. cond (is_some j && is_before j) 1 0 + cond (is_over j) 1 0) ∙ h ∙ sym (λ j. cond (is_some j && is_begun j) 1 0)

overlap_all : (r : Reloc) (rs : List Reloc) → 0 < field_of r
    → count_by (λ s. has_field s && nat_lt (field_end s) (r.offset + 1)) rs + count_by (overlap r) rs ≡ count_by (λ s. has_field s && nat_lt s.offset (field_end r)) rs
overlap_all r [] has = refl
overlap_all r (s ∷ rs) has =
    omega (
      arith,
      overlap_all r rs has,
      overlap_one r s has,
      sum_by-cons (λ t. cond (has_field t && nat_lt (field_end t) (r.offset + 1)) 1 0) s rs,
      sum_by-cons (λ t. cond (overlap r t) 1 0) s rs,
      sum_by-cons (λ t. cond (has_field t && nat_lt t.offset (field_end r)) 1 0) s rs,
    )

-- what has no bytes overlaps nothing
overlap_none : (r : Reloc) (rs : List Reloc) → field_of r ≡ 0 → count_by (overlap r) rs ≡ 0
overlap_none r [] none = refl
overlap_none r (s ∷ rs) none =
    let here = le-ltb (max r.offset s.offset) (min (field_end r) (field_end s)) (omega (arith, none)) in
    omega (arith, sum_by-cons (λ t. cond (overlap r t) 1 0) s rs, ap {B = ℕ} (λ b. cond b 1 0) here, overlap_none r rs none)

pub crowded_none : (r : Reloc) (rs : List Reloc) → field_of r ≡ 0 → false ≡ overlaps_another rs r
crowded_none r rs none = ap (nat_lt 1) (sym (length-filter (overlap r) rs ∙ overlap_none r rs none))

pub crowded_is : (r : Reloc) (rs : List Reloc) (fields : FieldEnds) (begun ended : ℕ) → 0 < field_of r → AreEnds rs fields
    → begun ≡ count_by (λ n. nat_lt n (field_end r)) fields.starts.items → ended ≡ count_by (λ n. nat_lt n (r.offset + 1)) fields.ends.items
    → nat_lt (ended + 1) begun ≡ overlaps_another rs r
crowded_is r rs fields begun ended has are is_begun is_ended =
    let first = is_begun ∙ count_sorted _ (starts_of rs) fields.starts.items are.starts ∙ count_kept has_field (λ s. s.offset) (λ n. nat_lt n (field_end r)) rs in
    let second = is_ended ∙ count_sorted _ (ends_of rs) fields.ends.items are.ends ∙ count_kept has_field field_end (λ n. nat_lt n (r.offset + 1)) rs in
    let sum : begun ≡ ended + length (filter (overlap r) rs) = omega (arith, first, second, overlap_all r rs has, length-filter (overlap r) rs) in
    ap (nat_lt (ended + 1)) sum ∙ shifted ended (length (filter (overlap r) rs))
  where
    shifted : (n k : ℕ) → nat_lt (n + 1) (n + k) ≡ nat_lt 1 k
    shifted n k = grind arith

-- ---- upper parts

-- a search finds a number exactly if it is among those that rise
pub found_is : (xs : List ℕ) (n : ℕ) (r : Result ℕ ℕ) → IsBinarySearchResult (λ m. nat_cmp m n) xs r → IsNonDecreasing xs → is_ok r ≡ list_any (λ m. m == n) xs
found_is xs n (Ok i) is rise =
    let at = searched xs n (Ok i) is (λ i j le lt. rise i j 0 le lt) in
    sym (list_any_at (λ m. m == n) xs i 0 at.0 (eq-eqb (get_or xs i 0) n at.1))
found_is xs n (Err i) is rise =
    let at = searched xs n (Err i) is (λ i j le lt. rise i j 0 le lt) in
    sym (or_from_places (list_any (λ m. m == n)) (λ m. m == n) refl (λ x xs. refl) xs 0 (λ k lt. ne_eqb (get_or xs k 0) n (other at.1 at.2 k lt)))
  where
    other : ((k : ℕ) → k < i → get_or xs k 0 < n) → ((k : ℕ) → i ≤ k → k < length xs → n < get_or xs k 0) → (k : ℕ) → k < length xs → get_or xs k 0 ≢ n
    other below above k lt = elim (cases_lt k i) [
      | inl before ↦ λ e. omega (arith, below k before, e)
      | inr after ↦ λ e. omega (arith, above k after lt, e)
    ]

-- an offset is among those of the relocations that are kept exactly if one of these has it
any_kept : (p : Reloc → Bool) (n : ℕ) (rs : List Reloc) → list_any (λ m. m == n) (map (λ r. r.offset) (filter p rs)) ≡ list_any (λ r. p r && r.offset == n) rs
any_kept p n [] = refl
any_kept p n (r ∷ rs) = by (p r) (any_kept p n rs)
  where
    by : (b : Bool) → list_any (λ m. m == n) (map (λ s. s.offset) (filter p rs)) ≡ list_any (λ s. p s && s.offset == n) rs
        → list_any (λ m. m == n) (map (λ s. s.offset) (cond b (r ∷ filter p rs) (filter p rs))) ≡ ((b && r.offset == n) || list_any (λ s. p s && s.offset == n) rs)
    by true rest = ap (λ t. r.offset == n || t) rest
    by false rest = rest

pub upper_is : (rs : List Reloc) (fields : Fields) (n : ℕ) → AreFields rs fields → list_any (λ m. m == n) fields.uppers.items ≡ list_any (λ r. is_upper r && r.offset == n) rs
upper_is rs fields n are =
    any_counted (λ m. m == n) fields.uppers.items ∙ ap (nat_lt 0) (count_sorted (λ m. m == n) (uppers_of rs) fields.uppers.items are.uppers)
    ∙ sym (any_counted (λ m. m == n) (uppers_of rs)) ∙ any_kept is_upper n rs
