-- Lists of what all objects have, one object after another: what stands at a place, and before it.
use Rattle.std.proofs.Common.{◌≡◌, ℕ, zero, suc, ◌+◌, ◌<◌, ◌≤◌, List, [], ◌∷◌, ◌++◌, length, get_or, take, drop, refl, sym, ap, ◌∙◌, arith, map, append_assoc, Some, slice_get}
use Rattle.std.specs.List.{enumerate_from, flat_map}
use Rattle.std.proofs.lemmas.List.{append-nil, get_or-map, length-map, take_more, take-append-le, length-take-le}
use Rattle.std.proofs.lemmas.List.Concat.{flat_map-append, get_or-flat_map}
use Rattle.std.proofs.lemmas.List.FromFn.{get_or-enumerate_from, length-enumerate_from}
use Rattle.std.proofs.lemmas.Option.{get_or_from_slice_get, slice_get_within}
use Rattle.elf32_read.specs.Parts.{ObjectParts}
use Rattle.psabi_sym.specs.Indexed.{all_sections, all_symbols, sections_in, symbols_in}

-- numbering goes on
enumerate_push : {X : Type 0} (n : ℕ) (xs : List X) (x : X) → enumerate_from n (xs ++ x ∷ []) ≡ enumerate_from n xs ++ (n + length xs, x) ∷ []
enumerate_push n [] x = ap (λ k. (k, x) ∷ []) (omega arith)
enumerate_push n (y ∷ ys) x =
    ap (λ l. (n, y) ∷ l) (enumerate_push (n + 1) ys x ∙ ap (λ k. enumerate_from (n + 1) ys ++ (k, x) ∷ []) (omega arith))

enumerate_take : {X : Type 0} (n k : ℕ) (xs : List X) → take k (enumerate_from n xs) ≡ enumerate_from n (take k xs)
enumerate_take n zero xs = refl
enumerate_take n (suc k) [] = refl
enumerate_take n (suc k) (x ∷ xs) = ap (λ l. (n, x) ∷ l) (enumerate_take (n + 1) k xs)

module _ {X : Type 0} (f : ℕ × ObjectParts → List X) where
  -- one object more
  pub flat_push : (objects : List ObjectParts) (object : ObjectParts)
      → flat_map f (enumerate_from 0 (objects ++ object ∷ [])) ≡ flat_map f (enumerate_from 0 objects) ++ f (length objects, object)
  flat_push objects object =
      ap (flat_map f) (enumerate_push 0 objects object)
      ∙ flat_map-append f (enumerate_from 0 objects) ((0 + length objects, object) ∷ [])
      ∙ ap (λ t. flat_map f (enumerate_from 0 objects) ++ t) (append-nil (f (0 + length objects, object)) ∙ ap (λ k. f (k, object)) (omega arith))

  -- the place of what an object has
  pub flat_at : (objects : List ObjectParts) (o j : ℕ) (object : ObjectParts) (d : X) → slice_get objects o ≡ Some object → j < length (f (o, object))
      → get_or (flat_map f (enumerate_from 0 objects)) (length (flat_map f (enumerate_from 0 (take o objects))) + j) d ≡ get_or (f (o, object)) j d
  flat_at objects o j object d at within =
      let all = enumerate_from 0 objects in
      let inside : o < length objects = slice_get_within objects o object at in
      let here : get_or all o (0, object) ≡ (o, object) =
      get_or-enumerate_from 0 objects o (0, object) inside ∙ (λ i. (added i, get_or_from_slice_get objects o object object at i)) in
      let numbered : o < length all = omega (arith, inside, length-enumerate_from 0 objects) in
      ap (λ l. get_or (flat_map f all) (length (flat_map f l) + j) d) (sym (enumerate_take 0 o objects))
      ∙ get_or-flat_map f all o j (0, object) d numbered (omega (arith, within, ap (λ e. length (f e)) here))
      ∙ ap (λ e. get_or (f e) j d) here
    where
      added : 0 + o ≡ o
      added = omega arith

  -- an element of an object, and those before it
  pub flat_before : (objects : List ObjectParts) (o j : ℕ) (object : ObjectParts) → slice_get objects o ≡ Some object → j ≤ length (f (o, object))
      → take (length (flat_map f (enumerate_from 0 (take o objects))) + j) (flat_map f (enumerate_from 0 objects))
      ≡ flat_map f (enumerate_from 0 (take o objects)) ++ take j (f (o, object))
  flat_before objects o j object at within =
      let before = flat_map f (enumerate_from 0 (take o objects)) in
      ap (λ l. take (length before + j) l) (split objects o object at)
      ∙ taken before (f (o, object)) (flat_map f (drop (suc o) (enumerate_from 0 objects))) j within
    where
      taken : (xs ys zs : List X) (j : ℕ) → j ≤ length ys → take (length xs + j) (xs ++ (ys ++ zs)) ≡ xs ++ take j ys
      taken [] ys zs j within =
          let none : 0 + j ≡ j = omega arith in
          ap (λ n. take n (ys ++ zs)) none ∙ take-append-le j ys zs within
      taken (x ∷ xs) ys zs j within =
          let one : suc (length xs) + j ≡ suc (length xs + j) = omega arith in
          ap (λ n. take n (x ∷ (xs ++ (ys ++ zs)))) one ∙ ap (λ l. x ∷ l) (taken xs ys zs j within)

      split : (objects : List ObjectParts) (o : ℕ) (object : ObjectParts) → slice_get objects o ≡ Some object
          → flat_map f (enumerate_from 0 objects) ≡ flat_map f (enumerate_from 0 (take o objects)) ++ (f (o, object) ++ flat_map f (drop (suc o) (enumerate_from 0 objects)))
      split objects o object at =
          let none : 0 + o ≡ o = omega arith in
          from 0 objects o at ∙ ap (λ k. flat_map f (enumerate_from 0 (take o objects)) ++ (f (k, object) ++ flat_map f (drop (suc o) (enumerate_from 0 objects)))) none
        where
          from : (n : ℕ) (objects : List ObjectParts) (o : ℕ) → slice_get objects o ≡ Some object
              → flat_map f (enumerate_from n objects) ≡ flat_map f (enumerate_from n (take o objects)) ++ (f (n + o, object) ++ flat_map f (drop (suc o) (enumerate_from n objects)))
          from n [] o at = absurd cc
          from n (first ∷ rest) zero at =
              let same : first ≡ object = cc in
              let none : n ≡ n + 0 = omega arith in
              λ j. f (none j, same j) ++ flat_map f (enumerate_from (n + 1) rest)
          from n (first ∷ rest) (suc o) at =
              let next : n + 1 + o ≡ n + suc o = omega arith in
              ap (λ l. f (n, first) ++ l) (from (n + 1) rest o at ∙ ap (λ k. flat_map f (enumerate_from (n + 1) (take o rest)) ++ (f (k, object) ++ flat_map f (drop (suc o) (enumerate_from (n + 1) rest)))) next)
              ∙ sym (append_assoc (f (n, first)) (flat_map f (enumerate_from (n + 1) (take o rest))) _)

-- ---- sections and symbols

pub sections_push : (objects : List ObjectParts) (object : ObjectParts) → all_sections (objects ++ object ∷ []) ≡ all_sections objects ++ sections_in (length objects, object)
unfolding all_sections
sections_push objects object = flat_push sections_in objects object

pub symbols_push : (objects : List ObjectParts) (object : ObjectParts) → all_symbols (objects ++ object ∷ []) ≡ all_symbols objects ++ symbols_in (length objects, object)
unfolding all_symbols
symbols_push objects object = flat_push symbols_in objects object

-- one object more of those that were read
pub parsed_more : {F : Type 0} (read : F → ObjectParts) (files : List F) (i : ℕ) (file : F) → i < length files → file ≡ get_or files i file
    → take (i + 1) (map read files) ≡ take i (map read files) ++ read file ∷ []
parsed_more read files i file within is =
    take_more (map read files) i (read file) (omega (arith, within, length-map files read))
    ∙ ap (λ x. take i (map read files) ++ x ∷ []) (get_or-map read files i file (read file) within ∙ ap read (sym is))

pub length-parsed : {F : Type 0} (read : F → ObjectParts) (files : List F) (i : ℕ) → i ≤ length files → length (take i (map read files)) ≡ i
length-parsed read files i within = length-take-le i (map read files) (omega (arith, within, length-map files read))
