-- The end of the local symbols, one symbol more.
use Rattle.std.proofs.Common.{◌≡◌, ℕ, ◌+◌, ◌-◌, ◌<◌, ◌==◌, List, [], ◌∷◌, ◌++◌, length, get_or, take, Bool, true, false, not, cond, if◌then◌else◌, ap, ◌∙◌, arith}
use Rattle.std.specs.List.{prefix_len, suffix_len}
use Rattle.std.proofs.lemmas.List.{length_push, reverse-append, take_more, length-take-le}
use Rattle.elf32_read.specs.Parts.{SymbolParts}
use Rattle.elf32_write.specs.Entries.{after_locals}

-- the number of elements that pass from the end back, with one element more
suffix_len_push : {X : Type 0} (p : X → Bool) (xs : List X) (x : X) → suffix_len p (xs ++ x ∷ []) ≡ cond (p x) (1 + suffix_len p xs) 0
suffix_len_push p xs x = ap (prefix_len p) (reverse-append xs (x ∷ []))

after_locals_push : (xs : List SymbolParts) (x : SymbolParts) → after_locals (xs ++ x ∷ []) ≡ (if x.bind == 0 then length xs + 2 else after_locals xs)
after_locals_push xs x =
    let longer : length (xs ++ x ∷ []) ≡ length xs + 1 = length_push xs x in
    let suffix = suffix_len_push (λ s. not (s.bind == 0)) xs x in
    let both : after_locals (xs ++ x ∷ []) ≡ 1 + (length xs + 1) - cond (not (x.bind == 0)) (1 + suffix_len (λ s. not (s.bind == 0)) xs) 0 = λ i. 1 + longer i - suffix i in
    both ∙ elim (x.bind == 0) as (λ b. 1 + (length xs + 1) - cond (not b) (1 + suffix_len (λ s. not (s.bind == 0)) xs) 0 ≡ (if b then length xs + 2 else after_locals xs)) [
      | true ↦ omega arith
      | false ↦ omega arith
    ]

-- the symbol at an index, after those before it
pub after_locals_more : (xs : List SymbolParts) (i : ℕ) (d : SymbolParts) → i < length xs → after_locals (take (i + 1) xs) ≡ (if (get_or xs i d).bind == 0 then i + 2 else after_locals (take i xs))
after_locals_more xs i d lt =
    let size : length (take i xs) ≡ i = length-take-le i xs (omega arith) in
    ap after_locals (take_more xs i d lt) ∙ after_locals_push (take i xs) (get_or xs i d)
    ∙ ap (λ n. if (get_or xs i d).bind == 0 then n + 2 else after_locals (take i xs)) size
