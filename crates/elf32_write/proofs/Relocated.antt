-- The sections with relocations, by the sections up to an index.
use Rattle.std.proofs.Common.{◌≡◌, ℕ, ◌+◌, ◌<◌, List, [], ◌∷◌, ◌++◌, length, get_or, take, drop, Bool, true, false, cond, refl, sym, ap, ◌∙◌, arith, length-append, length-take-le, take-append-drop}
use Rattle.std.specs.Prelude.{filter, nat_lt}
use Rattle.std.specs.List.{enumerate_from}
use Rattle.std.proofs.lemmas.List.Elements.{filter-append}
use Rattle.elf32_read.specs.Parts.{SectionParts}
use Rattle.elf32_write.specs.FileSections.{relocated}
use Rattle.elf32_write.proofs.SymbolsMore.{taken}

-- elements are numbered on after others
pub enumerate_from-append : {X : Type 0} (n : ℕ) (xs ys : List X) → enumerate_from n (xs ++ ys) ≡ enumerate_from n xs ++ enumerate_from (n + length xs) ys
enumerate_from-append n [] ys =
    let same : n ≡ n + 0 = omega arith in
    ap (λ k. enumerate_from k ys) same
enumerate_from-append n (x ∷ xs) ys =
    let rest = enumerate_from-append (n + 1) xs ys in
    let same : n + 1 + length xs ≡ n + length (x ∷ xs) = omega arith in
    λ i. (n, x) ∷ (rest ∙ ap (λ k. enumerate_from (n + 1) xs ++ enumerate_from k ys) same) i

-- the sections with relocations of two lists
pub relocated-append : (xs ys : List SectionParts) → relocated (xs ++ ys) ≡ relocated xs ++ filter (λ e. nat_lt 0 (length e.1.relocs)) (enumerate_from (1 + length xs) ys)
relocated-append xs ys =
    ap (filter (λ e. nat_lt 0 (length e.1.relocs))) (enumerate_from-append 1 xs ys)
    ∙ filter-append (λ (e : ℕ × SectionParts). nat_lt 0 (length e.1.relocs)) (enumerate_from 1 xs) (enumerate_from (1 + length xs) ys)

-- one section more
pub relocated_push : (xs : List SectionParts) (s : SectionParts) → relocated (xs ++ s ∷ []) ≡ relocated xs ++ cond (nat_lt 0 (length s.relocs)) ((1 + length xs, s) ∷ []) []
relocated_push xs s = relocated-append xs (s ∷ [])

-- the section at an index, after those before it
pub relocated_more : (xs : List SectionParts) (i : ℕ) (s : SectionParts) → i < length xs → s ≡ get_or xs i s → relocated (take (i + 1) xs) ≡ relocated (take i xs) ++ cond (nat_lt 0 (length s.relocs)) ((1 + i, s) ∷ []) []
relocated_more xs i s lt is =
    let size : length (take i xs) ≡ i = length-take-le i xs (omega arith) in
    ap relocated (taken xs i s lt is) ∙ relocated_push (take i xs) s
    ∙ ap (λ n. relocated (take i xs) ++ cond (nat_lt 0 (length s.relocs)) ((1 + n, s) ∷ []) []) size

pub length_relocated_more : (xs : List SectionParts) (i : ℕ) (s : SectionParts) → i < length xs → s ≡ get_or xs i s → length (relocated (take (i + 1) xs)) ≡ length (relocated (take i xs)) + cond (nat_lt 0 (length s.relocs)) 1 0
length_relocated_more xs i s lt is =
    let e : ℕ × SectionParts = (1 + i, s) in
    let none : List (ℕ × SectionParts) = [] in
    let both : (b : Bool) → length (cond b (e ∷ none) none) ≡ cond b 1 0 = λ b. elim b as (λ b. length (cond b (e ∷ none) none) ≡ cond b 1 0) [
      | true ↦ refl
      | false ↦ refl
    ] in
    ap length (relocated_more xs i s lt is) ∙ length-append (relocated (take i xs)) (cond (nat_lt 0 (length s.relocs)) (e ∷ none) none)
    ∙ ap (λ n. length (relocated (take i xs)) + n) (both (nat_lt 0 (length s.relocs)))

-- the sections with relocations up to an index, and the others
pub relocated_split : (xs : List SectionParts) (i : ℕ) → (rest : List (ℕ × SectionParts)) × (relocated xs ≡ relocated (take i xs) ++ rest)
relocated_split xs i = (_, ap relocated (sym (take-append-drop i xs)) ∙ relocated-append (take i xs) (drop i xs))
