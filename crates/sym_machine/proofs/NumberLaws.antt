-- Bytes of memory that are all numbers, and where one isn't.
use Rattle.std.proofs.Common.{◌≡◌, ℕ, zero, suc, ◌+◌, ◌<◌, ⊎_elim, List, [], ◌∷◌, ◌++◌, Option, Some, None, length, get_or, refl, ap, ◌∙◌, sym, arith}
use Rattle.std.specs.Prelude.{◌⊎◌}
use Rattle.std.proofs.lemmas.List.{get_or_default}
use Rattle.rv_decode.specs.Memory.{Region, cell_at}
use Rattle.sym_machine.specs.declared.word.SymByte.{SymByte}
use Rattle.sym_machine.specs.declared.word.SymByte.TheVariants.{Num, Part, Undef}
use Rattle.sym_machine.specs.declared.word.Value.{Value}
use Rattle.sym_machine.specs.Change.{numbers_at, then_number}

-- nothing comes before what isn't all numbers
none_then : (c : SymByte) → then_number c None ≡ None
none_then (Num b) = refl
none_then (Part v i) = refl
none_then Undef = refl

-- if i bytes are numbers and the next one is a number too, i + 1 bytes are
pub numbers_more : (memory : List (Region SymByte)) (a i : ℕ) (bytes : List ℕ) (b : ℕ) → numbers_at memory a i ≡ Some bytes → cell_at Undef memory (a + i) ≡ Num b
    → numbers_at memory a (i + 1) ≡ Some (bytes ++ b ∷ [])
numbers_more memory a zero bytes b so_far is =
    let none : [] ≡ bytes = cc in
    let at : a + 0 ≡ a = omega arith in
    ap (λ c. then_number c (Some [])) (ap (cell_at Undef memory) (sym at) ∙ is) ∙ ap (λ l. Some (l ++ b ∷ [])) none
numbers_more memory a (suc i) bytes b so_far is =
    by (λ ds rest. numbers_more memory (suc a) i ds b rest (ap (cell_at Undef memory) (sym there) ∙ is)) (cell_at Undef memory a) (numbers_at memory (suc a) i) refl refl so_far
  where
    next : suc i + 1 ≡ suc (i + 1)
    next = omega arith

    there : a + suc i ≡ suc a + i
    there = omega arith

    by : ((ds : List ℕ) → numbers_at memory (suc a) i ≡ Some ds → numbers_at memory (suc a) (i + 1) ≡ Some (ds ++ b ∷ []))
        → (c : SymByte) (o : Option (List ℕ)) → cell_at Undef memory a ≡ c → numbers_at memory (suc a) i ≡ o → then_number c o ≡ Some bytes
        → numbers_at memory a (suc i + 1) ≡ Some (bytes ++ b ∷ [])
    by more (Num d) (Some ds) first rest both =
        let all : d ∷ ds ≡ bytes = cc in
        ap (numbers_at memory a) next ∙ (λ j. then_number (first j) (more ds rest j)) ∙ ap (λ l. Some (l ++ b ∷ [])) all
    by more (Num d) None first rest both = absurd cc
    by more (Part v k) o first rest both = absurd cc
    by more Undef o first rest both = absurd cc

-- if one of n bytes is no number, there are no n numbers
pub numbers_none : (memory : List (Region SymByte)) (a i n : ℕ) → ((o : Option (List ℕ)) → then_number (cell_at Undef memory (a + i)) o ≡ None) → i < n → numbers_at memory a n ≡ None
numbers_none memory a i zero none lt = absurd (omega arith)
numbers_none memory a zero (suc n) none lt =
    let at : a + 0 ≡ a = omega arith in
    ap (λ x. then_number (cell_at Undef memory x) (numbers_at memory (suc a) n)) (sym at) ∙ none (numbers_at memory (suc a) n)
numbers_none memory a (suc i) (suc n) none lt =
    let there : suc a + i ≡ a + suc i = omega arith in
    ap (then_number (cell_at Undef memory a)) (numbers_none memory (suc a) i n (λ o. ap (λ x. then_number (cell_at Undef memory x) o) there ∙ none o) (omega arith))
    ∙ none_then (cell_at Undef memory a)

-- a byte that is no number, as a match finds it
abbrev pub IsNoNumber : SymByte → Type 0
IsNoNumber b = ((v : Value) × (part : ℕ) × (b ≡ Part v part)) ⊎ (b ≡ Undef)

-- before a byte that is no number there is no list of numbers
pub no_number : (b : SymByte) (o : Option (List ℕ)) → IsNoNumber b → then_number b o ≡ None
no_number b o is = ⊎_elim (λ part. ap (λ c. then_number c o) part.2) (λ undefined. ap (λ c. then_number c o) undefined) is

-- a byte that was read from cells adds its number, or there are no numbers
module _ (memory : List (Region SymByte)) (a i : ℕ) (cells : List SymByte) (p : ℕ) (at : cell_at Undef memory (a + i) ≡ get_or cells p Undef) (inside : p < length cells) where
  read : cell_at Undef memory (a + i) ≡ get_or cells p (Num 0)
  read = at ∙ get_or_default cells p Undef (Num 0) inside

  pub cells_more : (bytes : List ℕ) (b : ℕ) → numbers_at memory a i ≡ Some bytes → get_or cells p (Num 0) ≡ Num b → numbers_at memory a (i + 1) ≡ Some (bytes ++ b ∷ [])
  cells_more bytes b so_far is = numbers_more memory a i bytes b so_far (read ∙ is)

  pub cells_none : (n : ℕ) → IsNoNumber (get_or cells p (Num 0)) → i < n → numbers_at memory a n ≡ None
  cells_none n is lt = numbers_none memory a i n (λ o. ap (λ b. then_number b o) read ∙ no_number (get_or cells p (Num 0)) o is) lt
