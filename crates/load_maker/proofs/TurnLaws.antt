-- One turn of each loop over a list: what is made so far, with what the next element gives, is what one more element gives.
use Rattle.std.proofs.Common.{◌≡◌, ℕ, ◌+◌, ◌<◌, List, [], ◌∷◌, ◌++◌, length, map, take, drop, get_or, sym, ap, ◌∙◌, arith, append_assoc}
use Rattle.std.specs.List.{flat_map}
use Rattle.std.proofs.lemmas.List.{drop_more, flat_map_more, map_push, take_more}
use Rattle.std.proofs.lemmas.List.Sums.{sum_by-append}
use Rattle.elf32_read.specs.Parts.{SymbolParts}
use Rattle.load_maker.specs.Objects.{function_name, function_symbols}
use Rattle.load_maker.specs.Statements.{code_size, size_of}
use Rattle.load_maker.specs.declared.statement.Statement.{Statement}

module _ {X : Type 0} (xs : List X) (k : ℕ) (x : X) (lt : k < length xs) (is : x ≡ get_or xs k x) where
  -- the next element
  taken : take (k + 1) xs ≡ take k xs ++ x ∷ []
  taken = take_more xs k x lt ∙ ap (λ y. take k xs ++ y ∷ []) (sym is)

  left : drop k xs ≡ x ∷ drop (k + 1) xs
  left = drop_more xs k x lt ∙ ap (λ y. y ∷ drop (k + 1) xs) (sym is)

  -- what a function gives of each is appended
  pub mapped : {Y : Type 0} (f : X → Y) (first made : List Y) → made ≡ first ++ map f (take k xs) → made ++ f x ∷ [] ≡ first ++ map f (take (k + 1) xs)
  mapped f first made are =
      ap (λ l. l ++ f x ∷ []) are ∙ append_assoc first (map f (take k xs)) (f x ∷ [])
      ∙ ap (λ l. first ++ l) (sym (map_push f (take k xs) x) ∙ ap (map f) (sym taken))

-- lists are joined
pub joined : {X : Type 0} (xs : List (List X)) (k : ℕ) (x made : List X) → k < length xs → x ≡ get_or xs k x → made ≡ flat_map (λ l. l) (take k xs) → made ++ x ≡ flat_map (λ l. l) (take (k + 1) xs)
joined xs k x made lt is are = ap (λ l. l ++ x) are ∙ flat_map_more (λ l. l) [] (take k xs) x ∙ ap (flat_map (λ l. l)) (sym (taken xs k x lt is))

-- the symbols of functions
module _ (bodies : List (List Statement)) (k : ℕ) (body : List Statement) (lt : k < length bodies) (is : body ≡ get_or bodies k body) (size : ℕ) (sized : size ≡ code_size body) where
  pub symbols_more : (made : List SymbolParts) (i at : ℕ) (name : List ℕ) → name ≡ function_name i
      → (made ++ record { name = name; value = at; size = size; bind = 1; kind = 2; home = 1 } ∷ []) ++ function_symbols (i + 1) (at + size) (drop (k + 1) bodies) ≡ made ++ function_symbols i at (drop k bodies)
  symbols_more made i at name named =
      append_assoc made (record { name = name; value = at; size = size; bind = 1; kind = 2; home = 1 } ∷ []) (function_symbols (i + 1) (at + size) (drop (k + 1) bodies))
      ∙ (λ j. made ++ (record { name = named j; value = at; size = sized j; bind = 1; kind = 2; home = 1 } ∷ function_symbols (i + 1) (at + sized j) (drop (k + 1) bodies)))
      ∙ ap (λ l. made ++ function_symbols i at l) (sym (left bodies k body lt is))

  pub sizes_more : (at : ℕ) → at + size + code_size (flat_map (λ b. b) (drop (k + 1) bodies)) ≡ at + code_size (flat_map (λ b. b) (drop k bodies))
  sizes_more at =
      let rest = flat_map (λ b. b) (drop (k + 1) bodies) in
      omega (arith, sized, sum_by-append size_of body rest, ap (λ l. code_size (flat_map (λ b. b) l)) (left bodies k body lt is))
