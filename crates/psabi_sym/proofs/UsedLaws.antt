-- Laws of marks at the symbols that relocations name.
use Rattle.std.proofs.Common.{◌≡◌, ℕ, ◌+◌, ◌<◌, ◌≤◌, Bool, true, false, eqb, ◌||◌, List, [], ◌∷◌, length, get_or, set, take, drop, map, min, refl, sym, ap, ◌∙◌, arith, Some, slice_get, inl, inr, get_or-set_same, get_or-set_other}
use Rattle.std.specs.List.{enumerate_from, list_any}
use Rattle.std.specs.Option.{option_map_or}
use Rattle.std.proofs.lemmas.Bool.{cases_eq, eq-eqb, ne_eqb}
use Rattle.std.proofs.lemmas.List.{drop-map, get_or_default, get_or-map, length-map, same_lists}
use Rattle.std.proofs.lemmas.List.Folds.{list_any_more}
use Rattle.std.proofs.lemmas.List.FromFn.{get_or-enumerate_from, length-enumerate_from}
use Rattle.std.proofs.lemmas.Option.{get_or_from_slice_get, slice_get_within}
use Rattle.elf32_read.specs.declared.reloc.Reloc.{Reloc}
use Rattle.elf32_read.specs.Parts.{ObjectParts, SymbolParts}
use Rattle.psabi_sym.specs.Faults.{is_used, is_used_in, names}
use Rattle.psabi_sym.specs.Indexed.{symbols_in}

-- a test of one element more
pub any_next : {X : Type 0} (p : X → Bool) (xs : List X) (k : ℕ) (x : X) → slice_get xs k ≡ Some x → list_any p (take (k + 1) xs) ≡ (list_any p (take k xs) || p x)
any_next p xs k x at =
    list_any_more p xs k x (slice_get_within xs k x at) ∙ ap (λ y. list_any p (take k xs) || p y) (get_or_from_slice_get xs k x x at)

or_true : (a b : Bool) → true ≡ (a || (b || true))
or_true true b = refl
or_true false true = refl
or_true false false = refl

or_false : (a b : Bool) → (a || b) ≡ (a || (b || false))
or_false true b = refl
or_false false true = refl
or_false false false = refl

pub or_assoc : (a b c : Bool) → ((a || b) || c) ≡ (a || (b || c))
or_assoc true b c = refl
or_assoc false b c = refl

module _ (old marks : List Bool) (relocs : List Reloc) (k : ℕ) (r : Reloc) (at : slice_get relocs k ≡ Some r) (long : length marks ≡ length old)
    (before : (s : ℕ) → s < length old → get_or marks s false ≡ (get_or old s false || names s (take k relocs))) where
  -- the marks with one that a relocation names
  pub marked_more : r.symbol < length marks → (s : ℕ) → s < length old → get_or (set marks r.symbol true) s false ≡ (get_or old s false || names s (take (k + 1) relocs))
  marked_more inside s within = elim (cases_eq s r.symbol) [
    | inl e ↦
        ap (λ n. get_or (set marks r.symbol true) n false) e ∙ get_or-set_same marks r.symbol true false inside
        ∙ or_true (get_or old s false) (names s (take k relocs))
        ∙ ap (λ b. get_or old s false || (names s (take k relocs) || b)) (sym (eq-eqb r.symbol s (sym e)))
        ∙ ap (λ b. get_or old s false || b) (sym (any_next (λ q. eqb q.symbol s) relocs k r at))
    | inr ne ↦
        get_or-set_other marks r.symbol s true false ne ∙ before s within ∙ or_false (get_or old s false) (names s (take k relocs))
        ∙ ap (λ b. get_or old s false || (names s (take k relocs) || b)) (sym (ne_eqb r.symbol s (λ q. ne (sym q))))
        ∙ ap (λ b. get_or old s false || b) (sym (any_next (λ q. eqb q.symbol s) relocs k r at))
  ]

  -- a relocation whose symbol is beyond the marks changes none
  pub marked_same : length marks ≤ r.symbol → (s : ℕ) → s < length old → get_or marks s false ≡ (get_or old s false || names s (take (k + 1) relocs))
  marked_same past s within =
      before s within ∙ or_false (get_or old s false) (names s (take k relocs))
      ∙ ap (λ b. get_or old s false || (names s (take k relocs) || b)) (sym (ne_eqb r.symbol s (λ q. absurd (omega (arith, q, past, long, within)))))
      ∙ ap (λ b. get_or old s false || b) (sym (any_next (λ q. eqb q.symbol s) relocs k r at))

-- a list without its first element, if it has one
pub drop_first : {X : Type 0} (xs : List X) (m : ℕ) → m ≡ min (length xs) 1 → drop m xs ≡ drop 1 xs
drop_first [] m is = let none : m ≡ 0 = omega (arith, is) in ap (λ n. drop n []) none
drop_first (x ∷ xs) m is = let one : m ≡ 1 = omega (arith, is) in ap (λ n. drop n (x ∷ xs)) one

-- marks of all symbols of an object
pub marks_are : (object : ObjectParts) (marks : List Bool) (f : ℕ → Bool) → length marks ≡ length object.symbols → ((s : ℕ) → s < length marks → get_or marks s false ≡ f s)
    → marks ≡ map (λ s. f s.0) (enumerate_from 0 object.symbols)
marks_are object marks f long each =
    let all = enumerate_from 0 object.symbols in
    let count : length all ≡ length object.symbols = length-enumerate_from 0 object.symbols in
    same_lists marks (map (λ s. f s.0) all) (long ∙ sym (length-map all (λ s. f s.0) ∙ count))
    (λ k d within.
    let inside : k < length object.symbols = omega (arith, within, long) in
    get_or_default marks k d false within ∙ each k within
    ∙ sym (get_or-map (λ (s : ℕ × SymbolParts). f s.0) all k (0, none) d (omega (arith, inside, count)) ∙ ap (λ (s : ℕ × SymbolParts). f s.0) (get_or-enumerate_from 0 object.symbols k (0, none) inside) ∙ ap f (omega arith)))
  where
    none : SymbolParts
    none = record { name = []; value = 0; size = 0; bind = 0; kind = 0; home = 0 }

-- what an object's symbols have
pub used_in : (objects : List ObjectParts) (o : ℕ) (object : ObjectParts) → slice_get objects o ≡ Some object
    → drop 1 (map (λ s. is_used_in object s.0) (enumerate_from 0 object.symbols)) ≡ map (is_used objects) (symbols_in (o, object))
unfolding is_used
used_in objects o object at = drop-map (λ s. is_used_in object s.0) 1 (enumerate_from 0 object.symbols) ∙ each (drop 1 (enumerate_from 0 object.symbols))
  where
    each : (es : List (ℕ × SymbolParts)) → map (λ s. is_used_in object s.0) es ≡ map (is_used objects) (map (λ s. record { object = o; index = s.0; symbol = s.1 }) es)
    each [] = refl
    each (e ∷ es) = λ j. option_map_or (λ x. is_used_in x e.0) (sym at j) false ∷ each es j
