-- Names in tables of strings.
use Rattle.std.proofs.Common.{◌≡◌, ℕ, ◌∷◌, ◌++◌, false, true, refl, [], cond, eqb, eq-eqb, ◌-◌, ◌<◌, ◌≤◌, List, length, get_or, take, drop, Bool, sym, ap, ◌∙◌, arith, inl, inr}
use Rattle.std.specs.Prelude.{◌&&◌, ◌||◌, nat_eq, ◌==◌, min, not}
use Rattle.std.specs.Cmp.Lexicographic.{pointwise}
use Rattle.std.specs.List.{list_any, prefix_len, starts_with, take_while}
use Rattle.std.proofs.lemmas.Bool.{cases_eq, cases_lt, eqb-true, ne_eqb, or_parts}
use Rattle.std.proofs.lemmas.List.{drop_all, length-drop, take_all}
use Rattle.std.proofs.lemmas.List.Sums.{prefix_len_is, take_while-cons}
use Rattle.elf32_read.specs.Names.{has_end, is_name_at, name_at}

-- the test whether two numbers are equal is symmetric
eqb_flip : (a b : ℕ) → eqb a b ≡ eqb b a
eqb_flip a b =
    elim (cases_eq a b) [
      | inl same ↦ eq-eqb a b same ∙ sym (eq-eqb b a (sym same))
      | inr other ↦ ne_eqb a b other ∙ sym (ne_eqb b a (λ e. other (sym e)))
    ]

-- what lies from an offset on, as the slice that begins there or at the end
pub rest_from : (table : List ℕ) (at m : ℕ) → m ≡ min (length table) at → take (length table - m) (drop m table) ≡ drop at table
rest_from table at m is =
    take_all (length table - m) (drop m table) (omega (arith, length-drop m table))
    ∙ elim (cases_lt (length table) at) [
      | inl past ↦ drop_all m table (omega arith) ∙ sym (drop_all at table (omega arith))
      | inr within ↦ let same : m ≡ at = omega arith in ap (λ n. drop n table) same
    ]

-- the bytes before the first zero are the name
pub before_zero : (table rest : List ℕ) (at i : ℕ) → rest ≡ drop at table → i ≤ length rest → ((k : ℕ) → k < i → get_or rest k 0 ≡ 0 → ⊥) → (i < length rest → get_or rest i 0 ≡ 0) → take i rest ≡ name_at table at
before_zero table rest at i is within before zero =
    let more : ℕ → Bool = λ byte. not (byte == 0) in
    let long : prefix_len more rest ≡ i = prefix_len_is more rest i 0 within (λ k lt. ap not (ne_eqb (get_or rest k 0) 0 (before k lt))) (λ lt. ap not (eq-eqb (get_or rest i 0) 0 (zero lt))) in
    ap (λ n. take n rest) (sym long) ∙ ap (λ l. take (prefix_len more l) l) is

-- if a name in a table is terminated, it is this name exactly if the table has this name's bytes and a zero there
pub named : (rest name : List ℕ) → list_any (λ byte. byte == 0) rest ≡ true → list_any (λ byte. byte == 0) name ≡ false → pointwise nat_eq (take_while (λ byte. not (byte == 0)) rest) name ≡ starts_with nat_eq rest (name ++ 0 ∷ [])
named [] name ends whole = absurd cc
named (x ∷ xs) name ends whole = by (eqb x 0) refl name whole (named xs)
  where
    more : ℕ → Bool
    more byte = not (byte == 0)

    by : (b : Bool) → eqb x 0 ≡ b → (name : List ℕ) → list_any (λ byte. byte == 0) name ≡ false → ((cs : List ℕ) → list_any (λ byte. byte == 0) xs ≡ true → list_any (λ byte. byte == 0) cs ≡ false → pointwise nat_eq (take_while more xs) cs ≡ starts_with nat_eq xs (cs ++ 0 ∷ [])) → pointwise nat_eq (take_while more (x ∷ xs)) name ≡ starts_with nat_eq (x ∷ xs) (name ++ 0 ∷ [])
    by true e [] whole shorter =
        let zero : x ≡ 0 = eqb-true x 0 e in
        ap (λ l. pointwise nat_eq l []) (take_while-cons more x xs ∙ ap (λ b. cond (not b) (x ∷ take_while more xs) []) e)
        ∙ sym (ap (λ b. b && true) (eq-eqb 0 x (sym zero)))
    by true e (c ∷ cs) whole shorter =
        let zero : x ≡ 0 = eqb-true x 0 e in
        let first = or_parts (eqb c 0) (list_any (λ byte. byte == 0) cs) whole in
        let other : eqb c x ≡ false = ap (eqb c) zero ∙ first.0 in
        ap (λ l. pointwise nat_eq l (c ∷ cs)) (take_while-cons more x xs ∙ ap (λ b. cond (not b) (x ∷ take_while more xs) []) e)
        ∙ sym (ap (λ b. b && pointwise nat_eq (cs ++ 0 ∷ []) (take (length (cs ++ 0 ∷ [])) xs)) other)
    by false e [] whole shorter =
        let other : eqb 0 x ≡ false = ne_eqb 0 x (λ same. cc (e, eq-eqb x 0 (sym same))) in
        ap (λ l. pointwise nat_eq l []) (take_while-cons more x xs ∙ ap (λ b. cond (not b) (x ∷ take_while more xs) []) e)
        ∙ sym (ap (λ b. b && pointwise nat_eq [] (take 0 xs)) other)
    by false e (c ∷ cs) whole shorter =
        let first = or_parts (eqb c 0) (list_any (λ byte. byte == 0) cs) whole in
        let rest = shorter cs (sym (ap (λ b. b || list_any (λ byte. byte == 0) xs) e) ∙ ends) first.1 in
        ap (λ l. pointwise nat_eq l (c ∷ cs)) (take_while-cons more x xs ∙ ap (λ b. cond (not b) (x ∷ take_while more xs) []) e)
        ∙ (λ j. eqb_flip x c j && rest j)

-- the bytes before the first zero begin with these, of which none is zero, exactly if the table does
pub begun : (rest start : List ℕ) → list_any (λ byte. byte == 0) start ≡ false → starts_with nat_eq (take_while (λ byte. not (byte == 0)) rest) start ≡ starts_with nat_eq rest start
begun [] start whole = refl
begun (x ∷ xs) [] whole = refl
begun (x ∷ xs) (c ∷ cs) whole = by (eqb x 0) refl (begun xs cs first.1)
  where
    first : (eqb c 0 ≡ false) × (list_any (λ byte. byte == 0) cs ≡ false)
    first = or_parts (eqb c 0) (list_any (λ byte. byte == 0) cs) whole

    more : ℕ → Bool
    more byte = not (byte == 0)

    by : (b : Bool) → eqb x 0 ≡ b → starts_with nat_eq (take_while more xs) cs ≡ starts_with nat_eq xs cs → starts_with nat_eq (take_while more (x ∷ xs)) (c ∷ cs) ≡ starts_with nat_eq (x ∷ xs) (c ∷ cs)
    by true e shorter =
        let other : eqb c x ≡ false = ap (eqb c) (eqb-true x 0 e) ∙ first.0 in
        ap (λ l. starts_with nat_eq l (c ∷ cs)) (take_while-cons more x xs ∙ ap (λ b. cond (not b) (x ∷ take_while more xs) []) e)
        ∙ sym (ap (λ b. b && starts_with nat_eq xs cs) other)
    by false e shorter =
        ap (λ l. starts_with nat_eq l (c ∷ cs)) (take_while-cons more x xs ∙ ap (λ b. cond (not b) (x ∷ take_while more xs) []) e)
        ∙ ap (λ b. eqb c x && b) shorter

pub is_named : (table name : List ℕ) (at : ℕ) → has_end table at ≡ true → list_any (λ byte. byte == 0) name ≡ false → pointwise nat_eq (name_at table at) name ≡ is_name_at name table at
is_named table name at ends whole = named (drop at table) name ends whole
