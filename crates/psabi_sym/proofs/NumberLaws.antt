-- Laws of numbers of names: a name keeps its number as names are added, and two names have one number if they are one.
use Rattle.std.proofs.Common.{◌≡◌, ℕ, ◌+◌, ◌<◌, ◌≤◌, Bool, true, false, cond, eqb, not, ◌&&◌, ◌||◌, List, [], ◌∷◌, ◌++◌, length, refl, sym, ap, ◌∙◌, arith, ◌⊎◌, inl, inr, length-append}
use Rattle.std.specs.List.{list_any, position_or_len}
use Rattle.std.proofs.lemmas.Bool.{and_parts, cases_Bool, cases_eq, eq-eqb, eqb-true, ne_eqb, or_parts}
use Rattle.std.proofs.lemmas.List.Folds.{position_or_len_push}
use Rattle.std.proofs.lemmas.Slice.Eq.{bytes_eq-Decides}
use Rattle.elf32_read.specs.Parts.{SymbolParts}
use Rattle.psabi_sym.specs.Names.{goes_by_name, is_common, is_definition, same_name}
use Rattle.psabi_sym.specs.Invariants.Rows.{name_number, row_defines, row_goes_by_name, row_is_common, symbol_number, with_name}
use Rattle.psabi_sym.specs.declared.symbol_row.SymbolRow.{SymbolRow}

-- a name is itself
pub same_self : (name : List ℕ) → same_name name name ≡ true
same_self name = (bytes_eq-Decides name name).1 refl

-- what has the same bytes is one
pub same_is : (first second : List ℕ) → same_name first second ≡ true → first ≡ second
same_is first second = (bytes_eq-Decides first second).0

-- the test of two names doesn't depend on their order
pub same_swap : (first second : List ℕ) → same_name first second ≡ same_name second first
same_swap first second = by (cases_Bool (same_name first second)) (cases_Bool (same_name second first))
  where
    by : ((same_name first second ≡ true) ⊎ (same_name first second ≡ false)) → ((same_name second first ≡ true) ⊎ (same_name second first ≡ false)) → same_name first second ≡ same_name second first
    by (inl e) _ = e ∙ sym ((bytes_eq-Decides second first).1 (sym (same_is first second e)))
    by (inr e) (inl f) = absurd (cc (e, (bytes_eq-Decides first second).1 (sym (same_is second first f))))
    by (inr e) (inr f) = e ∙ sym f

-- ---- numbers

-- what passes a test has a place, and else the place is after the last
pub position_within : {X : Type 0} (test : X → Bool) (xs : List X) → list_any test xs ≡ true → position_or_len test xs < length xs
position_within test [] e = absurd (cc e)
position_within test (x ∷ xs) e = by (test x) refl (position_within test xs)
  where
    by : (b : Bool) → test x ≡ b → (list_any test xs ≡ true → position_or_len test xs < length xs) → position_or_len test (x ∷ xs) < length (x ∷ xs)
    by true f rest = omega (arith, ap (λ b. cond (not b) (1 + position_or_len test xs) 0) f)
    by false f rest = omega (arith, ap (λ b. cond (not b) (1 + position_or_len test xs) 0) f, rest (sym (ap (λ b. b || list_any test xs) f) ∙ e))

pub position_last : {X : Type 0} (test : X → Bool) (xs : List X) → list_any test xs ≡ false → position_or_len test xs ≡ length xs
position_last test [] none = refl
position_last test (x ∷ xs) none =
    let parts = or_parts (test x) (list_any test xs) none in
    omega (arith, ap (λ b. cond (not b) (1 + position_or_len test xs) 0) parts.0, position_last test xs parts.1)

-- the number of a name that is added
pub number_added : (names : List (List ℕ)) (name : List ℕ) → name_number (with_name names name) name ≡ name_number names name
number_added names name = by (list_any (same_name name) names)
  where
    at_end : (b : Bool) → eqb (name_number names name) (length names) ≡ b
        → cond b (length names + cond (same_name name name) 0 1) (name_number names name) ≡ name_number names name
    at_end true e = omega (arith, ap (λ b. length names + cond b 0 1) (same_self name), eqb-true (name_number names name) (length names) e)
    at_end false e = refl

    by : (b : Bool) → name_number (cond b names (names ++ name ∷ [])) name ≡ name_number names name
    by true = refl
    by false = position_or_len_push (same_name name) names name ∙ at_end (eqb (name_number names name) (length names)) refl

-- a name that was there keeps its number
pub number_kept : (names : List (List ℕ)) (name other : List ℕ) → name_number names other < length names → name_number (with_name names name) other ≡ name_number names other
number_kept names name other there = by (list_any (same_name name) names)
  where
    by : (b : Bool) → name_number (cond b names (names ++ name ∷ [])) other ≡ name_number names other
    by true = refl
    by false =
        position_or_len_push (same_name other) names name
        ∙ ap (λ b. cond b (length names + cond (same_name other name) 0 1) (name_number names other))
        (ne_eqb (name_number names other) (length names) (λ same. absurd (omega (arith, there, same))))

-- the number of names, with one name more
pub length-with_name : (names : List (List ℕ)) (name : List ℕ) → (length names ≤ length (with_name names name)) × (length (with_name names name) ≤ length names + 1)
length-with_name names name = by (list_any (same_name name) names)
  where
    by : (b : Bool) → (length names ≤ length (cond b names (names ++ name ∷ []))) × (length (cond b names (names ++ name ∷ [])) ≤ length names + 1)
    by true = (omega arith, omega arith)
    by false = (omega (arith, length-append names (name ∷ [])), omega (arith, length-append names (name ∷ [])))

-- two names have one number if they are one
pub number_same : (names : List (List ℕ)) (first name : List ℕ) → name_number names name < length names → eqb (name_number names first) (name_number names name) ≡ same_name first name
number_same [] first name there = absurd (omega arith)
number_same (x ∷ xs) first name there = by (same_name first x) (same_name name x) refl refl (number_same xs first name)
  where
    by : (p q : Bool) → same_name first x ≡ p → same_name name x ≡ q → (name_number xs name < length xs → eqb (name_number xs first) (name_number xs name) ≡ same_name first name)
        → eqb (name_number (x ∷ xs) first) (name_number (x ∷ xs) name) ≡ same_name first name
    by true true p q rest =
        (λ j. eqb (cond (not (p j)) (1 + name_number xs first) 0) (cond (not (q j)) (1 + name_number xs name) 0))
        ∙ sym ((bytes_eq-Decides first name).1 (same_is first x p ∙ sym (same_is name x q)))
    by true false p q rest =
        (λ j. eqb (cond (not (p j)) (1 + name_number xs first) 0) (cond (not (q j)) (1 + name_number xs name) 0))
        ∙ ne_eqb 0 (1 + name_number xs name) (λ e. absurd (omega (arith, e)))
        ∙ sym (ap (λ n. same_name n name) (same_is first x p) ∙ same_swap x name ∙ q)
    by false true p q rest =
        (λ j. eqb (cond (not (p j)) (1 + name_number xs first) 0) (cond (not (q j)) (1 + name_number xs name) 0))
        ∙ ne_eqb (1 + name_number xs first) 0 (λ e. absurd (omega (arith, e)))
        ∙ sym (ap (same_name first) (same_is name x q) ∙ p)
    by false false p q rest =
        let inside : name_number xs name < length xs = omega (arith, there, ap (λ b. cond (not b) (1 + name_number xs name) 0) q) in
        (λ j. eqb (cond (not (p j)) (1 + name_number xs first) 0) (cond (not (q j)) (1 + name_number xs name) 0))
        ∙ shifted (name_number xs first) (name_number xs name) ∙ rest inside
      where
        shifted : (a b : ℕ) → eqb (1 + a) (1 + b) ≡ eqb a b
        shifted a b = elim (cases_eq a b) [
          | inl e ↦ eq-eqb (1 + a) (1 + b) (ap (λ n. 1 + n) e) ∙ sym (eq-eqb a b e)
          | inr ne ↦ ne_eqb (1 + a) (1 + b) (λ e. ne (omega (arith, e))) ∙ sym (ne_eqb a b ne)
        ]

-- ---- symbols that go by their names

-- a symbol that isn't local goes by its name, common or not
bound_any : (common : Bool) (bind : ℕ) → eqb bind 0 ≡ false → (common || not (eqb bind 0)) ≡ true
bound_any common bind bound = ap (λ b. common || not b) bound ∙ or_true common
  where
    or_true : (b : Bool) → (b || true) ≡ true
    or_true true = refl
    or_true false = refl

-- a definition with another binding than local goes by its name
defined_any : (common : Bool) (own bind home : ℕ) → eqb bind 0 ≡ false → (eqb own bind && not (eqb home 0) && not common) ≡ true → (common || not (eqb own 0)) ≡ true
defined_any common own bind home other is =
    let same : eqb own bind ≡ true = (and_parts (eqb own bind) (not (eqb home 0)) (and_parts (eqb own bind && not (eqb home 0)) (not common) is).0).0 in
    bound_any common own (ap (λ n. eqb n 0) (eqb-true own bind same) ∙ other)

-- a common symbol goes by its name; so does its row
pub common_goes : (s : SymbolParts) → is_common s ≡ true → goes_by_name s ≡ true
common_goes s common = ap (λ b. b || not (eqb s.bind 0)) common

pub bound_goes : (s : SymbolParts) → eqb s.bind 0 ≡ false → goes_by_name s ≡ true
bound_goes s bound = bound_any (is_common s) s.bind bound

pub definition_goes : (bind : ℕ) (s : SymbolParts) → eqb bind 0 ≡ false → is_definition bind s ≡ true → goes_by_name s ≡ true
definition_goes bind s other is = defined_any (is_common s) s.bind bind s.home other is

pub common_row_goes : (r : SymbolRow) → row_is_common r ≡ true → row_goes_by_name r ≡ true
common_row_goes r common = ap (λ b. b || not (eqb r.bind 0)) common

pub global_row_goes : (r : SymbolRow) → eqb r.bind 1 ≡ true → row_goes_by_name r ≡ true
global_row_goes r global = bound_any (row_is_common r) r.bind (ap (λ n. eqb n 0) (eqb-true r.bind 1 global))

pub definition_row_goes : (bind : ℕ) → eqb bind 0 ≡ false → (r : SymbolRow) → row_defines bind r ≡ true → row_goes_by_name r ≡ true
definition_row_goes bind other r is = defined_any (row_is_common r) r.bind bind r.home other is

-- the number of its name
pub symbol_number_is : (names : List (List ℕ)) (s : SymbolParts) → goes_by_name s ≡ true → symbol_number names s ≡ name_number names s.name
symbol_number_is names s goes = ap (λ b. cond b (name_number names s.name) 0) goes
