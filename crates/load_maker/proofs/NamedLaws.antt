-- The functions that an object names: those that it defines, and then each that it calls where it is called first.
use Rattle.std.proofs.Common.{◌≡◌, ℕ, zero, suc, ◌+◌, ◌-◌, ◌≤◌, List, [], ◌∷◌, ◌++◌, length, Bool, true, false, cond, Some, slice_get, refl, sym, ap, ◌∙◌, arith, eqb, eq-eqb, append_assoc, length-append}
use Rattle.std.specs.Prelude.{All, ◌||◌, not}
use Rattle.std.specs.List.{fold, list_any, position_or_len, range_with_len}
use Rattle.std.proofs.lemmas.Bool.{eqb-true, ne_eqb, or_parts}
use Rattle.std.proofs.lemmas.List.{append-nil, map-id}
use Rattle.std.proofs.lemmas.List.Elements.{All-head, All-nil, All-push, All-tail}
use Rattle.std.proofs.lemmas.List.Folds.{list_any-append}
use Rattle.std.proofs.lemmas.List.FromFn.{length-range_with_len, map-range_with_len_more}
use Rattle.load_maker.specs.Objects.{symbol_of}
use Rattle.load_maker.specs.Statements.{all_called, named_by, with_number}
use Rattle.load_maker.specs.declared.statement.Statement.{Statement}
use Rattle.load_maker.specs.declared.statement.Statement.TheVariants.{Plain, Call, WithAddress}

-- ---- where a number stands

module _ (i : ℕ) where
  -- the search stops where the number stands, whatever follows it
  among : (xs ys : List ℕ) → list_any (λ j. eqb i j) xs ≡ true → position_or_len (λ j. eqb i j) (xs ++ ys) ≡ position_or_len (λ j. eqb i j) xs
  among [] ys any = absurd cc
  among (x ∷ xs) ys any = by (eqb i x) any (among xs ys)
    where
      by : (b : Bool) → (b || list_any (λ j. eqb i j) xs) ≡ true → (list_any (λ j. eqb i j) xs ≡ true → position_or_len (λ j. eqb i j) (xs ++ ys) ≡ position_or_len (λ j. eqb i j) xs)
          → cond (not b) (1 + position_or_len (λ j. eqb i j) (xs ++ ys)) 0 ≡ cond (not b) (1 + position_or_len (λ j. eqb i j) xs) 0
      by true found more = refl
      by false found more = ap (λ n. 1 + n) (more found)

  -- a new number goes last
  behind : (xs ys : List ℕ) → list_any (λ j. eqb i j) xs ≡ false → position_or_len (λ j. eqb i j) ((xs ++ i ∷ []) ++ ys) ≡ position_or_len (λ j. eqb i j) xs
  behind [] ys none = ap (λ b. cond (not b) (1 + position_or_len (λ j. eqb i j) ys) 0) (eq-eqb i i refl)
  behind (x ∷ xs) ys none =
      let two = or_parts (eqb i x) (list_any (λ j. eqb i j) xs) none in
      λ k. cond (not (eqb i x)) (1 + behind xs ys two.1 k) 0

  pub position_kept : (xs ys : List ℕ) → position_or_len (λ j. eqb i j) (with_number xs i ++ ys) ≡ position_or_len (λ j. eqb i j) xs
  position_kept xs ys = by (list_any (λ j. eqb i j) xs) refl
    where
      by : (b : Bool) → list_any (λ j. eqb i j) xs ≡ b → position_or_len (λ j. eqb i j) (cond b xs (xs ++ i ∷ []) ++ ys) ≡ position_or_len (λ j. eqb i j) xs
      by true any = among xs ys any
      by false none = behind xs ys none

-- ---- more numbers

-- numbers, and then others, each with a property
pub record IsMore (P : ℕ → Type 0) (numbers more : List ℕ) : Type 0 where
  pub rest : List ℕ
  pub are : more ≡ numbers ++ rest
  pub all : All P rest

module _ (P : ℕ → Type 0) (xs : List ℕ) where
  with_more : (more : List ℕ) (i : ℕ) → P i → IsMore P xs more → IsMore P xs (with_number more i)
  with_more more i own is = by (list_any (λ j. eqb i j) more)
    where
      by : (b : Bool) → IsMore P xs (cond b more (more ++ i ∷ []))
      by true = is
      by false = record {
        rest = is.rest ++ i ∷ [];
        are = ap (λ l. l ++ i ∷ []) is.are ∙ append_assoc xs is.rest (i ∷ []);
        all = All-push P is.rest i is.all own;
      }

  fold_more : (more ys : List ℕ) → All P ys → IsMore P xs more → IsMore P xs (fold with_number more ys)
  fold_more more [] all is = is
  fold_more more (y ∷ ys) all is = fold_more (with_number more y) ys (All-tail P y ys all) (with_more more y (All-head P y ys all) is)

  pub folded : (ys : List ℕ) → All P ys → IsMore P xs (fold with_number xs ys)
  folded ys all = fold_more xs ys all (record { rest = []; are = sym (append-nil xs); all = All-nil P })

-- what is called after some numbers
called_after : (xs : List ℕ) (statements : List Statement) → IsMore (λ j. Unit {0}) xs (named_by xs statements)
called_after xs statements = folded (λ j. Unit {0}) xs (all_called statements) (λ k d lt. tt)

-- the symbol of a function that is called, where it is named
pub call_symbol : (others : ℕ) (xs named : List ℕ) (i k : ℕ) (rest : List Statement) → k ≡ position_or_len (λ j. eqb i j) xs → named_by (with_number xs i) rest ≡ named → 1 + others + k ≡ symbol_of others named i
call_symbol others xs named i k rest at are =
    let more = called_after (with_number xs i) rest in
    let position : position_or_len (λ j. eqb i j) named ≡ k = ap (position_or_len (λ j. eqb i j)) (sym are ∙ more.are) ∙ position_kept i xs more.rest ∙ sym at in
    ap (λ n. 1 + others + n) (sym position)

-- ---- what is called is named

abbrev pub HasNumber : List ℕ → ℕ → Type 0
HasNumber named i = (k : ℕ) × (slice_get named k ≡ Some i) × (position_or_len (λ j. eqb i j) named ≡ k)

has_first : (xs : List ℕ) (i : ℕ) → list_any (λ j. eqb i j) xs ≡ true → HasNumber xs i
has_first [] i any = absurd cc
has_first (x ∷ xs) i any = by (eqb i x) refl any (has_first xs i)
  where
    by : (b : Bool) → eqb i x ≡ b → (b || list_any (λ j. eqb i j) xs) ≡ true → (list_any (λ j. eqb i j) xs ≡ true → HasNumber xs i) → HasNumber (x ∷ xs) i
    by true is any rest = (0, ap Some (sym (eqb-true i x is)), ap (λ b. cond (not b) (1 + position_or_len (λ j. eqb i j) xs) 0) is)
    by false is any rest =
        let more = rest any in
        (suc more.0, more.1, ap (λ b. cond (not b) (1 + position_or_len (λ j. eqb i j) xs) 0) is ∙ omega (arith, more.2))

any_left : (xs ys : List ℕ) (i : ℕ) → list_any (λ j. eqb i j) xs ≡ true → list_any (λ j. eqb i j) (xs ++ ys) ≡ true
any_left xs ys i any = list_any-append (λ j. eqb i j) xs ys ∙ ap (λ b. b || list_any (λ j. eqb i j) ys) any

any_added : (xs : List ℕ) (i : ℕ) → list_any (λ j. eqb i j) (with_number xs i) ≡ true
any_added xs i = by (list_any (λ j. eqb i j) xs) refl
  where
    by : (b : Bool) → list_any (λ j. eqb i j) xs ≡ b → list_any (λ j. eqb i j) (cond b xs (xs ++ i ∷ [])) ≡ true
    by true any = any
    by false any = list_any-append (λ j. eqb i j) xs (i ∷ []) ∙ (λ l. any l || (eq-eqb i i refl l || false))

called_named : (xs : List ℕ) (front back : List Statement) (i : ℕ) → list_any (λ j. eqb i j) (named_by xs (front ++ Call i ∷ back)) ≡ true
called_named xs [] back i =
    let more = called_after (with_number xs i) back in
    ap (list_any (λ j. eqb i j)) more.are ∙ any_left (with_number xs i) more.rest i (any_added xs i)
called_named xs (Plain w ∷ front) back i = called_named xs front back i
called_named xs (Call j ∷ front) back i = called_named (with_number xs j) front back i
called_named xs (WithAddress k w ∷ front) back i = called_named xs front back i

pub called_has : (defined : List ℕ) (statements front back : List Statement) (i : ℕ) → statements ≡ front ++ Call i ∷ back → HasNumber (named_by defined statements) i
called_has defined statements front back i split =
    has_first (named_by defined statements) i (ap (λ l. list_any (λ j. eqb i j) (named_by defined l)) split ∙ called_named defined front back i)

-- ---- numbers in order

-- a number behind those of a range isn't among them
behind_range : (i a n : ℕ) → a + n ≤ i → list_any (λ j. eqb i j) (range_with_len a n) ≡ false
behind_range i a zero le = refl
behind_range i a (suc n) le = λ k. ne_eqb i a (λ e. omega (arith, e, le)) k || behind_range i (a + 1) n (omega (arith, le)) k

pub range_more : (a i : ℕ) → a ≤ i → with_number (range_with_len a (i - a)) i ≡ range_with_len a (i + 1 - a)
range_more a i le =
    let range = range_with_len a (i - a) in
    let more : i + 1 - a ≡ (i - a) + 1 = omega arith in
    ap (λ b. cond b range (range ++ i ∷ [])) (behind_range i a (i - a) (omega (arith, le)))
    ∙ ap (λ l. l ++ i ∷ []) (sym (map-id range)) ∙ sym (map-range_with_len_more (λ k. k) a (i - a) i (omega arith)) ∙ map-id (range_with_len a ((i - a) + 1)) ∙ ap (range_with_len a) (sym more)

-- ---- how many there are

pub with_few : (xs : List ℕ) (i : ℕ) → length (with_number xs i) ≤ length xs + 1
with_few xs i = by (list_any (λ j. eqb i j) xs)
  where
    by : (b : Bool) → length (cond b xs (xs ++ i ∷ [])) ≤ length xs + 1
    by true = omega arith
    by false = omega (arith, length-append xs (i ∷ []))

fold_few : (xs ys : List ℕ) → length (fold with_number xs ys) ≤ length xs + length ys
fold_few xs [] = omega arith
fold_few xs (y ∷ ys) = omega (arith, fold_few (with_number xs y) ys, with_few xs y)

called_few : (statements : List Statement) → length (all_called statements) ≤ length statements
called_few [] = omega arith
called_few (Plain i ∷ rest) = omega (arith, called_few rest)
called_few (Call i ∷ rest) = omega (arith, called_few rest)
called_few (WithAddress k i ∷ rest) = omega (arith, called_few rest)

pub named_many : (numbers : List ℕ) (statements : List Statement) → length numbers ≤ length (named_by numbers statements)
named_many numbers statements =
    let more = called_after numbers statements in
    omega (arith, ap length more.are, length-append numbers more.rest)

pub named_few : (first count : ℕ) (statements : List Statement) → length (named_by (range_with_len first count) statements) ≤ count + length statements
named_few first count statements = omega (arith, fold_few (range_with_len first count) (all_called statements), called_few statements, length-range_with_len first count)
