-- Tables by the number of a name: one more row changes the entry of its own name alone.
use Rattle.std.proofs.Common.{◌≡◌, ℕ, ◌+◌, ◌<◌, ◌≢◌, Bool, true, false, cond, eqb, ◌&&◌, List, [], ◌∷◌, ◌++◌, length, get_or, set, take, max, refl, sym, ap, ◌∙◌, arith, map, inl, inr, Option, Some, None, replicate, get_or-set_same, get_or-set_other, length-set, fold}
use Rattle.std.specs.List.{range_with_len}
use Rattle.std.specs.Option.{option_or}
use Rattle.std.proofs.lemmas.Bool.{cases_eq, eq-eqb, ne_eqb, and_right}
use Rattle.std.proofs.lemmas.List.{append-nil, get_or-map, get_or-replicate, length-replicate, map-set, map_push, take_more}
use Rattle.std.proofs.lemmas.List.Elements.{filter_more}
use Rattle.std.proofs.lemmas.List.Folds.{find-append}
use Rattle.std.proofs.lemmas.Grind.{fold-append}
use Rattle.std.proofs.lemmas.List.FromFn.{fill_by_all, get_or-map-range_with_len, length-map-range_with_len}
use Rattle.psabi_sym.specs.declared.block.Block.{Block}
use Rattle.psabi_sym.specs.declared.meaning.Meaning.{Meaning}
use Rattle.psabi_sym.specs.declared.symbol_row.SymbolRow.{SymbolRow}
use Rattle.psabi_sym.specs.Invariants.Meanings.{first_found, row_meaning}
use Rattle.psabi_sym.specs.Invariants.Rows.{common_rows, first_of_both, first_row, grown_block, row_common_block, row_defines, row_is_common}

-- a table that is one value throughout
pub table_start : {X : Type 0} (f : ℕ → X) (n : ℕ) (x : X) → ((k : ℕ) → f k ≡ x) → replicate n x ≡ map f (range_with_len 0 n)
table_start f n x same = fill_by_all f (replicate n x) n x (length-replicate n x) (λ k within. get_or-replicate n k x x within ∙ sym (same k))

-- the number of entries of a table
pub table_count : {X : Type 0} (f : ℕ → X) {table : List X} {n : ℕ} → table ≡ map f (range_with_len 0 n) → length table ≡ n
table_count f {n = n} is = ap length is ∙ length-map-range_with_len f 0 n

-- what a table has at a number
pub table_at : {X : Type 0} (f : ℕ → X) (table : List X) (n k : ℕ) (d : X) → table ≡ map f (range_with_len 0 n) → k < n → get_or table k d ≡ f k
table_at f table n k d is below = ap (λ l. get_or l k d) is ∙ get_or-map-range_with_len f 0 n k k d below (omega arith)

-- a write at one number, if all others stay
pub table_step : {X : Type 0} (f g : ℕ → X) (n i : ℕ) (x d : X) → i < n → x ≡ g i → ((k : ℕ) → k ≢ i → f k ≡ g k)
    → set (map f (range_with_len 0 n)) i x ≡ map g (range_with_len 0 n)
table_step f g n i x d within here others =
    let table = map f (range_with_len 0 n) in
    let long : length table ≡ n = length-map-range_with_len f 0 n in
    fill_by_all g (set table i x) n d (length-set table i x ∙ long)
    (λ k below. elim (cases_eq k i) [
      | inl e ↦ ap (λ j. get_or (set table i x) j d) e ∙ get_or-set_same table i x d (omega arith) ∙ here ∙ ap g (sym e)
      | inr ne ↦ get_or-set_other table i k x d ne ∙ get_or-map-range_with_len f 0 n k k d below (omega arith) ∙ others k ne
    ])

pub and_true : (b : Bool) → (b && true) ≡ b
and_true true = refl
and_true false = refl

pub or_none : {X : Type 0} (o : Option X) → option_or o None ≡ o
or_none None = refl
or_none (Some x) = refl

-- the first definition of a name, with one more row
pub first_row_more : (bind : ℕ) (rows : List SymbolRow) (i : ℕ) (d : SymbolRow) (name : ℕ) → i < length rows
    → first_row bind (take (i + 1) rows) name
    ≡ option_or (first_row bind (take i rows) name) (cond (row_defines bind (get_or rows i d) && eqb (get_or rows i d).name name) (Some (get_or rows i d)) None)
first_row_more bind rows i d name within =
    ap (λ l. first_row bind l name) (take_more rows i d within)
    ∙ find-append (λ r. row_defines bind r && eqb r.name name) (take i rows) (get_or rows i d ∷ [])

pub first_row_step : (bind : ℕ) (rows : List SymbolRow) (i : ℕ) (d : SymbolRow) (n : ℕ) (e : Option SymbolRow) → i < length rows → (get_or rows i d).name < n
    → set (map (first_row bind (take i rows)) (range_with_len 0 n)) (get_or rows i d).name
    (first_of_both bind (get_or (map (first_row bind (take i rows)) (range_with_len 0 n)) (get_or rows i d).name e) (get_or rows i d))
    ≡ map (first_row bind (take (i + 1) rows)) (range_with_len 0 n)
first_row_step bind rows i d n e within named =
    let r = get_or rows i d in
    let f : ℕ → Option SymbolRow = first_row bind (take i rows) in
    let own : (row_defines bind r && eqb r.name r.name) ≡ row_defines bind r = ap (λ b. row_defines bind r && b) (eq-eqb r.name r.name refl) ∙ and_true (row_defines bind r) in
    table_step f (first_row bind (take (i + 1) rows)) n r.name _ e named
    (ap (λ o. first_of_both bind o r) (get_or-map-range_with_len f 0 n r.name r.name e named (omega arith))
    ∙ ap (λ b. option_or (f r.name) (cond b (Some r) None)) (sym own) ∙ sym (first_row_more bind rows i d r.name within))
    (λ k ne.
    let other : (row_defines bind r && eqb r.name k) ≡ false = and_right (row_defines bind r) (eqb r.name k) (ne_eqb r.name k (λ q. ne (sym q))) in
    sym (first_row_more bind rows i d k within ∙ ap (λ b. option_or (f k) (cond b (Some r) None)) other ∙ or_none (f k)))

-- a row that isn't a definition with the binding changes nothing
pub first_row_same : (bind : ℕ) (rows : List SymbolRow) (i : ℕ) (d : SymbolRow) (n : ℕ) → i < length rows → row_defines bind (get_or rows i d) ≡ false
    → map (first_row bind (take i rows)) (range_with_len 0 n) ≡ map (first_row bind (take (i + 1) rows)) (range_with_len 0 n)
first_row_same bind rows i d n within other =
    let r = get_or rows i d in
    let same : (k : ℕ) → first_row bind (take i rows) k ≡ first_row bind (take (i + 1) rows) k = λ k.
    sym (first_row_more bind rows i d k within ∙ ap (λ b. option_or (first_row bind (take i rows) k) (cond (b && eqb r.name k) (Some r) None)) other
    ∙ or_none (first_row bind (take i rows) k)) in
    λ j. map (λ k. same k j) (range_with_len 0 n)

-- the two laws for a table of meanings
pub weak_step : (rows : List SymbolRow) (i : ℕ) (d : SymbolRow) (n : ℕ) (e : Meaning) → i < length rows → (get_or rows i d).name < n → row_defines 2 (get_or rows i d) ≡ true
    → set (map row_meaning (map (first_row 2 (take i rows)) (range_with_len 0 n))) (get_or rows i d).name
    (first_found (get_or (map row_meaning (map (first_row 2 (take i rows)) (range_with_len 0 n))) (get_or rows i d).name e) (get_or rows i d))
    ≡ map row_meaning (map (first_row 2 (take (i + 1) rows)) (range_with_len 0 n))
weak_step rows i d n e within named defines =
    let r = get_or rows i d in
    let table = map (first_row 2 (take i rows)) (range_with_len 0 n) in
    let o = get_or table r.name None in
    let there : r.name < length table = omega (arith, length-map-range_with_len (first_row 2 (take i rows)) 0 n) in
    let here : get_or (map row_meaning table) r.name e ≡ row_meaning o = get_or-map row_meaning table r.name None e there in
    ap (λ m. set (map row_meaning table) r.name (first_found m r)) here
    ∙ ap (set (map row_meaning table) r.name) (by o)
    ∙ sym (map-set row_meaning table r.name (first_of_both 2 o r))
    ∙ ap (map row_meaning) (first_row_step 2 rows i d n None within named)
  where
    by : (o : Option SymbolRow) → first_found (row_meaning o) (get_or rows i d) ≡ row_meaning (first_of_both 2 o (get_or rows i d))
    by None = ap (λ b. row_meaning (cond b (Some (get_or rows i d)) None)) (sym defines)
    by (Some r) = refl

pub weak_same : (rows : List SymbolRow) (i : ℕ) (d : SymbolRow) (n : ℕ) → i < length rows → row_defines 2 (get_or rows i d) ≡ false
    → map row_meaning (map (first_row 2 (take i rows)) (range_with_len 0 n)) ≡ map row_meaning (map (first_row 2 (take (i + 1) rows)) (range_with_len 0 n))
weak_same rows i d n within other = ap (map row_meaning) (first_row_same 2 rows i d n within other)

-- the room of common symbols
abbrev block_of : List SymbolRow → Block
block_of rows = record { align = fold max 0 (map (λ r. max 1 r.value) rows); size = fold max 0 (map (λ r. r.size) rows) }

block_of_push : (rows : List SymbolRow) (r : SymbolRow) → block_of (rows ++ r ∷ []) ≡ record { align = max (block_of rows).align (max 1 r.value); size = max (block_of rows).size r.size }
block_of_push rows r = λ i. record {
  align = (ap (fold max 0) (map_push (λ s. max 1 s.value) rows r) ∙ fold-append max 0 (map (λ s. max 1 s.value) rows) (max 1 r.value ∷ [])) i;
  size = (ap (fold max 0) (map_push (λ s. s.size) rows r) ∙ fold-append max 0 (map (λ s. s.size) rows) (r.size ∷ [])) i;
}

-- the room of a name, with one more row
common_block_more : (rows : List SymbolRow) (i : ℕ) (d : SymbolRow) (name : ℕ) → i < length rows
    → row_common_block (take (i + 1) rows) name
    ≡ block_of (common_rows (take i rows) name ++ cond (row_is_common (get_or rows i d) && eqb (get_or rows i d).name name) (get_or rows i d ∷ []) [])
common_block_more rows i d name within = ap block_of (filter_more (λ r. row_is_common r && eqb r.name name) rows i d within)

pub common_block_step : (rows : List SymbolRow) (i : ℕ) (d : SymbolRow) (n : ℕ) (e : Block) → i < length rows → (get_or rows i d).name < n
    → set (map (row_common_block (take i rows)) (range_with_len 0 n)) (get_or rows i d).name
    (grown_block (get_or (map (row_common_block (take i rows)) (range_with_len 0 n)) (get_or rows i d).name e) (get_or rows i d))
    ≡ map (row_common_block (take (i + 1) rows)) (range_with_len 0 n)
common_block_step rows i d n e within named =
    let r = get_or rows i d in
    let f : ℕ → Block = row_common_block (take i rows) in
    let own : (row_is_common r && eqb r.name r.name) ≡ row_is_common r = ap (λ b. row_is_common r && b) (eq-eqb r.name r.name refl) ∙ and_true (row_is_common r) in
    table_step f (row_common_block (take (i + 1) rows)) n r.name _ e named
    (ap (λ b. grown_block b r) (get_or-map-range_with_len f 0 n r.name r.name e named (omega arith))
    ∙ grown_by (row_is_common r) refl ∙ ap (λ b. block_of (common_rows (take i rows) r.name ++ cond b (r ∷ []) [])) (sym own)
    ∙ sym (common_block_more rows i d r.name within))
    (λ k ne.
    let other : (row_is_common r && eqb r.name k) ≡ false = and_right (row_is_common r) (eqb r.name k) (ne_eqb r.name k (λ q. ne (sym q))) in
    sym (common_block_more rows i d k within ∙ ap (λ b. block_of (common_rows (take i rows) k ++ cond b (r ∷ []) [])) other
    ∙ ap block_of (append-nil (common_rows (take i rows) k))))
  where
    grown_by : (b : Bool) → row_is_common (get_or rows i d) ≡ b → grown_block (row_common_block (take i rows) (get_or rows i d).name) (get_or rows i d)
        ≡ block_of (common_rows (take i rows) (get_or rows i d).name ++ cond (row_is_common (get_or rows i d)) (get_or rows i d ∷ []) [])
    grown_by true is =
        let r = get_or rows i d in
        let b = row_common_block (take i rows) r.name in
        ap (λ t. cond t (record { align = max b.align (max 1 r.value); size = max b.size r.size }) b) is
        ∙ sym (block_of_push (common_rows (take i rows) r.name) r)
        ∙ ap (λ t. block_of (common_rows (take i rows) r.name ++ cond t (r ∷ []) [])) (sym is)
    grown_by false is =
        let r = get_or rows i d in
        let b = row_common_block (take i rows) r.name in
        ap (λ t. cond t (record { align = max b.align (max 1 r.value); size = max b.size r.size }) b) is
        ∙ sym (ap block_of (append-nil (common_rows (take i rows) r.name)))
        ∙ ap (λ t. block_of (common_rows (take i rows) r.name ++ cond t (r ∷ []) [])) (sym is)

-- a row that isn't common changes nothing
pub common_block_same : (rows : List SymbolRow) (i : ℕ) (d : SymbolRow) (n : ℕ) → i < length rows → row_is_common (get_or rows i d) ≡ false
    → map (row_common_block (take i rows)) (range_with_len 0 n) ≡ map (row_common_block (take (i + 1) rows)) (range_with_len 0 n)
common_block_same rows i d n within other =
    let r = get_or rows i d in
    let same : (k : ℕ) → row_common_block (take i rows) k ≡ row_common_block (take (i + 1) rows) k = λ k.
    sym (common_block_more rows i d k within ∙ ap (λ b. block_of (common_rows (take i rows) k ++ cond (b && eqb r.name k) (r ∷ []) [])) other
    ∙ ap block_of (append-nil (common_rows (take i rows) k))) in
    λ j. map (λ k. same k j) (range_with_len 0 n)
