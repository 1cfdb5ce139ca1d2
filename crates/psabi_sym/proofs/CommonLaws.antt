-- Laws of common symbols by their rows. A name is placed at its first row that takes room, so what is placed grows by a row
-- if its name has no address yet. The room of all that is placed is bounded by a sum over all rows, since the room of a name is
-- bounded by that of its own rows.
use Rattle.std.proofs.Common.{◌≡◌, ℕ, zero, suc, ◌+◌, ◌<◌, ◌≤◌, Bool, true, false, cond, eqb, not, ◌&&◌, ◌||◌, List, [], ◌∷◌, ◌++◌, length, get_or, take, max, refl, sym, ap, ◌∙◌, arith, map, filter, fold, inl, inr, Option, Some, None, is_none, All, ◌⊎◌, set}
use Rattle.std.specs.List.{find, list_any, range_with_len, sum_by}
use Rattle.std.specs.Option.{option_map, option_or}
use Rattle.std.proofs.lemmas.Bool.{and_parts, cases_Bool, eq-eqb, eqb-true, eqb-false, ne_eqb}
use Rattle.std.proofs.lemmas.List.{append-nil, get_or-take, length-take-le, map_push}
use Rattle.std.proofs.lemmas.List.Elements.{All-cons, All-filter, All-head, All-nil, All-tail, filter-append, filter_more}
use Rattle.std.proofs.lemmas.List.Folds.{fold-map}
use Rattle.std.proofs.lemmas.List.Sums.{sum_by-cons, sum_by_push}
use Rattle.psabi_sym.specs.declared.block.Block.{Block}
use Rattle.psabi_sym.specs.declared.symbol_row.SymbolRow.{SymbolRow}
use Rattle.psabi_sym.specs.Blocks.{aligned_up, end_from, placed_from, room_of, room_of_all}
use Rattle.psabi_sym.specs.Invariants.Rows.{common_rows, first_row, first_rows, placed_rows, row_address_of, row_common_block, row_common_room, row_is_common, row_room, row_takes_room}
use Rattle.psabi_sym.proofs.Tables.{or_none, table_at, table_step}
use Rattle.psabi_sym.proofs.BlockLaws.{end_from_fits, end_from_push, placed_from_push}

-- ---- the first of each name

-- a row has this name
abbrev pub has_name : ℕ → SymbolRow → Bool
has_name k r = eqb r.name k

-- taking out another name's rows changes nothing of a name
any_kept : (x : SymbolRow) (k : ℕ) (ys : List SymbolRow) → eqb x.name k ≡ false
    → list_any (has_name k) (filter (λ s. not (eqb s.name x.name)) ys) ≡ list_any (has_name k) ys
any_kept x k [] other = refl
any_kept x k (y ∷ ys) other = by (any_kept x k ys other) (cases_Bool (eqb y.name x.name))
  where
    by : list_any (has_name k) (filter (λ s. not (eqb s.name x.name)) ys) ≡ list_any (has_name k) ys → ((eqb y.name x.name ≡ true) ⊎ (eqb y.name x.name ≡ false))
        → list_any (has_name k) (filter (λ s. not (eqb s.name x.name)) (y ∷ ys)) ≡ list_any (has_name k) (y ∷ ys)
    by rest (inl e) =
        ap (λ b. list_any (has_name k) (cond (not b) (y ∷ filter (λ s. not (eqb s.name x.name)) ys) (filter (λ s. not (eqb s.name x.name)) ys))) e
        ∙ rest ∙ ap (λ b. b || list_any (has_name k) ys) (sym (ap (λ n. eqb n k) (eqb-true y.name x.name e) ∙ other))
    by rest (inr e) =
        ap (λ b. list_any (has_name k) (cond (not b) (y ∷ filter (λ s. not (eqb s.name x.name)) ys) (filter (λ s. not (eqb s.name x.name)) ys))) e
        ∙ ap (λ b. eqb y.name k || b) rest

-- a name is among the firsts if it is among all
pub any_firsts : (k : ℕ) (xs : List SymbolRow) → list_any (has_name k) (first_rows xs) ≡ list_any (has_name k) xs
any_firsts k [] = refl
any_firsts k (x ∷ xs) = by (any_firsts k xs) (cases_Bool (eqb x.name k))
  where
    by : list_any (has_name k) (first_rows xs) ≡ list_any (has_name k) xs → ((eqb x.name k ≡ true) ⊎ (eqb x.name k ≡ false))
        → list_any (has_name k) (first_rows (x ∷ xs)) ≡ list_any (has_name k) (x ∷ xs)
    by rest (inl e) =
        ap (λ b. b || list_any (has_name k) (filter (λ s. not (eqb s.name x.name)) (first_rows xs))) e
        ∙ ap (λ b. b || list_any (has_name k) xs) (sym e)
    by rest (inr e) = ap (λ b. eqb x.name k || b) (any_kept x k (first_rows xs) e ∙ rest)

-- the test of two names doesn't depend on their order
eqb_swap : (a b : ℕ) → eqb a b ≡ eqb b a
eqb_swap a b = by (cases_Bool (eqb a b))
  where
    by : ((eqb a b ≡ true) ⊎ (eqb a b ≡ false)) → eqb a b ≡ eqb b a
    by (inl e) = e ∙ sym (eq-eqb b a (sym (eqb-true a b e)))
    by (inr e) = e ∙ sym (ne_eqb b a (λ q. eqb-false a b e (sym q)))

-- the last row, if it is none of the firsts so far
kept_one : (x r : SymbolRow) (p any : Bool) → eqb x.name r.name ≡ p
    → filter (λ s. not (eqb s.name x.name)) (cond any [] (r ∷ [])) ≡ cond (eqb x.name r.name || any) [] (r ∷ [])
kept_one x r true true e = ap (λ b. cond (b || true) [] (r ∷ [])) (sym e)
kept_one x r true false e =
    ap (λ b. cond (not b) (r ∷ []) []) (eqb_swap r.name x.name ∙ e) ∙ ap (λ b. cond (b || false) [] (r ∷ [])) (sym e)
kept_one x r false true e = ap (λ b. cond (b || true) [] (r ∷ [])) (sym e)
kept_one x r false false e =
    ap (λ b. cond (not b) (r ∷ []) []) (eqb_swap r.name x.name ∙ e) ∙ ap (λ b. cond (b || false) [] (r ∷ [])) (sym e)

-- one more row is a first if its name wasn't there
pub first_rows_push : (xs : List SymbolRow) (r : SymbolRow) → first_rows (xs ++ r ∷ []) ≡ first_rows xs ++ cond (list_any (has_name r.name) xs) [] (r ∷ [])
first_rows_push [] r = refl
first_rows_push (x ∷ xs) r =
    let others = λ (ys : List SymbolRow). filter (λ s. not (eqb s.name x.name)) ys in
    let any = list_any (has_name r.name) xs in
    ap (λ ys. x ∷ others ys) (first_rows_push xs r)
    ∙ ap (λ ys. x ∷ ys) (filter-append (λ s. not (eqb s.name x.name)) (first_rows xs) (cond any [] (r ∷ []))
    ∙ ap (λ ys. others (first_rows xs) ++ ys) (kept_one x r (eqb x.name r.name) any refl))

-- ---- addresses

-- a name has no address if it isn't among what was placed
pub address_is_none : (f : SymbolRow → Block) (at : ℕ) (k : ℕ) (xs : List SymbolRow)
    → is_none (row_address_of (placed_from f at xs) k) ≡ not (list_any (has_name k) xs)
address_is_none f at k [] = refl
address_is_none f at k (x ∷ xs) = by (eqb x.name k) (address_is_none f (aligned_up (f x).align at + (f x).size) k xs)
  where
    by : (b : Bool) → is_none (row_address_of (placed_from f (aligned_up (f x).align at + (f x).size) xs) k) ≡ not (list_any (has_name k) xs)
        → is_none (option_map {T = SymbolRow × ℕ} (λ e. e.1) (cond b (Some (x, aligned_up (f x).align at)) (find (λ e. eqb e.0.name k) (placed_from f (aligned_up (f x).align at + (f x).size) xs))))
        ≡ not (b || list_any (has_name k) xs)
    by true h = refl
    by false h = h

-- an address of one more
pub address_push : (ps : List (SymbolRow × ℕ)) (r : SymbolRow) (v k : ℕ)
    → row_address_of (ps ++ (r, v) ∷ []) k ≡ option_or (row_address_of ps k) (cond (eqb r.name k) (Some v) None)
address_push [] r v k = by (eqb r.name k)
  where
    by : (b : Bool) → option_map {T = SymbolRow × ℕ} (λ e. e.1) (cond b (Some (r, v)) None) ≡ cond b (Some v) None
    by true = refl
    by false = refl
address_push (p ∷ ps) r v k = by (eqb p.0.name k) (address_push ps r v k)
  where
    by : (b : Bool) → row_address_of (ps ++ (r, v) ∷ []) k ≡ option_or (row_address_of ps k) (cond (eqb r.name k) (Some v) None)
        → option_map {T = SymbolRow × ℕ} (λ e. e.1) (cond b (Some p) (find (λ e. eqb e.0.name k) (ps ++ (r, v) ∷ [])))
        ≡ option_or (option_map {T = SymbolRow × ℕ} (λ e. e.1) (cond b (Some p) (find (λ e. eqb e.0.name k) ps))) (cond (eqb r.name k) (Some v) None)
    by true h = refl
    by false h = h

-- what is placed, with one more row
pub placed_more : (all rows : List SymbolRow) (f : SymbolRow → Block) (at i : ℕ) (d : SymbolRow) → i < length rows
    → placed_rows all (take (i + 1) rows) ≡ placed_rows all (take i rows)
    ++ cond (row_takes_room all (get_or rows i d) && is_none (row_address_of (placed_from f at (placed_rows all (take i rows))) (get_or rows i d).name)) (get_or rows i d ∷ []) []
unfolding placed_rows
placed_more all rows f at i d within =
    let r = get_or rows i d in
    let before = filter (row_takes_room all) (take i rows) in
    let new : is_none (row_address_of (placed_from f at (first_rows before)) r.name) ≡ not (list_any (has_name r.name) before) =
    address_is_none f at r.name (first_rows before) ∙ ap not (any_firsts r.name before) in
    ap first_rows (filter_more (row_takes_room all) rows i d within)
    ∙ by (row_takes_room all r)
    ∙ ap (λ b. first_rows before ++ cond (row_takes_room all r && b) (r ∷ []) []) (sym new)
  where
    by : (b : Bool) → first_rows (filter (row_takes_room all) (take i rows) ++ cond b (get_or rows i d ∷ []) [])
        ≡ first_rows (filter (row_takes_room all) (take i rows)) ++ cond (b && not (list_any (has_name (get_or rows i d).name) (filter (row_takes_room all) (take i rows)))) (get_or rows i d ∷ []) []
    by true =
        first_rows_push (filter (row_takes_room all) (take i rows)) (get_or rows i d)
        ∙ ap (λ ys. first_rows (filter (row_takes_room all) (take i rows)) ++ ys) (turned (list_any (has_name (get_or rows i d).name) (filter (row_takes_room all) (take i rows))))
      where
        turned : (b : Bool) → cond b [] (get_or rows i d ∷ []) ≡ cond (not b) (get_or rows i d ∷ []) []
        turned true = refl
        turned false = refl
    by false = ap first_rows (append-nil (filter (row_takes_room all) (take i rows))) ∙ sym (append-nil (first_rows (filter (row_takes_room all) (take i rows))))

-- ---- rooms

-- the room that the rows of a name may take
abbrev pub room_of_name : List SymbolRow → ℕ → ℕ
room_of_name rows k = sum_by (λ r. cond (has_name k r) (row_common_room r) 0) rows

-- rows of other names
abbrev others_of : ℕ → List SymbolRow → List SymbolRow
others_of k rows = filter (λ r. not (has_name k r)) rows

-- a name's room and that of all others
room_split : (k : ℕ) (rows : List SymbolRow) → room_of_name rows k + sum_by row_common_room (others_of k rows) ≡ sum_by row_common_room rows
room_split k [] = refl
room_split k (r ∷ rs) = by (has_name k r) refl (room_split k rs)
  where
    by : (b : Bool) → has_name k r ≡ b → room_of_name rs k + sum_by row_common_room (others_of k rs) ≡ sum_by row_common_room rs
        → room_of_name (r ∷ rs) k + sum_by row_common_room (others_of k (r ∷ rs)) ≡ sum_by row_common_room (r ∷ rs)
    by true is h =
        omega (arith, sum_by-cons (λ s. cond (has_name k s) (row_common_room s) 0) r rs, sum_by-cons row_common_room r rs, ap (λ b. cond b (row_common_room r) 0) is, ap (λ b. sum_by row_common_room (cond (not b) (r ∷ others_of k rs) (others_of k rs))) is, h)
    by false is h =
        omega (arith, sum_by-cons (λ s. cond (has_name k s) (row_common_room s) 0) r rs, sum_by-cons row_common_room r rs, ap (λ b. cond b (row_common_room r) 0) is, ap (λ b. sum_by row_common_room (cond (not b) (r ∷ others_of k rs) (others_of k rs))) is, sum_by-cons row_common_room r (others_of k rs), h)

-- taking out another name's rows leaves a name its room
room_kept : (k y : ℕ) (rows : List SymbolRow) → eqb k y ≡ false → room_of_name (others_of y rows) k ≡ room_of_name rows k
room_kept k y [] other = refl
room_kept k y (r ∷ rs) other = by (has_name y r) refl (room_kept k y rs other)
  where
    by : (b : Bool) → has_name y r ≡ b → room_of_name (others_of y rs) k ≡ room_of_name rs k → room_of_name (others_of y (r ∷ rs)) k ≡ room_of_name (r ∷ rs) k
    by true is h =
        let not_k : has_name k r ≡ false = ap (λ n. eqb n k) (eqb-true r.name y is) ∙ eqb_swap y k ∙ other in
        omega (arith, ap (λ b. room_of_name (cond (not b) (r ∷ others_of y rs) (others_of y rs)) k) is, sum_by-cons (λ s. cond (has_name k s) (row_common_room s) 0) r rs, ap (λ b. cond b (row_common_room r) 0) not_k, h)
    by false is h =
        omega (arith, ap (λ b. room_of_name (cond (not b) (r ∷ others_of y rs) (others_of y rs)) k) is, sum_by-cons (λ s. cond (has_name k s) (row_common_room s) 0) r rs, sum_by-cons (λ s. cond (has_name k s) (row_common_room s) 0) r (others_of y rs), h)

-- rows of other names have no more room among all
sum_others : (y : ℕ) (rows xs : List SymbolRow) → sum_by (λ r. room_of_name rows r.name) (others_of y xs) ≤ sum_by (λ r. room_of_name (others_of y rows) r.name) xs
sum_others y rows [] = omega arith
sum_others y rows (x ∷ xs) = by (has_name y x) refl (sum_others y rows xs)
  where
    by : (b : Bool) → has_name y x ≡ b → sum_by (λ r. room_of_name rows r.name) (others_of y xs) ≤ sum_by (λ r. room_of_name (others_of y rows) r.name) xs
        → sum_by (λ r. room_of_name rows r.name) (others_of y (x ∷ xs)) ≤ sum_by (λ r. room_of_name (others_of y rows) r.name) (x ∷ xs)
    by true is h =
        omega (arith, ap (λ b. sum_by (λ r. room_of_name rows r.name) (cond (not b) (x ∷ others_of y xs) (others_of y xs))) is, sum_by-cons (λ r. room_of_name (others_of y rows) r.name) x xs, h)
    by false is h =
        omega (arith, ap (λ b. sum_by (λ r. room_of_name rows r.name) (cond (not b) (x ∷ others_of y xs) (others_of y xs))) is, sum_by-cons (λ r. room_of_name rows r.name) x (others_of y xs), sum_by-cons (λ r. room_of_name (others_of y rows) r.name) x xs, room_kept x.name y rows is, h)

-- the rooms of different names are no more than all room
pub firsts_room : (xs rows : List SymbolRow) → sum_by (λ r. room_of_name rows r.name) (first_rows xs) ≤ sum_by row_common_room rows
firsts_room [] rows = omega arith
firsts_room (x ∷ xs) rows =
    omega (arith, sum_by-cons (λ r. room_of_name rows r.name) x (others_of x.name (first_rows xs)), sum_others x.name rows (first_rows xs), firsts_room xs (others_of x.name rows), room_split x.name rows)

-- the greatest of numbers is no more than their sum, and no less than where it starts
greatest_sum : (f : SymbolRow → ℕ) (a : ℕ) (rows : List SymbolRow) → (fold max a (map f rows) ≤ a + sum_by f rows) × (a ≤ fold max a (map f rows))
greatest_sum f a [] = (omega arith, omega arith)
greatest_sum f a (r ∷ rs) =
    let rest = greatest_sum f (max a (f r)) rs in
    (omega (arith, sum_by-cons f r rs, rest.0), omega (arith, rest.1))

-- sums of two kinds at once
sum_both : (f g : SymbolRow → ℕ) (rows : List SymbolRow) → sum_by f rows + sum_by g rows ≡ sum_by (λ r. f r + g r) rows
sum_both f g [] = refl
sum_both f g (r ∷ rs) = omega (arith, sum_by-cons f r rs, sum_by-cons g r rs, sum_by-cons (λ s. f s + g s) r rs, sum_both f g rs)

-- the common rows of a name have all its room
common_rows_room : (rows : List SymbolRow) (k : ℕ) → sum_by (λ r. r.size + max 1 r.value) (common_rows rows k) ≡ room_of_name rows k
common_rows_room [] k = refl
common_rows_room (r ∷ rs) k = by (row_is_common r) (has_name k r) refl refl (common_rows_room rs k)
  where
    by : (p q : Bool) → row_is_common r ≡ p → has_name k r ≡ q → sum_by (λ s. s.size + max 1 s.value) (common_rows rs k) ≡ room_of_name rs k
        → sum_by (λ s. s.size + max 1 s.value) (common_rows (r ∷ rs) k) ≡ room_of_name (r ∷ rs) k
    by true true p q h =
        omega (arith, ap (λ b. sum_by (λ s. s.size + max 1 s.value) (cond (b && has_name k r) (r ∷ common_rows rs k) (common_rows rs k))) p, ap (λ b. sum_by (λ s. s.size + max 1 s.value) (cond (true && b) (r ∷ common_rows rs k) (common_rows rs k))) q, sum_by-cons (λ s. s.size + max 1 s.value) r (common_rows rs k), sum_by-cons (λ s. cond (has_name k s) (row_common_room s) 0) r rs, ap (λ b. cond b (row_common_room r) 0) q, ap (λ b. cond b (r.size + max 1 r.value) 0) p, h)
    by false q p _ h =
        omega (arith, ap (λ b. sum_by (λ s. s.size + max 1 s.value) (cond (b && has_name k r) (r ∷ common_rows rs k) (common_rows rs k))) p, sum_by-cons (λ s. cond (has_name k s) (row_common_room s) 0) r rs, nothing q p, h)
      where
        nothing : (b : Bool) → row_is_common r ≡ false → cond (has_name k r) (row_common_room r) 0 ≡ 0
        nothing _ p = ap (λ c. cond (has_name k r) (cond c (r.size + max 1 r.value) 0) 0) p ∙ zeros (has_name k r)
          where
            zeros : (b : Bool) → ◌≡◌ {A = ℕ} (cond b 0 0) 0
            zeros true = refl
            zeros false = refl
    by true false p q h =
        omega (arith, ap (λ b. sum_by (λ s. s.size + max 1 s.value) (cond (b && has_name k r) (r ∷ common_rows rs k) (common_rows rs k))) p, ap (λ b. sum_by (λ s. s.size + max 1 s.value) (cond (true && b) (r ∷ common_rows rs k) (common_rows rs k))) q, sum_by-cons (λ s. cond (has_name k s) (row_common_room s) 0) r rs, ap (λ b. cond b (row_common_room r) 0) q, h)

-- the room of a name that has a common row is no more than its rows' room
pub block_room : (rows : List SymbolRow) (k : ℕ) → 0 < length (common_rows rows k) → room_of (row_common_block rows k) ≤ room_of_name rows k
block_room rows k some = by (common_rows rows k) some (common_rows_room rows k)
  where
    by : (same : List SymbolRow) → 0 < length same → sum_by (λ r. r.size + max 1 r.value) same ≡ room_of_name rows k
        → fold max 0 (map (λ r. r.size) same) + max 1 (fold max 0 (map (λ r. max 1 r.value) same)) ≤ room_of_name rows k
    by [] few h = absurd (omega arith)
    by (r ∷ rs) few h =
        omega (arith, (greatest_sum (λ s. s.size) 0 (r ∷ rs)).0, (greatest_sum (λ s. max 1 s.value) 0 (r ∷ rs)).0, (greatest_sum (λ s. max 1 s.value) (max 0 (max 1 r.value)) rs).1, sum_both (λ s. s.size) (λ s. max 1 s.value) (r ∷ rs), h)

-- a common row is among those of its name
common_among : (rows : List SymbolRow) (i : ℕ) (d : SymbolRow) → i < length rows → row_is_common (get_or rows i d) ≡ true → 0 < length (common_rows rows (get_or rows i d).name)
common_among [] i d within common = absurd (omega arith)
common_among (r ∷ rs) zero d within common =
    omega (arith, ap (λ b. length (cond (b && eqb r.name r.name) (r ∷ common_rows rs r.name) (common_rows rs r.name))) common, ap (λ b. length (cond (true && b) (r ∷ common_rows rs r.name) (common_rows rs r.name))) (eq-eqb r.name r.name refl))
common_among (r ∷ rs) (suc i) d within common =
    let k = (get_or rs i d).name in
    more (row_is_common r && eqb r.name k) (common_among rs i d (omega arith) common)
  where
    more : (b : Bool) → 0 < length (common_rows rs (get_or rs i d).name) → 0 < length (cond b (r ∷ common_rows rs (get_or rs i d).name) (common_rows rs (get_or rs i d).name))
    more true h = omega arith
    more false h = h

-- what the firsts keep of each row
All-firsts : (P : SymbolRow → Type 0) (xs : List SymbolRow) → All P xs → All P (first_rows xs)
All-firsts P [] all = all
All-firsts P (x ∷ xs) all =
    All-cons P x _ (All-head P x xs all) (All-filter (λ s. not (eqb s.name x.name)) P (first_rows xs) (All-firsts P xs (All-tail P x xs all)))

-- what passes a test has what each row that passes it has
All-passing : (p : SymbolRow → Bool) (P : SymbolRow → Type 0) (xs : List SymbolRow)
    → ((i : ℕ) (d : SymbolRow) → i < length xs → p (get_or xs i d) ≡ true → P (get_or xs i d)) → All P (filter p xs)
All-passing p P [] each = All-nil P
All-passing p P (x ∷ xs) each = by (p x) refl (All-passing p P xs (λ i d within. each (suc i) d (omega arith)))
  where
    by : (b : Bool) → p x ≡ b → All P (filter p xs) → All P (cond b (x ∷ filter p xs) (filter p xs))
    by true is rest = All-cons P x (filter p xs) (each 0 x (omega arith) is) rest
    by false is rest = rest

-- a sum of what is no more is no more
sum_at_most : (f g : SymbolRow → ℕ) (xs : List SymbolRow) → All (λ r. f r ≤ g r) xs → sum_by f xs ≤ sum_by g xs
sum_at_most f g [] all = omega arith
sum_at_most f g (x ∷ xs) all =
    omega (arith, sum_by-cons f x xs, sum_by-cons g x xs, All-head (λ r. f r ≤ g r) x xs all, sum_at_most f g xs (All-tail (λ r. f r ≤ g r) x xs all))

-- all that is placed has no more room than all rows
pub placed_room : (rows : List SymbolRow) (n : ℕ) → n ≤ length rows → room_of_all (map (row_room rows) (placed_rows rows (take n rows))) ≤ sum_by row_common_room rows
unfolding placed_rows
placed_room rows n few =
    let placed = first_rows (filter (row_takes_room rows) (take n rows)) in
    let fits = λ (r : SymbolRow). room_of (row_room rows r) ≤ room_of_name rows r.name in
    let each : All fits placed = All-firsts fits (filter (row_takes_room rows) (take n rows))
    (All-passing (row_takes_room rows) fits (take n rows) (λ i d within takes.
    let below : i < n = omega (arith, length-take-le n rows few) in
    let same : get_or (take n rows) i d ≡ get_or rows i d = get_or-take n rows i d below in
    let common : row_is_common (get_or rows i d) ≡ true = ap row_is_common (sym same) ∙ (and_parts (row_is_common (get_or (take n rows) i d)) _ takes).0 in
    rw same (block_room rows (get_or rows i d).name (common_among rows i d (omega arith) common)))) in
    omega (arith, fold-map (λ a b. a + room_of b) (row_room rows) 0 placed, sum_at_most (λ r. room_of (row_room rows r)) (λ r. room_of_name rows r.name) placed each, firsts_room (filter (row_takes_room rows) (take n rows)) rows)

-- ---- a step of placing

-- whether a row is placed next
abbrev pub is_next : List SymbolRow → List SymbolRow → ℕ → SymbolRow → Bool
is_next all before start r =
    row_is_common r && is_none (first_row 1 all r.name) && is_none (row_address_of (placed_from (row_room all) start (placed_rows all before)) r.name)

module _ (rows : List SymbolRow) (start i : ℕ) (d : SymbolRow) (within : i < length rows) where
  next : is_next rows (take i rows) start (get_or rows i d) ≡ true → placed_rows rows (take (i + 1) rows) ≡ placed_rows rows (take i rows) ++ get_or rows i d ∷ []
  next is = placed_more rows rows (row_room rows) start i d within ∙ ap (λ b. placed_rows rows (take i rows) ++ cond b (get_or rows i d ∷ []) []) is

  -- a row that isn't common, or isn't the first of its name, changes nothing
  pub stays : is_next rows (take i rows) start (get_or rows i d) ≡ false → placed_rows rows (take (i + 1) rows) ≡ placed_rows rows (take i rows)
  stays is =
      placed_more rows rows (row_room rows) start i d within ∙ ap (λ b. placed_rows rows (take i rows) ++ cond b (get_or rows i d ∷ []) []) is
      ∙ append-nil (placed_rows rows (take i rows))

  -- where all ends, with one that is
  pub end_next : is_next rows (take i rows) start (get_or rows i d) ≡ true
      → end_from start (map (row_room rows) (placed_rows rows (take (i + 1) rows)))
      ≡ aligned_up (row_room rows (get_or rows i d)).align (end_from start (map (row_room rows) (placed_rows rows (take i rows)))) + (row_room rows (get_or rows i d)).size
  end_next is =
      ap (λ l. end_from start (map (row_room rows) l)) (next is)
      ∙ ap (end_from start) (map_push (row_room rows) (placed_rows rows (take i rows)) (get_or rows i d))
      ∙ end_from_push start (map (row_room rows) (placed_rows rows (take i rows))) (row_room rows (get_or rows i d))

  -- the block of the next common name fits
  pub next_fits : is_next rows (take i rows) start (get_or rows i d) ≡ true
      → end_from start (map (row_room rows) (placed_rows rows (take i rows))) + room_of (row_room rows (get_or rows i d)) ≤ start + sum_by row_common_room rows
  next_fits is =
      let placed = placed_rows rows (take i rows) in
      omega (
        arith,
        end_from_fits start (map (row_room rows) placed),
        placed_room rows (i + 1) (omega arith),
        ap (λ l. room_of_all (map (row_room rows) l)) (next is),
        ap room_of_all (map_push (row_room rows) placed (get_or rows i d)),
        sum_by_push room_of (map (row_room rows) placed) (row_room rows (get_or rows i d)),
      )

  -- the addresses, with one that is
  pub address_next : (k : ℕ) → is_next rows (take i rows) start (get_or rows i d) ≡ true
      → row_address_of (placed_from (row_room rows) start (placed_rows rows (take (i + 1) rows))) k
      ≡ option_or (row_address_of (placed_from (row_room rows) start (placed_rows rows (take i rows))) k)
      (cond (eqb (get_or rows i d).name k)
      (Some (aligned_up (row_room rows (get_or rows i d)).align (end_from start (map (row_room rows) (placed_rows rows (take i rows)))))) None)
  address_next k is =
      ap (λ l. row_address_of (placed_from (row_room rows) start l) k) (next is)
      ∙ ap (λ l. row_address_of l k) (placed_from_push (row_room rows) start (placed_rows rows (take i rows)) (get_or rows i d))
      ∙ address_push (placed_from (row_room rows) start (placed_rows rows (take i rows))) (get_or rows i d) _ k

-- a table of addresses, with one that is placed next
pub table_next : (rows : List SymbolRow) (start i : ℕ) (d : SymbolRow) (within : i < length rows) (n v : ℕ) → (get_or rows i d).name < n
    → is_next rows (take i rows) start (get_or rows i d) ≡ true
    → v ≡ aligned_up (row_room rows (get_or rows i d)).align (end_from start (map (row_room rows) (placed_rows rows (take i rows))))
    → set (map (row_address_of (placed_from (row_room rows) start (placed_rows rows (take i rows)))) (range_with_len 0 n)) (get_or rows i d).name (Some v)
    ≡ map (row_address_of (placed_from (row_room rows) start (placed_rows rows (take (i + 1) rows)))) (range_with_len 0 n)
table_next rows start i d within n v named is here =
    let r = get_or rows i d in
    let f : ℕ → Option ℕ = row_address_of (placed_from (row_room rows) start (placed_rows rows (take i rows))) in
    let none : f r.name ≡ None = none_is (f r.name) (and_parts _ (is_none (f r.name)) is).1 in
    table_step f _ n r.name (Some v) None named
    (ap Some here ∙ ap (λ b. cond b (Some (aligned_up (row_room rows r).align (end_from start (map (row_room rows) (placed_rows rows (take i rows)))))) None) (sym (eq-eqb r.name r.name refl))
    ∙ ap (λ o. option_or o (cond (eqb r.name r.name) (Some (aligned_up (row_room rows r).align (end_from start (map (row_room rows) (placed_rows rows (take i rows)))))) None)) (sym none)
    ∙ sym (address_next rows start i d within r.name is))
    (λ k ne. sym (address_next rows start i d within k is
    ∙ ap (λ b. option_or (f k) (cond b (Some (aligned_up (row_room rows r).align (end_from start (map (row_room rows) (placed_rows rows (take i rows)))))) None)) (ne_eqb r.name k (λ q. ne (sym q)))
    ∙ or_none (f k)))
  where
    none_is : (o : Option ℕ) → is_none o ≡ true → o ≡ None
    none_is None h = refl
    none_is (Some x) h = absurd cc

-- the test as the tables give it
pub next_by_tables : (rows : List SymbolRow) (start i n : ℕ) (d : SymbolRow) (strong : List (Option SymbolRow)) (addresses : List (Option ℕ)) (b : Bool)
    → b ≡ (row_is_common (get_or rows i d) && is_none (get_or strong (get_or rows i d).name None) && is_none (get_or addresses (get_or rows i d).name None))
    → strong ≡ map (first_row 1 rows) (range_with_len 0 n)
    → addresses ≡ map (row_address_of (placed_from (row_room rows) start (placed_rows rows (take i rows)))) (range_with_len 0 n)
    → (row_is_common (get_or rows i d) ≡ true → (get_or rows i d).name < n) → is_next rows (take i rows) start (get_or rows i d) ≡ b
next_by_tables rows start i n d strong addresses b is strongs table named = by (row_is_common (get_or rows i d)) refl
  where
    by : (t : Bool) → row_is_common (get_or rows i d) ≡ t → is_next rows (take i rows) start (get_or rows i d) ≡ b
    by true common =
        let own = get_or rows i d in
        let address : ℕ → Option ℕ = row_address_of (placed_from (row_room rows) start (placed_rows rows (take i rows))) in
        sym (is ∙ (λ j. row_is_common own && is_none (table_at (first_row 1 rows) strong n own.name None strongs (named common) j) && is_none (table_at address addresses n own.name None table (named common) j)))
    by false other =
        let own = get_or rows i d in
        let address : ℕ → Option ℕ = row_address_of (placed_from (row_room rows) start (placed_rows rows (take i rows))) in
        sym (is ∙ (λ j. other j && is_none (get_or strong own.name None) && is_none (get_or addresses own.name None))
        ∙ (λ j. sym other j && is_none (first_row 1 rows own.name) && is_none (address own.name)))

-- what is placed next is common
pub next_common : (rows : List SymbolRow) (start i : ℕ) (r : SymbolRow) → is_next rows (take i rows) start r ≡ true → row_is_common r ≡ true
next_common rows start i r is =
    (and_parts (row_is_common r) (is_none (first_row 1 rows r.name))
    (and_parts (row_is_common r && is_none (first_row 1 rows r.name)) (is_none (row_address_of (placed_from (row_room rows) start (placed_rows rows (take i rows))) r.name)) is).0).0
