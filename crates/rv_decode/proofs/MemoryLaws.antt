-- Memory that is changed cell by cell: extents stay, and the cell at a covered address becomes what the change makes
-- of it. A test of several addresses is one of each of them.
use Rattle.std.proofs.Common.{◌≡◌, ℕ, zero, suc, ◌+◌, ◌-◌, ◌<◌, ◌≤◌, List, [], ◌∷◌, length, get_or, Bool, true, false, cond, refl, sym, ap, ap₂, ◌∙◌, subst, ⊎_elim, arith, ltb, leb, replicate}
use Rattle.std.specs.Prelude.{◌&&◌, ◌||◌}
use Rattle.std.proofs.lemmas.Bool.{and_parts, and_from, leb-true, ltb-true, le-leb, cond-false, or_parts, or_cases, or_left, or_right, cases_Bool, cases_lt}
use Rattle.std.proofs.lemmas.List.{length-replicate, get_or-replicate, get_or_past}
use Rattle.rv_decode.specs.Memory.{Kind, Text, Data, Stack, Region, Extent, extent_of, extents_of, is_data, is_stack, spans, lies_in, cell_at, blank, cells_changed, changed, written}

-- ---- where addresses lie

-- whether any region has a cell at an address
abbrev pub is_covered : List Extent → ℕ → Bool
is_covered [] a = false
is_covered (e ∷ es) a = spans e a 1 || is_covered es a

pub spans_inside : (e : Extent) (a n x m : ℕ) → spans e a n ≡ true → a ≤ x → x + m ≤ a + n → spans e x m ≡ true
spans_inside e a n x m h low high =
    let q = and_parts (leb e.at a) (leb (a + n) (e.at + e.size)) h in
    let l = leb-true e.at a q.0 in
    let r = leb-true (a + n) (e.at + e.size) q.1 in
    and_from (leb e.at x) (leb (x + m) (e.at + e.size)) (le-leb e.at x (omega arith)) (le-leb (x + m) (e.at + e.size) (omega arith))

-- nothing below a region's first address lies in it
pub spans_before : (e : Extent) (a n : ℕ) → a < e.at → spans e a n ≡ false
spans_before e a n lt = either (spans e a n) refl
  where
    either : (b : Bool) → spans e a n ≡ b → b ≡ false
    either true h = let low = leb-true e.at a (and_parts (leb e.at a) (leb (a + n) (e.at + e.size)) h).0 in absurd (omega arith)
    either false h = refl

-- a part of what lies in a region lies there too
pub lies_inside : (fits : Kind → Bool) (es : List Extent) (a n x m : ℕ) → lies_in fits es a n ≡ true → a ≤ x → x + m ≤ a + n → lies_in fits es x m ≡ true
lies_inside fits [] a n x m h low high = h
lies_inside fits (e ∷ es) a n x m h low high = ⊎_elim
    (λ here. let q = and_parts (fits e.kind) (spans e a n) here in or_left (fits e.kind && spans e x m) (lies_in fits es x m) (and_from (fits e.kind) (spans e x m) q.0 (spans_inside e a n x m q.1 low high)))
    (λ rest. or_right (fits e.kind && spans e x m) (lies_in fits es x m) (lies_inside fits es a n x m rest low high))
    (or_cases (fits e.kind && spans e a n) (lies_in fits es a n) h)

pub lies_covered : (fits : Kind → Bool) (es : List Extent) (a : ℕ) → lies_in fits es a 1 ≡ true → is_covered es a ≡ true
lies_covered fits [] a h = h
lies_covered fits (e ∷ es) a h = ⊎_elim
    (λ here. or_left (spans e a 1) (is_covered es a) (and_parts (fits e.kind) (spans e a 1) here).1)
    (λ rest. or_right (spans e a 1) (is_covered es a) (lies_covered fits es a rest))
    (or_cases (fits e.kind && spans e a 1) (lies_in fits es a 1) h)

-- the stack is data memory
pub stack_is_data : (es : List Extent) (a n : ℕ) → lies_in is_stack es a n ≡ true → lies_in is_data es a n ≡ true
stack_is_data [] a n h = h
stack_is_data (e ∷ es) a n h = ⊎_elim
    (λ here. let q = and_parts (is_stack e.kind) (spans e a n) here in or_left (is_data e.kind && spans e a n) (lies_in is_data es a n) (and_from (is_data e.kind) (spans e a n) (kind e.kind q.0) q.1))
    (λ rest. or_right (is_data e.kind && spans e a n) (lies_in is_data es a n) (stack_is_data es a n rest))
    (or_cases (is_stack e.kind && spans e a n) (lies_in is_stack es a n) h)
  where
    kind : (k : Kind) → is_stack k ≡ true → is_data k ≡ true
    kind Text t = absurd cc
    kind Data t = refl
    kind Stack t = refl

-- ---- changes

module _ {X : Type 0} (f : ℕ → X → X) where
  pub length-cells_changed : (a : ℕ) (cs : List X) → length (cells_changed f a cs) ≡ length cs
  length-cells_changed a [] = refl
  length-cells_changed a (c ∷ cs) = ap suc (length-cells_changed (suc a) cs)

  pub get_or-cells_changed : (a i : ℕ) (cs : List X) (d : X) → i < length cs → get_or (cells_changed f a cs) i d ≡ f (a + i) (get_or cs i d)
  get_or-cells_changed a i [] d lt = absurd (omega arith)
  get_or-cells_changed a zero (c ∷ cs) d lt = let e : a ≡ a + 0 = omega arith in ap (λ n. f n c) e
  get_or-cells_changed a (suc i) (c ∷ cs) d lt =
      let e : suc a + i ≡ a + suc i = omega arith in
      get_or-cells_changed (suc a) i cs d (omega arith) ∙ ap (λ n. f n (get_or cs i d)) e

  extent-changed : (r : Region X) → extent_of (record r { cells = cells_changed f r.at r.cells }) ≡ extent_of r
  extent-changed r = let e = length-cells_changed r.at r.cells in λ i. record { kind = r.kind; at = r.at; size = e i }

  pub extents-changed : (rs : List (Region X)) → extents_of (changed f rs) ≡ extents_of rs
  extents-changed [] = refl
  extents-changed (r ∷ rs) = ap₂ (λ x xs. x ∷ xs) (extent-changed r) (extents-changed rs)

  pub cell-changed : (rs : List (Region X)) (x : ℕ) (d : X) → is_covered (extents_of rs) x ≡ true → cell_at d (changed f rs) x ≡ f x (cell_at d rs x)
  cell-changed [] x d h = absurd cc
  cell-changed (r ∷ rs) x d h =
      ap (λ e. cond (spans e x 1) (get_or (cells_changed f r.at r.cells) (x - r.at) d) (cell_at d (changed f rs) x)) (extent-changed r)
      ∙ either (spans (extent_of r) x 1) refl (λ rest. cell-changed rs x d rest) h
    where
      either : (b : Bool) → spans (extent_of r) x 1 ≡ b → (is_covered (extents_of rs) x ≡ true → cell_at d (changed f rs) x ≡ f x (cell_at d rs x)) → (b || is_covered (extents_of rs) x) ≡ true → cond b (get_or (cells_changed f r.at r.cells) (x - r.at) d) (cell_at d (changed f rs) x) ≡ f x (cond b (get_or r.cells (x - r.at) d) (cell_at d rs x))
      either true e go c =
          let q = and_parts (leb r.at x) (leb (x + 1) (r.at + length r.cells)) e in
          let low = leb-true r.at x q.0 in
          let high = leb-true (x + 1) (r.at + length r.cells) q.1 in
          let lt : x - r.at < length r.cells = omega arith in
          let back : r.at + (x - r.at) ≡ x = omega arith in
          get_or-cells_changed r.at (x - r.at) r.cells d lt ∙ ap (λ n. f n (get_or r.cells (x - r.at) d)) back
      either false e go c = go c

pub cell-uncovered : {X : Type 0} (rs : List (Region X)) (x : ℕ) (d : X) → is_covered (extents_of rs) x ≡ false → cell_at d rs x ≡ d
cell-uncovered [] x d h = refl
cell-uncovered (r ∷ rs) x d h =
    let q = or_parts (spans (extent_of r) x 1) (is_covered (extents_of rs) x) h in
    cond-false (spans (extent_of r) x 1) (get_or r.cells (x - r.at) d) (cell_at d rs x) q.0 ∙ cell-uncovered rs x d q.1

-- a change that leaves d as it is needs no look at what is covered
pub cell-changed_default : {X : Type 0} (f : ℕ → X → X) (rs : List (Region X)) (x : ℕ) (d : X) → f x d ≡ d → cell_at d (changed f rs) x ≡ f x (cell_at d rs x)
cell-changed_default f rs x d keeps = ⊎_elim
    (λ yes. cell-changed f rs x d yes)
    (λ no.
    let gone = ap (λ e. is_covered e x) (extents-changed f rs) ∙ no in
    cell-uncovered (changed f rs) x d gone ∙ sym (ap (f x) (cell-uncovered rs x d no) ∙ keeps))
    (cases_Bool (is_covered (extents_of rs) x))

-- what holds of each cell holds after a change that keeps it
pub cell_kept : {X : Type 0} (f : ℕ → X → X) (rs : List (Region X)) (d : X) (P : X → Type 0) → ((x : ℕ) (c : X) → P c → P (f x c)) → P d → ((x : ℕ) → P (cell_at d rs x)) → (x : ℕ) → P (cell_at d (changed f rs) x)
cell_kept f rs d P step base each x = ⊎_elim
    (λ yes. subst P (sym (cell-changed f rs x d yes)) (step x (cell_at d rs x) (each x)))
    (λ none. let gone = ap (λ e. is_covered e x) (extents-changed f rs) ∙ none in subst P (sym (cell-uncovered (changed f rs) x d gone)) base)
    (cases_Bool (is_covered (extents_of rs) x))

-- a write leaves every cell but those at its addresses
pub untouched : {X : Type 0} (at n : ℕ) (given : ℕ → X) (x : ℕ) (old : X) → (at ≤ x → x < at + n → ⊥) → written at n given x old ≡ old
untouched at n given x old out = either (leb at x && ltb x (at + n)) refl
  where
    either : (b : Bool) → (leb at x && ltb x (at + n)) ≡ b → cond b (given (x - at)) old ≡ old
    either true e = let q = and_parts (leb at x) (ltb x (at + n)) e in absurd (out (leb-true at x q.0) (ltb-true x (at + n) q.1))
    either false e = refl

-- ---- cells that are alike

pub length_blank : {X : Type 0} (n : ℕ) (x : X) → length (blank n x) ≡ n
unfolding blank
length_blank n x = length-replicate n x

pub get_or_blank : {X : Type 0} (n i : ℕ) (x : X) → get_or (blank n x) i x ≡ x
unfolding blank
get_or_blank n i x = ⊎_elim (λ lt. get_or-replicate n i x x lt) (λ le. get_or_past (replicate n x) i x (let l = length-replicate n x in omega arith)) (cases_lt i n)
