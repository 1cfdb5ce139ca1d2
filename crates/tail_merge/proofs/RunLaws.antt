-- Runs of items by their numbers: where they begin and end, and which item a number means.
use Rattle.std.proofs.Common.{◌≡◌, ℕ, zero, suc, ◌+◌, ◌-◌, ◌≤◌, ◌<◌, List, [], ◌∷◌, length, filter, take, reverse, get_or, Bool, true, false, cond, refl, sym, ap, ◌∙◌, subst, arith, eqb, ltb, inl, inr, Some, None}
use Rattle.std.specs.Prelude.{◌⊎◌, ◌||◌, All}
use Rattle.std.specs.List.{find, list_any}
use Rattle.std.proofs.lemmas.Bool.{cases_lt, eq-eqb, eqb-true, le-ltb, lt-ltb, ne_eqb}
use Rattle.std.proofs.lemmas.List.{get_or-reverse, get_or-take, length-reverse, length-take-le, reverse-append}
use Rattle.std.proofs.lemmas.List.Elements.{All-head, All-tail}
use Rattle.std.proofs.lemmas.List.Sums.{sum_by-append, sum_by-cons}
use Rattle.std.proofs.lemmas.Option.{slice_get-get_or}
use Rattle.block_cut.proofs.TakeLaws.{take_next}
use Rattle.block_cut.specs.declared.item.Item.TheVariants.{Raw}
use Rattle.tail_merge.specs.RemovedTails.{backwards}
use Rattle.tail_merge.specs.Tails.{CodeItem, bytes_of_all, first_offset, zipped}
use Rattle.tail_merge.proofs.ItemsLaws.{later}
use Rattle.tail_merge.proofs.OffsetLaws.{Backward, Forward, backward-take, run-length, start_of}

abbrev pub no_item : CodeItem
no_item = record { offset = 0; size = 0; item = Raw 0; leader = false }

abbrev pub HasBytes : CodeItem → Type 0
HasBytes c = 0 < c.size

-- ---- edges

-- where the item with a number begins, if the items begin at 0; for the number behind all where they end
abbrev pub edge_of : List CodeItem → ℕ → ℕ
edge_of items k = bytes_of_all (take k items)

pub edge-next : (items : List CodeItem) (k : ℕ) (d : CodeItem) → k < length items → edge_of items (k + 1) ≡ edge_of items k + (get_or items k d).size
edge-next items k d lt =
    let c = get_or items k d in
    let more = ap bytes_of_all (take_next items k c (slice_get-get_or items k d lt)) in
    let sum = sum_by-append (λ (c : CodeItem). c.size) (take k items) (c ∷ []) in
    let one = sum_by-cons (λ (c : CodeItem). c.size) c [] in
    omega (arith, more, sum, one)

pub edge-offset : (n : ℕ) (items : List CodeItem) (k : ℕ) (d : CodeItem) → Forward n items → k < length items → (get_or items k d).offset ≡ n + edge_of items k
edge-offset n [] k d f lt = absurd (omega (arith, lt))
edge-offset n (c ∷ cs) zero d f lt = let at = f.0 in omega (arith, at)
edge-offset n (c ∷ cs) (suc k) d f lt =
    let rest = edge-offset (c.offset + c.size) cs k d f.1 (omega (arith, lt)) in
    let at = f.0 in
    omega (arith, rest, at, sum_by-cons (λ (c : CodeItem). c.size) c (take k cs))

-- the items have bytes, so that edges are apart
pub edge-apart : (items : List CodeItem) (k more : ℕ) → All HasBytes items → k + more ≤ length items → edge_of items k + more ≤ edge_of items (k + more)
edge-apart items k zero all le = let same : k + 0 ≡ k = omega arith in omega (arith, ap (edge_of items) same)
edge-apart items k (suc more) all le =
    let lt : k + more < length items = omega (arith, le) in
    let before = edge-apart items k more all (omega (arith, lt)) in
    let next = edge-next items (k + more) no_item lt in
    let some = all (k + more) no_item lt in
    let same : k + more + 1 ≡ k + suc more = omega arith in
    omega (arith, before, next, some, ap (edge_of items) same)

pub edge-order : (items : List CodeItem) (j k : ℕ) → All HasBytes items → j ≤ k → k ≤ length items → edge_of items j ≤ edge_of items k
edge-order items j k all le within =
    let same : j + (k - j) ≡ k = omega (arith, le) in
    let apart = edge-apart items j (k - j) all (omega (arith, same, within)) in
    omega (arith, apart, ap (edge_of items) same)

-- of two edges the less has the lower number
pub edge-less : (items : List CodeItem) (j k : ℕ) → All HasBytes items → j ≤ length items → edge_of items j < edge_of items k → j < k
edge-less items j k all within less = elim (cases_lt j k) [
  | inl lt ↦ lt
  | inr ge ↦ absurd (let order = edge-order items k j all ge within in omega (arith, order, less))
]

-- ---- runs that end with an item

pub back-next : (items : List CodeItem) (e : ℕ) (d : CodeItem) → e < length items → reverse (take (e + 1) items) ≡ get_or items e d ∷ reverse (take e items)
back-next items e d lt =
    let c = get_or items e d in
    ap reverse (take_next items e c (slice_get-get_or items e d lt)) ∙ reverse-append (take e items) (c ∷ [])

-- the items up to a number, backwards from its edge
pub back-backward : (items : List CodeItem) (e : ℕ) → Forward 0 items → e ≤ length items → Backward (edge_of items e) (reverse (take e items))
back-backward items zero f le = tt
back-backward items (suc e) f le =
    let lt : e < length items = omega (arith, le) in
    let same : e + 1 ≡ suc e = omega arith in
    let c = get_or items e no_item in
    let at = edge-offset 0 items e no_item f lt in
    let next = edge-next items e no_item lt in
    let here : c.offset ≡ edge_of items e = omega (arith, at) in
    let stop : c.offset + c.size ≡ edge_of items (e + 1) = omega (arith, at, next) in
    let rest = subst (λ n. Backward n (reverse (take e items))) (sym here) (back-backward items e f (omega (arith, lt))) in
    subst (λ k. Backward (edge_of items k) (reverse (take k items))) same
    (subst (Backward (edge_of items (e + 1))) (sym (back-next items e no_item lt)) (stop, rest))

pub back-length : (items : List CodeItem) (e : ℕ) → e < length items → length (reverse (take (e + 1) items)) ≡ e + 1
back-length items e lt = length-reverse (take (e + 1) items) ∙ length-take-le (e + 1) items (omega (arith, lt))

-- the item with a number among a run
pub run-item : (items : List CodeItem) (e k i : ℕ) (d : CodeItem) → e < length items → k ≤ e + 1 → i < k → get_or (backwards items e k) i d ≡ get_or items (e - i) d
run-item items e k i d lt le less =
    let count : length (take (e + 1) items) ≡ e + 1 = length-take-le (e + 1) items (omega (arith, lt)) in
    let at : length (take (e + 1) items) - 1 - i ≡ e - i = omega (arith, count) in
    get_or-take k (reverse (take (e + 1) items)) i d less
    ∙ get_or-reverse (take (e + 1) items) i d (omega (arith, count, le, less))
    ∙ ap (λ n. get_or (take (e + 1) items) n d) at
    ∙ get_or-take (e + 1) items (e - i) d (omega arith)

pub run-count : (items : List CodeItem) (e k : ℕ) → e < length items → k ≤ e + 1 → length (backwards items e k) ≡ k
run-count items e k lt le = length-take-le k (reverse (take (e + 1) items)) (let count = back-length items e lt in omega (arith, count, le))

-- its last item is the first of all
last-offset : (cs : List CodeItem) (d : CodeItem) (k : ℕ) → length cs ≡ suc k → first_offset cs ≡ (get_or cs k d).offset
last-offset [] d k is = absurd cc
last-offset (c ∷ []) d zero is = refl
last-offset (c ∷ []) d (suc k) is = absurd (omega (arith, is))
last-offset (c ∷ c' ∷ cs) d zero is = absurd (omega (arith, is))
last-offset (c ∷ c' ∷ cs) d (suc k) is = last-offset (c' ∷ cs) d k (omega (arith, is))

pub record IsRunAt (items : List CodeItem) (e k : ℕ) : Type 0 where
  pub start : first_offset (backwards items e k) ≡ edge_of items (e + 1 - k)
  pub stop : first_offset (backwards items e k) + bytes_of_all (backwards items e k) ≡ edge_of items (e + 1)

start-any : (cs : List CodeItem) (n : ℕ) → 0 < length cs → start_of n cs ≡ first_offset cs
start-any [] n lt = absurd (omega (arith, lt))
start-any (c ∷ cs) n lt = refl

pub run-at : (items : List CodeItem) (e k : ℕ) → Forward 0 items → e < length items → 0 < k → k ≤ e + 1 → IsRunAt items e k
run-at items e k f lt some le =
    let count = run-count items e k lt le in
    let run = backwards items e k in
    let before : length run ≡ suc (k - 1) = omega (arith, count, some) in
    let last = last-offset run no_item (k - 1) before in
    let item = ap (λ (c : CodeItem). c.offset) (run-item items e k (k - 1) no_item lt le (omega (arith, some))) in
    let same : e - (k - 1) ≡ e + 1 - k = omega (arith, some, le) in
    let offset = edge-offset 0 items (e - (k - 1)) no_item f (omega (arith, lt)) in
    let back = backward-take (edge_of items (e + 1)) k (reverse (take (e + 1) items)) (back-backward items (e + 1) f (omega (arith, lt))) in
    let bytes = run-length (edge_of items (e + 1)) run back in
    let start = start-any run (edge_of items (e + 1)) (omega (arith, count, some)) in
    record {
      start = omega (arith, last, item, offset, ap (edge_of items) same);
      stop = omega (arith, bytes, start);
    }

-- ---- which item stands at an offset

none-below : (n k : ℕ) (cs : List CodeItem) → Forward k cs → n ≤ k → filter (λ (c : CodeItem). ltb c.offset n) cs ≡ []
none-below n k [] f le = refl
none-below n k (c ∷ cs) f le =
    let at = f.0 in
    ap (λ b. cond b (c ∷ filter (λ (c : CodeItem). ltb c.offset n) cs) (filter (λ (c : CodeItem). ltb c.offset n) cs)) (le-ltb c.offset n (omega (arith, at, le)))
    ∙ none-below n (c.offset + c.size) cs f.1 (omega (arith, at, le))

pub record IsNumbered (items : List CodeItem) (n j : ℕ) : Type 0 where
  pub within : j < length items
  pub at : (d : CodeItem) → (get_or items j d).offset ≡ n

-- the number of items before an offset where one stands is its number
pub number-of : (m n : ℕ) (items : List CodeItem) → Forward m items → All HasBytes items → list_any (λ (c : CodeItem). eqb c.offset n) items ≡ true → IsNumbered items n (length (filter (λ (c : CodeItem). ltb c.offset n) items))
number-of m n [] f all there = absurd cc
number-of m n (c ∷ cs) f all there = by (number-of (c.offset + c.size) n cs f.1 (All-tail HasBytes c cs all)) (eqb c.offset n) refl there
  where
    rest_of : List CodeItem
    rest_of = filter (λ (c : CodeItem). ltb c.offset n) cs

    by : (list_any (λ (c : CodeItem). eqb c.offset n) cs ≡ true → IsNumbered cs n (length (filter (λ (c : CodeItem). ltb c.offset n) cs))) → (b : Bool) → eqb c.offset n ≡ b → (b || list_any (λ (c : CodeItem). eqb c.offset n) cs) ≡ true
        → IsNumbered (c ∷ cs) n (length (filter (λ (c : CodeItem). ltb c.offset n) (c ∷ cs)))
    by rest true e there =
        let is : c.offset ≡ n = eqb-true c.offset n e in
        let none : filter (λ (c : CodeItem). ltb c.offset n) (c ∷ cs) ≡ [] =
        ap (λ b. cond b (c ∷ filter (λ (c : CodeItem). ltb c.offset n) cs) (filter (λ (c : CodeItem). ltb c.offset n) cs)) (le-ltb c.offset n (omega (arith, is)))
        ∙ none-below n (c.offset + c.size) cs f.1 (omega (arith, is)) in
        subst (IsNumbered (c ∷ cs) n) (sym (ap length none)) (record { within = omega arith; at = λ d. is })
    by rest false e there =
        let found = rest there in
        let j = length (filter (λ (c : CodeItem). ltb c.offset n) cs) in
        let low = later (c.offset + c.size) cs f.1 j no_item found.within in
        let at = found.at no_item in
        let some = All-head HasBytes c cs all in
        let more : filter (λ (c : CodeItem). ltb c.offset n) (c ∷ cs) ≡ c ∷ filter (λ (c : CodeItem). ltb c.offset n) cs =
        ap (λ b. cond b (c ∷ filter (λ (c : CodeItem). ltb c.offset n) cs) (filter (λ (c : CodeItem). ltb c.offset n) cs)) (lt-ltb c.offset n (omega (arith, low, at, some))) in
        let within = found.within in
        subst (IsNumbered (c ∷ cs) n) (sym (ap length more)) (record { within = omega (arith, within); at = λ d. found.at d })

-- ---- items of a tail and the host's

first-below : (n : ℕ) (c : CodeItem) (cs : List CodeItem) → Backward n (c ∷ cs) → first_offset (c ∷ cs) ≤ c.offset
first-below n c [] b = omega arith
first-below n c (d ∷ ds) b =
    let rest = first-below c.offset d ds b.1 in
    let at = b.1.0 in
    let same : first_offset (c ∷ d ∷ ds) ≡ first_offset (d ∷ ds) = refl in
    omega (arith, rest, at, same)

offset-below : (n : ℕ) (cs : List CodeItem) (k : ℕ) (d : CodeItem) → Backward n cs → All HasBytes cs → k < length cs → (get_or cs k d).offset < n
offset-below n [] k d b all lt = absurd (omega (arith, lt))
offset-below n (c ∷ cs) zero d b all lt = let at = b.0 in let some = All-head HasBytes c cs all in omega (arith, at, some)
offset-below n (c ∷ cs) (suc k) d b all lt =
    let at = b.0 in
    let rest = offset-below c.offset cs k d b.1 (All-tail HasBytes c cs all) (omega (arith, lt)) in
    omega (arith, at, rest)

-- no later item of a tail stands at its start or outside of it
pub zipped-outside : (cs ds : List CodeItem) (b n : ℕ) → Backward b cs → All HasBytes cs → (n ≤ first_offset cs) ⊎ (b ≤ n) → find (λ (e : ℕ × ℕ). eqb e.0 n) (zipped cs ds) ≡ None
zipped-outside [] ds b n back all out = refl
zipped-outside (c ∷ cs) [] b n back all out = refl
zipped-outside (c ∷ []) (d ∷ ds) b n back all out = refl
zipped-outside (c ∷ c' ∷ cs) (d ∷ ds) b n back all out = by out (λ rest. zipped-outside (c' ∷ cs) ds c.offset n back.1 (All-tail HasBytes c (c' ∷ cs) all) rest)
  where
    here : (c.offset ≡ n → ⊥) → find (λ (e : ℕ × ℕ). eqb e.0 n) (zipped (c' ∷ cs) ds) ≡ None → find (λ (e : ℕ × ℕ). eqb e.0 n) (zipped (c ∷ c' ∷ cs) (d ∷ ds)) ≡ None
    here other rest =
        ap (λ t. cond t (Some (c.offset, d.offset)) (find (λ (e : ℕ × ℕ). eqb e.0 n) (zipped (c' ∷ cs) ds))) (ne_eqb c.offset n other) ∙ rest

    by : (n ≤ first_offset (c ∷ c' ∷ cs)) ⊎ (b ≤ n) → ((n ≤ first_offset (c' ∷ cs)) ⊎ (c.offset ≤ n) → find (λ (e : ℕ × ℕ). eqb e.0 n) (zipped (c' ∷ cs) ds) ≡ None) → find (λ (e : ℕ × ℕ). eqb e.0 n) (zipped (c ∷ c' ∷ cs) (d ∷ ds)) ≡ None
    by (inl low) rest =
        let first = first-below c.offset c' cs back.1 in
        let at = back.1.0 in
        let some = All-head HasBytes c' cs (All-tail HasBytes c (c' ∷ cs) all) in
        let same : first_offset (c ∷ c' ∷ cs) ≡ first_offset (c' ∷ cs) = refl in
        here (λ e. omega (arith, e, low, first, at, some, same)) (rest (inl (omega (arith, low, same))))
    by (inr high) rest =
        let at = back.0 in
        let some = All-head HasBytes c (c' ∷ cs) all in
        here (λ e. omega (arith, e, high, at, some)) (rest (inr (omega (arith, high, at))))

-- a later item of a tail has the host's
pub zipped-item : (cs ds : List CodeItem) (b i : ℕ) (d : CodeItem) → Backward b cs → All HasBytes cs → length cs ≤ length ds → i + 1 < length cs
    → find (λ (e : ℕ × ℕ). eqb e.0 (get_or cs i d).offset) (zipped cs ds) ≡ Some ((get_or cs i d).offset, (get_or ds i d).offset)
zipped-item [] ds b i d back all le lt = absurd (omega (arith, lt))
zipped-item (c ∷ []) ds b i d back all le lt = absurd (omega (arith, lt))
zipped-item (c ∷ c' ∷ cs) [] b i d back all le lt = absurd (omega (arith, le))
zipped-item (c ∷ c' ∷ cs) (x ∷ ds) b zero d back all le lt =
    ap (λ t. cond t (Some (c.offset, x.offset)) (find (λ (e : ℕ × ℕ). eqb e.0 c.offset) (zipped (c' ∷ cs) ds))) (eq-eqb c.offset c.offset refl)
zipped-item (c ∷ c' ∷ cs) (x ∷ ds) b (suc i) d back all le lt =
    let n = (get_or (c' ∷ cs) i d).offset in
    let below = offset-below c.offset (c' ∷ cs) i d back.1 (All-tail HasBytes c (c' ∷ cs) all) (omega (arith, lt)) in
    ap (λ t. cond t (Some (c.offset, x.offset)) (find (λ (e : ℕ × ℕ). eqb e.0 n) (zipped (c' ∷ cs) ds))) (ne_eqb c.offset n (λ e. omega (arith, e, below)))
    ∙ zipped-item (c' ∷ cs) ds c.offset i d back.1 (All-tail HasBytes c (c' ∷ cs) all) (omega (arith, le)) (omega (arith, lt))

-- where no item of a tail stands, none has a host's
pub zipped-nothing : (cs ds : List CodeItem) (n : ℕ) → All (λ (c : CodeItem). eqb c.offset n ≡ false) cs → find (λ (e : ℕ × ℕ). eqb e.0 n) (zipped cs ds) ≡ None
zipped-nothing [] ds n all = refl
zipped-nothing (c ∷ cs) [] n all = refl
zipped-nothing (c ∷ []) (d ∷ ds) n all = refl
zipped-nothing (c ∷ c' ∷ cs) (d ∷ ds) n all =
    ap (λ t. cond t (Some (c.offset, d.offset)) (find (λ (e : ℕ × ℕ). eqb e.0 n) (zipped (c' ∷ cs) ds))) (All-head (λ (c : CodeItem). eqb c.offset n ≡ false) c (c' ∷ cs) all)
    ∙ zipped-nothing (c' ∷ cs) ds n (All-tail (λ (c : CodeItem). eqb c.offset n ≡ false) c (c' ∷ cs) all)
