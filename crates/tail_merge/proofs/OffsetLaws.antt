-- Removed tails lie one after another, and offsets outside of them keep their order and stay apart.
use Rattle.std.proofs.Common.{◌≡◌, ℕ, zero, suc, ◌+◌, ◌-◌, ◌≤◌, ◌<◌, List, [], ◌∷◌, ◌++◌, length, map, take, Bool, true, false, cond, refl, sym, ap, ◌∙◌, subst, arith, ltb, inl, inr, Option, Some, None}
use Rattle.std.specs.Prelude.{◌⊎◌, not, All}
use Rattle.std.specs.List.{fold, sum_by}
use Rattle.std.proofs.lemmas.Bool.{cases_lt, le-leb, le-ltb, lt-leb, ltb-true}
use Rattle.std.proofs.lemmas.List.Sums.{sum_by-cons}
use Rattle.std.proofs.lemmas.List.Elements.{All-head, All-tail}
use Rattle.rv_decode.specs.declared.instr.Instr.{Instr}
use Rattle.rv_decode.specs.declared.instr.Instr.TheVariants as instr
use Rattle.std.specs.Option.{option_map_or}
use Rattle.tail_merge.specs.Tails.{goes_on, op_in_item, returns, CodeItem, Removed, bytes_of_all, ends_tail, first_offset, longer_tail, longest_tail, moved_down, removed_from, bytes_saved_by, shared, shared_tail, stands_in_tail, tail_end, tail_start}
use Rattle.tail_merge.proofs.TailLaws.{IsRun, longest-shared}

-- ---- items one after another

-- items backwards, the first of which ends at an offset
abbrev pub Backward : ℕ → List CodeItem → Type 0
Backward n [] = Unit {0}
Backward n (c ∷ cs) = (c.offset + c.size ≡ n) × Backward c.offset cs

-- items forwards from an offset
abbrev pub Forward : ℕ → List CodeItem → Type 0
Forward n [] = Unit {0}
Forward n (c ∷ cs) = (c.offset ≡ n) × Forward (c.offset + c.size) cs

abbrev pub start_of : ℕ → List CodeItem → ℕ
start_of n cs = fold (λ n c. c.offset) n cs

-- a run ends as many bytes behind its start as it has
pub run-length : (n : ℕ) (cs : List CodeItem) → Backward n cs → start_of n cs + sum_by (λ (c : CodeItem). c.size) cs ≡ n
run-length n [] b = omega arith
run-length n (c ∷ cs) b =
    let rest = run-length c.offset cs b.1 in
    let here = b.0 in
    let start : start_of n (c ∷ cs) ≡ start_of c.offset cs = refl in
    omega (arith, rest, here, start, sum_by-cons (λ (c : CodeItem). c.size) c cs)

pub backward-take : (n k : ℕ) (cs : List CodeItem) → Backward n cs → Backward n (take k cs)
backward-take n zero cs b = tt
backward-take n (suc k) [] b = tt
backward-take n (suc k) (c ∷ cs) b = (b.0, backward-take c.offset k cs b.1)

-- ---- how far a run can go back

-- backwards from n there are items that go on, and then, where another offset is, one that doesn't
abbrev pub StopsAt : ℕ → ℕ → List CodeItem → Type 0
StopsAt m n [] = n ≡ m
StopsAt m n (c ∷ cs) = ((n ≡ m) × (stands_in_tail c ≡ false)) ⊎ ((m ≤ c.offset) × StopsAt m c.offset cs)

run-within : (m n k : ℕ) (cs : List CodeItem) → StopsAt m n cs → All (λ (c : CodeItem). stands_in_tail c ≡ true) (take k cs) → m ≤ n → m ≤ start_of n (take k cs)
run-within m n zero cs s go le = le
run-within m n (suc k) [] s go le = le
run-within m n (suc k) (c ∷ cs) (inl at) go le = absurd (let stands = All-head (λ (c : CodeItem). stands_in_tail c ≡ true) c (take k cs) go in let isnt = at.1 in cc)
run-within m n (suc k) (c ∷ cs) (inr on) go le = run-within m c.offset k cs on.1 (All-tail (λ (c : CodeItem). stands_in_tail c ≡ true) c (take k cs) go) on.0

-- ---- removed tails are apart

abbrev pub ApartFrom : ℕ → List Removed → Type 0
ApartFrom n [] = Unit {0}
ApartFrom n (r ∷ rs) = (n ≤ tail_start r) × (4 < bytes_of_all r.tail) × ApartFrom (tail_end r) rs

-- the longest shared tail is the first of the items
pub longest-prefix : (cs : List CodeItem) (best : Removed) → ((k : ℕ) × (best.tail ≡ take k cs)) → (hosts : List (List CodeItem)) → (k : ℕ) × ((fold longer_tail best (map (shared_tail cs) hosts)).tail ≡ take k cs)
longest-prefix cs best is [] = is
longest-prefix cs best is (h ∷ hosts) = longest-prefix cs (longer_tail best (shared_tail cs h)) (by (ltb (length best.tail) (length (shared_tail cs h).tail))) hosts
  where
    by : (b : Bool) → (k : ℕ) × ((cond b (shared_tail cs h) best).tail ≡ take k cs)
    by true = (shared cs h, refl)
    by false = is

-- an end doesn't go on
pub end-stops : (c : CodeItem) → ends_tail c ≡ true → stands_in_tail c ≡ false
end-stops c ends = by (op_in_item c.item) ends
  where
    of : (i : Instr) → returns i ≡ true → goes_on i ≡ false
    of (instr.Jalr rd base imm) h = refl
    of i h = absurd cc

    by : (o : Option Instr) → option_map_or returns o false ≡ true → option_map_or goes_on o false ≡ false
    by None h = absurd cc
    by (Some i) h = of i h

abbrev Goes : List CodeItem → Type 0
Goes cs = All (λ (c : CodeItem). stands_in_tail c ≡ true) cs

-- a tail that is removed ends where its end does
pub removed-end : (c : CodeItem) (before : List CodeItem) (tail : List CodeItem) (j : ℕ) → tail ≡ take (suc j) (c ∷ before) → Backward c.offset before
    → (first_offset tail ≡ start_of c.offset (take j before)) × (first_offset tail + bytes_of_all tail ≡ c.offset + c.size)
removed-end c before tail j is b =
    let len = run-length c.offset (take j before) (backward-take c.offset j before b) in
    let start : first_offset tail ≡ start_of c.offset (take j before) = ap first_offset is in
    let size : bytes_of_all tail ≡ c.size + sum_by (λ (c : CodeItem). c.size) (take j before) = ap bytes_of_all is ∙ sum_by-cons (λ (c : CodeItem). c.size) c (take j before) in
    (start, omega (arith, start, size, len))

-- it isn't empty
pub some-items : (tail cs : List CodeItem) → ((k : ℕ) × (tail ≡ take k cs)) → 4 < bytes_of_all tail → (j : ℕ) × (tail ≡ take (suc j) cs)
some-items tail cs (zero, is) long = absurd (let none : bytes_of_all tail ≡ 0 = ap bytes_of_all is in omega (arith, none, long))
some-items tail cs (suc j, is) long = (j, is)

-- and begins behind what stops a run
pub removed-place : (m : ℕ) (c : CodeItem) (before : List CodeItem) (tail : List CodeItem) → ((k : ℕ) × (tail ≡ take k (c ∷ before))) → IsRun tail → 4 < bytes_of_all tail → Backward c.offset before → StopsAt m c.offset before → m ≤ c.offset
    → (m ≤ first_offset tail) × (first_offset tail + bytes_of_all tail ≡ c.offset + c.size)
removed-place m c before tail is run long b s le =
    let some = some-items tail (c ∷ before) is long in
    let goes : Goes (take some.0 before) = (subst IsRun some.1 run).1 in
    let within = run-within m c.offset some.0 before s goes le in
    let end = removed-end c before tail some.0 some.1 b in
    let start = end.0 in
    (omega (arith, within, start), end.1)

pub from-apart : (hosts : List (List CodeItem)) (before cs : List CodeItem) (m n : ℕ) → m ≤ n → Backward n before → StopsAt m n before → Forward n cs → ApartFrom m (removed_from hosts before cs)
from-apart hosts before [] m n le b s f = tt
from-apart hosts before (c ∷ cs) m n le b s f =
    let at : n ≡ c.offset = sym f.0 in
    let behind = subst (λ n. Backward n before) at b in
    let stops = subst (λ n. StopsAt m n before) at s in
    let low : m ≤ c.offset = omega (arith, at, le) in
    let end = c.offset + c.size in
    by behind stops low
    (from-apart hosts (c ∷ before) cs m end (omega (arith, low)) (refl, behind) (inr (low, stops)) f.1)
    (λ ends. from-apart hosts (c ∷ before) cs end end (omega arith) (refl, behind) (inl (refl, end-stops c ends)) f.1)
    (from-apart (hosts ++ (c ∷ before) ∷ []) (c ∷ before) cs m end (omega (arith, low)) (refl, behind) (inr (low, stops)) f.1)
    (ends_tail c) refl
  where
    long-is : (bs : List CodeItem) → ltb 4 (bytes_of_all bs) ≡ true → 4 < bytes_of_all bs
    long-is bs h = ltb-true 4 (bytes_of_all bs) h

    ended : Backward c.offset before → StopsAt m c.offset before → m ≤ c.offset → ApartFrom (c.offset + c.size) (removed_from hosts (c ∷ before) cs) → ApartFrom m (removed_from (hosts ++ (c ∷ before) ∷ []) (c ∷ before) cs) → ends_tail c ≡ true → (b : Bool) → ltb 4 (bytes_of_all (longest_tail (c ∷ before) hosts).tail) ≡ b
        → ApartFrom m (cond b (longest_tail (c ∷ before) hosts ∷ removed_from hosts (c ∷ before) cs) (removed_from (hosts ++ (c ∷ before) ∷ []) (c ∷ before) cs))
    ended behind stops low on also ends false h = also
    ended behind stops low on also ends true h =
        let best = longest_tail (c ∷ before) hosts in
        let long = long-is best.tail h in
        let shared = longest-shared c before hosts ends in
        let place = removed-place m c before best.tail (longest-prefix (c ∷ before) (record { tail = []; host = [] }) (0, refl) hosts) shared.run long behind stops low in
        (place.0, long, subst (λ n. ApartFrom n (removed_from hosts (c ∷ before) cs)) (sym place.1) on)

    by : Backward c.offset before → StopsAt m c.offset before → m ≤ c.offset → ApartFrom m (removed_from hosts (c ∷ before) cs) → (ends_tail c ≡ true → ApartFrom (c.offset + c.size) (removed_from hosts (c ∷ before) cs)) → ApartFrom m (removed_from (hosts ++ (c ∷ before) ∷ []) (c ∷ before) cs) → (b : Bool) → ends_tail c ≡ b
        → ApartFrom m (cond (not b) (removed_from hosts (c ∷ before) cs) (cond (ltb 4 (bytes_of_all (longest_tail (c ∷ before) hosts).tail)) (longest_tail (c ∷ before) hosts ∷ removed_from hosts (c ∷ before) cs) (removed_from (hosts ++ (c ∷ before) ∷ []) (c ∷ before) cs)))
    by behind stops low plain on also false e = plain
    by behind stops low plain on also true e = ended behind stops low (on e) also e (ltb 4 (bytes_of_all (longest_tail (c ∷ before) hosts).tail)) refl

-- ---- offsets

-- an offset isn't strictly inside a removed tail
abbrev pub Outside : List Removed → ℕ → Type 0
Outside [] n = Unit {0}
Outside (r ∷ rs) n = (n ≤ tail_start r) ⊎ ((tail_end r ≤ n) × Outside rs n)

pub down-before : (r : Removed) (rs : List Removed) (n : ℕ) → n ≤ tail_start r → moved_down (r ∷ rs) n ≡ n
down-before r rs n le = ap (λ b. cond b n (cond (ltb n (tail_end r)) (tail_start r + 4) (moved_down rs n - bytes_saved_by r))) (le-leb n (tail_start r) le)

pub down-behind : (r : Removed) (rs : List Removed) (n : ℕ) → 4 < bytes_of_all r.tail → tail_end r ≤ n → moved_down (r ∷ rs) n ≡ moved_down rs n - bytes_saved_by r
down-behind r rs n long le =
    ap (λ b. cond b n (cond (ltb n (tail_end r)) (tail_start r + 4) (moved_down rs n - bytes_saved_by r))) (lt-leb n (tail_start r) (omega (arith, long, le)))
    ∙ ap (λ b. cond b (tail_start r + 4) (moved_down rs n - bytes_saved_by r)) (le-ltb n (tail_end r) le)

-- what lies behind an offset where no tail is removed before stays behind it
pub down-floor : (m : ℕ) (rs : List Removed) (n : ℕ) → ApartFrom m rs → Outside rs n → m ≤ n → m ≤ moved_down rs n
down-floor m [] n a o le = le
down-floor m (r ∷ rs) n a (inl before) le = let e = down-before r rs n before in omega (arith, e, le)
down-floor m (r ∷ rs) n a (inr behind) le =
    let low = a.0 in
    let long = a.1 in
    let e = down-behind r rs n long behind.0 in
    let rest = down-floor (tail_end r) rs n a.2 behind.1 behind.0 in
    omega (arith, e, low, long, rest)

-- offsets outside of removed tails keep their order
pub down-order : (m : ℕ) (rs : List Removed) (x y : ℕ) → ApartFrom m rs → Outside rs x → Outside rs y → x < y → moved_down rs x < moved_down rs y
down-order m [] x y a ox oy lt = lt
down-order m (r ∷ rs) x y a (inl x-before) (inl y-before) lt = let e = down-before r rs x x-before in let f = down-before r rs y y-before in omega (arith, e, f, lt)
down-order m (r ∷ rs) x y a (inl x-before) (inr y-behind) lt =
    let long = a.1 in
    let e = down-before r rs x x-before in
    let f = down-behind r rs y long y-behind.0 in
    let floor = down-floor (tail_end r) rs y a.2 y-behind.1 y-behind.0 in
    omega (arith, e, f, floor, long, x-before)
down-order m (r ∷ rs) x y a (inr x-behind) (inl y-before) lt = absurd (let long = a.1 in let behind = x-behind.0 in omega (arith, long, behind, y-before, lt))
down-order m (r ∷ rs) x y a (inr x-behind) (inr y-behind) lt =
    let long = a.1 in
    let e = down-behind r rs x long x-behind.0 in
    let f = down-behind r rs y long y-behind.0 in
    let floor = down-floor (tail_end r) rs x a.2 x-behind.1 x-behind.0 in
    let rest = down-order (tail_end r) rs x y a.2 x-behind.1 y-behind.1 lt in
    omega (arith, e, f, floor, rest, long)

-- so they stay apart
pub down-apart : (m : ℕ) (rs : List Removed) (x y : ℕ) → ApartFrom m rs → Outside rs x → Outside rs y → moved_down rs x ≡ moved_down rs y → x ≡ y
down-apart m rs x y a ox oy e =
    elim (cases_lt x y) [
      | inl less ↦ absurd (let order = down-order m rs x y a ox oy less in omega (arith, order, e))
      | inr more ↦ elim (cases_lt y x) [
        | inl less ↦ absurd (let order = down-order m rs y x a oy ox less in omega (arith, order, e))
        | inr also ↦ omega (arith, more, also)
      ]
    ]

pub down-low : (m : ℕ) (rs : List Removed) (n : ℕ) → ApartFrom m rs → Outside rs n → moved_down rs n ≤ n
down-low m [] n a o = omega arith
down-low m (r ∷ rs) n a (inl before) = let e = down-before r rs n before in omega (arith, e)
down-low m (r ∷ rs) n a (inr behind) =
    let e = down-behind r rs n a.1 behind.0 in
    let rest = down-low (tail_end r) rs n a.2 behind.1 in
    omega (arith, e, rest)

-- and no two come further from each other
pub down-near : (m : ℕ) (rs : List Removed) (x y : ℕ) → ApartFrom m rs → Outside rs x → Outside rs y → x ≤ y → moved_down rs y + x ≤ y + moved_down rs x
down-near m [] x y a ox oy le = omega (arith, le)
down-near m (r ∷ rs) x y a (inl x-before) (inl y-before) le = let e = down-before r rs x x-before in let f = down-before r rs y y-before in omega (arith, e, f)
down-near m (r ∷ rs) x y a (inl x-before) (inr y-behind) le =
    let e = down-before r rs x x-before in
    let f = down-behind r rs y a.1 y-behind.0 in
    let low = down-low (tail_end r) rs y a.2 y-behind.1 in
    omega (arith, e, f, low)
down-near m (r ∷ rs) x y a (inr x-behind) (inl y-before) le = absurd (let long = a.1 in let behind = x-behind.0 in omega (arith, long, behind, y-before, le))
down-near m (r ∷ rs) x y a (inr x-behind) (inr y-behind) le =
    let long = a.1 in
    let e = down-behind r rs x long x-behind.0 in
    let f = down-behind r rs y long y-behind.0 in
    let floor = down-floor (tail_end r) rs x a.2 x-behind.1 x-behind.0 in
    let rest = down-near (tail_end r) rs x y a.2 x-behind.1 y-behind.1 le in
    omega (arith, e, f, floor, rest, long)
