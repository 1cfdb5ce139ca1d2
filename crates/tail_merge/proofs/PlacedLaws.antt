-- Where what stands outside of removed tails is written: at its offset moved down.
use Rattle.std.proofs.Common.{◌≡◌, ℕ, ◌+◌, ◌-◌, ◌≤◌, ◌<◌, List, [], ◌∷◌, ◌++◌, length, take, drop, Bool, true, false, cond, refl, ap, ap₂, ◌∙◌, arith, eqb, ltb, leb, inl, inr, Option, Some}
use Rattle.std.specs.Prelude.{◌⊎◌, ◌&&◌, All}
use Rattle.std.specs.List.{find, flat_map}
use Rattle.std.specs.Option.{option_map_or}
use Rattle.std.proofs.Math.Seq.{drop-append_seam, take-append_seam}
use Rattle.std.proofs.lemmas.Bool.{cases_lt, eq-eqb, le-leb, le-ltb, lt-leb, lt-ltb, ne_eqb}
use Rattle.std.proofs.lemmas.Grind.{flat_map-append}
use Rattle.std.proofs.lemmas.List.Concat.{flat_map-cons}
use Rattle.std.proofs.lemmas.List.{length-append}
use Rattle.std.proofs.lemmas.List.Sums.{sum_by-cons}
use Rattle.std.proofs.lemmas.List.Elements.{All-head, All-tail}
use Rattle.tail_merge.specs.Tails.{CodeItem, Removed, bytes_of_all, covers, moved_down, bytes_saved_by, tail_end, tail_start}
use Rattle.tail_merge.proofs.OffsetLaws.{ApartFrom, Forward}

-- an item doesn't straddle where a tail begins or ends
abbrev pub IsClear : CodeItem → Removed → Type 0
IsClear c r = (c.offset + c.size ≤ tail_start r) ⊎ (((tail_start r ≤ c.offset) × (c.offset + c.size ≤ tail_end r)) ⊎ (tail_end r ≤ c.offset))

-- how many bytes are written for an item: its own; four for the first of a removed tail, and none for a later one
abbrev pub jump_by : Bool → ℕ
jump_by true = 4
jump_by false = 0

abbrev pub jump_width : ℕ → ℕ → ℕ
jump_width n start = jump_by (eqb n start)

abbrev pub width_in : CodeItem → Option Removed → ℕ
width_in c o = option_map_or (λ r. jump_width c.offset (tail_start r)) o c.size

abbrev pub width : List Removed → CodeItem → ℕ
width rs c = width_in c (find (covers c.offset) rs)

-- ---- one removed tail

pub covers-before : (n : ℕ) (r : Removed) → n < tail_start r → covers n r ≡ false
covers-before n r lt = ap (λ b. b && ltb n (tail_end r)) (lt-leb (tail_start r) n lt)

pub covers-behind : (n : ℕ) (r : Removed) → tail_end r ≤ n → covers n r ≡ false
covers-behind n r le = ap (λ b. leb (tail_start r) n && b) (le-ltb n (tail_end r) le) ∙ by (leb (tail_start r) n)
  where
    by : (b : Bool) → (b && false) ≡ false
    by true = refl
    by false = refl

pub covers-in : (n : ℕ) (r : Removed) → tail_start r ≤ n → n < tail_end r → covers n r ≡ true
covers-in n r low high = ap₂ (λ a b. a && b) (le-leb (tail_start r) n low) (lt-ltb n (tail_end r) high)

find-next : (c : CodeItem) (r : Removed) (rs : List Removed) → covers c.offset r ≡ false → width (r ∷ rs) c ≡ width rs c
find-next c r rs none = ap (λ b. width_in c (cond b (Some r) (find (covers c.offset) rs))) none

find-here : (c : CodeItem) (r : Removed) (rs : List Removed) → covers c.offset r ≡ true → width (r ∷ rs) c ≡ jump_width c.offset (tail_start r)
find-here c r rs here = ap (λ b. width_in c (cond b (Some r) (find (covers c.offset) rs))) here

-- what lies before all removed tails stays
before-all : (m : ℕ) (rs : List Removed) (c : CodeItem) → ApartFrom m rs → c.offset < m → width rs c ≡ c.size
before-all m [] c a lt = refl
before-all m (r ∷ rs) c a lt =
    let low = a.0 in
    let long = a.1 in
    find-next c r rs (covers-before c.offset r (omega (arith, low, lt))) ∙ before-all (tail_end r) rs c a.2 (omega (arith, low, lt, long))

pub down-first : (m : ℕ) (rs : List Removed) (n : ℕ) → ApartFrom m rs → n ≤ m → moved_down rs n ≡ n
down-first m [] n a le = refl
down-first m (r ∷ rs) n a le =
    let low = a.0 in
    ap (λ b. cond b n (cond (ltb n (tail_end r)) (tail_start r + 4) (moved_down rs n - bytes_saved_by r))) (le-leb n (tail_start r) (omega (arith, low, le)))

pub down-at : (r : Removed) (rs : List Removed) (n : ℕ) → n ≤ tail_start r → moved_down (r ∷ rs) n ≡ n
down-at r rs n le = ap (λ b. cond b n (cond (ltb n (tail_end r)) (tail_start r + 4) (moved_down rs n - bytes_saved_by r))) (le-leb n (tail_start r) le)

pub down-in : (r : Removed) (rs : List Removed) (n : ℕ) → tail_start r < n → n < tail_end r → moved_down (r ∷ rs) n ≡ tail_start r + 4
down-in r rs n low high =
    ap (λ b. cond b n (cond (ltb n (tail_end r)) (tail_start r + 4) (moved_down rs n - bytes_saved_by r))) (lt-leb n (tail_start r) low)
    ∙ ap (λ b. cond b (tail_start r + 4) (moved_down rs n - bytes_saved_by r)) (lt-ltb n (tail_end r) high)

pub down-past : (r : Removed) (rs : List Removed) (n : ℕ) → tail_start r < n → tail_end r ≤ n → moved_down (r ∷ rs) n ≡ moved_down rs n - bytes_saved_by r
down-past r rs n low past =
    ap (λ b. cond b n (cond (ltb n (tail_end r)) (tail_start r + 4) (moved_down rs n - bytes_saved_by r))) (lt-leb n (tail_start r) low)
    ∙ ap (λ b. cond b (tail_start r + 4) (moved_down rs n - bytes_saved_by r)) (le-ltb n (tail_end r) past)

-- nothing behind an offset without removed tails before it comes before it
pub floor : (m : ℕ) (rs : List Removed) (n : ℕ) → ApartFrom m rs → m ≤ n → m ≤ moved_down rs n
floor m [] n a le = le
floor m (r ∷ rs) n a le =
    let low = a.0 in
    let long = a.1 in
    elim (cases_lt (tail_start r) n) [
      | inl more ↦ elim (cases_lt n (tail_end r)) [
        | inl inside ↦ (let e = down-in r rs n more inside in omega (arith, e, low))
        | inr past ↦ (let e = down-past r rs n more past in let rest = floor (tail_end r) rs n a.2 past in omega (arith, e, low, long, rest))
      ]
      | inr less ↦ (let e = down-at r rs n less in omega (arith, e, le))
    ]

-- the end of a tail comes behind the jump
down-end : (m : ℕ) (r : Removed) (rs : List Removed) → ApartFrom m (r ∷ rs) → moved_down (r ∷ rs) (tail_end r) ≡ tail_start r + 4
down-end m r rs a =
    let long = a.1 in
    let past = down-past r rs (tail_end r) (omega (arith, long)) (omega arith) in
    let first = down-first (tail_end r) rs (tail_end r) a.2 (omega arith) in
    omega (arith, past, first, long)

later-width : (n start : ℕ) → start < n → jump_width n start ≡ 0
later-width n start lt = by (eqb n start) (ne_eqb n start (λ e. omega (arith, e, lt)))
  where
    none : ℕ
    none = 0

    by : (b : Bool) → b ≡ false → jump_by b ≡ none
    by false e = refl
    by true e = absurd cc

first-width : (n start : ℕ) → n ≡ start → jump_width n start ≡ 4
first-width n start e = by (eqb n start) (eq-eqb n start e)
  where
    four : ℕ
    four = 4

    by : (b : Bool) → b ≡ true → jump_by b ≡ four
    by true e = refl
    by false e = absurd cc

-- ---- from an item to the next

pub width-step : (m : ℕ) (rs : List Removed) (c : CodeItem) → ApartFrom m rs → All (IsClear c) rs → 0 < c.size → moved_down rs (c.offset + c.size) ≡ moved_down rs c.offset + width rs c
width-step m [] c a clear some = refl
width-step m (r ∷ rs) c a clear some = by (width-step (tail_end r) rs c a.2 (All-tail (IsClear c) r rs clear) some) (All-head (IsClear c) r rs clear)
  where
    long : 4 < bytes_of_all r.tail
    long = a.1

    by : moved_down rs (c.offset + c.size) ≡ moved_down rs c.offset + width rs c → IsClear c r → moved_down (r ∷ rs) (c.offset + c.size) ≡ moved_down (r ∷ rs) c.offset + width (r ∷ rs) c
    by rest (inl before) =
        let here = down-at r rs c.offset (omega (arith, before)) in
        let there = down-at r rs (c.offset + c.size) before in
        let own = find-next c r rs (covers-before c.offset r (omega (arith, before, some))) ∙ before-all (tail_end r) rs c a.2 (omega (arith, before, some, long)) in
        omega (arith, here, there, own)
    by rest (inr (inr behind)) =
        let here = down-past r rs c.offset (omega (arith, behind, long)) behind in
        let there = down-past r rs (c.offset + c.size) (omega (arith, behind, long)) (omega (arith, behind)) in
        let own = find-next c r rs (covers-behind c.offset r behind) in
        let low = floor (tail_end r) rs c.offset a.2 behind in
        omega (arith, here, there, own, low, long, rest)
    by rest (inr (inl (low, high))) =
        let inside : c.offset < tail_end r = omega (arith, high, some) in
        let own = find-here c r rs (covers-in c.offset r low inside) in
        let there : moved_down (r ∷ rs) (c.offset + c.size) ≡ tail_start r + 4 =
        elim (cases_lt (c.offset + c.size) (tail_end r)) [
          | inl more ↦ down-in r rs (c.offset + c.size) (omega (arith, low, some)) more
          | inr end ↦ (let at : c.offset + c.size ≡ tail_end r = omega (arith, end, high) in ap (moved_down (r ∷ rs)) at ∙ down-end m r rs a)
        ] in
        elim (cases_lt (tail_start r) c.offset) [
          | inl later ↦ (let here = down-in r rs c.offset later inside in let none : jump_width c.offset (tail_start r) ≡ 0 = later-width c.offset (tail_start r) later in omega (arith, here, there, own, none))
          | inr first ↦ (let at : c.offset ≡ tail_start r = omega (arith, first, low) in let here = down-at r rs c.offset first in let four : jump_width c.offset (tail_start r) ≡ 4 = first-width c.offset (tail_start r) at in omega (arith, here, there, own, four, at))
        ]

-- ---- all items

-- what is written of items, one after another, ends where the offset behind them is moved
pub written-end : (m : ℕ) (rs : List Removed) (write : CodeItem → List ℕ) (n : ℕ) (cs : List CodeItem) → ApartFrom m rs → Forward n cs
    → All (λ c. (All (IsClear c) rs × (0 < c.size)) × (length (write c) ≡ width rs c)) cs
    → moved_down rs n + length (flat_map write cs) ≡ moved_down rs (n + bytes_of_all cs)
written-end m rs write n [] a f each = let none : n + 0 ≡ n = omega arith in let e = ap (moved_down rs) none in omega (arith, e)
written-end m rs write n (c ∷ cs) a f each =
    let own = All-head (λ (c : CodeItem). (All (IsClear c) rs × (0 < c.size)) × (length (write c) ≡ width rs c)) c cs each in
    let rest = written-end m rs write (c.offset + c.size) cs a f.1 (All-tail (λ (c : CodeItem). (All (IsClear c) rs × (0 < c.size)) × (length (write c) ≡ width rs c)) c cs each) in
    let step = width-step m rs c a own.0.0 own.0.1 in
    let at = ap (moved_down rs) f.0 in
    let bytes = ap length (flat_map-cons write c cs) ∙ length-append (write c) (flat_map write cs) in
    let sum = sum_by-cons (λ (c : CodeItem). c.size) c cs in
    let offset = f.0 in
    let size = own.1 in
    let end : c.offset + c.size + bytes_of_all cs ≡ n + bytes_of_all (c ∷ cs) = omega (arith, sum, offset) in
    let last = ap (moved_down rs) end in
    omega (arith, rest, step, at, bytes, size, last)

-- so an item's bytes stand at its offset moved down
pub written-at : (rs : List Removed) (write : CodeItem → List ℕ) (front back : List CodeItem) (c : CodeItem) → ApartFrom 0 rs → Forward 0 (front ++ c ∷ back) → Forward 0 front → c.offset ≡ bytes_of_all front
    → All (λ c. (All (IsClear c) rs × (0 < c.size)) × (length (write c) ≡ width rs c)) front
    → take (length (write c)) (drop (moved_down rs c.offset) (flat_map write (front ++ c ∷ back))) ≡ write c
written-at rs write front back c a f front-f at each =
    let end = written-end 0 rs write 0 front a front-f each in
    let zero = down-first 0 rs 0 a (omega arith) in
    let offset = ap (moved_down rs) at in
    let none : 0 + bytes_of_all front ≡ bytes_of_all front = omega arith in
    let last = ap (moved_down rs) none in
    let place : moved_down rs c.offset ≡ length (flat_map write front) = omega (arith, end, zero, offset, last) in
    let parts : flat_map write (front ++ c ∷ back) ≡ flat_map write front ++ (write c ++ flat_map write back) = flat_map-append write front (c ∷ back) ∙ ap (λ t. flat_map write front ++ t) (flat_map-cons write c back) in
    ap₂ (λ k t. take (length (write c)) (drop k t)) place parts
    ∙ ap (take (length (write c))) (drop-append_seam (flat_map write front) (write c ++ flat_map write back))
    ∙ take-append_seam (write c) (flat_map write back)
