-- The items of a section stand one after another, and no removed tail begins or ends inside one.
use Rattle.std.proofs.Common.{◌≡◌, ℕ, zero, suc, ◌+◌, ◌≤◌, ◌<◌, List, [], ◌∷◌, ◌++◌, length, map, take, Bool, true, false, cond, refl, sym, subst, arith, ltb, inl, inr, get_or}
use Rattle.std.specs.Prelude.{◌⊎◌, not, All}
use Rattle.std.proofs.lemmas.Bool.{cases_lt, ltb-true}
use Rattle.std.proofs.lemmas.List.Elements.{All-cons, All-head, All-nil, All-tail, All-take}
use Rattle.psabi_sym.specs.Inputs.{ParsedInputs}
use Rattle.psabi_sym.specs.Indexed.{IndexedSection}
use Rattle.block_cut.specs.Items.{size_on, starts_from, starts_in, starts_on}
use Rattle.block_cut.proofs.StartLaws.{Among, Here, There, among, is_among}
use Rattle.tail_merge.specs.Tails.{CodeItem, Removed, bytes_of_all, code_item, code_items, ends_tail, longest_tail, removed_from, removed_tails, tail_end, tail_start}
use Rattle.tail_merge.proofs.OffsetLaws.{ApartFrom, Backward, Forward, backward-take, from-apart, longest-prefix, removed-end, some-items, start_of}
use Rattle.tail_merge.proofs.PlacedLaws.{IsClear}
use Rattle.tail_merge.proofs.TailLaws.{removed-cases}

-- ---- items of a section

from-forward : (inputs : ParsedInputs) (l : IndexedSection) (fuel n : ℕ) → Forward n (map (code_item inputs l) (starts_from fuel l.section n))
from-forward inputs l zero n = tt
from-forward inputs l (suc fuel) n = by (from-forward inputs l fuel (n + size_on l.section n)) (ltb n (length l.section.bytes))
  where
    by : Forward (n + size_on l.section n) (map (code_item inputs l) (starts_from fuel l.section (n + size_on l.section n))) → (b : Bool) → Forward n (map (code_item inputs l) (cond b (n ∷ starts_from fuel l.section (n + size_on l.section n)) []))
    by rest true = (refl, rest)
    by rest false = tt

pub items-forward : (inputs : ParsedInputs) (l : IndexedSection) → Forward 0 (code_items inputs l)
unfolding starts_in
items-forward inputs l = from-forward inputs l (length l.section.bytes) 0

-- so the removed tails of a section lie one after another
pub removed-apart : (inputs : ParsedInputs) (l : IndexedSection) → ApartFrom 0 (removed_tails inputs l)
removed-apart inputs l = removed-cases (ApartFrom 0) inputs l tt (from-apart [] [] (code_items inputs l) 0 0 (omega arith) tt refl (items-forward inputs l))

-- ---- offsets that lie in no item

-- an offset isn't strictly inside an item
abbrev pub IsApart : ℕ → CodeItem → Type 0
IsApart x e = (x ≤ e.offset) ⊎ (e.offset + e.size ≤ x)

abbrev pub IsClean : List CodeItem → ℕ → Type 0
IsClean items x = All (IsApart x) items

pub later : (n : ℕ) (cs : List CodeItem) → Forward n cs → All (λ (e : CodeItem). n ≤ e.offset) cs
later n [] f = All-nil (λ (e : CodeItem). n ≤ e.offset)
later n (c ∷ cs) f =
    let rest = later (c.offset + c.size) cs f.1 in
    let at = f.0 in
    All-cons (λ (e : CodeItem). n ≤ e.offset) c cs (omega (arith, at)) (λ k d lt. let low = rest k d lt in omega (arith, low, at))

-- the offsets where items begin and end
abbrev pub AreClean : List CodeItem → CodeItem → Type 0
AreClean items d = IsClean items d.offset × IsClean items (d.offset + d.size)

pub all-clean : (n : ℕ) (cs : List CodeItem) → Forward n cs → All (AreClean cs) cs
all-clean n [] f = All-nil (AreClean [])
all-clean n (c ∷ cs) f =
    let rest = all-clean (c.offset + c.size) cs f.1 in
    let low = later (c.offset + c.size) cs f.1 in
    All-cons (AreClean (c ∷ cs)) c cs (
      All-cons (IsApart c.offset) c cs (inl (omega arith)) (λ k d lt. inl (let l = low k d lt in omega (arith, l))),
      All-cons (IsApart (c.offset + c.size)) c cs (inr (omega arith)) (λ k d lt. inl (low k d lt)),
    )
    (λ k d lt. let l = low k d lt in (
      All-cons (IsApart (get_or cs k d).offset) c cs (inr l) (rest k d lt).0,
      All-cons (IsApart ((get_or cs k d).offset + (get_or cs k d).size)) c cs (inr (omega (arith, l))) (rest k d lt).1,
    ))

-- ---- where removed tails begin and end

start-clean : (items : List CodeItem) (n k : ℕ) (cs : List CodeItem) → IsClean items n → All (AreClean items) cs → IsClean items (start_of n (take k cs))
start-clean items n zero cs clean all = clean
start-clean items n (suc k) [] clean all = clean
start-clean items n (suc k) (c ∷ cs) clean all = start-clean items c.offset k cs (All-head (AreClean items) c cs all).0 (All-tail (AreClean items) c cs all)

abbrev pub HasEdges : List CodeItem → Removed → Type 0
HasEdges items r = IsClean items (tail_start r) × IsClean items (tail_end r)

from-edges : (items : List CodeItem) (hosts : List (List CodeItem)) (before cs : List CodeItem) (n : ℕ) → Backward n before → Forward n cs → All (AreClean items) before → All (AreClean items) cs → All (HasEdges items) (removed_from hosts before cs)
from-edges items hosts before [] n b f done all = All-nil (HasEdges items)
from-edges items hosts before (c ∷ cs) n b f done all =
    let own = All-head (AreClean items) c cs all in
    let behind = subst (λ n. Backward n before) (sym f.0) b in
    let more = All-cons (AreClean items) c before own done in
    let rest = All-tail (AreClean items) c cs all in
    by own behind
    (from-edges items hosts (c ∷ before) cs (c.offset + c.size) (refl, behind) f.1 more rest)
    (from-edges items (hosts ++ (c ∷ before) ∷ []) (c ∷ before) cs (c.offset + c.size) (refl, behind) f.1 more rest)
    (ends_tail c)
  where
    removed : AreClean items c → Backward c.offset before → (b : Bool) → ltb 4 (bytes_of_all (longest_tail (c ∷ before) hosts).tail) ≡ b → All (HasEdges items) (removed_from hosts (c ∷ before) cs) → All (HasEdges items) (removed_from (hosts ++ (c ∷ before) ∷ []) (c ∷ before) cs)
        → All (HasEdges items) (cond b (longest_tail (c ∷ before) hosts ∷ removed_from hosts (c ∷ before) cs) (removed_from (hosts ++ (c ∷ before) ∷ []) (c ∷ before) cs))
    removed own behind false e on also = also
    removed own behind true e on also =
        let best = longest_tail (c ∷ before) hosts in
        let some = some-items best.tail (c ∷ before) (longest-prefix (c ∷ before) (record { tail = []; host = [] }) (0, refl) hosts) (ltb-true 4 (bytes_of_all best.tail) e) in
        let end = removed-end c before best.tail some.0 some.1 behind in
        All-cons (HasEdges items) best (removed_from hosts (c ∷ before) cs)
        (subst (IsClean items) (sym end.0) (start-clean items c.offset some.0 before own.0 done), subst (IsClean items) (sym end.1) own.1) on

    by : AreClean items c → Backward c.offset before → All (HasEdges items) (removed_from hosts (c ∷ before) cs) → All (HasEdges items) (removed_from (hosts ++ (c ∷ before) ∷ []) (c ∷ before) cs) → (b : Bool)
        → All (HasEdges items) (cond (not b) (removed_from hosts (c ∷ before) cs) (cond (ltb 4 (bytes_of_all (longest_tail (c ∷ before) hosts).tail)) (longest_tail (c ∷ before) hosts ∷ removed_from hosts (c ∷ before) cs) (removed_from (hosts ++ (c ∷ before) ∷ []) (c ∷ before) cs)))
    by own behind on also false = on
    by own behind on also true = removed own behind (ltb 4 (bytes_of_all (longest_tail (c ∷ before) hosts).tail)) refl on also

edges-clear : (d : CodeItem) (r : Removed) → IsApart (tail_start r) d → IsApart (tail_end r) d → IsClear d r
edges-clear d r (inr before) end = inl before
edges-clear d r (inl low) (inl behind) = inr (inr behind)
edges-clear d r (inl low) (inr high) = inr (inl (low, high))

-- no item of a section straddles where a removed tail begins or ends
pub items-clear : (inputs : ParsedInputs) (l : IndexedSection) → All (λ (d : CodeItem). All (IsClear d) (removed_tails inputs l)) (code_items inputs l)
items-clear inputs l =
    let items = code_items inputs l in
    let clean = all-clean 0 items (items-forward inputs l) in
    let found = from-edges items [] [] items 0 tt (items-forward inputs l) (All-nil (AreClean items)) clean in
    let edges = removed-cases (All (HasEdges items)) inputs l (All-nil (HasEdges items)) found in
    λ k d lt. λ j r lj. edges-clear (get_or items k d) (get_or (removed_tails inputs l) j r) ((edges j r lj).0 k d lt) ((edges j r lj).1 k d lt)

-- ---- the items of removed tails

-- a tail's items, which lie one after another up to its end
abbrev pub HasItems : (CodeItem → Type 0) → Removed → Type 0
HasItems P r = All P r.tail × Backward (tail_end r) r.tail

from-items : (P : CodeItem → Type 0) (hosts : List (List CodeItem)) (before cs : List CodeItem) (n : ℕ) → Backward n before → Forward n cs → All P before → All P cs → All (HasItems P) (removed_from hosts before cs)
from-items P hosts before [] n b f done all = All-nil (HasItems P)
from-items P hosts before (c ∷ cs) n b f done all =
    let behind = subst (λ n. Backward n before) (sym f.0) b in
    let more = All-cons P c before (All-head P c cs all) done in
    let rest = All-tail P c cs all in
    by behind more
    (from-items P hosts (c ∷ before) cs (c.offset + c.size) (refl, behind) f.1 more rest)
    (from-items P (hosts ++ (c ∷ before) ∷ []) (c ∷ before) cs (c.offset + c.size) (refl, behind) f.1 more rest)
    (ends_tail c)
  where
    removed : Backward c.offset before → All P (c ∷ before) → (b : Bool) → ltb 4 (bytes_of_all (longest_tail (c ∷ before) hosts).tail) ≡ b → All (HasItems P) (removed_from hosts (c ∷ before) cs) → All (HasItems P) (removed_from (hosts ++ (c ∷ before) ∷ []) (c ∷ before) cs)
        → All (HasItems P) (cond b (longest_tail (c ∷ before) hosts ∷ removed_from hosts (c ∷ before) cs) (removed_from (hosts ++ (c ∷ before) ∷ []) (c ∷ before) cs))
    removed behind own false e on also = also
    removed behind own true e on also =
        let best = longest_tail (c ∷ before) hosts in
        let some = some-items best.tail (c ∷ before) (longest-prefix (c ∷ before) (record { tail = []; host = [] }) (0, refl) hosts) (ltb-true 4 (bytes_of_all best.tail) e) in
        let end = removed-end c before best.tail some.0 some.1 behind in
        All-cons (HasItems P) best (removed_from hosts (c ∷ before) cs) (
          subst (All P) (sym some.1) (All-take P (suc some.0) (c ∷ before) own),
          subst (λ n. Backward n best.tail) (sym end.1) (subst (Backward (c.offset + c.size)) (sym some.1) (backward-take (c.offset + c.size) (suc some.0) (c ∷ before) (refl, behind))),
        ) on

    by : Backward c.offset before → All P (c ∷ before) → All (HasItems P) (removed_from hosts (c ∷ before) cs) → All (HasItems P) (removed_from (hosts ++ (c ∷ before) ∷ []) (c ∷ before) cs) → (b : Bool)
        → All (HasItems P) (cond (not b) (removed_from hosts (c ∷ before) cs) (cond (ltb 4 (bytes_of_all (longest_tail (c ∷ before) hosts).tail)) (longest_tail (c ∷ before) hosts ∷ removed_from hosts (c ∷ before) cs) (removed_from (hosts ++ (c ∷ before) ∷ []) (c ∷ before) cs)))
    by behind own on also false = on
    by behind own on also true = removed behind own (ltb 4 (bytes_of_all (longest_tail (c ∷ before) hosts).tail)) refl on also

-- what holds of each item of a section holds of those of its removed tails
pub removed-items : (P : CodeItem → Type 0) (inputs : ParsedInputs) (l : IndexedSection) → All P (code_items inputs l) → All (HasItems P) (removed_tails inputs l)
removed-items P inputs l all = removed-cases (All (HasItems P)) inputs l (All-nil (HasItems P)) (from-items P [] [] (code_items inputs l) 0 tt (items-forward inputs l) (All-nil P) all)

-- an offset in items that lie one after another lies in one of them
pub item-around : (P : CodeItem → Type 0) (n : ℕ) (cs : List CodeItem) → Backward n cs → All P cs → (m : ℕ) → start_of n cs ≤ m → m < n → (c : CodeItem) × P c × (c.offset ≤ m) × (m < c.offset + c.size)
item-around P n [] b all m low high = absurd (omega (arith, low, high))
item-around P n (c ∷ cs) b all m low high =
    let at = b.0 in
    elim (cases_lt m c.offset) [
      | inl lt ↦ item-around P c.offset cs b.1 (All-tail P c cs all) m low lt
      | inr le ↦ (c, All-head P c cs all, le, omega (arith, at, high))
    ]

-- ---- the item at an offset

-- where an item starts, it stands among the items
pub start-split : (inputs : ParsedInputs) (l : IndexedSection) (n : ℕ) → starts_on l.section n ≡ true
    → (front : List CodeItem) × (back : List CodeItem) × (code_items inputs l ≡ front ++ code_item inputs l n ∷ back)
start-split inputs l n start = split (starts_in l.section) start
  where
    split : (xs : List ℕ) → is_among n xs ≡ true → (front : List CodeItem) × (back : List CodeItem) × (map (code_item inputs l) xs ≡ front ++ code_item inputs l n ∷ back)
    split [] h = absurd cc
    split (x ∷ xs) h = by (split xs) (among x n xs h)
      where
        by : (is_among n xs ≡ true → (front : List CodeItem) × (back : List CodeItem) × (map (code_item inputs l) xs ≡ front ++ code_item inputs l n ∷ back)) → Among x n xs
            → (front : List CodeItem) × (back : List CodeItem) × (code_item inputs l x ∷ map (code_item inputs l) xs ≡ front ++ code_item inputs l n ∷ back)
        by more (Here e) = ([], map (code_item inputs l) xs, λ i. code_item inputs l (e i) ∷ map (code_item inputs l) xs)
        by more (There is) = let rest = more is in (code_item inputs l x ∷ rest.0, rest.1, λ i. code_item inputs l x ∷ rest.2 i)

-- so what holds of all items holds of it
pub item-of-all : (P : CodeItem → Type 0) (inputs : ParsedInputs) (l : IndexedSection) (n : ℕ) → starts_on l.section n ≡ true → All P (code_items inputs l) → P (code_item inputs l n)
item-of-all P inputs l n start all = let split = start-split inputs l n start in at split.0 split.1 (code_item inputs l n) (subst (All P) split.2 all)
  where
    at : (front back : List CodeItem) (c : CodeItem) → All P (front ++ c ∷ back) → P c
    at [] back c all = All-head P c back all
    at (d ∷ front) back c all = at front back c (All-tail P d (front ++ c ∷ back) all)
