-- Where offsets of removed tails go: the first item's to the jump, and a later one's to the host's item.
use Rattle.std.proofs.Common.{◌≡◌, ℕ, ◌+◌, ◌≤◌, ◌<◌, List, [], ◌∷◌, ◌++◌, Bool, true, false, cond, eqb, Option, Some, None, refl, sym, ap, ◌∙◌, arith, inl, inr}
use Rattle.std.specs.Prelude.{◌⊎◌, ◌||◌}
use Rattle.std.specs.List.{AllByRecursion as Each, AllZip, find, flat_map}
use Rattle.std.specs.Option.{option_map_or, option_or}
use Rattle.std.proofs.lemmas.Bool.{eqb-false, eqb-true}
use Rattle.std.proofs.lemmas.List.Folds.{find-append}
use Rattle.tail_merge.specs.Tails.{CodeItem, Removed, bytes_of_all, covers, first_offset, host_offset, same_op, tail_end, tail_start, zipped}
use Rattle.tail_merge.proofs.TailLaws.{NoInnerLeader}
use Rattle.tail_merge.proofs.OffsetLaws.{ApartFrom, Backward, Outside, start_of}
use Rattle.tail_merge.proofs.ItemsLaws.{IsApart}
use Rattle.tail_merge.proofs.PlacedLaws.{covers-before, covers-behind, covers-in}
use Rattle.tail_merge.proofs.TailHosts.{IsChain, IsKept, IsOutsideOf, each-both, each-weaker, starts-above}
use Rattle.tail_merge.proofs.PairedItems.{IsChained, IsPlainItem, begins_at, end-is, paired, paired_in, plain-inside, skipped, start-low, taken, unlike}

-- ---- offsets that lie in no tail, or where one begins

-- an offset isn't strictly inside of a removed tail
abbrev pub IsAround : ℕ → Removed → Type 0
IsAround n r = (n ≤ tail_start r) ⊎ (tail_end r ≤ n)

pub outside-all : (rs : List Removed) (n : ℕ) → Each (IsAround n) rs → Outside rs n
outside-all [] n all = tt
outside-all (r ∷ rs) n all = by all.0 (outside-all rs n all.1)
  where
    by : IsAround n r → Outside rs n → Outside (r ∷ rs) n
    by (inl before) rest = inl before
    by (inr behind) rest = inr (behind, rest)

-- where none begins, an offset that is strictly inside of none is in none
pub kept-around : (rs : List Removed) (n : ℕ) → Each (IsAround n) rs → begins_at rs n ≡ false → IsKept rs n
kept-around [] n all none = tt
kept-around (r ∷ rs) n all none = by (eqb (tail_start r) n) refl none (λ rest. kept-around rs n all.1 rest)
  where
    here : eqb (tail_start r) n ≡ false → IsAround n r → IsOutsideOf n r
    here other (inl before) = inl (let isnt = eqb-false (tail_start r) n other in grind (arith, before, isnt))
    here other (inr behind) = inr behind

    by : (b : Bool) → eqb (tail_start r) n ≡ b → (b || begins_at rs n) ≡ false → (begins_at rs n ≡ false → IsKept rs n) → IsKept (r ∷ rs) n
    by true e h later = absurd cc
    by false e h later = (here e all.0, later h)

begins-above : (m : ℕ) (rs : List Removed) (n : ℕ) → Each (λ (r : Removed). m ≤ tail_start r) rs → begins_at rs n ≡ true → m ≤ n
begins-above m [] n low h = absurd cc
begins-above m (r ∷ rs) n low h = by (eqb (tail_start r) n) refl h (λ later. begins-above m rs n low.1 later)
  where
    by : (b : Bool) → eqb (tail_start r) n ≡ b → (b || begins_at rs n) ≡ true → (begins_at rs n ≡ true → m ≤ n) → m ≤ n
    by true e is later = let same = eqb-true (tail_start r) n e in let le = low.0 in omega (arith, same, le)
    by false e is later = later is

-- where one begins, an offset is strictly inside of none
pub begins-around : (m : ℕ) (rs : List Removed) (n : ℕ) → ApartFrom m rs → begins_at rs n ≡ true → Each (IsAround n) rs
begins-around m [] n a h = tt
begins-around m (r ∷ rs) n a h = by (eqb (tail_start r) n) refl h (λ later. begins-around (tail_end r) rs n a.2 later)
  where
    above : Each (λ (t : Removed). tail_end r ≤ tail_start t) rs
    above = starts-above (tail_end r) rs a.2

    by : (b : Bool) → eqb (tail_start r) n ≡ b → (b || begins_at rs n) ≡ true → (begins_at rs n ≡ true → Each (IsAround n) rs)
        → Each (IsAround n) (r ∷ rs)
    by true e is later =
        let same = eqb-true (tail_start r) n e in
        let long = a.1 in (
          inl (omega (arith, same)),
          each-weaker (λ (t : Removed). tail_end r ≤ tail_start t) (IsAround n) (λ t le. inl (omega (arith, same, long, le))) rs above,
        )
    by false e is later = (inr (begins-above (tail_end r) rs n above is), later is)

-- ---- what is found for an offset

-- what is found among the later items of a tail
abbrev found_in : List (ℕ × ℕ) → ℕ → Option ℕ
found_in pairs n = option_map_or (λ e. Some e.1) (find (λ e. eqb e.0 n) pairs) None

found-append : (first rest : List (ℕ × ℕ)) (n : ℕ) → found_in (first ++ rest) n ≡ option_or (found_in first n) (found_in rest n)
found-append first rest n = ap (λ o. option_map_or (λ (e : ℕ × ℕ). Some e.1) o None) (find-append (λ e. eqb e.0 n) first rest) ∙ by (find (λ e. eqb e.0 n) first)
  where
    by : (o : Option (ℕ × ℕ))
        → option_map_or (λ (e : ℕ × ℕ). Some e.1) (option_or o (find (λ e. eqb e.0 n) rest)) None ≡ option_or (option_map_or (λ (e : ℕ × ℕ). Some e.1) o None) (found_in rest n)
    by None = refl
    by (Some e) = refl

-- a later item's is the host's
found-zipped : (cs ds : List CodeItem) (n : ℕ) → eqb (first_offset cs) n ≡ false → found_in (zipped cs ds) n ≡ paired cs ds n
found-zipped [] ds n other = refl
found-zipped (c ∷ []) [] n other = refl
found-zipped (c ∷ e ∷ cs) [] n other = refl
found-zipped (c ∷ []) (d ∷ ds) n other = sym (skipped c d [] ds n other)
found-zipped (c ∷ e ∷ cs) (d ∷ ds) n other = by (found-zipped (e ∷ cs) ds n other) (eqb c.offset n)
  where
    by : found_in (zipped (e ∷ cs) ds) n ≡ paired (e ∷ cs) ds n → (b : Bool)
        → option_map_or (λ (e : ℕ × ℕ). Some e.1) (cond b (Some (c.offset, d.offset)) (find (λ e. eqb e.0 n) (zipped (e ∷ cs) ds))) None ≡ cond b (Some d.offset) (paired (e ∷ cs) ds n)
    by rest true = refl
    by rest false = rest

-- so where no removed tail begins
pub host-paired : (rs : List Removed) (n : ℕ) → begins_at rs n ≡ false → host_offset rs n ≡ paired_in rs n
host-paired [] n none = refl
host-paired (r ∷ rs) n none = by (eqb (tail_start r) n) refl none (λ rest. host-paired rs n rest)
  where
    by : (b : Bool) → eqb (tail_start r) n ≡ b → (b || begins_at rs n) ≡ false
        → (begins_at rs n ≡ false → host_offset rs n ≡ paired_in rs n) → host_offset (r ∷ rs) n ≡ paired_in (r ∷ rs) n
    by true e h later = absurd cc
    by false e h later =
        found-append (zipped r.tail r.host) (flat_map (λ (r : Removed). zipped r.tail r.host) rs) n
        ∙ (λ j. option_or (found-zipped r.tail r.host n e j) (later h j))

module _ (P : CodeItem → Type 0) (some : (c : CodeItem) → P c → 0 < c.size) where
  zipped-none : (m : ℕ) (cs ds : List CodeItem) (n : ℕ) → Backward m cs → Each P cs → (n ≤ start_of m cs) ⊎ (m ≤ n)
      → found_in (zipped cs ds) n ≡ None
  zipped-none m [] ds n b all out = refl
  zipped-none m (c ∷ []) [] n b all out = refl
  zipped-none m (c ∷ e ∷ cs) [] n b all out = refl
  zipped-none m (c ∷ []) (d ∷ ds) n b all out = refl
  zipped-none m (c ∷ e ∷ cs) (d ∷ ds) n b all out =
      ap (λ b. option_map_or (λ (e : ℕ × ℕ). Some e.1) (cond b (Some (c.offset, d.offset)) (find (λ e. eqb e.0 n) (zipped (e ∷ cs) ds))) None) (unlike c.offset n (here out))
      ∙ zipped-none c.offset (e ∷ cs) ds n b.1 all.1 (on out)
    where
      here : (n ≤ start_of m (c ∷ e ∷ cs)) ⊎ (m ≤ n) → (c.offset < n) ⊎ (n < c.offset)
      here (inl le) =
          let low = start-low e.offset cs b.1.1 in
          let size = some e all.1.0 in
          let at = b.1.0 in
          let same : start_of m (c ∷ e ∷ cs) ≡ start_of e.offset cs = refl in
          inr (omega (arith, le, low, size, at, same))
      here (inr past) = let size = some c all.0 in let at = b.0 in inl (omega (arith, past, size, at))

      on : (n ≤ start_of m (c ∷ e ∷ cs)) ⊎ (m ≤ n) → (n ≤ start_of c.offset (e ∷ cs)) ⊎ (c.offset ≤ n)
      on (inl le) = inl le
      on (inr past) = let at = b.0 in inr (omega (arith, past, at))

  tail-none : (tail host : List CodeItem) (n : ℕ) → IsChain tail → Each P tail
      → (n ≤ first_offset tail) ⊎ (first_offset tail + bytes_of_all tail ≤ n) → found_in (zipped tail host) n ≡ None
  tail-none [] host n b all out = refl
  tail-none (c ∷ cs) host n b all out = zipped-none (c.offset + c.size) (c ∷ cs) host n (refl, b) all (by out)
    where
      by : (n ≤ first_offset (c ∷ cs)) ⊎ (first_offset (c ∷ cs) + bytes_of_all (c ∷ cs) ≤ n)
          → (n ≤ start_of (c.offset + c.size) (c ∷ cs)) ⊎ (c.offset + c.size ≤ n)
      by (inl le) = inl le
      by (inr past) = let end = end-is c cs b in inr (omega (arith, past, end))

  -- and where an offset is strictly inside of no tail, nothing is found
  pub host-none : (rs : List Removed) (n : ℕ) → Each (IsChained P some) rs → Each (IsAround n) rs → host_offset rs n ≡ None
  host-none [] n all around = refl
  host-none (r ∷ rs) n all around =
      found-append (zipped r.tail r.host) (flat_map (λ (r : Removed). zipped r.tail r.host) rs) n
      ∙ (λ j. option_or (tail-none r.tail r.host n all.0.0 all.0.1 around.0 j) (host-none rs n all.1 around.1 j))

  -- ---- the first item of a tail

  first-in : (m : ℕ) (cs ds : List CodeItem) → Backward m cs → Each P cs → AllZip (λ c d. same_op c d ≡ true) cs ds → start_of m cs < m
      → paired cs ds (start_of m cs) ≡ Some (first_offset ds)
  first-in m [] ds b all same lt = absurd (omega (arith, lt))
  first-in m (c ∷ cs) [] b all same lt = absurd same
  first-in m (c ∷ []) (d ∷ []) b all same lt = taken c d [] [] c.offset refl
  first-in m (c ∷ []) (d ∷ f ∷ ds) b all same lt = absurd same.1
  first-in m (c ∷ e ∷ cs) (d ∷ []) b all same lt = absurd same.1
  first-in m (c ∷ e ∷ cs) (d ∷ f ∷ ds) b all same lt =
      let low = start-low e.offset cs b.1.1 in
      let size = some e all.1.0 in
      let at = b.1.0 in
      let less : start_of c.offset (e ∷ cs) < c.offset = omega (arith, low, size, at) in
      skipped c d (e ∷ cs) (f ∷ ds) (start_of c.offset (e ∷ cs)) (unlike c.offset (start_of c.offset (e ∷ cs)) (inr less)) ∙ first-in c.offset (e ∷ cs) (f ∷ ds) b.1 all.1 same.1 less

  -- goes with the host's first
  pub first-paired : (tail host : List CodeItem) → IsChain tail → Each P tail → AllZip (λ c d. same_op c d ≡ true) tail host
      → 4 < bytes_of_all tail → paired tail host (first_offset tail) ≡ Some (first_offset host)
  first-paired [] host b all same long = absurd (let none : bytes_of_all [] ≡ 0 = refl in omega (arith, long, none))
  first-paired (c ∷ cs) host b all same long = let end = end-is c cs b in first-in (c.offset + c.size) (c ∷ cs) host (refl, b) all same (omega (arith, end, long))

-- ---- offsets where items start

-- where no item lies around it, an offset in a tail is that of an item of it
paired-at : (m : ℕ) (cs ds : List CodeItem) (n : ℕ) → Backward m cs → Each (IsApart n) cs → AllZip (λ c d. same_op c d ≡ true) cs ds
    → start_of m cs ≤ n → n < m → (k : ℕ) × (paired cs ds n ≡ Some k)
paired-at m [] ds n b apart same low high = absurd (omega (arith, low, high))
paired-at m (c ∷ cs) [] n b apart same low high = absurd same
paired-at m (c ∷ cs) (d ∷ ds) n b apart same low high = by (eqb c.offset n) refl apart.0 (λ less. paired-at c.offset cs ds n b.1 apart.1 same.1 low less)
  where
    by : (e : Bool) → eqb c.offset n ≡ e → IsApart n c → (n < c.offset → (k : ℕ) × (paired cs ds n ≡ Some k))
        → (k : ℕ) × (cond e (Some d.offset) (paired cs ds n) ≡ Some k)
    by true e out rest = (d.offset, refl)
    by false e (inl le) rest = rest (let isnt = eqb-false c.offset n e in grind (arith, le, isnt))
    by false e (inr past) rest = absurd (let end = b.0 in omega (arith, past, end, high))

pub paired-in-tail : (tail host : List CodeItem) (n : ℕ) → IsChain tail → Each (IsApart n) tail
    → AllZip (λ c d. same_op c d ≡ true) tail host → first_offset tail ≤ n → n < first_offset tail + bytes_of_all tail
    → (k : ℕ) × (paired tail host n ≡ Some k)
paired-in-tail [] host n b apart same low high = absurd (let none : first_offset [] + bytes_of_all [] ≡ 0 = refl in omega (arith, high, none))
paired-in-tail (c ∷ cs) host n b apart same low high = let end = end-is c cs b in paired-at (c.offset + c.size) (c ∷ cs) host n (refl, b) apart same low (omega (arith, end, high))

-- and inside of it no basic block begins there
pub plain-in-tail : (P : CodeItem → Type 0) (tail : List CodeItem) (n : ℕ) → IsChain tail → Each P tail → Each (IsApart n) tail
    → NoInnerLeader tail → first_offset tail < n → n < first_offset tail + bytes_of_all tail → IsPlainItem P n
plain-in-tail P [] n b all apart leaders low high = absurd (let none : first_offset [] + bytes_of_all [] ≡ 0 = refl in omega (arith, high, none))
plain-in-tail P (c ∷ cs) n b all apart leaders low high = let end = end-is c cs b in plain-inside P (c.offset + c.size) n (c ∷ cs) (refl, b) all apart leaders low (omega (arith, end, high))

-- a tail ends where its items do
pub tail-within : (tail : List CodeItem) (m : ℕ) → IsChain tail → Each (λ (c : CodeItem). c.offset + c.size ≤ m) tail
    → first_offset tail + bytes_of_all tail ≤ m
tail-within [] m b all = omega arith
tail-within (c ∷ cs) m b all = let end = end-is c cs b in let last = all.0 in omega (arith, end, last)

-- what lies in no tail is covered by none
pub none-covers : (rs : List Removed) (n : ℕ) → IsKept rs n → find (covers n) rs ≡ None
none-covers [] n kept = refl
none-covers (r ∷ rs) n kept = ap (λ b. cond b (Some r) (find (covers n) rs)) (by kept.0) ∙ none-covers rs n kept.1
  where
    by : IsOutsideOf n r → covers n r ≡ false
    by (inl before) = covers-before n r before
    by (inr behind) = covers-behind n r behind

-- the first item of a removed tail is covered by it
pub first-covers : (m : ℕ) (rs : List Removed) → ApartFrom m rs → Each (λ (r : Removed). find (covers (tail_start r)) rs ≡ Some r) rs
first-covers m [] a = tt
first-covers m (r ∷ rs) a =
    let long = a.1 in (
      ap (λ b. cond b (Some r) (find (covers (tail_start r)) rs)) (covers-in (tail_start r) r (omega arith) (omega (arith, long))),
      each-weaker (λ (s : Removed). (tail_end r ≤ tail_start s) × (find (covers (tail_start s)) rs ≡ Some s)) (λ (s : Removed). find (covers (tail_start s)) (r ∷ rs) ≡ Some s)
          (λ s both. ap (λ b. cond b (Some r) (find (covers (tail_start s)) rs)) (covers-behind (tail_start s) r both.0) ∙ both.1) rs
          (each-both (λ (s : Removed). tail_end r ≤ tail_start s) (λ (s : Removed). find (covers (tail_start s)) rs ≡ Some s) rs (starts-above (tail_end r) rs a.2) (first-covers (tail_end r) rs a.2)),
    )
