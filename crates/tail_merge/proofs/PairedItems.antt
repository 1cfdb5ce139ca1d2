-- Items of removed tails with the hosts': which goes with which, that the next ones go together as well, and that an offset where an
-- item starts inside of a removed tail is that of an item without a leader.
use Rattle.std.proofs.Common.{◌≡◌, ℕ, ◌+◌, ◌≤◌, ◌<◌, List, [], ◌∷◌, Bool, true, false, cond, eqb, Option, Some, None, refl, ap, ◌∙◌, arith, inl, inr}
use Rattle.std.specs.Prelude.{◌⊎◌, ◌||◌}
use Rattle.std.specs.List.{AllByRecursion as Each, AllZip, list_any}
use Rattle.std.specs.Option.{option_or}
use Rattle.std.proofs.lemmas.Bool.{eq-eqb, eqb-false, eqb-true, ne_eqb}
use Rattle.tail_merge.specs.Tails.{CodeItem, Removed, bytes_of_all, ends_tail, first_offset, same_op, stands_in_tail, tail_end, tail_start}
use Rattle.tail_merge.proofs.TailLaws.{NoInnerLeader}
use Rattle.tail_merge.proofs.OffsetLaws.{ApartFrom, Backward, run-length, start_of}
use Rattle.tail_merge.proofs.ItemsLaws.{IsApart}
use Rattle.tail_merge.proofs.TailHosts.{IsChain, IsKept, each-both, each-weaker, kept-before, starts-above}

-- ---- which host's item goes with one of a removed tail

-- the offset of the host's item that goes with the item of a tail at an offset
abbrev pub paired : List CodeItem → List CodeItem → ℕ → Option ℕ
paired [] ds n = None
paired (c ∷ cs) [] n = None
paired (c ∷ cs) (d ∷ ds) n = cond (eqb c.offset n) (Some d.offset) (paired cs ds n)

-- the same of all removed tails
abbrev pub paired_in : List Removed → ℕ → Option ℕ
paired_in [] n = None
paired_in (r ∷ rs) n = option_or (paired r.tail r.host n) (paired_in rs n)

-- a removed tail begins at an offset
abbrev pub begins_at : List Removed → ℕ → Bool
begins_at rs n = list_any (λ r. eqb (tail_start r) n) rs

-- ---- chains

pub start-low : (n : ℕ) (cs : List CodeItem) → Backward n cs → start_of n cs ≤ n
start-low n cs b = let len = run-length n cs b in omega (arith, len)

-- where a tail that isn't empty ends
pub end-is : (c : CodeItem) (cs : List CodeItem) → Backward c.offset cs → first_offset (c ∷ cs) + bytes_of_all (c ∷ cs) ≡ c.offset + c.size
end-is c cs b =
    let len = run-length (c.offset + c.size) (c ∷ cs) (refl, b) in
    let start : first_offset (c ∷ cs) ≡ start_of (c.offset + c.size) (c ∷ cs) = refl in
    omega (arith, len, start)

pub unlike : (a b : ℕ) → (a < b) ⊎ (b < a) → eqb a b ≡ false
unlike a b (inl lt) = ne_eqb a b (λ e. omega (arith, lt, e))
unlike a b (inr lt) = ne_eqb a b (λ e. omega (arith, lt, e))

pub skipped : (c d : CodeItem) (cs ds : List CodeItem) (n : ℕ) → eqb c.offset n ≡ false → paired (c ∷ cs) (d ∷ ds) n ≡ paired cs ds n
skipped c d cs ds n other = ap (λ b. cond b (Some d.offset) (paired cs ds n)) other

pub taken : (c d : CodeItem) (cs ds : List CodeItem) (n : ℕ) → c.offset ≡ n → paired (c ∷ cs) (d ∷ ds) n ≡ Some d.offset
taken c d cs ds n same = ap (λ b. cond b (Some d.offset) (paired cs ds n)) (eq-eqb c.offset n same)

-- before a chain and behind it nothing goes with anything
paired-low : (m : ℕ) (cs ds : List CodeItem) (n : ℕ) → Backward m cs → n < start_of m cs → paired cs ds n ≡ None
paired-low m [] ds n b lt = refl
paired-low m (c ∷ cs) [] n b lt = refl
paired-low m (c ∷ cs) (d ∷ ds) n b lt =
    let low = start-low c.offset cs b.1 in
    skipped c d cs ds n (unlike c.offset n (inr (omega (arith, lt, low)))) ∙ paired-low c.offset cs ds n b.1 lt

module _ (P : CodeItem → Type 0) (some : (c : CodeItem) → P c → 0 < c.size) where
  paired-high : (m : ℕ) (cs ds : List CodeItem) (n : ℕ) → Backward m cs → Each P cs → m ≤ n → paired cs ds n ≡ None
  paired-high m [] ds n b all le = refl
  paired-high m (c ∷ cs) [] n b all le = refl
  paired-high m (c ∷ cs) (d ∷ ds) n b all le =
      let size = some c all.0 in
      let at = b.0 in
      skipped c d cs ds n (unlike c.offset n (inl (omega (arith, size, at, le)))) ∙ paired-high c.offset cs ds n b.1 all.1 (omega (arith, at, le))

  paired-outside : (tail host : List CodeItem) (n : ℕ) → IsChain tail → Each P tail
      → (n < first_offset tail) ⊎ (first_offset tail + bytes_of_all tail ≤ n) → paired tail host n ≡ None
  paired-outside [] host n b all out = refl
  paired-outside (c ∷ cs) host n b all (inl before) = paired-low (c.offset + c.size) (c ∷ cs) host n (refl, b) before
  paired-outside (c ∷ cs) host n b all (inr behind) = let end = end-is c cs b in paired-high (c.offset + c.size) (c ∷ cs) host n (refl, b) all (omega (arith, end, behind))

  -- a tail whose items are one after another
  abbrev pub IsChained : Removed → Type 0
  IsChained r = IsChain r.tail × Each P r.tail

  -- ---- all removed tails

  pub kept-none : (rs : List Removed) (n : ℕ) → Each IsChained rs → IsKept rs n → paired_in rs n ≡ None
  kept-none [] n all kept = refl
  kept-none (r ∷ rs) n all kept =
      ap (λ o. option_or o (paired_in rs n)) (paired-outside r.tail r.host n all.0.0 all.0.1 kept.0) ∙ kept-none rs n all.1 kept.1

  -- what goes with an offset in a removed tail, goes with it there
  abbrev pub IsOwn : List Removed → Removed → Type 0
  IsOwn rs r = (n : ℕ) → tail_start r ≤ n → n < tail_end r → paired_in rs n ≡ paired r.tail r.host n

  pub each-own : (m : ℕ) (rs : List Removed) → ApartFrom m rs → Each IsChained rs → Each (IsOwn rs) rs
  each-own m [] a all = tt
  each-own m (r ∷ rs) a all = (
    λ n low high. ap (option_or (paired r.tail r.host n)) (kept-none rs n all.1 (kept-before n (tail_end r) rs high (starts-above (tail_end r) rs a.2))) ∙ alone (paired r.tail r.host n),
    each-weaker (λ (t : Removed). (tail_end r ≤ tail_start t) × IsOwn rs t) (IsOwn (r ∷ rs))
        (λ t both n low high. ap (λ o. option_or o (paired_in rs n)) (paired-outside r.tail r.host n all.0.0 all.0.1 (inr (omega (arith, both.0, low)))) ∙ both.1 n low high) rs
        (each-both (λ (t : Removed). tail_end r ≤ tail_start t) (IsOwn rs) rs (starts-above (tail_end r) rs a.2) (each-own (tail_end r) rs a.2 all.1)),
  )
    where
      alone : (o : Option ℕ) → option_or o None ≡ o
      alone None = refl
      alone (Some n) = refl

-- no removed tail begins inside of one
begins-none : (rs : List Removed) (m n : ℕ) → n < m → Each (λ (r : Removed). m ≤ tail_start r) rs → begins_at rs n ≡ false
begins-none [] m n lt all = refl
begins-none (r ∷ rs) m n lt all =
    let low = all.0 in
    ap (λ b. b || begins_at rs n) (unlike (tail_start r) n (inr (omega (arith, lt, low)))) ∙ begins-none rs m n lt all.1

abbrev IsNoStart : List Removed → Removed → Type 0
IsNoStart rs r = (n : ℕ) → tail_start r < n → n < tail_end r → begins_at rs n ≡ false

each-no-start : (m : ℕ) (rs : List Removed) → ApartFrom m rs → Each (IsNoStart rs) rs
each-no-start m [] a = tt
each-no-start m (r ∷ rs) a =
    let long = a.1 in (
      λ n low high. ap (λ b. b || begins_at rs n) (unlike (tail_start r) n (inl low)) ∙ begins-none rs (tail_end r) n high (starts-above (tail_end r) rs a.2),
      each-weaker (λ (t : Removed). (tail_end r ≤ tail_start t) × IsNoStart rs t) (IsNoStart (r ∷ rs))
          (λ t both n low high. ap (λ b. b || begins_at rs n) (unlike (tail_start r) n (inl (omega (arith, both.0, low, long)))) ∙ both.1 n low high) rs
          (each-both (λ (t : Removed). tail_end r ≤ tail_start t) (IsNoStart rs) rs (starts-above (tail_end r) rs a.2) (each-no-start (tail_end r) rs a.2)),
    )

-- ---- an item of a removed tail and the host's

module _ (P Q : CodeItem → Type 0) (some : (c : CodeItem) → P c → 0 < c.size) where
  -- an item behind which stands another of the tail, and the host's
  record IsInner (c' d' : CodeItem) (cs ds : List CodeItem) (n h : ℕ) : Type 0 where
    c : CodeItem
    d : CodeItem
    at : c.offset ≡ n
    to : d.offset ≡ h
    own : P c
    host : P d
    kept : Q d
    same : same_op c d ≡ true
    goes : stands_in_tail c ≡ true
    next : paired (c' ∷ cs) (d' ∷ ds) (n + c.size) ≡ Some (h + d.size)
    low : n + c.size ≤ c'.offset
    high : start_of c'.offset cs ≤ n

  inner : (c' d' : CodeItem) (cs ds : List CodeItem) (n h : ℕ) → Backward c'.offset cs → Backward d'.offset ds → Each P cs → Each P ds
      → Each Q ds → AllZip (λ c d. same_op c d ≡ true) cs ds
      → Each (λ (c : CodeItem). stands_in_tail c ≡ true) cs → paired cs ds n ≡ Some h → IsInner c' d' cs ds n h
  inner c' d' [] ds n h b t ps qs kept same goes is = absurd cc
  inner c' d' (c ∷ cs) [] n h b t ps qs kept same goes is = absurd same
  inner c' d' (c ∷ cs) (d ∷ ds) n h b t ps qs kept same goes is =
      by (eqb c.offset n) refl is (λ rest. inner c d cs ds n h b.1 t.1 ps.1 qs.1 kept.1 same.1 goes.1 rest)
    where
      by : (e : Bool) → eqb c.offset n ≡ e → cond e (Some d.offset) (paired cs ds n) ≡ Some h
          → (paired cs ds n ≡ Some h → IsInner c d cs ds n h) → IsInner c' d' (c ∷ cs) (d ∷ ds) n h
      by true e found rest =
          let at = eqb-true c.offset n e in
          let to : d.offset ≡ h = cc in
          let end = b.0 in
          let close = t.0 in
          let start = start-low c.offset cs b.1 in
          let there : d'.offset ≡ h + d.size = omega (arith, to, close) in
          record {
            c = c;
            d = d;
            at = at;
            to = to;
            own = ps.0;
            host = qs.0;
            kept = kept.0;
            same = same.0;
            goes = goes.0;
            next = taken c' d' (c ∷ cs) (d ∷ ds) (n + c.size) (omega (arith, at, end)) ∙ ap Some there;
            low = omega (arith, at, end);
            high = omega (arith, start, at);
          }
      by false e found rest =
          let x = rest found in
          let size = some c ps.0 in
          let end = b.0 in
          let low = x.low in
          record {
            c = x.c;
            d = x.d;
            at = x.at;
            to = x.to;
            own = x.own;
            host = x.host;
            kept = x.kept;
            same = x.same;
            goes = x.goes;
            next = skipped c' d' (c ∷ cs) (d ∷ ds) (n + x.c.size) (unlike c'.offset (n + x.c.size) (inr (omega (arith, low, size, end)))) ∙ x.next;
            low = omega (arith, low, size, end);
            high = x.high;
          }

  -- an item of one of the removed tails, and the host's: it ends the tail, or the next ones go together as well
  pub record IsPair (rs : List Removed) (n h : ℕ) : Type 0 where
    pub c : CodeItem
    pub d : CodeItem
    pub at : c.offset ≡ n
    pub to : d.offset ≡ h
    pub own : P c
    pub host : P d
    pub kept : Q d
    pub same : same_op c d ≡ true
    pub ahead :
        (ends_tail c ≡ true)
        ⊎ ((stands_in_tail c ≡ true) × ((paired_in rs (n + c.size) ≡ Some (h + d.size)) × (begins_at rs (n + c.size) ≡ false)))

  -- what is known of a removed tail
  pub record IsKnown (r : Removed) : Type 0 where
    pub tail : Each P r.tail
    pub tail_chain : IsChain r.tail
    pub host : Each P r.host
    pub host_chain : IsChain r.host
    pub outside : Each Q r.host
    pub same : AllZip (λ c d. same_op c d ≡ true) r.tail r.host
    pub ends : (c : CodeItem) (cs : List CodeItem) → r.tail ≡ c ∷ cs → ends_tail c ≡ true
    pub goes : (c : CodeItem) (cs : List CodeItem) → r.tail ≡ c ∷ cs → Each (λ (d : CodeItem). stands_in_tail d ≡ true) cs

  pair-of : (rs : List Removed) (tail host : List CodeItem) (n h : ℕ) → IsKnown (record { tail = tail; host = host }) → IsOwn P some rs (record { tail = tail; host = host })
      → IsNoStart rs (record { tail = tail; host = host }) → paired tail host n ≡ Some h → IsPair rs n h
  pair-of rs [] host n h known own starts is = absurd cc
  pair-of rs (c ∷ cs) [] n h known own starts is = absurd known.same
  pair-of rs (c ∷ cs) (d ∷ ds) n h known own starts is = by (eqb c.offset n) refl is
    where
      by : (e : Bool) → eqb c.offset n ≡ e → cond e (Some d.offset) (paired cs ds n) ≡ Some h → IsPair rs n h
      by true e found = record {
        c = c;
        d = d;
        at = eqb-true c.offset n e;
        to = let to : d.offset ≡ h = cc in to;
        own = known.tail.0;
        host = known.host.0;
        kept = known.outside.0;
        same = known.same.0;
        ahead = inl (known.ends c cs refl);
      }
      by false e found =
          let x = inner c d cs ds n h known.tail_chain known.host_chain known.tail.1 known.host.1 known.outside.1 known.same.1 (known.goes c cs refl) found in
          let size = some x.c x.own in
          let last = some c known.tail.0 in
          let end = end-is c cs known.tail_chain in
          let low = x.low in
          let high = x.high in
          let start : first_offset (c ∷ cs) ≡ start_of c.offset cs = refl in
          let before : n + x.c.size < first_offset (c ∷ cs) + bytes_of_all (c ∷ cs) = omega (arith, low, last, end) in
          let behind : first_offset (c ∷ cs) < n + x.c.size = omega (arith, high, size, start) in
          record {
            c = x.c;
            d = x.d;
            at = x.at;
            to = x.to;
            own = x.own;
            host = x.host;
            kept = x.kept;
            same = x.same;
            ahead = inr (x.goes, (own (n + x.c.size) (omega (arith, behind)) before ∙ x.next, starts (n + x.c.size) behind before));
          }

  pub pair-found : (m : ℕ) (rs : List Removed) (n h : ℕ) → ApartFrom m rs → Each IsKnown rs → paired_in rs n ≡ Some h → IsPair rs n h
  pair-found m rs n h a known is =
      from rs
      (each-both IsKnown (λ (r : Removed). IsOwn P some rs r × IsNoStart rs r) rs known
      (each-both (IsOwn P some rs) (IsNoStart rs) rs (each-own P some m rs a (each-weaker IsKnown (IsChained P some) (λ r k. (k.tail_chain, k.tail)) rs known)) (each-no-start m rs a)))
      is
    where
      from : (ts : List Removed) → Each (λ (r : Removed). IsKnown r × (IsOwn P some rs r × IsNoStart rs r)) ts → paired_in ts n ≡ Some h
          → IsPair rs n h
      from [] each found = absurd cc
      from (t ∷ ts) each found = by (paired t.tail t.host n) refl found (λ later. from ts each.1 later)
        where
          by : (o : Option ℕ) → paired t.tail t.host n ≡ o → option_or o (paired_in ts n) ≡ Some h
              → (paired_in ts n ≡ Some h → IsPair rs n h) → IsPair rs n h
          by None e got rest = rest got
          by (Some k) e got rest = let same : k ≡ h = cc in pair-of rs t.tail t.host n h each.0.0 each.0.1.0 each.0.1.1 (e ∙ ap Some same)

-- ---- offsets inside of a removed tail

-- an item that begins no basic block
pub record IsPlainItem (P : CodeItem → Type 0) (n : ℕ) : Type 0 where
  pub c : CodeItem
  pub at : c.offset ≡ n
  pub own : P c
  pub plain : c.leader ≡ false

-- where no item lies around it, an offset inside of a removed tail is that of an item, and no basic block begins there
pub plain-inside : (P : CodeItem → Type 0) (m n : ℕ) (cs : List CodeItem) → Backward m cs → Each P cs → Each (IsApart n) cs
    → NoInnerLeader cs → start_of m cs < n → n < m → IsPlainItem P n
plain-inside P m n [] b all apart leaders low high = absurd (omega (arith, low, high))
plain-inside P m n (c ∷ cs) b all apart leaders low high = by apart.0 (λ less. plain-inside P c.offset n cs b.1 all.1 apart.1 (rest cs leaders) low less)
  where
    rest : (ds : List CodeItem) → NoInnerLeader (c ∷ ds) → NoInnerLeader ds
    rest [] none = tt
    rest (d ∷ ds) none = none.1

    here : (ds : List CodeItem) → NoInnerLeader (c ∷ ds) → start_of m (c ∷ ds) < n → c.offset ≡ n → c.leader ≡ false
    here [] none before at = absurd (omega (arith, before, at))
    here (d ∷ ds) none before at = none.0

    on : (e : Bool) → eqb c.offset n ≡ e → n ≤ c.offset → (n < c.offset → IsPlainItem P n) → IsPlainItem P n
    on true e le before = let at = eqb-true c.offset n e in record { c = c; at = at; own = all.0; plain = here cs leaders low at }
    on false e le before = before (less (eqb-false c.offset n e) le)
      where
        less : (c.offset ≡ n → ⊥) → n ≤ c.offset → n < c.offset
        less other le = grind (arith, other, le)

    by : IsApart n c → (n < c.offset → IsPlainItem P n) → IsPlainItem P n
    by (inl le) before = on (eqb c.offset n) refl le before
    by (inr past) before = absurd (let end = b.0 in omega (arith, past, end, high))
