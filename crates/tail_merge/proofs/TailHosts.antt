-- The hosts of removed tails: their items are the section's, one after another, and none of them is in a removed tail. Each end has
-- the items before it that go on to itself, so what is removed with one end has nothing in common with what another end shares.
use Rattle.std.proofs.Common.{◌≡◌, ℕ, zero, suc, ◌+◌, ◌≤◌, ◌<◌, List, [], ◌∷◌, ◌++◌, map, take, drop, Bool, true, false, cond, refl, sym, subst, arith, ltb, inl, inr}
use Rattle.std.specs.Prelude.{◌⊎◌, not}
use Rattle.std.specs.List.{AllByRecursion as Each, AllZip, fold}
use Rattle.std.proofs.lemmas.Bool.{ltb-true}
use Rattle.std.proofs.lemmas.List.Elements.{recursion_from_All}
use Rattle.tail_merge.specs.Tails.{CodeItem, Removed, bytes_of_all, ends_tail, longer_tail, longest_tail, removed_from, same_op, shared, shared_tail, stands_in_tail, tail_end, tail_start}
use Rattle.tail_merge.proofs.TailLaws.{IsSharedTail, longer-one, longest-shared, tail-shared}
use Rattle.tail_merge.proofs.OffsetLaws.{ApartFrom, Backward, Forward, StopsAt, backward-take, end-stops, from-apart, longest-prefix, removed-place}

-- ---- lists

module _ {X : Type 0} where
  pub each-take : (Q : X → Type 0) (k : ℕ) (xs : List X) → Each Q xs → Each Q (take k xs)
  each-take Q zero xs all = tt
  each-take Q (suc k) [] all = tt
  each-take Q (suc k) (x ∷ xs) all = (all.0, each-take Q k xs all.1)

  pub each-weaker : (Q R : X → Type 0) → ((x : X) → Q x → R x) → (xs : List X) → Each Q xs → Each R xs
  each-weaker Q R weaker [] all = tt
  each-weaker Q R weaker (x ∷ xs) all = (weaker x all.0, each-weaker Q R weaker xs all.1)

  pub each-both : (Q R : X → Type 0) (xs : List X) → Each Q xs → Each R xs → Each (λ x. Q x × R x) xs
  each-both Q R [] all also = tt
  each-both Q R (x ∷ xs) all also = ((all.0, also.0), each-both Q R xs all.1 also.1)

  each-push : (Q : X → Type 0) (xs : List X) (x : X) → Each Q xs → Q x → Each Q (xs ++ x ∷ [])
  each-push Q [] x all q = (q, tt)
  each-push Q (y ∷ ys) x all q = (all.0, each-push Q ys x all.1 q)

-- ---- items and offsets

-- items backwards, one after another
abbrev pub IsChain : List CodeItem → Type 0
IsChain [] = Unit {0}
IsChain (c ∷ cs) = Backward c.offset cs

-- an offset isn't in a tail, nor in one of some
abbrev pub IsOutsideOf : ℕ → Removed → Type 0
IsOutsideOf n r = (n < tail_start r) ⊎ (tail_end r ≤ n)

abbrev pub IsKept : List Removed → ℕ → Type 0
IsKept rs n = Each (IsOutsideOf n) rs

abbrev Goes : List CodeItem → Type 0
Goes cs = Each (λ (d : CodeItem). stands_in_tail d ≡ true) cs

abbrev IsBelow : ℕ → CodeItem → Type 0
IsBelow m d = d.offset < m

below-later : (m k : ℕ) → m ≤ k → (cs : List CodeItem) → Each (IsBelow m) cs → Each (IsBelow k) cs
below-later m k le = each-weaker (IsBelow m) (IsBelow k) (λ d lt. omega (arith, lt, le))

-- what is removed behind an offset, and what is removed before it
pub kept-before : (n m : ℕ) (rs : List Removed) → n < m → Each (λ (r : Removed). m ≤ tail_start r) rs → IsKept rs n
kept-before n m rs lt = each-weaker (λ (r : Removed). m ≤ tail_start r) (IsOutsideOf n) (λ r le. inl (omega (arith, lt, le))) rs

pub kept-behind : (n m : ℕ) (rs : List Removed) → m ≤ n → Each (λ (r : Removed). tail_end r ≤ m) rs → IsKept rs n
kept-behind n m rs le = each-weaker (λ (r : Removed). tail_end r ≤ m) (IsOutsideOf n) (λ r end. inr (omega (arith, end, le))) rs

pub starts-above : (m : ℕ) (rs : List Removed) → ApartFrom m rs → Each (λ (r : Removed). m ≤ tail_start r) rs
starts-above m [] a = tt
starts-above m (r ∷ rs) a =
    let low = a.0 in
    let long = a.1 in
    (low, each-weaker (λ (t : Removed). tail_end r ≤ tail_start t) (λ (t : Removed). m ≤ tail_start t) (λ t le. omega (arith, low, long, le)) rs (starts-above (tail_end r) rs a.2))

-- a run begins behind what stops it
run-above : (m n k : ℕ) (cs : List CodeItem) → StopsAt m n cs → Goes (take k cs) → Each (λ (d : CodeItem). m ≤ d.offset) (take k cs)
run-above m n zero cs s go = tt
run-above m n (suc k) [] s go = tt
run-above m n (suc k) (c ∷ cs) (inl at) go = absurd (let stands = go.0 in let isnt = at.1 in cc)
run-above m n (suc k) (c ∷ cs) (inr on) go = (on.0, run-above m c.offset k cs on.1 go.1)

-- ---- items with a property: each has bytes, and the same instruction goes on wherever it stands

module _ (P : CodeItem → Type 0) (some : (c : CodeItem) → P c → 0 < c.size)
    (stands : (c d : CodeItem) → P c → P d → same_op c d ≡ true → stands_in_tail c ≡ true → stands_in_tail d ≡ true) where
  before-below : (n : ℕ) (cs : List CodeItem) → Backward n cs → Each P cs → Each (IsBelow n) cs
  before-below n [] b all = tt
  before-below n (c ∷ cs) b all =
      let size = some c all.0 in
      let at = b.0 in
      (omega (arith, size, at), below-later c.offset n (omega (arith, at)) cs (before-below c.offset cs b.1 all.1))

  goes-same : (cs ds : List CodeItem) → AllZip (λ c d. same_op c d ≡ true) cs ds → Each P cs → Each P ds → Goes cs → Goes ds
  goes-same [] [] same ps qs go = tt
  goes-same [] (d ∷ ds) same ps qs go = absurd same
  goes-same (c ∷ cs) [] same ps qs go = absurd same
  goes-same (c ∷ cs) (d ∷ ds) same ps qs go = (stands c d ps.0 qs.0 same.0 go.0, goes-same cs ds same.1 ps.1 qs.1 go.1)

  -- ---- hosts so far

  -- an end that wasn't removed, by the tails that were: what goes on to it is outside of them
  record IsHostFor (done : List Removed) (m : ℕ) (h : List CodeItem) : Type 0 where
    all : Each P h
    chain : IsChain h
    below : Each (IsBelow m) h
    kept : (k : ℕ) → Goes (take k (drop 1 h)) → Each (λ (d : CodeItem). IsKept done d.offset) (take (suc k) h)

  host-later : (done : List Removed) (m k : ℕ) → m ≤ k → (h : List CodeItem) → IsHostFor done m h → IsHostFor done k h
  host-later done m k le h is = record { all = is.all; chain = is.chain; below = below-later m k le h is.below; kept = is.kept }

  host-after : (done : List Removed) (m k : ℕ) (r : Removed) → m ≤ k → m ≤ tail_start r → (h : List CodeItem) → IsHostFor done m h
      → IsHostFor (r ∷ done) k h
  host-after done m k r le start h is = record {
    all = is.all;
    chain = is.chain;
    below = below-later m k le h is.below;
    kept = λ j go.
        each-weaker (λ (d : CodeItem). IsBelow m d × IsKept done d.offset) (λ (d : CodeItem). IsKept (r ∷ done) d.offset) (λ d both. (inl (omega (arith, both.0, start)), both.1)) (take (suc j) h)
        (each-both (IsBelow m) (λ (d : CodeItem). IsKept done d.offset) (take (suc j) h) (each-take (IsBelow m) (suc j) h is.below) (is.kept j go));
  }

  new-host : (done : List Removed) (m : ℕ) (c : CodeItem) (before : List CodeItem) → P c → Each P before → Backward c.offset before
      → StopsAt m c.offset before → m ≤ c.offset
      → Each (λ (r : Removed). tail_end r ≤ m) done → IsHostFor done (c.offset + c.size) (c ∷ before)
  new-host done m c before own all b s le ends =
      let size = some c own in
      record {
        all = (own, all);
        chain = b;
        below = (omega (arith, size), below-later c.offset (c.offset + c.size) (omega arith) before (before-below c.offset before b all));
        kept = λ k go. (
          kept-behind c.offset m done le ends,
          each-weaker (λ (d : CodeItem). m ≤ d.offset) (λ (d : CodeItem). IsKept done d.offset) (λ d low. kept-behind d.offset m done low ends) (take k before)
              (run-above m c.offset k before s go),
        );
      }

  -- ---- what an end shares with them

  record IsSharedWell (done : List Removed) (m : ℕ) (r : Removed) : Type 0 where
    tail : Each P r.tail
    tail_chain : IsChain r.tail
    host : Each P r.host
    host_chain : IsChain r.host
    outside : Each (λ (d : CodeItem). IsBelow m d × IsKept done d.offset) r.host

  shared-well : (done : List Removed) (m : ℕ) (c : CodeItem) (before h : List CodeItem) → ends_tail c ≡ true → P c → Each P before
      → Backward c.offset before → IsHostFor done m h
      → IsSharedWell done m (shared_tail (c ∷ before) h)
  shared-well done m c before h ends own all b host = by (shared (c ∷ before) h) (tail-shared c before h ends)
    where
      from : (h : List CodeItem) (j : ℕ) → IsHostFor done m h → IsSharedTail (record { tail = c ∷ take j before; host = take (suc j) h }) → IsSharedWell done m (record { tail = c ∷ take j before; host = take (suc j) h })
      from [] j host is = absurd is.same
      from (d ∷ ds) j host is = record {
        tail = (own, each-take P j before all);
        tail_chain = backward-take c.offset j before b;
        host = each-take P (suc j) (d ∷ ds) host.all;
        host_chain = backward-take d.offset j ds host.chain;
        outside =
            each-both (IsBelow m) (λ (e : CodeItem). IsKept done e.offset) (d ∷ take j ds) (each-take (IsBelow m) (suc j) (d ∷ ds) host.below)
            (host.kept j
            (goes-same (take j before) (take j ds) is.same.1 (each-take P j before all) (each-take P j ds host.all.1) (recursion_from_All (λ (e : CodeItem). stands_in_tail e ≡ true) (take j before) is.run.1)));
      }

      by : (k : ℕ) → IsSharedTail (record { tail = take k (c ∷ before); host = take k h }) → IsSharedWell done m (record { tail = take k (c ∷ before); host = take k h })
      by zero is = record { tail = tt; tail_chain = tt; host = tt; host_chain = tt; outside = tt }
      by (suc j) is = from h j host is

  longest-well : (done : List Removed) (m : ℕ) (c : CodeItem) (before : List CodeItem) → ends_tail c ≡ true → P c → Each P before
      → Backward c.offset before → (best : Removed) → IsSharedWell done m best
      → (hosts : List (List CodeItem)) → Each (IsHostFor done m) hosts → IsSharedWell done m (fold longer_tail best (map (shared_tail (c ∷ before)) hosts))
  longest-well done m c before ends own all b best is [] each = is
  longest-well done m c before ends own all b best is (h ∷ hs) each =
      longest-well done m c before ends own all b (longer_tail best (shared_tail (c ∷ before) h))
      (longer-one (IsSharedWell done m) best (shared_tail (c ∷ before) h) is (shared-well done m c before h ends own all b each.0)) hs each.1

  -- ---- all removed tails

  -- a removed tail, among those removed before it and those that begin with it
  pub record IsHosted (done rs : List Removed) (r : Removed) : Type 0 where
    pub tail : Each P r.tail
    pub tail_chain : IsChain r.tail
    pub host : Each P r.host
    pub host_chain : IsChain r.host
    pub outside : Each (λ (d : CodeItem). IsKept done d.offset × IsKept rs d.offset) r.host

  hosted-first : (done : List Removed) (m k : ℕ) (r : Removed) (rs : List Removed) → m ≤ k → m ≤ tail_start r → ApartFrom k rs
      → IsSharedWell done m r → IsHosted done (r ∷ rs) r
  hosted-first done m k r rs le start apart is = record {
    tail = is.tail;
    tail_chain = is.tail_chain;
    host = is.host;
    host_chain = is.host_chain;
    outside =
        each-weaker (λ (d : CodeItem). IsBelow m d × IsKept done d.offset) (λ (d : CodeItem). IsKept done d.offset × IsKept (r ∷ rs) d.offset)
        (λ d both. (both.1, (inl (omega (arith, both.0, start)), kept-before d.offset k rs (omega (arith, both.0, le)) (starts-above k rs apart)))) r.host is.outside;
  }

  hosted-later : (done : List Removed) (r : Removed) (rs ts : List Removed) → Each (IsHosted (r ∷ done) rs) ts → Each (IsHosted done (r ∷ rs)) ts
  hosted-later done r rs ts =
      each-weaker (IsHosted (r ∷ done) rs) (IsHosted done (r ∷ rs)) (λ t is. record {
        tail = is.tail;
        tail_chain = is.tail_chain;
        host = is.host;
        host_chain = is.host_chain;
        outside =
            each-weaker (λ (d : CodeItem). IsKept (r ∷ done) d.offset × IsKept rs d.offset) (λ (d : CodeItem). IsKept done d.offset × IsKept (r ∷ rs) d.offset)
            (λ d both. (both.0.1, (both.0.0, both.1))) t.host is.outside;
      }) ts

  from-hosted : (done : List Removed) (hosts : List (List CodeItem)) (before cs : List CodeItem) (m n : ℕ) → m ≤ n → Backward n before
      → StopsAt m n before → Forward n cs → Each P before → Each P cs
      → Each (IsHostFor done m) hosts → Each (λ (r : Removed). tail_end r ≤ m) done → Each (IsHosted done (removed_from hosts before cs)) (removed_from hosts before cs)
  from-hosted done hosts before [] m n le b s f all more hs ends = tt
  from-hosted done hosts before (c ∷ cs) m n le b s f all more hs ends =
      let at : n ≡ c.offset = sym f.0 in
      let behind = subst (λ n. Backward n before) at b in
      let stops = subst (λ n. StopsAt m n before) at s in
      let low : m ≤ c.offset = omega (arith, at, le) in
      let end = c.offset + c.size in
      let best = longest_tail (c ∷ before) hosts in
      by behind stops low
      (from-hosted done hosts (c ∷ before) cs m end (omega (arith, low)) (refl, behind) (inr (low, stops)) f.1 (more.0, all) more.1 hs ends)
      (λ is start close. from-hosted (best ∷ done) hosts (c ∷ before) cs end end (omega arith) (refl, behind) (inl (refl, end-stops c is)) f.1 (more.0, all) more.1
      (each-weaker (IsHostFor done m) (IsHostFor (best ∷ done) end) (host-after done m end best (omega (arith, low)) start) hosts hs)
      (omega (arith, close), each-weaker (λ (r : Removed). tail_end r ≤ m) (λ (r : Removed). tail_end r ≤ end) (λ r e. omega (arith, e, low)) done ends))
      (λ is. from-hosted done (hosts ++ (c ∷ before) ∷ []) (c ∷ before) cs end end (omega arith) (refl, behind) (inl (refl, end-stops c is)) f.1 (more.0, all) more.1
      (each-push (IsHostFor done end) hosts (c ∷ before) (each-weaker (IsHostFor done m) (IsHostFor done end) (host-later done m end (omega (arith, low))) hosts hs) (new-host done m c before more.0 all behind stops low ends))
      (each-weaker (λ (r : Removed). tail_end r ≤ m) (λ (r : Removed). tail_end r ≤ end) (λ r e. omega (arith, e, low)) done ends))
      (ends_tail c) refl
    where
      best : Removed
      best = longest_tail (c ∷ before) hosts

      gone : List Removed
      gone = removed_from hosts (c ∷ before) cs

      stayed : List Removed
      stayed = removed_from (hosts ++ (c ∷ before) ∷ []) (c ∷ before) cs

      ended : Backward c.offset before → StopsAt m c.offset before → m ≤ c.offset
          → (m ≤ tail_start best → tail_end best ≡ c.offset + c.size → Each (IsHosted (best ∷ done) gone) gone)
          → Each (IsHosted done stayed) stayed → ends_tail c ≡ true → (b : Bool) → ltb 4 (bytes_of_all best.tail) ≡ b → Each (IsHosted done (cond b (best ∷ gone) stayed)) (cond b (best ∷ gone) stayed)
      ended behind stops low removed host is false h = host
      ended behind stops low removed host is true h =
          let long = ltb-true 4 (bytes_of_all best.tail) h in
          let place = removed-place m c before best.tail (longest-prefix (c ∷ before) (record { tail = []; host = [] }) (0, refl) hosts) (longest-shared c before hosts is).run long behind stops low in
          let good = longest-well done m c before is more.0 all behind (record { tail = []; host = [] }) (record { tail = tt; tail_chain = tt; host = tt; host_chain = tt; outside = tt }) hosts hs in
          let apart = from-apart hosts (c ∷ before) cs (c.offset + c.size) (c.offset + c.size) (omega arith) (refl, behind) (inl (refl, end-stops c is)) f.1 in (
            hosted-first done m (c.offset + c.size) best gone (omega (arith, low)) place.0 apart good,
            hosted-later done best gone gone (removed place.0 place.1),
          )

      by : Backward c.offset before → StopsAt m c.offset before → m ≤ c.offset → Each (IsHosted done gone) gone
          → (ends_tail c ≡ true → m ≤ tail_start best → tail_end best ≡ c.offset + c.size → Each (IsHosted (best ∷ done) gone) gone) → (ends_tail c ≡ true → Each (IsHosted done stayed) stayed)
          → (b : Bool) → ends_tail c ≡ b → Each (IsHosted done (cond (not b) gone (cond (ltb 4 (bytes_of_all best.tail)) (best ∷ gone) stayed))) (cond (not b) gone (cond (ltb 4 (bytes_of_all best.tail)) (best ∷ gone) stayed))
      by behind stops low plain removed host false e = plain
      by behind stops low plain removed host true e = ended behind stops low (removed e) (host e) e (ltb 4 (bytes_of_all best.tail)) refl

  -- the hosts of all removed tails are outside of all of them
  pub all-hosted : (items : List CodeItem) → Forward 0 items → Each P items
      → Each (IsHosted [] (removed_from [] [] items)) (removed_from [] [] items)
  all-hosted items f all = from-hosted [] [] [] items 0 0 (omega arith) tt refl f tt all tt tt
