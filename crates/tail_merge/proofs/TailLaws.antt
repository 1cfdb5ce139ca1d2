-- What the removed tails of a section have in common with their hosts'.
use Rattle.std.proofs.Common.{◌≡◌, ℕ, suc, List, [], ◌∷◌, ◌++◌, length, map, take, Bool, true, false, cond, refl, ltb}
use Rattle.std.specs.Prelude.{◌&&◌, not, All}
use Rattle.std.specs.List.{AllZip, fold}
use Rattle.std.proofs.lemmas.Bool.{and_parts}
use Rattle.std.proofs.lemmas.List.Elements.{All-cons, All-nil}
use Rattle.psabi_sym.specs.Fixed.{is_fixed}
use Rattle.psabi_sym.specs.Inputs.{ParsedInputs}
use Rattle.psabi_sym.specs.Indexed.{IndexedSection}
use Rattle.tail_merge.specs.Tails.{CodeItem, Removed, agreeing, bytes_of_all, code_items, ends_tail, longer_tail, longest_tail, removed_from, removed_tails, same_op, shared_tail, stands_in_tail}

-- no item behind another one is a leader: a basic block begins at the tail's first item at most, which is the last of the list
abbrev pub NoInnerLeader : List CodeItem → Type 0
NoInnerLeader [] = Unit {0}
NoInnerLeader (c ∷ []) = Unit {0}
NoInnerLeader (c ∷ cs) = (c.leader ≡ false) × NoInnerLeader cs

-- the end of a tail ends it, and the items before it go on
abbrev pub IsRun : List CodeItem → Type 0
IsRun [] = Unit {0}
IsRun (c ∷ cs) = (ends_tail c ≡ true) × All (λ d. stands_in_tail d ≡ true) cs

pub record IsSharedTail (r : Removed) : Type 0 where
  pub same : AllZip (λ c d. same_op c d ≡ true) r.tail r.host
  pub leaders : NoInnerLeader r.tail
  pub run : IsRun r.tail

abbrev pub IsRemovedTail : Removed → Type 0
IsRemovedTail r = IsSharedTail r × (ltb 4 (bytes_of_all r.tail) ≡ true)

abbrev Same : List CodeItem → List CodeItem → Type 0
Same cs ds = AllZip (λ c d. same_op c d ≡ true) cs ds

-- ---- the items that agree

abbrev Goes : List CodeItem → Type 0
Goes cs = All (λ (d : CodeItem). stands_in_tail d ≡ true) cs

record IsAgreed (cs ds : List CodeItem) (k : ℕ) : Type 0 where
  same : Same (take k cs) (take k ds)
  leaders : NoInnerLeader (take k cs)
  goes : Goes (take k cs)

nothing : (cs ds : List CodeItem) → IsAgreed cs ds 0
nothing cs ds = record { same = tt; leaders = tt; goes = All-nil (λ (d : CodeItem). stands_in_tail d ≡ true) }

-- one more item before those that agree, if it is no leader
before-more : (c : CodeItem) (cs : List CodeItem) → c.leader ≡ false → NoInnerLeader cs → NoInnerLeader (c ∷ cs)
before-more c [] plain rest = tt
before-more c (d ∷ cs) plain rest = (plain, rest)

agreed : (cs ds : List CodeItem) → IsAgreed cs ds (agreeing cs ds)
agreed [] ds = nothing [] ds
agreed (c ∷ cs) [] = nothing (c ∷ cs) []
agreed (c ∷ cs) (d ∷ ds) = by (agreed cs ds) (stands_in_tail c && same_op c d) refl
  where
    alone : (stands_in_tail c && same_op c d) ≡ true → IsAgreed (c ∷ cs) (d ∷ ds) 1
    alone both =
        let parts = and_parts (stands_in_tail c) (same_op c d) both in
        record { same = (parts.1, tt); leaders = tt; goes = All-cons (λ (d : CodeItem). stands_in_tail d ≡ true) c [] parts.0 (All-nil (λ (d : CodeItem). stands_in_tail d ≡ true)) }

    more : (k : ℕ) → IsAgreed cs ds k → (stands_in_tail c && same_op c d) ≡ true → c.leader ≡ false → IsAgreed (c ∷ cs) (d ∷ ds) (suc k)
    more k rest both plain =
        let parts = and_parts (stands_in_tail c) (same_op c d) both in
        record { same = (parts.1, rest.same); leaders = before-more c (take k cs) plain rest.leaders; goes = All-cons (λ (d : CodeItem). stands_in_tail d ≡ true) c (take k cs) parts.0 rest.goes }

    by : IsAgreed cs ds (agreeing cs ds) → (b : Bool) → (stands_in_tail c && same_op c d) ≡ b → IsAgreed (c ∷ cs) (d ∷ ds) (cond b (suc (cond c.leader 0 (agreeing cs ds))) 0)
    by rest false e = nothing (c ∷ cs) (d ∷ ds)
    by rest true e = lead c.leader refl
      where
        lead : (l : Bool) → c.leader ≡ l → IsAgreed (c ∷ cs) (d ∷ ds) (suc (cond l 0 (agreeing cs ds)))
        lead true h = alone e
        lead false h = more (agreeing cs ds) rest e h

pub tail-shared : (c : CodeItem) (cs host : List CodeItem) → ends_tail c ≡ true → IsSharedTail (shared_tail (c ∷ cs) host)
tail-shared c cs [] ends = record { same = tt; leaders = tt; run = tt }
tail-shared c cs (d ∷ ds) ends = by (agreed cs ds) (same_op c d) refl
  where
    by : IsAgreed cs ds (agreeing cs ds) → (b : Bool) → same_op c d ≡ b → IsSharedTail (record { tail = take (cond b (suc (cond c.leader 0 (agreeing cs ds))) 0) (c ∷ cs); host = take (cond b (suc (cond c.leader 0 (agreeing cs ds))) 0) (d ∷ ds) })
    by rest false e = record { same = tt; leaders = tt; run = tt }
    by rest true e = lead c.leader refl
      where
        lead : (l : Bool) → c.leader ≡ l → IsSharedTail (record { tail = take (suc (cond l 0 (agreeing cs ds))) (c ∷ cs); host = take (suc (cond l 0 (agreeing cs ds))) (d ∷ ds) })
        lead true h = record { same = (e, tt); leaders = tt; run = (ends, All-nil (λ (d : CodeItem). stands_in_tail d ≡ true)) }
        lead false h = record { same = (e, rest.same); leaders = before-more c (take (agreeing cs ds) cs) h rest.leaders; run = (ends, rest.goes) }

-- ---- the longest

pub longer-one : (P : Removed → Type 0) (r s : Removed) → P r → P s → P (longer_tail r s)
longer-one P r s pr ps = by (ltb (length r.tail) (length s.tail))
  where
    by : (b : Bool) → P (cond b s r)
    by true = ps
    by false = pr

longest-from : (c : CodeItem) (cs : List CodeItem) → ends_tail c ≡ true → (best : Removed) → IsSharedTail best → (hosts : List (List CodeItem)) → IsSharedTail (fold longer_tail best (map (shared_tail (c ∷ cs)) hosts))
longest-from c cs ends best is [] = is
longest-from c cs ends best is (h ∷ hosts) =
    longest-from c cs ends (longer_tail best (shared_tail (c ∷ cs) h)) (longer-one IsSharedTail best (shared_tail (c ∷ cs) h) is (tail-shared c cs h ends)) hosts

pub longest-shared : (c : CodeItem) (cs : List CodeItem) (hosts : List (List CodeItem)) → ends_tail c ≡ true → IsSharedTail (longest_tail (c ∷ cs) hosts)
longest-shared c cs hosts ends = longest-from c cs ends (record { tail = []; host = [] }) (record { same = tt; leaders = tt; run = tt }) hosts

-- ---- all that are removed

pub from-removed : (hosts : List (List CodeItem)) (before cs : List CodeItem) → All IsRemovedTail (removed_from hosts before cs)
from-removed hosts before [] = All-nil IsRemovedTail
from-removed hosts before (c ∷ cs) = by (from-removed hosts (c ∷ before) cs) (from-removed (hosts ++ (c ∷ before) ∷ []) (c ∷ before) cs) (ends_tail c) refl
  where
    ended : All IsRemovedTail (removed_from hosts (c ∷ before) cs) → All IsRemovedTail (removed_from (hosts ++ (c ∷ before) ∷ []) (c ∷ before) cs) → ends_tail c ≡ true → (b : Bool) → ltb 4 (bytes_of_all (longest_tail (c ∷ before) hosts).tail) ≡ b
        → All IsRemovedTail (cond b (longest_tail (c ∷ before) hosts ∷ removed_from hosts (c ∷ before) cs) (removed_from (hosts ++ (c ∷ before) ∷ []) (c ∷ before) cs))
    ended on also ends true long = All-cons IsRemovedTail (longest_tail (c ∷ before) hosts) (removed_from hosts (c ∷ before) cs) (longest-shared c before hosts ends, long) on
    ended on also ends false long = also

    by : All IsRemovedTail (removed_from hosts (c ∷ before) cs) → All IsRemovedTail (removed_from (hosts ++ (c ∷ before) ∷ []) (c ∷ before) cs) → (b : Bool) → ends_tail c ≡ b
        → All IsRemovedTail (cond (not b) (removed_from hosts (c ∷ before) cs) (cond (ltb 4 (bytes_of_all (longest_tail (c ∷ before) hosts).tail)) (longest_tail (c ∷ before) hosts ∷ removed_from hosts (c ∷ before) cs) (removed_from (hosts ++ (c ∷ before) ∷ []) (c ∷ before) cs)))
    by on also false e = on
    by on also true e = ended on also e (ltb 4 (bytes_of_all (longest_tail (c ∷ before) hosts).tail)) refl

-- what holds of no tails, and of those that are found in a section, holds of the removed ones
pub removed-cases : (P : List Removed → Type 0) (inputs : ParsedInputs) (l : IndexedSection) → P [] → P (removed_from [] [] (code_items inputs l)) → P (removed_tails inputs l)
unfolding removed_tails
removed-cases P inputs l none found = by (is_fixed inputs.fixed l.section)
  where
    by : (b : Bool) → P (cond b [] (removed_from [] [] (code_items inputs l)))
    by true = none
    by false = found

-- each removed tail of a section is a run that ends a tail, item by item the same as its host's, without a leader but at its start,
-- and longer than the jump
pub removed-are : (inputs : ParsedInputs) (l : IndexedSection) → All IsRemovedTail (removed_tails inputs l)
removed-are inputs l = removed-cases (All IsRemovedTail) inputs l (All-nil IsRemovedTail) (from-removed [] [] (code_items inputs l))
