-- Answers of a machine's environment: bytes that fill a buffer piece by piece.
use Rattle.std.proofs.Common.{◌≡◌, ℕ, zero, suc, ◌+◌, ◌-◌, ◌<◌, ◌≤◌, List, [], ◌++◌, length, take, drop, refl, sym, ap, ◌∙◌, arith, get_or, slice_index, length-append}
use Rattle.std.proofs.lemmas.List.{get_or-append_right, get_or_append_left}
use Rattle.std.proofs.Math.Seq.{drop-append-add, take-append-add}
use Rattle.rv_decode.specs.Memory.{Region, changed, written}
use Rattle.rv_decode.proofs.WriteLaws.{changed-after, written_further}
use Rattle.zc_machine.proofs.RegionLaws.{written-same}

-- ---- a buffer

-- memory with these bytes from an address on
abbrev pub filled : ℕ → List ℕ → List (Region ℕ) → List (Region ℕ)
filled a bytes rs = changed (written a (length bytes) (slice_index bytes)) rs

-- bytes after others
pub filled-append : (a : ℕ) (xs ys : List ℕ) (rs : List (Region ℕ)) → filled (a + length xs) ys (filled a xs rs) ≡ filled a (xs ++ ys) rs
filled-append a xs ys rs = changed-after (written (a + n) m (slice_index ys)) (written a n (slice_index xs)) (written a (length (xs ++ ys)) (slice_index (xs ++ ys))) joined rs
  where
    n : ℕ
    n = length xs

    m : ℕ
    m = length ys

    second : (k : ℕ) → k < m → slice_index ys k ≡ slice_index (xs ++ ys) (n + k)
    second k lt = let back : n + k - n ≡ k = omega arith in sym (get_or-append_right xs ys n (n + k) 0 refl (omega arith) ∙ ap (λ j. get_or ys j 0) back)

    joined : (x c : ℕ) → written (a + n) m (slice_index ys) x (written a n (slice_index xs) x c) ≡ written a (length (xs ++ ys)) (slice_index (xs ++ ys)) x c
    joined x c =
        ap (λ w. written (a + n) m (slice_index ys) x w) (written-same a n (slice_index xs) (slice_index (xs ++ ys)) (λ i lt. sym (get_or_append_left xs ys 0 i lt)) x c)
        ∙ written_further a n m (slice_index (xs ++ ys)) (slice_index ys) second x c
        ∙ ap (λ s. written a s (slice_index (xs ++ ys)) x c) (sym (length-append xs ys))

-- a piece of at most n bytes is taken of what is left, and then the rest of n bytes
module _ (n : ℕ) (piece old new : List ℕ) (taken : old ≡ piece ++ new) (within : length piece ≤ n) where
  parts : length piece + (n - length piece) ≡ n
  parts = omega (arith, within)

  taken_more : take n old ≡ piece ++ take (n - length piece) new
  taken_more = ap (take n) taken ∙ ap (λ k. take k (piece ++ new)) (sym parts) ∙ take-append-add piece new (n - length piece)

  pub left_more : drop (n - length piece) new ≡ drop n old
  left_more = sym (ap (drop n) taken ∙ ap (λ k. drop k (piece ++ new)) (sym parts) ∙ drop-append-add piece new (n - length piece))

  pub count_more : length (take (n - length piece) new) + length piece ≡ length (take n old)
  count_more = omega (arith, ap length taken_more, length-append piece (take (n - length piece) new))

  pub filled_more : (a : ℕ) (rs : List (Region ℕ)) → filled (a + length piece) (take (n - length piece) new) (filled a piece rs) ≡ filled a (take n old) rs
  filled_more a rs = filled-append a piece (take (n - length piece) new) rs ∙ ap (λ bytes. filled a bytes rs) (sym taken_more)

-- of no bytes none are taken
pub take_none : (n : ℕ) (xs : List ℕ) → xs ≡ [] → take n xs ≡ []
take_none zero xs none = refl
take_none (suc n) xs none = ap (take (suc n)) none

pub drop_none : (n : ℕ) (xs : List ℕ) → xs ≡ [] → drop n xs ≡ []
drop_none zero xs none = none
drop_none (suc n) xs none = ap (drop (suc n)) none
