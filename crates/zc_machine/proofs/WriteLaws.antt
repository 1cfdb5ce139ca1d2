-- Writes to cells: bytes that are copied to a slice, a write at other addresses, and a write in two parts.
use Rattle.std.proofs.Common.{◌≡◌, ℕ, suc, ◌+◌, ◌-◌, ◌<◌, ◌≤◌, List, [], ◌∷◌, ◌++◌, length, get_or, take, drop, refl, sym, ap, ap₂, ◌∙◌, arith, length-append, length-drop, slice_index, ◌⊎◌, inl, inr, replicate}
use borrow.Rule.Slice.PartMut.{put_mid}
use Rattle.std.proofs.lemmas.Bool.{cases_lt}
use Rattle.std.proofs.lemmas.List.{drop-drop, drop-replicate, get_or-append_right, get_or-drop, get_or-take, get_or_append_left, get_or_default, length-replicate, length-take-le, same_lists}
use Rattle.rv_decode.specs.Memory.{blank, cells_changed, written}
use Rattle.rv_decode.proofs.MemoryLaws.{get_or-cells_changed, length-cells_changed, untouched}
use Rattle.rv_decode.proofs.WriteLaws.{cells_changed-after, written_further, written_moved, written_none, written_there}

-- no byte is written
pub cells_written_none : (a : ℕ) (given : ℕ → ℕ) (at : ℕ) (cs : List ℕ) → cells_changed (written a 0 given) at cs ≡ cs
cells_written_none a given at [] = refl
cells_written_none a given at (c ∷ cs) = ap₂ (λ x xs. x ∷ xs) (written_none a given at c) (cells_written_none a given (suc at) cs)

-- a change that is the same at other addresses
cells_changed-moved : (f g : ℕ → ℕ → ℕ) (at to : ℕ) (cs : List ℕ) → ((x y c : ℕ) → at + y ≡ to + x → f x c ≡ g y c) → cells_changed f at cs ≡ cells_changed g to cs
cells_changed-moved f g at to [] same = refl
cells_changed-moved f g at to (c ∷ cs) same =
    ap₂ (λ x xs. x ∷ xs) (same at to c (omega arith)) (cells_changed-moved f g (suc at) (suc to) cs (λ x y d is. same x y d (omega (arith, is))))

-- bytes that are written at an index, by the address of the first cell
pub cells_written_at : (at a n : ℕ) (given : ℕ → ℕ) (cs : List ℕ) → at ≤ a → cells_changed (written (a - at) n given) 0 cs ≡ cells_changed (written a n given) at cs
cells_written_at at a n given cs low =
    cells_changed-moved (written (a - at) n given) (written a n given) 0 at cs (λ x y c is. written_moved (a - at) a n given x y c (omega (arith, is, low)))

module _ (a : ℕ) (bytes : List ℕ) where
  -- the cells of a slice after bytes were copied to it
  pub cells_written : (cs : List ℕ) → a + length bytes ≤ length cs → put_mid a (length bytes) cs bytes ≡ cells_changed (written a (length bytes) (slice_index bytes)) 0 cs
  cells_written cs within = same_lists _ _ (sum ∙ sym (length-cells_changed change 0 cs)) each
    where
      n : ℕ
      n = length bytes

      change : ℕ → ℕ → ℕ
      change = written a n (slice_index bytes)

      front : length (take a cs) ≡ a
      front = length-take-le a cs (omega (arith, within))

      rest : List ℕ
      rest = drop n (drop a cs)

      sum : length (take a cs ++ (bytes ++ rest)) ≡ length cs
      sum = omega (arith, length-append (take a cs) (bytes ++ rest), length-append bytes rest, front, length-drop n (drop a cs), length-drop a cs, within)

      each : (k d : ℕ) → k < length (take a cs ++ (bytes ++ rest)) → get_or (take a cs ++ (bytes ++ rest)) k d ≡ get_or (cells_changed change 0 cs) k d
      each k d lt = by_part (cases_lt k a) (cases_lt k (a + n)) ∙ ap (λ x. change x (get_or cs k d)) here ∙ sym (get_or-cells_changed change 0 k cs d (omega (arith, lt, sum)))
        where
          here : k ≡ 0 + k
          here = omega arith

          by_part : (k < a) ⊎ (a ≤ k) → (k < a + n) ⊎ (a + n ≤ k) → get_or (take a cs ++ (bytes ++ rest)) k d ≡ change k (get_or cs k d)
          by_part (inl before) within =
              get_or_append_left (take a cs) (bytes ++ rest) d k (omega (arith, before, front))
              ∙ get_or-take a cs k d before
              ∙ sym (untouched a n (slice_index bytes) k (get_or cs k d) (λ l h. omega (arith, l, before)))
          by_part (inr later) (inl within) =
              get_or-append_right (take a cs) (bytes ++ rest) a k d front later
              ∙ get_or_append_left bytes rest d (k - a) (omega (arith, within, later))
              ∙ get_or_default bytes (k - a) d 0 (omega (arith, within, later))
              ∙ sym (written_there a n (slice_index bytes) k (get_or cs k d) later within)
          by_part (inr later) (inr past) =
              let same : a + (n + (k - a - n)) ≡ k = omega (arith, past) in
              get_or-append_right (take a cs) (bytes ++ rest) a k d front later
              ∙ get_or-append_right bytes rest n (k - a) d refl (omega (arith, past))
              ∙ get_or-drop n (drop a cs) (k - a - n) d
              ∙ get_or-drop a cs (n + (k - a - n)) d
              ∙ ap (λ j. get_or cs j d) same
              ∙ sym (untouched a n (slice_index bytes) k (get_or cs k d) (λ l h. omega (arith, h, past)))

  -- bytes that are written after the first `done` of them
  pub cells_written_more :
      (done m : ℕ) (cs : List ℕ) → done + m ≤ length bytes
      → cells_changed (written (a + done) m (slice_index (take m (drop done bytes)))) 0 (cells_changed (written a done (slice_index bytes)) 0 cs)
      ≡ cells_changed (written a (done + m) (slice_index bytes)) 0 cs
  cells_written_more done m cs within =
      cells_changed-after (written (a + done) m (slice_index piece)) (written a done (slice_index bytes)) (written a (done + m) (slice_index bytes))
      (written_further a done m (slice_index bytes) (slice_index piece)
      (λ k lt. get_or-take m (drop done bytes) k 0 lt ∙ get_or-drop done bytes k 0)) 0 cs
    where
      piece : List ℕ
      piece = take m (drop done bytes)

-- bytes that are written to the start of cells that are all alike
pub blank-written : (bytes : List ℕ) (rest : ℕ) → cells_changed (written 0 (length bytes) (slice_index bytes)) 0 (blank (length bytes + rest) 0) ≡ bytes ++ blank rest 0
unfolding blank
blank-written bytes rest =
    sym (cells_written 0 bytes (blank (length bytes + rest) 0) (omega (arith, size)))
    ∙ ap (λ xs. bytes ++ xs) (drop-drop (length bytes) 0 (blank (length bytes + rest) 0) ∙ drop-replicate (0 + length bytes) (length bytes + rest) 0 ∙ ap (λ n. replicate n 0) (omega arith))
  where
    size : length (blank {X = ℕ} (length bytes + rest) 0) ≡ length bytes + rest
    size = length-replicate {A = ℕ} (length bytes + rest) 0
