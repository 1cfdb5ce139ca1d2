-- The bytes of a buffer: as many as are asked, piece after piece.
use Rattle.std.proofs.Common.{◌≡◌, ℕ, zero, suc, ◌+◌, ◌-◌, ◌<◌, ◌≤◌, List, ◌∷◌, ◌++◌, length, get_or, take, refl, sym, ap, ◌∙◌, arith}
use Rattle.std.proofs.lemmas.List.{get_or-take, get_or_default, length-take-le, same_lists}
use Rattle.rv_decode.specs.State.{ZcCore, byte_in}
use Rattle.zc_machine.specs.Buffer.{bytes_at}
use Rattle.zc_machine.specs.Memory.{Reaches}
use Rattle.zc_machine.specs.declared.region.AccessKind.{AccessKind}

module _ (z : ZcCore) where
  pub length-bytes_at : (a n : ℕ) → length (bytes_at z a n) ≡ n
  length-bytes_at a zero = refl
  length-bytes_at a (suc n) = ap suc (length-bytes_at (suc a) n)

  get_or-bytes_at : (a n i d : ℕ) → i < n → get_or (bytes_at z a n) i d ≡ byte_in z (a + i)
  get_or-bytes_at a zero i d lt = absurd (omega arith)
  get_or-bytes_at a (suc n) zero d lt = let here : a ≡ a + 0 = omega arith in ap (byte_in z) here
  get_or-bytes_at a (suc n) (suc i) d lt =
      let next : suc a + i ≡ a + suc i = omega arith in
      get_or-bytes_at (suc a) n i d (omega arith) ∙ ap (byte_in z) next

  -- the bytes of one part and then those of the next
  pub bytes_at-add : (a m n : ℕ) → bytes_at z a (m + n) ≡ bytes_at z a m ++ bytes_at z (a + m) n
  bytes_at-add a zero n =
      let none : 0 + n ≡ n = omega arith in
      let here : a ≡ a + 0 = omega arith in
      ap (bytes_at z a) none ∙ ap (λ x. bytes_at z x n) here
  bytes_at-add a (suc m) n =
      let more : suc m + n ≡ suc (m + n) = omega arith in
      let next : suc a + m ≡ a + suc m = omega arith in
      ap (bytes_at z a) more ∙ ap (λ xs. byte_in z a ∷ xs) (bytes_at-add (suc a) m n ∙ ap (λ x. bytes_at z (suc a) m ++ bytes_at z x n) next)

  -- the first of them, and a piece of the rest
  pub bytes_at-piece : (a done : ℕ) (piece : List ℕ) → piece ≡ bytes_at z (a + done) (length piece) → bytes_at z a done ++ piece ≡ bytes_at z a (done + length piece)
  bytes_at-piece a done piece is = ap (λ xs. bytes_at z a done ++ xs) is ∙ sym (bytes_at-add a done (length piece))

  pub bytes_at-rest : (a m n : ℕ) → m ≤ n → bytes_at z a m ++ bytes_at z (a + m) (n - m) ≡ bytes_at z a n
  bytes_at-rest a m n within = let all : m + (n - m) ≡ n = omega arith in sym (bytes_at-add a m (n - m)) ∙ ap (bytes_at z a) all

  -- what an access reaches begins with them
  pub reach_bytes : (way : AccessKind) (a n : ℕ) (cells : List ℕ) → Reaches way z.memory a cells → n ≤ length cells → take n cells ≡ bytes_at z a n
  reach_bytes way a n cells reach within = same_lists _ _ (front ∙ sym (length-bytes_at a n)) each
    where
      front : length (take n cells) ≡ n
      front = length-take-le n cells within

      each : (k d : ℕ) → k < length (take n cells) → get_or (take n cells) k d ≡ get_or (bytes_at z a n) k d
      each k d lt =
          get_or-take n cells k d (omega (arith, lt, front))
          ∙ get_or_default cells k d 0 (omega (arith, lt, front, within))
          ∙ sym (get_or-bytes_at a n k d (omega (arith, lt, front)) ∙ reach.holds k (omega (arith, lt, front, within)))
