-- A buffer that is filled from the front of a list, piece by piece.
use Rattle.std.proofs.Common.{◌≡◌, ℕ, ◌+◌, ◌-◌, ◌<◌, ◌≤◌, ◌⊎◌, inl, inr, List, [], ◌++◌, length, length-append, map, min, take, drop, get_or, refl, sym, ap, ◌∙◌, subst, arith}
use Rattle.std.proofs.lemmas.List.{drop-drop, drop_at, get_or-drop, get_or-map, get_or-take, get_or_append_left, length-drop, length-map, length-take-le}
use Rattle.rv_decode.specs.Memory.{written}
use Rattle.sym_machine.specs.declared.word.SymByte.{SymByte}
use Rattle.sym_machine.specs.declared.word.SymByte.TheVariants.{Num, Undef}
use Rattle.sym_machine.specs.Kept.{IsChanged, IsKept, Kept}
use Rattle.sym_machine.proofs.MemoryLaws.{write_further, write_none, write_same}

-- the bytes of a list, by their index
abbrev pub given_by : List ℕ → ℕ → SymByte
given_by numbers i = get_or (map Num numbers) i Undef

-- the first `done` numbers of all lie from an address on, and these are left
pub record IsFilled (a : ℕ) (all : List ℕ) (done : ℕ) (left : List ℕ) (k k' : Kept) : Type 0 where
  pub within : done ≤ length all
  pub rest : left ≡ drop done all
  pub changed : IsChanged (written a done (given_by all)) k k'

module _ (a : ℕ) (all : List ℕ) where
  pub filled_none : (k : Kept) → IsKept k → IsFilled a all 0 all k k
  filled_none k is = record { within = omega arith; rest = refl; changed = write_none a (given_by all) k is }

  -- numbers by their index in what is left
  given_further : (done j : ℕ) (left piece behind : List ℕ) → left ≡ drop done all → left ≡ piece ++ behind → j < length piece → done ≤ length all → given_by piece j ≡ given_by all (done + j)
  given_further done j left piece behind rest parts lt within =
      let same : get_or piece j 0 ≡ get_or all (done + j) 0 =
      sym (get_or_append_left piece behind 0 j lt) ∙ ap (λ l. get_or l j 0) (sym parts ∙ rest) ∙ get_or-drop done all j 0 in
      let long : length piece + length behind ≡ length all - done = sym (length-append piece behind) ∙ ap length (sym parts ∙ rest) ∙ length-drop done all in
      get_or-map Num piece j 0 Undef lt ∙ ap Num same ∙ sym (get_or-map Num all (done + j) 0 Undef (omega (arith, lt, long, within)))

  pub filled_more : (done : ℕ) (left piece behind : List ℕ) (k k' k'' : Kept) → IsFilled a all done left k k' → left ≡ piece ++ behind
      → IsChanged (written (a + done) (length (map Num piece)) (given_by piece)) k' k'' → IsFilled a all (done + length piece) behind k k''
  filled_more done left piece behind k k' k'' so_far parts new =
      let long : length piece + length behind ≡ length all - done = sym (length-append piece behind) ∙ ap length (sym parts ∙ so_far.rest) ∙ length-drop done all in record {
        within = omega (arith, long, so_far.within);
        rest = sym (drop_at piece behind (length piece) refl) ∙ ap (drop (length piece)) (sym parts ∙ so_far.rest) ∙ drop-drop (length piece) done all;
        changed = write_further a (given_by all) done (length piece) (given_by piece) (λ j lt. given_further done j left piece behind so_far.rest parts lt so_far.within) k k' k'' so_far.changed
            (subst (λ (n : ℕ). IsChanged (written (a + done) n (given_by piece)) k' k'') (length-map piece Num) new);
      }

  -- the buffer is full, or nothing is left
  pub filled_count : (done len : ℕ) (left : List ℕ) (k k' : Kept) → IsFilled a all done left k k' → done ≤ len → (len ≤ done) ⊎ (left ≡ []) → done ≡ min len (length all)
  filled_count done len left k k' so_far most (inl full) = omega (arith, so_far.within, most, full)
  filled_count done len left k k' so_far most (inr none) =
      let long : 0 ≡ length all - done = ap length (sym none ∙ so_far.rest) ∙ length-drop done all in
      omega (arith, so_far.within, most, long)

  pub filled_bytes : (done : ℕ) (left : List ℕ) (k k' : Kept) → IsKept k → IsFilled a all done left k k'
      → IsChanged (written a (length (map Num (take done all))) (given_by (take done all))) k k'
  filled_bytes done left k k' is so_far =
      let long : length (map Num (take done all)) ≡ done = length-map (take done all) Num ∙ length-take-le done all so_far.within in
      let same : (j : ℕ) → j < done → given_by all j ≡ given_by (take done all) j = λ j lt.
      get_or-map Num all j 0 Undef (omega (arith, lt, so_far.within)) ∙ ap Num (sym (get_or-take done all j 0 lt))
      ∙ sym (get_or-map Num (take done all) j 0 Undef (omega (arith, lt, length-take-le done all so_far.within))) in
      subst (λ (n : ℕ). IsChanged (written a n (given_by (take done all))) k k') (sym long) (write_same a (given_by (take done all)) done (given_by all) same k k' is so_far.changed)
