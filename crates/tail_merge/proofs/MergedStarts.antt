-- Where items start in a section of code whose equal tails are shared: where those that stay move to, and where a jump stands in a
-- removed tail's place. So code may lead to an offset outside of removed tails where it could.
use Rattle.std.proofs.Common.{◌≡◌, ℕ, zero, suc, ◌+◌, ◌≤◌, ◌⊎◌, List, [], ◌∷◌, filter, length, map, Bool, true, false, cond, refl, sym, ap, ap₂, ◌∙◌, arith, eqb, inl, inr, Some}
use Rattle.std.specs.Prelude.{◌||◌}
use Rattle.std.specs.Option.{option_map_or}
use Rattle.std.proofs.lemmas.Bool.{le-ltb, lt-ltb}
use Rattle.zc_base.specs.declared.place.Place.{Place}
use Rattle.elf32_read.specs.Parts.{ObjectParts, SectionParts}
use Rattle.psabi_sym.specs.Inputs.{ParsedInputs}
use Rattle.psabi_sym.specs.Indexed.{IndexedSection}
use Rattle.block_cut.specs.Items.{code_at, is_end_at, is_start_at, is_target_at, next_at, place_of, size_on, starts_from, starts_in, starts_on}
use Rattle.block_cut.proofs.StartLaws.{Among, Here, There, among, among_first, among_later, is_among, start_first, start_is, step}
use Rattle.block_cut.proofs.WholeLaws.{code_at_is}
use Rattle.tail_merge.specs.Tails.{Removed, moved_down, removed_tails}
use Rattle.tail_merge.proofs.OffsetLaws.{Outside, down-apart}
use Rattle.tail_merge.proofs.PlacedLaws.{down-first}
use Rattle.tail_merge.proofs.ItemsLaws.{removed-apart}
use Rattle.tail_merge.proofs.CoveredLaws.{down-eqb, outside-stays, stays-outside, stays_at}
use Rattle.tail_merge.proofs.MergedRelocs.{IsGoodCode, end-outside, length-moved, merged_code}
use Rattle.tail_merge.proofs.MergedSizes.{next-gone, next-stays, room-stays, size-some}

-- ---- lists of offsets

-- a number of a list that passes a test is among the values of those that do
among-mapped : (f : ℕ → ℕ) (p : ℕ → Bool) (n : ℕ) (xs : List ℕ) → is_among n xs ≡ true → p n ≡ true → is_among (f n) (map f (filter p xs)) ≡ true
among-mapped f p n [] is passes = absurd cc
among-mapped f p n (x ∷ xs) is passes = by (p x) refl (λ there. among-mapped f p n xs there passes) (among x n xs is)
  where
    by : (b : Bool) → p x ≡ b → (is_among n xs ≡ true → is_among (f n) (map f (filter p xs)) ≡ true) → Among x n xs → is_among (f n) (map f (cond b (x ∷ filter p xs) (filter p xs))) ≡ true
    by true h more (Here e) = among_first (f x) (f n) (map f (filter p xs)) (ap f e)
    by true h more (There is) = among_later (f x) (f n) (map f (filter p xs)) (more is)
    by false h more (Here e) = absurd (let same = ap p e in cc)
    by false h more (There is) = more is

-- and each of the values is of such a number
mapped-among : (f : ℕ → ℕ) (p : ℕ → Bool) (m : ℕ) (xs : List ℕ) → is_among m (map f (filter p xs)) ≡ true → (n : ℕ) × (is_among n xs ≡ true) × (p n ≡ true) × (f n ≡ m)
mapped-among f p m [] is = absurd cc
mapped-among f p m (x ∷ xs) is = by (p x) refl (mapped-among f p m xs) is
  where
    later : ((n : ℕ) × (is_among n xs ≡ true) × (p n ≡ true) × (f n ≡ m)) → (n : ℕ) × (is_among n (x ∷ xs) ≡ true) × (p n ≡ true) × (f n ≡ m)
    later at = (at.0, among_later x at.0 xs at.1, at.2, at.3)

    either : p x ≡ true → (is_among m (map f (filter p xs)) ≡ true → (n : ℕ) × (is_among n xs ≡ true) × (p n ≡ true) × (f n ≡ m)) → Among (f x) m (map f (filter p xs)) → (n : ℕ) × (is_among n (x ∷ xs) ≡ true) × (p n ≡ true) × (f n ≡ m)
    either h more (Here e) = (x, among_first x x xs refl, h, e)
    either h more (There is) = later (more is)

    by : (b : Bool) → p x ≡ b → (is_among m (map f (filter p xs)) ≡ true → (n : ℕ) × (is_among n xs ≡ true) × (p n ≡ true) × (f n ≡ m)) → is_among m (map f (cond b (x ∷ filter p xs) (filter p xs))) ≡ true
        → (n : ℕ) × (is_among n (x ∷ xs) ≡ true) × (p n ≡ true) × (f n ≡ m)
    by true h more is = either h more (among (f x) m (map f (filter p xs)) is)
    by false h more is = later (more is)

-- from a section's end on no item starts
starts-past : (fuel : ℕ) (s : SectionParts) (n : ℕ) → length s.bytes ≤ n → starts_from fuel s n ≡ []
starts-past zero s n past = refl
starts-past (suc fuel) s n past = ap (λ b. cond b (n ∷ starts_from fuel s (n + size_on s n)) []) (le-ltb n (length s.bytes) past)

module _ (inputs : ParsedInputs) (l : IndexedSection) (good : IsGoodCode inputs l) where
  abbrev s : SectionParts
  s = l.section

  abbrev t : SectionParts
  t = merged_code inputs l

  abbrev rs : List Removed
  rs = removed_tails inputs l

  abbrev D : ℕ → ℕ
  D n = moved_down rs n

  -- ---- the walk

  abbrev IsWay : ℕ → Type 0
  IsWay n = (starts_on s n ≡ true) ⊎ (n ≡ length s.bytes)

  end-past : (n : ℕ) → n ≡ length s.bytes → length t.bytes ≤ D n
  end-past n end = let at = ap D end in let last = length-moved inputs l good in omega (arith, at, last)

  from-merged : (fuel fuel' n : ℕ) → IsWay n → length s.bytes ≤ n + fuel → length t.bytes ≤ D n + fuel' → starts_from fuel' t (D n) ≡ map D (filter (stays_at rs) (starts_from fuel s n))
  from-merged zero fuel' n (inl start) enough enough' = absurd (let inside = (start_is s good.code good.whole n start).inside in omega (arith, inside, enough))
  from-merged zero fuel' n (inr end) enough enough' = starts-past fuel' t (D n) (end-past n end)
  from-merged (suc fuel) fuel' n (inr end) enough enough' =
      starts-past fuel' t (D n) (end-past n end)
      ∙ sym (ap (λ xs. map D (filter (stays_at rs) xs)) (starts-past (suc fuel) s n (omega (arith, end))))
  from-merged (suc fuel) fuel' n (inl start) enough enough' =
      let own = start_is s good.code good.whole n start in
      let some = (step s good.code good.whole n own.words own.inside).some in
      by fuel' (stays_at rs n) refl enough' (λ k more. from-merged fuel k (n + size_on s n) own.next (omega (arith, enough, some)) more)
      ∙ sym (ap (λ b. map D (filter (stays_at rs) (cond b (n ∷ starts_from fuel s (n + size_on s n)) []))) (lt-ltb n (length s.bytes) own.inside))
    where
      by : (fuel' : ℕ) (b : Bool) → stays_at rs n ≡ b → length t.bytes ≤ D n + fuel' → ((k : ℕ) → length t.bytes ≤ D (n + size_on s n) + k → starts_from k t (D (n + size_on s n)) ≡ map D (filter (stays_at rs) (starts_from fuel s (n + size_on s n))))
          → starts_from fuel' t (D n) ≡ map D (cond b (n ∷ filter (stays_at rs) (starts_from fuel s (n + size_on s n))) (filter (stays_at rs) (starts_from fuel s (n + size_on s n))))
      by fuel' false gone enough' more =
          let same = next-gone inputs l good n start gone in
          ap (starts_from fuel' t) (sym same) ∙ more fuel' (omega (arith, same, enough'))
      by zero true stays enough' more =
          absurd (let room = room-stays inputs l good n start stays in let some = size-some inputs l good n start stays in omega (arith, room, some, enough'))
      by (suc k) true stays enough' more =
          let room = room-stays inputs l good n start stays in
          let some = size-some inputs l good n start stays in
          let next = next-stays inputs l good n start stays in
          ap (λ b. cond b (D n ∷ starts_from k t (D n + size_on t (D n))) []) (lt-ltb (D n) (length t.bytes) (omega (arith, room, some)))
          ∙ ap (λ m. D n ∷ starts_from k t m) (sym next)
          ∙ ap (λ xs. D n ∷ xs) (more k (omega (arith, next, some, enough')))

  -- the starts are those that stay, moved
  pub starts-merged : starts_in t ≡ map D (filter (stays_at rs) (starts_in s))
  unfolding starts_in
  starts-merged =
      let zero : D 0 ≡ 0 = down-first 0 rs 0 (removed-apart inputs l) (omega arith) in
      ap (starts_from (length t.bytes) t) (sym zero)
      ∙ from-merged (length s.bytes) (length t.bytes) 0 (start_first s good.code good.whole) (omega arith) (omega arith)

  -- ---- single offsets

  -- where an item stays, one starts where it moves to
  pub start-moved : (n : ℕ) → starts_on s n ≡ true → stays_at rs n ≡ true → starts_on t (D n) ≡ true
  start-moved n start stays = ap (is_among (D n)) starts-merged ∙ among-mapped D (stays_at rs) n (starts_in s) start stays

  -- where one starts, one that stays has moved to
  pub start-from : (m : ℕ) → starts_on t m ≡ true → (n : ℕ) × (starts_on s n ≡ true) × (stays_at rs n ≡ true) × (D n ≡ m)
  start-from m start = mapped-among D (stays_at rs) m (starts_in s) (sym (ap (is_among m) starts-merged) ∙ start)

  -- outside of removed tails an item starts where one did
  pub start-merged : (n : ℕ) → Outside rs n → starts_on t (D n) ≡ starts_on s n
  start-merged n out = by (starts_on s n) refl (starts_on t (D n)) refl
    where
      by : (b : Bool) → starts_on s n ≡ b → (c : Bool) → starts_on t (D n) ≡ c → starts_on t (D n) ≡ b
      by true is c that = start-moved n is (stays-outside 0 rs n (removed-apart inputs l) out)
      by false is false that = that
      by false is true that =
          let from = start-from (D n) that in
          let same = down-apart 0 rs from.0 n (removed-apart inputs l) (outside-stays rs from.0 from.2) out from.3 in
          absurd (let start : starts_on s n ≡ true = ap (starts_on s) (sym same) ∙ from.1 in cc)

  -- the section ends where its end moves to
  pub end-merged : (n : ℕ) → Outside rs n → eqb (D n) (length t.bytes) ≡ eqb n (length s.bytes)
  end-merged n out = ap (eqb (D n)) (length-moved inputs l good) ∙ down-eqb 0 rs n (length s.bytes) (removed-apart inputs l) out (end-outside inputs l good)

  -- ---- places of a result that has the section with its tails shared at q

  module _ (objects : List ObjectParts) (q : Place) (at : code_at objects q ≡ Some t) (n : ℕ) (moved : q.offset ≡ D n) where
    pub is-start-merged : Outside rs n → is_start_at objects q ≡ is_start_at inputs.objects (place_of l n)
    is-start-merged out =
        ap (λ o. option_map_or (λ x. starts_on x q.offset) o false) at ∙ ap (starts_on t) moved ∙ start-merged n out
        ∙ sym (ap (λ o. option_map_or (λ x. starts_on x n) o false) (code_at_is inputs.objects (place_of l n) s good.at good.code))

    pub is-end-merged : Outside rs n → is_end_at objects q ≡ is_end_at inputs.objects (place_of l n)
    is-end-merged out =
        ap (λ o. option_map_or (λ x. eqb q.offset (length x.bytes)) o false) at ∙ ap (λ m. eqb m (length t.bytes)) moved ∙ end-merged n out
        ∙ sym (ap (λ o. option_map_or (λ x. eqb n (length x.bytes)) o false) (code_at_is inputs.objects (place_of l n) s good.at good.code))

    -- code may lead where it could
    pub is-target-merged : Outside rs n → is_target_at objects q ≡ is_target_at inputs.objects (place_of l n)
    is-target-merged out = ap₂ (λ a b. a || b) (is-start-merged out) (is-end-merged out)

    -- what follows an item that stays, or a jump, is what followed there
    pub next-offset-merged : starts_on s n ≡ true → stays_at rs n ≡ true → (next_at objects q).offset ≡ D (next_at inputs.objects (place_of l n)).offset
    next-offset-merged start stays =
        ap (λ o. q.offset + option_map_or (λ x. size_on x q.offset) o 4) at
        ∙ ap (λ m. m + size_on t m) moved
        ∙ sym (next-stays inputs l good n start stays)
        ∙ sym (ap (λ o. D (n + option_map_or (λ x. size_on x n) o 4)) (code_at_is inputs.objects (place_of l n) s good.at good.code))
