-- Where items start in a section of code: a walk from 0 to the section's end, in steps of whole units. What holds of the walk is
-- shown by induction along it (`along`): starts are units that lie inside, in ascending order, each is followed by the next or by
-- the end, and none lies between.
use Rattle.std.proofs.Common.{◌≡◌, ℕ, zero, suc, ◌+◌, ◌%◌, ◌<◌, ◌≤◌, ◌⊎◌, List, [], ◌∷◌, ◌++◌, length, filter, map, Bool, true, false, cond, Option, Some, None, refl, sym, ap, subst, ◌∙◌, arith, inl, inr, eqb, ltb, eq-eqb}
use Rattle.std.specs.Prelude.{◌||◌}
use Rattle.std.specs.List.{find, list_any}
use Rattle.std.specs.Option.{option_map_or}
use Rattle.std.proofs.lemmas.Bool.{cases_lt, eqb-true, lt-ltb, le-ltb, ltb-false, ltb-true, ne_eqb}
use Rattle.elf32_read.specs.Parts.{SectionParts, is_code_section}
use Rattle.elf32_read.specs.declared.reloc.Reloc.{Reloc}
use Rattle.block_cut.specs.Items.{size_on, starts_from, starts_in, starts_on}
use Rattle.block_cut.specs.Relocs.{field_of, reloc_on}
use Rattle.block_cut.specs.CodeSizes.{own_size, code_step}
use Rattle.block_cut.proofs.CodeSizeLaws.{own_short, own_sized, step_four, step_sum}
use Rattle.block_cut.proofs.SoundLaws.{sound_at}
use Rattle.block_cut.specs.Whole.{IsWhole}

-- ---- lists of offsets

-- a number is one of a list
abbrev pub is_among : ℕ → List ℕ → Bool
is_among k xs = list_any (λ m. eqb m k) xs

-- all of them are at least this
abbrev pub Above : ℕ → List ℕ → Type 0
Above low [] = Unit {0}
Above low (x ∷ xs) = (low ≤ x) × Above low xs

pub above_less : (low high : ℕ) (xs : List ℕ) → low ≤ high → Above high xs → Above low xs
above_less low high [] le all = tt
above_less low high (x ∷ xs) le all = (omega (arith, all.0), above_less low high xs le all.1)

-- numbers below all of a list aren't among it
pub above_none : (low k : ℕ) (xs : List ℕ) → Above low xs → k < low → is_among k xs ≡ false
above_none low k [] all lt = refl
above_none low k (x ∷ xs) all lt =
    let other : eqb x k ≡ false = ne_eqb x k (λ e. omega (arith, e, all.0)) in
    ap (λ b. b || is_among k xs) other ∙ above_none low k xs all.1 lt

pub above_filter : (low k : ℕ) (xs : List ℕ) → Above low xs → k ≤ low → filter (λ m. ltb m k) xs ≡ []
above_filter low k [] all le = refl
above_filter low k (x ∷ xs) all le =
    let past : ltb x k ≡ false = le-ltb x k (omega (arith, all.0)) in
    ap (λ b. cond b (x ∷ filter (λ m. ltb m k) xs) (filter (λ m. ltb m k) xs)) past ∙ above_filter low k xs all.1 le

-- if no number of a list lies between two, as many lie below either
pub filter_between : (low high : ℕ) (xs : List ℕ) → low ≤ high → ((m : ℕ) → low ≤ m → m < high → is_among m xs ≡ false) → filter (λ m. ltb m high) xs ≡ filter (λ m. ltb m low) xs
filter_between low high [] le none = refl
filter_between low high (x ∷ xs) le none =
    let rest = filter_between low high xs le (λ m above below. later x m xs (none m above below)) in
    elim (cases_lt x low) [
      | inl lt ↦
          let one : ltb x high ≡ true = lt-ltb x high (omega (arith, lt)) in
          let two : ltb x low ≡ true = lt-ltb x low lt in
          ap (λ b. cond b (x ∷ filter (λ m. ltb m high) xs) (filter (λ m. ltb m high) xs)) one ∙ ap (λ l. x ∷ l) rest
          ∙ sym (ap (λ b. cond b (x ∷ filter (λ m. ltb m low) xs) (filter (λ m. ltb m low) xs)) two)
      | inr past ↦
          let one : ltb x high ≡ false = elim (cases_lt x high) [
            | inl lt ↦ absurd (cc (none x past lt, ap (λ b. b || is_among x xs) (eq-eqb x x refl)))
            | inr over ↦ le-ltb x high over
          ] in
          let two : ltb x low ≡ false = le-ltb x low past in
          ap (λ b. cond b (x ∷ filter (λ m. ltb m high) xs) (filter (λ m. ltb m high) xs)) one ∙ rest
          ∙ sym (ap (λ b. cond b (x ∷ filter (λ m. ltb m low) xs) (filter (λ m. ltb m low) xs)) two)
    ]
  where
    later : (x m : ℕ) (xs : List ℕ) → (eqb x m || is_among m xs) ≡ false → is_among m xs ≡ false
    later x m xs h = by (eqb x m) h
      where
        by : (b : Bool) → (b || is_among m xs) ≡ false → is_among m xs ≡ false
        by true h = absurd cc
        by false h = h

-- ---- the walk

-- a step from an offset: whole units, inside
pub record IsStep (s : SectionParts) (n : ℕ) : Type 0 where
  pub some : 2 ≤ size_on s n
  pub short : size_on s n ≤ 255
  pub words : size_on s n % code_step s.compressed ≡ 0
  pub inside : n + size_on s n ≤ length s.bytes

-- a start that is among those from somewhere on
pub data Among (n k : ℕ) (xs : List ℕ) : Type 0 where
  Here : n ≡ k → Among n k xs
  There : is_among k xs ≡ true → Among n k xs

pub among : (n k : ℕ) (xs : List ℕ) → is_among k (n ∷ xs) ≡ true → Among n k xs
among n k xs is = by (eqb n k) refl is
  where
    by : (b : Bool) → eqb n k ≡ b → (b || is_among k xs) ≡ true → Among n k xs
    by true e is = Here (eqb-true n k e)
    by false e is = There is

pub among_first : (n k : ℕ) (xs : List ℕ) → n ≡ k → is_among k (n ∷ xs) ≡ true
among_first n k xs e = ap (λ b. b || is_among k xs) (eq-eqb n k e)

pub among_later : (n k : ℕ) (xs : List ℕ) → is_among k xs ≡ true → is_among k (n ∷ xs) ≡ true
among_later n k xs is = by (eqb n k)
  where
    by : (b : Bool) → (b || is_among k xs) ≡ true
    by true = refl
    by false = is

pub not_among : (n k : ℕ) (xs : List ℕ) → (n ≡ k → ⊥) → is_among k xs ≡ false → is_among k (n ∷ xs) ≡ false
not_among n k xs ne none = ap (λ b. b || is_among k xs) (ne_eqb n k ne) ∙ none

-- what a start is: a unit inside, and the next one is a start or the end
pub record IsStart (s : SectionParts) (xs : List ℕ) (k : ℕ) : Type 0 where
  pub words : k % code_step s.compressed ≡ 0
  pub inside : k < length s.bytes
  pub next : (is_among (k + size_on s k) xs ≡ true) ⊎ (k + size_on s k ≡ length s.bytes)

-- what lies below a number are those below a lesser one, and some more
pub record IsFront (xs : List ℕ) (m k : ℕ) : Type 0 where
  pub rest : List ℕ
  pub are : filter (λ j. ltb j k) xs ≡ filter (λ j. ltb j m) xs ++ rest

module _ (s : SectionParts) (code : is_code_section s ≡ true) (whole : IsWhole s) where
  -- each step is one of whole units inside
  pub step : (n : ℕ) → n % code_step s.compressed ≡ 0 → n < length s.bytes → IsStep s n
  step n words lt = by (reloc_on s n) refl
    where
      by : (o : Option Reloc) → reloc_on s n ≡ o → IsStep s n
      by None is =
          let size : size_on s n ≡ own_size s.compressed s.bytes n = ap (λ o. option_map_or field_of o (own_size s.compressed s.bytes n)) is in
          let own = own_sized s.compressed s.bytes n words lt whole.words in
          record { some = omega (arith, size, own.some); short = omega (arith, size, own.short); words = ap (λ m. m % code_step s.compressed) size ∙ own.units; inside = omega (arith, size, own.inside) }
      by (Some r) is =
          let size : size_on s n ≡ field_of r = ap (λ o. option_map_or field_of o (own_size s.compressed s.bytes n)) is in
          let sound = sound_at s n r code is in
          record {
            some = omega (arith, size, sound.field.some);
            short = omega (arith, size, sound.field.short);
            words = ap (λ m. m % code_step s.compressed) size ∙ sound.field.words;
            inside = omega (arith, size, sound.inside, whole.bytes);
          }

  -- no size is large, wherever
  pub size_short : (n : ℕ) → size_on s n ≤ 255
  size_short n = by (reloc_on s n) refl
    where
      by : (o : Option Reloc) → reloc_on s n ≡ o → size_on s n ≤ 255
      by None is = omega (arith, own_short s.compressed s.bytes n, ap (λ o. option_map_or field_of o (own_size s.compressed s.bytes n)) is)
      by (Some r) is = omega (arith, (sound_at s n r code is).field.short, ap (λ o. option_map_or field_of o (own_size s.compressed s.bytes n)) is)

  above_from : (fuel n : ℕ) → n % code_step s.compressed ≡ 0 → n ≤ length s.bytes → Above n (starts_from fuel s n)
  above_from zero n words le = tt
  above_from (suc fuel) n words le =
      by (ltb n (length s.bytes)) refl
      (λ lt. let st = step n words lt in above_less n (n + size_on s n) (starts_from fuel s (n + size_on s n)) (omega arith) (above_from fuel (n + size_on s n) (step_sum s.compressed n (size_on s n) words st.words) st.inside))
    where
      by : (b : Bool) → ltb n (length s.bytes) ≡ b → (n < length s.bytes → Above n (starts_from fuel s (n + size_on s n))) → Above n (cond b (n ∷ starts_from fuel s (n + size_on s n)) [])
      by true lt rest = (omega arith, rest (ltb-true n (length s.bytes) lt))
      by false le rest = tt

  -- what holds at the end, and of a start if it holds from the next one on, holds of the whole walk
  pub along_from : (P : ℕ → List ℕ → Type 0) → P (length s.bytes) []
      → ((n : ℕ) (xs : List ℕ) → n < length s.bytes → n % code_step s.compressed ≡ 0 → IsStep s n → Above (n + size_on s n) xs → P (n + size_on s n) xs → P n (n ∷ xs))
      → (fuel n : ℕ) → n % code_step s.compressed ≡ 0 → n ≤ length s.bytes → length s.bytes ≤ n + fuel → P n (starts_from fuel s n)
  along_from P last each zero n words le more = let same : length s.bytes ≡ n = omega arith in subst (λ m. P m []) same last
  along_from P last each (suc fuel) n words le more =
      by (ltb n (length s.bytes)) refl
      (λ lt. let st = step n words lt in along_from P last each fuel (n + size_on s n) (step_sum s.compressed n (size_on s n) words st.words) st.inside (omega (arith, st.some)))
    where
      by : (b : Bool) → ltb n (length s.bytes) ≡ b → (n < length s.bytes → P (n + size_on s n) (starts_from fuel s (n + size_on s n))) → P n (cond b (n ∷ starts_from fuel s (n + size_on s n)) [])
      by true lt rest =
          let inside = ltb-true n (length s.bytes) lt in
          let st = step n words inside in
          each n (starts_from fuel s (n + size_on s n)) inside words st (above_from fuel (n + size_on s n) (step_sum s.compressed n (size_on s n) words st.words) st.inside) (rest inside)
      by false past rest =
          let same : length s.bytes ≡ n = omega (arith, ltb-false n (length s.bytes) past) in
          subst (λ m. P m []) same last

  pub along : (P : ℕ → List ℕ → Type 0) → P (length s.bytes) []
      → ((n : ℕ) (xs : List ℕ) → n < length s.bytes → n % code_step s.compressed ≡ 0 → IsStep s n → Above (n + size_on s n) xs → P (n + size_on s n) xs → P n (n ∷ xs))
      → P 0 (starts_in s)
  unfolding starts_in
  along P last each = along_from P last each (length s.bytes) 0 (step_four s.compressed 0 refl) (omega arith) (omega arith)

  -- ---- starts

  -- the first of them, or the end
  pub record IsWalk (n : ℕ) (xs : List ℕ) : Type 0 where
    pub first : (is_among n xs ≡ true) ⊎ (n ≡ length s.bytes)
    pub each : (k : ℕ) → is_among k xs ≡ true → IsStart s xs k

  walk : IsWalk 0 (starts_in s)
  walk = along IsWalk (record { first = inr refl; each = λ k is. absurd cc }) (λ n xs lt words st above rest. record {
    first = inl (among_first n n xs refl);
    each = λ k is. one n xs lt words rest k (among n k xs is);
  })
    where
      more : (n m : ℕ) (xs : List ℕ) → ((is_among m xs ≡ true) ⊎ (m ≡ length s.bytes)) → (is_among m (n ∷ xs) ≡ true) ⊎ (m ≡ length s.bytes)
      more n m xs (inl is) = inl (among_later n m xs is)
      more n m xs (inr end) = inr end

      one : (n : ℕ) (xs : List ℕ) → n < length s.bytes → n % code_step s.compressed ≡ 0 → IsWalk (n + size_on s n) xs → (k : ℕ) → Among n k xs → IsStart s (n ∷ xs) k
      one n xs lt words rest k (Here e) = record {
        words = ap (λ m. m % code_step s.compressed) (sym e) ∙ words;
        inside = omega (arith, e, lt);
        next = more n (k + size_on s k) xs (subst (λ m. (is_among (m + size_on s m) xs ≡ true) ⊎ (m + size_on s m ≡ length s.bytes)) e rest.first);
      }
      one n xs lt words rest k (There is) = let own = rest.each k is in record { words = own.words; inside = own.inside; next = more n (k + size_on s k) xs own.next }

  -- the section's start is one, or its end
  pub start_first : (starts_on s 0 ≡ true) ⊎ (0 ≡ length s.bytes)
  start_first = walk.first

  -- each lies inside, and the next is one, or the end
  pub start_is : (k : ℕ) → starts_on s k ≡ true → IsStart s (starts_in s) k
  start_is k is = walk.each k is

  -- none lies within an item
  pub none_within : (k m : ℕ) → starts_on s k ≡ true → k < m → m < k + size_on s k → starts_on s m ≡ false
  none_within = along (λ n xs. (k m : ℕ) → is_among k xs ≡ true → k < m → m < k + size_on s k → is_among m xs ≡ false)
      (λ k m is. absurd cc)
      (λ n xs lt words st above rest k m is low high. one n xs above rest k m low high (among n k xs is))
    where
      one : (n : ℕ) (xs : List ℕ) → Above (n + size_on s n) xs → ((k m : ℕ) → is_among k xs ≡ true → k < m → m < k + size_on s k → is_among m xs ≡ false) → (k m : ℕ) → k < m → m < k + size_on s k → Among n k xs → is_among m (n ∷ xs) ≡ false
      one n xs above rest k m low high (Here e) =
          let inside : m < n + size_on s n = subst (λ j. m < j + size_on s j) (sym e) high in
          not_among n m xs (λ same. omega (arith, same, e, low)) (above_none (n + size_on s n) m xs above inside)
      one n xs above rest k m low high (There is) =
          elim (cases_lt k (n + size_on s n)) [
            | inl lt ↦ absurd (cc (is, above_none (n + size_on s n) k xs above lt))
            | inr le ↦ not_among n m xs (λ same. omega (arith, same, le, low)) (rest k m is low high)
          ]

  -- the starts before the next start are those before this one, and this one
  pub before_next_start : (k : ℕ) → starts_on s k ≡ true → filter (λ m. ltb m (k + size_on s k)) (starts_in s) ≡ filter (λ m. ltb m k) (starts_in s) ++ k ∷ []
  before_next_start = along (λ n xs. (k : ℕ) → is_among k xs ≡ true → filter (λ m. ltb m (k + size_on s k)) xs ≡ filter (λ m. ltb m k) xs ++ k ∷ [])
      (λ k is. absurd cc)
      (λ n xs lt words st above rest k is. one n xs st above rest k (among n k xs is))
    where
      kept : (n j : ℕ) (xs : List ℕ) → n < j → filter (λ m. ltb m j) (n ∷ xs) ≡ n ∷ filter (λ m. ltb m j) xs
      kept n j xs lt = ap (λ b. cond b (n ∷ filter (λ m. ltb m j) xs) (filter (λ m. ltb m j) xs)) (lt-ltb n j lt)

      one : (n : ℕ) (xs : List ℕ) → IsStep s n → Above (n + size_on s n) xs → ((k : ℕ) → is_among k xs ≡ true → filter (λ m. ltb m (k + size_on s k)) xs ≡ filter (λ m. ltb m k) xs ++ k ∷ []) → (k : ℕ) → Among n k xs → filter (λ m. ltb m (k + size_on s k)) (n ∷ xs) ≡ filter (λ m. ltb m k) (n ∷ xs) ++ k ∷ []
      one n xs st above rest k (Here e) =
          let both : filter (λ m. ltb m (n + size_on s n)) (n ∷ xs) ≡ filter (λ m. ltb m n) (n ∷ xs) ++ n ∷ [] =
          kept n (n + size_on s n) xs (omega (arith, st.some)) ∙ ap (λ l. n ∷ l) (above_filter (n + size_on s n) (n + size_on s n) xs above (omega arith))
          ∙ sym (ap (λ l. l ++ n ∷ []) (ap (λ b. cond b (n ∷ filter (λ m. ltb m n) xs) (filter (λ m. ltb m n) xs)) (le-ltb n n (omega arith)) ∙ above_filter (n + size_on s n) n xs above (omega arith))) in
          subst (λ j. filter (λ m. ltb m (j + size_on s j)) (n ∷ xs) ≡ filter (λ m. ltb m j) (n ∷ xs) ++ j ∷ []) e both
      one n xs st above rest k (There is) =
          elim (cases_lt k (n + size_on s n)) [
            | inl lt ↦ absurd (cc (is, above_none (n + size_on s n) k xs above lt))
            | inr le ↦
                kept n (k + size_on s k) xs (omega (arith, le, st.some)) ∙ ap (λ l. n ∷ l) (rest k is)
                ∙ sym (ap (λ l. l ++ k ∷ []) (kept n k xs (omega (arith, le, st.some))))
          ]

  -- all lie before the end
  pub before_end_all : filter (λ m. ltb m (length s.bytes)) (starts_in s) ≡ starts_in s
  before_end_all = along (λ n xs. filter (λ m. ltb m (length s.bytes)) xs ≡ xs) refl
      (λ n xs lt words st above rest. ap (λ b. cond b (n ∷ filter (λ m. ltb m (length s.bytes)) xs) (filter (λ m. ltb m (length s.bytes)) xs)) (lt-ltb n (length s.bytes) lt) ∙ ap (λ l. n ∷ l) rest)

  -- none before the first
  pub before_first_none : filter (λ m. ltb m 0) (starts_in s) ≡ []
  before_first_none = along (λ n xs. filter (λ m. ltb m 0) xs ≡ []) refl
      (λ n xs lt words st above rest. ap (λ b. cond b (n ∷ filter (λ m. ltb m 0) xs) (filter (λ m. ltb m 0) xs)) (le-ltb n 0 (omega arith)) ∙ rest)

  -- the starts before an offset are the front of those before a later one
  pub front : (m k : ℕ) → m ≤ k → IsFront (starts_in s) m k
  front = along (λ n xs. (m k : ℕ) → m ≤ k → IsFront xs m k) (λ m k le. record { rest = []; are = refl }) each
    where
      kept : (n j : ℕ) (xs : List ℕ) → n < j → filter (λ m. ltb m j) (n ∷ xs) ≡ n ∷ filter (λ m. ltb m j) xs
      kept n j xs lt = ap (λ b. cond b (n ∷ filter (λ m. ltb m j) xs) (filter (λ m. ltb m j) xs)) (lt-ltb n j lt)

      each : (n : ℕ) (xs : List ℕ) → n < length s.bytes → n % code_step s.compressed ≡ 0 → IsStep s n → Above (n + size_on s n) xs → ((m k : ℕ) → m ≤ k → IsFront xs m k) → (m k : ℕ) → m ≤ k → IsFront (n ∷ xs) m k
      each n xs lt words st above rest m k le = elim (cases_lt n m) [
        | inl low ↦
            let more = rest m k le in
            record { rest = more.rest; are = kept n k xs (omega arith) ∙ ap (λ l. n ∷ l) more.are ∙ ap (λ l. l ++ more.rest) (sym (kept n m xs low)) }
        | inr past ↦
            let empty : filter (λ j. ltb j m) (n ∷ xs) ≡ [] =
            ap (λ b. cond b (n ∷ filter (λ j. ltb j m) xs) (filter (λ j. ltb j m) xs)) (le-ltb n m past) ∙ above_filter (n + size_on s n) m xs above (omega (arith, past)) in
            record { rest = filter (λ j. ltb j k) (n ∷ xs); are = ap (λ l. l ++ filter (λ j. ltb j k) (n ∷ xs)) (sym empty) }
      ]

  -- ---- searches

  -- the first start that passes
  pub find_start : {X : Type 0} (f : ℕ → X) (p : X → Bool) (k : ℕ) → starts_on s k ≡ true → p (f k) ≡ true → ((m : ℕ) → m < k → starts_on s m ≡ true → p (f m) ≡ false) → find p (map f (starts_in s)) ≡ Some (f k)
  find_start f p = along (λ n xs. (k : ℕ) → is_among k xs ≡ true → p (f k) ≡ true → ((m : ℕ) → m < k → is_among m xs ≡ true → p (f m) ≡ false) → find p (map f xs) ≡ Some (f k))
      (λ k is passes earlier. absurd cc)
      (λ n xs lt words st above rest k is passes earlier. one n xs st above rest k passes earlier (among n k xs is))
    where
      one : (n : ℕ) (xs : List ℕ) → IsStep s n → Above (n + size_on s n) xs → ((k : ℕ) → is_among k xs ≡ true → p (f k) ≡ true → ((m : ℕ) → m < k → is_among m xs ≡ true → p (f m) ≡ false) → find p (map f xs) ≡ Some (f k))
          → (k : ℕ) → p (f k) ≡ true → ((m : ℕ) → m < k → is_among m (n ∷ xs) ≡ true → p (f m) ≡ false) → Among n k xs → find p (map f (n ∷ xs)) ≡ Some (f k)
      one n xs st above rest k passes earlier (Here e) =
          ap (λ b. cond b (Some (f n)) (find p (map f xs))) (ap (λ m. p (f m)) e ∙ passes) ∙ ap (λ m. Some (f m)) e
      one n xs st above rest k passes earlier (There is) =
          elim (cases_lt k (n + size_on s n)) [
            | inl lt ↦ absurd (cc (is, above_none (n + size_on s n) k xs above lt))
            | inr le ↦
                ap (λ b. cond b (Some (f n)) (find p (map f xs))) (earlier n (omega (arith, le, st.some)) (among_first n n xs refl))
                ∙ rest k is passes (λ m lt there. earlier m lt (among_later n m xs there))
          ]

-- none of a list passes
pub find_nothing : {X : Type 0} (f : ℕ → X) (p : X → Bool) (xs : List ℕ) → ((m : ℕ) → is_among m xs ≡ true → p (f m) ≡ false) → find p (map f xs) ≡ None
find_nothing f p [] none = refl
find_nothing f p (x ∷ xs) none =
    ap (λ b. cond b (Some (f x)) (find p (map f xs))) (none x (among_first x x xs refl)) ∙ find_nothing f p xs (λ m there. none m (among_later x m xs there))
