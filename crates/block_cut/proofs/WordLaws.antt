-- Tables by halfwords: what a table has at an offset is what the definition says of it, and the walk over the halfwords of a section.
use Rattle.std.proofs.Common.{◌≡◌, ◌≢◌, ℕ, zero, suc, ◌+◌, ◌*◌, ◌/◌, ◌%◌, ◌<◌, ◌≤◌, ◌⊎◌, List, [], ◌∷◌, ◌++◌, filter, length, get_or, take, Bool, true, false, cond, Option, Some, None, slice_get, refl, sym, ap, subst, ◌∙◌, arith, eqb, ltb, eq-eqb, inl, inr}
use Rattle.std.specs.Prelude.{◌||◌}
use Rattle.std.specs.List.{find}
use Rattle.std.specs.Option.{option_map, option_map_or, option_or}
use Rattle.std.proofs.lemmas.Bool.{cases_eq, cases_lt, eqb-true, false_from_ne_true, le-ltb, lt-ltb, ne_eqb}
use Rattle.std.proofs.lemmas.List.{take_more}
use Rattle.std.proofs.lemmas.List.Folds.{find-append}
use Rattle.std.proofs.lemmas.List.FromFn.{get_or-map-range_with_len, length-map-range_with_len}
use Rattle.std.proofs.lemmas.Option.{get_or_from_slice_get, slice_get_within}
use Rattle.zc_base.specs.declared.place.Place.{Place}
use Rattle.elf32_read.specs.Parts.{ObjectParts, SectionParts, is_code_section}
use Rattle.elf32_read.proofs.Listed.{slice_get-listed}
use Rattle.psabi_sym.specs.Faults.{gather_fault}
use Rattle.psabi_sym.specs.Inputs.{Inputs, ParsedInputs, parsed}
use Rattle.psabi_sym.specs.Indexed.{section_at}
use Rattle.block_cut.specs.Invariants.Cut.{place_at}
use Rattle.block_cut.specs.Items.{code_at, is_target_at, item_at, item_in, size_on, starts_in, starts_on, targets_in}
use Rattle.block_cut.specs.PlainLayout.{address_on, plain_address, starts_before}
use Rattle.block_cut.specs.Invariants.HalfwordTables.{by_halfword, number_on}
use Rattle.block_cut.specs.CodeSizes.{code_step}
use Rattle.block_cut.specs.Whole.{IsWhole}
use Rattle.block_cut.proofs.ItemLaws.{item_at-code, item_at-none}
use Rattle.block_cut.proofs.PlainLaws.{target_on}
use Rattle.block_cut.proofs.StartLaws.{Above, Among, Here, There, IsStep, above_filter, above_none, along, among, before_end_all, before_next_start, filter_between, is_among, none_within, start_first, start_is, step}
use Rattle.block_cut.proofs.CodeSizeLaws.{step_even, step_four, step_sum}
use Rattle.block_cut.proofs.WholeLaws.{code_at_is, inputs_whole}

-- ---- halfwords of a section

-- what stands at an even offset, or at the end
pub halfword_there : {W : Type 0} (f : ℕ → W) (s : SectionParts) (n : ℕ) → n % 2 ≡ 0 → n ≤ length s.bytes → slice_get (by_halfword f s) (n / 2) ≡ Some (f n)
halfword_there f s n even le =
    let at : 2 * (n / 2) ≡ n = omega (arith, even) in
    slice_get-listed (λ k. f (2 * k)) (length s.bytes / 2 + 1) (n / 2) (omega (arith, le)) ∙ ap (λ m. Some (f m)) at

-- the length of a table by halfwords, and its entry at an offset
pub halfword_count : {W : Type 0} (f : ℕ → W) (s : SectionParts) → length (by_halfword f s) ≡ length s.bytes / 2 + 1
halfword_count f s = length-map-range_with_len (λ k. f (2 * k)) 0 (length s.bytes / 2 + 1)

pub halfword_got : {W : Type 0} (f : ℕ → W) (s : SectionParts) (k : ℕ) (d : W) → k < length (by_halfword f s) → get_or (by_halfword f s) k d ≡ f (2 * k)
halfword_got f s k d lt = get_or-map-range_with_len (λ j. f (2 * j)) 0 (length s.bytes / 2 + 1) k k d (omega (arith, lt, halfword_count f s)) (omega arith)

-- ---- places that nothing leads to

-- where there is no code, code may not lead
pub target_nowhere : (objects : List ObjectParts) (q : Place) → code_at objects q ≡ None → is_target_at objects q ≡ false
target_nowhere objects q at = λ j. option_map_or (λ t. starts_on t q.offset) (at j) false || option_map_or (λ t. eqb q.offset (length t.bytes)) (at j) false

neither : (a b : Bool) → a ≡ false → b ≡ false → (a || b) ≡ false
neither a b one two = (λ j. one j || two j)

module _ (s : SectionParts) (code : is_code_section s ≡ true) (whole : IsWhole s) where
  -- an offset that isn't even
  pub other_odd : (n : ℕ) → n % 2 ≢ 0 → (starts_on s n || eqb n (length s.bytes)) ≡ false
  other_odd n odd = neither _ _ (false_from_ne_true (starts_on s n) (λ is. odd (step_even s.compressed n (start_is s code whole n is).words)))
      (ne_eqb n (length s.bytes) (λ e. odd (ap (λ m. m % 2) e ∙ step_even s.compressed (length s.bytes) whole.words)))

  -- or one past the section
  pub other_past : (n : ℕ) → length s.bytes < n → (starts_on s n || eqb n (length s.bytes)) ≡ false
  other_past n past = neither _ _ (false_from_ne_true (starts_on s n) (λ is. omega (arith, (start_is s code whole n is).inside, past)))
      (ne_eqb n (length s.bytes) (λ e. omega (arith, e, past)))

-- a place that nothing leads to has no item and no address
pub no_address : (inputs : ParsedInputs) (q : Place) → is_target_at inputs.objects q ≡ false → plain_address inputs q ≡ None
unfolding plain_address
no_address inputs q is = ap (λ b. cond b (option_map (address_on inputs q) (code_at inputs.objects q)) None) is

pub no_item : (inputs : ParsedInputs) (q : Place) → is_target_at inputs.objects q ≡ false → item_at inputs q ≡ None
no_item inputs q is = by (code_at inputs.objects q) refl
  where
    by : (o : Option SectionParts) → code_at inputs.objects q ≡ o → item_at inputs q ≡ None
    by None at = item_at-none inputs q at
    by (Some s) at = tested (starts_on s q.offset) refl
      where
        tested : (b : Bool) → starts_on s q.offset ≡ b → item_at inputs q ≡ None
        tested true start = absurd (cc (is, target_on inputs.objects q s at, ap (λ b. b || eqb q.offset (length s.bytes)) start))
        tested false start = item_at-code inputs q s at ∙ ap (λ b. cond b (Some (item_in inputs s q)) None) start

-- ---- relocations by word

-- what is found in the front of a list, with one element more
pub found_next : {X : Type 0} (p : X → Bool) (xs : List X) (k : ℕ) (x : X) → slice_get xs k ≡ Some x → find p (take (k + 1) xs) ≡ option_or (find p (take k xs)) (cond (p x) (Some x) None)
found_next p xs k x at =
    let within = slice_get_within xs k x at in
    ap (find p) (take_more xs k x within ∙ ap (λ y. take k xs ++ y ∷ []) (get_or_from_slice_get xs k x x at))
    ∙ find-append p (take k xs) (x ∷ [])

-- ---- the walk

-- the next place that code may lead to from an offset on
pub record IsNext (s : SectionParts) (at next : ℕ) : Type 0 where
  pub low : at ≤ next
  pub high : next ≤ length s.bytes
  pub words : next % code_step s.compressed ≡ 0
  pub target : (starts_on s next ≡ true) ⊎ (next ≡ length s.bytes)
  pub between : (m : ℕ) → at ≤ m → m < next → starts_on s m ≡ false

module _ (s : SectionParts) (code : is_code_section s ≡ true) (whole : IsWhole s) where
  -- at first the start
  pub next_first : IsNext s 0 0
  next_first = record { low = omega arith; high = omega arith; words = step_four s.compressed 0 refl; target = start_first s code whole; between = λ m low high. absurd (omega arith) }

  -- the word at an offset is a target if that is the next one
  pub is_next : (at next : ℕ) → IsNext s at next → eqb next at ≡ (starts_on s at || eqb at (length s.bytes))
  is_next at next is = elim (cases_eq next at) [
    | inl e ↦ eq-eqb next at e ∙ sym (by (subst (λ m. (starts_on s m ≡ true) ⊎ (m ≡ length s.bytes)) e is.target))
    | inr ne ↦
        ne_eqb next at ne
        ∙ sym (neither (starts_on s at) (eqb at (length s.bytes)) (is.between at (omega arith) (omega (arith, is.low, ne))) (ne_eqb at (length s.bytes) (λ e. omega (arith, e, ne, is.low, is.high))))
  ]
    where
      or_true : (b : Bool) → (b || true) ≡ true
      or_true true = refl
      or_true false = refl

      by : (starts_on s at ≡ true) ⊎ (at ≡ length s.bytes) → (starts_on s at || eqb at (length s.bytes)) ≡ true
      by (inl start) = ap (λ b. b || eqb at (length s.bytes)) start
      by (inr end) = ap (λ b. starts_on s at || b) (eq-eqb at (length s.bytes) end) ∙ or_true (starts_on s at)

  -- a halfword on, if an item starts there
  pub next_item : (at : ℕ) → IsNext s at at → at < length s.bytes → IsNext s (at + 2) (at + size_on s at)
  next_item at is lt = by is.target
    where
      by : (starts_on s at ≡ true) ⊎ (at ≡ length s.bytes) → IsNext s (at + 2) (at + size_on s at)
      by (inr end) = absurd (omega (arith, end, lt))
      by (inl start) =
          let own = start_is s code whole at start in
          let st = step s code whole at own.words own.inside in
          record {
            low = omega (arith, st.some);
            high = st.inside;
            words = step_sum s.compressed at (size_on s at) own.words st.words;
            target = own.next;
            between = λ m low high. none_within s code whole at m start (omega (arith, low)) high;
          }

  -- the next item's start, if none starts at a halfword
  pub next_word : (at next : ℕ) → IsNext s at next → at % 2 ≡ 0 → next ≢ at → IsNext s (at + 2) next
  next_word at next is words ne = record {
    low = omega (arith, is.low, ne, words, step_even s.compressed next is.words);
    high = is.high;
    words = is.words;
    target = is.target;
    between = λ m low high. is.between m (omega (arith, low)) high;
  }

-- ---- numbers of places

-- the last of a list, and one of its front
pub last_got : {X : Type 0} (xs : List X) (x : X) → slice_get (xs ++ x ∷ []) (length xs) ≡ Some x
last_got [] x = refl
last_got (y ∷ ys) x = last_got ys x

front_got : {X : Type 0} (xs ys : List X) (k : ℕ) (x : X) → slice_get xs k ≡ Some x → slice_get (xs ++ ys) k ≡ Some x
front_got [] ys k x at = absurd cc
front_got (z ∷ zs) ys zero x at = at
front_got (z ∷ zs) ys (suc k) x at = front_got zs ys k x at

module _ (s : SectionParts) (code : is_code_section s ≡ true) (whole : IsWhole s) where
  -- the start at an offset comes after all starts before it
  start_got : (k : ℕ) → starts_on s k ≡ true → slice_get (starts_in s) (length (filter (λ m. ltb m k) (starts_in s))) ≡ Some k
  start_got = along s code whole (λ n xs. (k : ℕ) → is_among k xs ≡ true → slice_get xs (length (filter (λ m. ltb m k) xs)) ≡ Some k)
      (λ k is. absurd cc)
      (λ n xs lt words st above rest k is. one n xs st above rest k (among n k xs is))
    where
      one : (n : ℕ) (xs : List ℕ) → IsStep s n → Above (n + size_on s n) xs → ((k : ℕ) → is_among k xs ≡ true → slice_get xs (length (filter (λ m. ltb m k) xs)) ≡ Some k) → (k : ℕ) → Among n k xs
          → slice_get (n ∷ xs) (length (filter (λ m. ltb m k) (n ∷ xs))) ≡ Some k
      one n xs st above rest k (Here e) =
          let none : filter (λ m. ltb m k) (n ∷ xs) ≡ [] =
          ap (λ b. cond b (n ∷ filter (λ m. ltb m k) xs) (filter (λ m. ltb m k) xs)) (le-ltb n k (omega (arith, e))) ∙ above_filter (n + size_on s n) k xs above (omega (arith, e)) in
          ap (λ l. slice_get (n ∷ xs) (length l)) none ∙ ap Some e
      one n xs st above rest k (There is) = elim (cases_lt k (n + size_on s n)) [
        | inl lt ↦ absurd (cc (is, above_none (n + size_on s n) k xs above lt))
        | inr le ↦
            let kept : filter (λ m. ltb m k) (n ∷ xs) ≡ n ∷ filter (λ m. ltb m k) xs =
            ap (λ b. cond b (n ∷ filter (λ m. ltb m k) xs) (filter (λ m. ltb m k) xs)) (lt-ltb n k (omega (arith, le, st.some))) in
            ap (λ l. slice_get (n ∷ xs) (length l)) kept ∙ rest k is
      ]

  -- the end comes after all starts
  pub target_got : (n : ℕ) → (starts_on s n || eqb n (length s.bytes)) ≡ true → slice_get (targets_in s) (length (starts_before s n)) ≡ Some n
  target_got n is = by (starts_on s n) refl is
    where
      by : (b : Bool) → starts_on s n ≡ b → (b || eqb n (length s.bytes)) ≡ true → slice_get (targets_in s) (length (starts_before s n)) ≡ Some n
      by true start is = front_got (starts_in s) (length s.bytes ∷ []) (length (starts_before s n)) n (start_got n start)
      by false other is =
          let end = eqb-true n (length s.bytes) is in
          let all : starts_before s n ≡ starts_in s = ap (starts_before s) end ∙ before_end_all s code whole in
          ap (λ l. slice_get (targets_in s) (length l)) all ∙ last_got (starts_in s) (length s.bytes) ∙ ap Some (sym end)

-- by the number it is known whether code may lead there
pub number_target : (s : SectionParts) (n : ℕ) → number_on s n ≢ 0 → (starts_on s n || eqb n (length s.bytes)) ≡ true
number_target s n some = by (starts_on s n || eqb n (length s.bytes)) some
  where
    by : (b : Bool) → cond b (length (starts_before s n) + 1) 0 ≢ 0 → b ≡ true
    by true some = refl
    by false some = absurd (some refl)

pub number_none : (s : SectionParts) (n : ℕ) → (starts_on s n || eqb n (length s.bytes)) ≡ false → number_on s n ≡ 0
number_none s n is = ap (λ b. cond b (length (starts_before s n) + 1) 0) is

pub number_other : (s : SectionParts) (n : ℕ) → number_on s n ≡ 0 → (starts_on s n || eqb n (length s.bytes)) ≡ false
number_other s n none = by (starts_on s n || eqb n (length s.bytes)) none
  where
    by : (b : Bool) → cond b (length (starts_before s n) + 1) 0 ≡ 0 → b ≡ false
    by true none = absurd (omega (arith, none))
    by false none = refl

-- the number that a table has for a halfword
pub number_got : (s : SectionParts) (numbers : List ℕ) (k d : ℕ) → numbers ≡ by_halfword (number_on s) s → k < length numbers → (2 * k ≤ length s.bytes) × (get_or numbers k d ≡ number_on s (2 * k))
number_got s numbers k d are lt =
    let inside : k < length (by_halfword (number_on s) s) = omega (arith, lt, ap length are) in
    (omega (arith, inside, halfword_count (number_on s) s), ap (λ l. get_or l k d) are ∙ halfword_got (number_on s) s k d inside)

pub no_target : (objects : List ObjectParts) (q : Place) (s : SectionParts) → code_at objects q ≡ Some s → number_on s q.offset ≡ 0 → is_target_at objects q ≡ false
no_target objects q s at none = target_on objects q s at ∙ number_other s q.offset none

pub some_target : (objects : List ObjectParts) (q : Place) (s : SectionParts) → code_at objects q ≡ Some s → number_on s q.offset ≢ 0 → is_target_at objects q ≡ true
some_target objects q s at some = target_on objects q s at ∙ number_target s q.offset some

-- ---- starts before a halfword

module _ (s : SectionParts) (code : is_code_section s ≡ true) (whole : IsWhole s) where
  -- past a start it is one of them
  pub before_start : (n : ℕ) → starts_on s n ≡ true → starts_before s (n + 2) ≡ starts_before s n ++ n ∷ []
  before_start n start =
      let own = start_is s code whole n start in
      let st = step s code whole n own.words own.inside in
      sym (filter_between (n + 2) (n + size_on s n) (starts_in s) (omega (arith, st.some)) (λ m low high. none_within s code whole n m start (omega (arith, low)) high))
      ∙ before_next_start s code whole n start

  -- past any other halfword they are the same
  pub before_other : (n : ℕ) → n % 2 ≡ 0 → starts_on s n ≡ false → starts_before s (n + 2) ≡ starts_before s n
  before_other n even other =
      filter_between n (n + 2) (starts_in s) (omega arith)
      (λ m low high. false_from_ne_true (starts_on s m) (λ start.
      let own = start_is s code whole m start in
      let same : m ≡ n = omega (arith, step_even s.compressed m own.words, even, low, high) in
      cc (start, other, same)))

  -- the end isn't a start
  pub end_other : starts_on s (length s.bytes) ≡ false
  end_other = false_from_ne_true (starts_on s (length s.bytes)) (λ start. omega (arith, (start_is s code whole (length s.bytes) start).inside))

-- ---- sections of code

-- a section that is code, by its object's index and its own: it is whole
pub record IsCodeHere (inputs : Inputs) (o i : ℕ) (s : SectionParts) : Type 0 where
  pub found : section_at (parsed inputs).objects o i ≡ Some s
  pub code : is_code_section s ≡ true
  pub at : (n : ℕ) → code_at (parsed inputs).objects (place_at o i n) ≡ Some s
  pub whole : IsWhole s

pub code_here : (inputs : Inputs) (o i : ℕ) (s : SectionParts) → gather_fault inputs ≡ None → section_at (parsed inputs).objects o i ≡ Some s → is_code_section s ≡ true → IsCodeHere inputs o i s
code_here inputs o i s none found code = record {
  found = found;
  code = code;
  at = λ n. code_at_is (parsed inputs).objects (record { object = o; section = i; offset = n }) s found code;
  whole = inputs_whole inputs o i s none found code;
}
