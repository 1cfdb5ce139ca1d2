-- A section's places but its end are those where its items start, each with its index among them (`starts_held`) and its item
-- (`held_item`).
use Rattle.std.proofs.Common.{◌≡◌, ◌∙◌, ℕ, zero, suc, ◌+◌, ◌-◌, ◌<◌, ◌≤◌, List, [], ◌∷◌, ◌++◌, length, filter, map, take, cond, Bool, true, false, Some, None, slice_get, refl, sym, ap, subst, arith, eqb, ltb}
use Rattle.std.specs.List.{list_any}
use Rattle.std.specs.Option.{option_map_or}
use Rattle.std.proofs.lemmas.Bool.{eq-eqb, le-ltb, lt-ltb, or_left, or_right}
use Rattle.std.proofs.lemmas.List.{map-append}
use Rattle.std.proofs.lemmas.Option.{none-some, same_Some}
use Rattle.elf32_read.specs.Parts.{SectionParts, is_code_section}
use Rattle.psabi_sym.specs.Faults.{gather_fault}
use Rattle.psabi_sym.specs.Inputs.{Inputs, ParsedInputs, parsed}
use Rattle.psabi_sym.specs.Indexed.{IndexedSection, all_sections}
use Rattle.psabi_sym.proofs.SectionNumbers.{listed_at}
use Rattle.block_cut.specs.Items.{index_on, is_end_at, is_start_at, item_at, place_of, starts_in, starts_on, targets_in}
use Rattle.block_cut.specs.Places.{code_place, code_places}
use Rattle.block_cut.specs.Whole.{IsWhole}
use Rattle.block_cut.specs.declared.code_place.CodePlace.{CodePlace}
use Rattle.block_cut.proofs.StartLaws.{along}
use Rattle.block_cut.proofs.TextLaws.{place_number}
use Rattle.block_cut.proofs.WordLaws.{code_here}
use Rattle.shrink_layout.specs.Invariants.Made.{AreItemPlaces, IsItemPlace}
use Rattle.shrink_layout.proofs.SectionLaws.{but_last}

-- ---- numbers in order

-- none of those from a number on lies below it
none_below : (n : ℕ) (xs : List ℕ) → ((i m : ℕ) → slice_get xs i ≡ Some m → n ≤ m) → filter (λ j. ltb j n) xs ≡ []
none_below n [] all = refl
none_below n (x ∷ xs) all =
    ap (λ b. cond b (x ∷ filter (λ j. ltb j n) xs) (filter (λ j. ltb j n) xs)) (le-ltb x n (all 0 x refl))
    ∙ none_below n xs (λ i m got. all (suc i) m got)

-- each number of the list has as many below it as come before it, and all are n or above
record AreOrdered (n : ℕ) (xs : List ℕ) : Type 0 where
  above : (i m : ℕ) → slice_get xs i ≡ Some m → n ≤ m
  index : (i m : ℕ) → slice_get xs i ≡ Some m → length (filter (λ j. ltb j m) xs) ≡ i

more : (n size : ℕ) (xs : List ℕ) → 0 < size → AreOrdered (n + size) xs → AreOrdered n (n ∷ xs)
more n size xs some rest = record { above = above; index = index }
  where
    above : (i m : ℕ) → slice_get (n ∷ xs) i ≡ Some m → n ≤ m
    above zero m got = let same = same_Some n m got in omega (arith, same)
    above (suc i) m got = omega (arith, rest.above i m got)

    index : (i m : ℕ) → slice_get (n ∷ xs) i ≡ Some m → length (filter (λ j. ltb j m) (n ∷ xs)) ≡ i
    index zero m got =
        let same = same_Some n m got in
        ap length (ap (λ b. cond b (n ∷ filter (λ j. ltb j m) xs) (filter (λ j. ltb j m) xs)) (le-ltb n m (omega (arith, same)))
        ∙ none_below m xs (λ i k later. omega (arith, same, some, rest.above i k later)))
    index (suc i) m got =
        let lt : n < m = omega (arith, some, rest.above i m got) in
        ap length (ap (λ b. cond b (n ∷ filter (λ j. ltb j m) xs) (filter (λ j. ltb j m) xs)) (lt-ltb n m lt)) ∙ ap suc (rest.index i m got)

pub among : (xs : List ℕ) (i n : ℕ) → slice_get xs i ≡ Some n → list_any (λ m. eqb m n) xs ≡ true
among [] i n got = absurd (none-some n got)
among (x ∷ xs) zero n got = or_left (eqb x n) (list_any (λ m. eqb m n) xs) (eq-eqb x n (same_Some x n got))
among (x ∷ xs) (suc i) n got = or_right (eqb x n) (list_any (λ m. eqb m n) xs) (among xs i n got)

-- ---- starts

module _ (s : SectionParts) (code : is_code_section s ≡ true) (whole : IsWhole s) where
  ordered : AreOrdered 0 (starts_in s)
  ordered = along s code whole AreOrdered (record { above = λ i m got. absurd (none-some m got); index = λ i m got. absurd (none-some m got) })
      (λ n xs lt words st above rest. more n _ xs (let some = st.some in omega (arith, some)) rest)

  pub start_index : (i n : ℕ) → slice_get (starts_in s) i ≡ Some n → index_on s n ≡ i
  start_index i n got = ordered.index i n got

-- ---- places

pub got_of : {X Y : Type 0} (f : X → Y) (xs : List X) (i : ℕ) (y : Y) → slice_get (map f xs) i ≡ Some y → (x : X) × (slice_get xs i ≡ Some x) × (f x ≡ y)
got_of f [] i y got = absurd (none-some y got)
got_of f (x ∷ xs) zero y got = (x, refl, same_Some (f x) y got)
got_of f (x ∷ xs) (suc i) y got = got_of f xs i y got

pub starts_held : (inputs : Inputs) → gather_fault inputs ≡ None → (k : ℕ) (l : IndexedSection) → slice_get (all_sections (parsed inputs).objects) k ≡ Some l
    → is_code_section l.section ≡ true
    → AreItemPlaces (parsed inputs) k l (take (length (code_places (parsed inputs) l) - 1) (code_places (parsed inputs) l))
starts_held inputs none k l at code i p got = subst (IsItemPlace' i) found.2 here
  where
    given : ParsedInputs
    given = parsed inputs

    s : SectionParts
    s = l.section

    f : ℕ → CodePlace
    f = code_place given l

    places : take (length (code_places given l) - 1) (code_places given l) ≡ map f (starts_in s)
    places =
        let end = length s.bytes in
        let all : code_places given l ≡ map f (starts_in s) ++ f end ∷ [] = ap (λ b. cond b (map f (targets_in s)) []) code ∙ map-append f (starts_in s) (end ∷ []) in
        ap (λ ps. take (length ps - 1) ps) all ∙ but_last (map f (starts_in s)) (f end)

    found : (n : ℕ) × (slice_get (starts_in s) i ≡ Some n) × (f n ≡ p)
    found = got_of f (starts_in s) i p (ap (λ ps. slice_get ps i) (sym places) ∙ got)

    IsItemPlace' : ℕ → CodePlace → Type 0
    IsItemPlace' i p = IsItemPlace given (place_of l p.offset) (record { section = k; index = i }) p.item

    here : IsItemPlace' i (f found.0)
    here =
        let n = found.0 in
        let q = place_of l n in
        let there = code_here inputs l.object l.index s none (listed_at given.objects k l at) code in
        let start : is_start_at given.objects q ≡ true = ap (λ o. option_map_or (λ t. starts_on t n) o false) (there.at n) ∙ among (starts_in s) i n found.1 in
        record {
          start = start;
          stands = place_number given.objects q k i s there.found at (or_left (is_start_at given.objects q) (is_end_at given.objects q) start)
              (sym (start_index s code there.whole i n found.1));
          is = refl;
        }

-- the item of one of them is the one that starts there
pub held_item : (inputs : Inputs) → gather_fault inputs ≡ None → (k : ℕ) (l : IndexedSection) → slice_get (all_sections (parsed inputs).objects) k ≡ Some l
    → (i : ℕ) (p : CodePlace) → slice_get (take (length (code_places (parsed inputs) l) - 1) (code_places (parsed inputs) l)) i ≡ Some p
    → p.item ≡ item_at (parsed inputs) (place_of l p.offset)
held_item inputs none k l at i p got = by (is_code_section l.section) refl
  where
    by : (b : Bool) → is_code_section l.section ≡ b → p.item ≡ item_at (parsed inputs) (place_of l p.offset)
    by true code = (starts_held inputs none k l at code i p got).is
    by false other =
        let nothing : code_places (parsed inputs) l ≡ [] = ap (λ b. cond b (map (code_place (parsed inputs) l) (targets_in l.section)) []) other in
        absurd (none-some p (ap (λ ps. slice_get (take (length ps - 1) ps) i) (sym nothing) ∙ got))
