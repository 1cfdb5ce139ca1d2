-- The sections before one: with it they are those before the next, and they begin the list of all.
use Rattle.std.proofs.Common.{◌≡◌, ℕ, zero, suc, ◌+◌, ◌-◌, ◌<◌, ◌≤◌, ◌⊎◌, inl, inr, subst, List, [], ◌∷◌, ◌++◌, length, get_or, take, drop, Option, Some, None, slice_get, refl, sym, ap, ◌∙◌, arith, append_assoc}
use Rattle.std.specs.List.{enumerate_from, flat_map}
use Rattle.std.specs.Option.{option_and_then, option_map_or}
use Rattle.std.proofs.lemmas.List.{append-nil, drop_more, length-take-le, take-append-drop, take_all, take_more}
use Rattle.std.proofs.lemmas.Option.{get_or_from_slice_get, slice_get_within}
use Rattle.elf32_read.specs.Parts.{ObjectParts, SectionParts}
use Rattle.psabi_sym.specs.Indexed.{IndexedSection, all_sections, section_at, sections_before, sections_in}
use Rattle.psabi_sym.proofs.FlatLaws.{flat_at, flat_before, sections_push}
use Rattle.psabi_sym.proofs.PartLaws.{length-sections_in, section_listed}
use Rattle.psabi_sym.proofs.PlaceLaws.{begins_within}

-- ---- lists cut short

-- an element of the front
slice_get-take : {X : Type 0} (xs : List X) (n k : ℕ) → k < n → n < length xs → slice_get (take n xs) k ≡ slice_get xs k
slice_get-take [] n k lt within = absurd (omega arith)
slice_get-take (x ∷ xs) zero k lt within = absurd (omega arith)
slice_get-take (x ∷ xs) (suc n) zero lt within = refl
slice_get-take (x ∷ xs) (suc n) (suc k) lt within = slice_get-take xs n k (omega arith) (omega arith)

take_none : {X : Type 0} (n : ℕ) → take {A = X} n [] ≡ []
take_none zero = refl
take_none (suc n) = refl

-- the front of a front
take-take : {X : Type 0} (xs : List X) (m n : ℕ) → m ≤ n → take m (take n xs) ≡ take m xs
take-take [] m n le = ap (take m) (take_none n)
take-take (x ∷ xs) zero n le = refl
take-take (x ∷ xs) (suc m) zero le = absurd (omega arith)
take-take (x ∷ xs) (suc m) (suc n) le = ap (λ l. x ∷ l) (take-take xs m n (omega arith))

-- a front is a shorter one and what follows
take_split : {X : Type 0} (xs : List X) (m n : ℕ) → m ≤ n → take n xs ≡ take m xs ++ take (n - m) (drop m xs)
take_split xs zero n le = let all : n ≡ n - 0 = omega arith in ap (λ k. take k xs) all
take_split [] (suc m) n le = take_none n ∙ sym (take_none (n - suc m))
take_split (x ∷ xs) (suc m) zero le = absurd (omega arith)
take_split (x ∷ xs) (suc m) (suc n) le =
    let less : n - m ≡ suc n - suc m = omega arith in
    ap (λ l. x ∷ l) (take_split xs m n (omega arith)) ∙ ap (λ k. x ∷ take m xs ++ take k (drop m xs)) less

-- ---- sections

-- a section with its object's index and its own
abbrev pub listed : ℕ → ℕ → SectionParts → IndexedSection
listed o i s = record { object = o; index = i; section = s }

-- a section is one of an object
record IsIn (objects : List ObjectParts) (o i : ℕ) (s : SectionParts) : Type 0 where
  pub object : ObjectParts
  pub at : slice_get objects o ≡ Some object
  pub is : slice_get object.sections i ≡ Some s

found_in : (objects : List ObjectParts) (o i : ℕ) (s : SectionParts) → section_at objects o i ≡ Some s → IsIn objects o i s
found_in objects o i s found = by (slice_get objects o) refl found
  where
    by : (x : Option ObjectParts) → slice_get objects o ≡ x → option_and_then (λ object. slice_get object.sections i) x ≡ Some s → IsIn objects o i s
    by None at found = absurd cc
    by (Some object) at found = record { object = object; at = at; is = found }

-- a section comes after those of its object that are before it
of_object : (objects : List ObjectParts) (o i : ℕ) (object : ObjectParts) → slice_get objects o ≡ Some object → sections_before objects o i ≡ all_sections (take o objects) ++ take i (sections_in (o, object))
unfolding sections_before
of_object objects o i object at = ap (λ x. all_sections (take o objects) ++ option_map_or (λ t. take i (sections_in (o, t))) x []) at

-- the sections before the next one are those before this one, and this one
pub before_more : (objects : List ObjectParts) (o i : ℕ) (s : SectionParts) → section_at objects o i ≡ Some s → sections_before objects o (i + 1) ≡ sections_before objects o i ++ listed o i s ∷ []
before_more objects o i s found =
    let own = found_in objects o i s found in
    let within = slice_get_within own.object.sections i s own.is in
    let all = sections_in (o, own.object) in
    let here : get_or all i (listed o i s) ≡ listed o i s =
    section_listed o own.object i s (listed o i s) within ∙ ap (listed o i) (get_or_from_slice_get own.object.sections i s s own.is) in
    of_object objects o (i + 1) own.object own.at
    ∙ ap (λ l. all_sections (take o objects) ++ l) (take_more all i (listed o i s) (omega (arith, within, length-sections_in o own.object)) ∙ ap (λ l. take i all ++ l ∷ []) here)
    ∙ sym (append_assoc (all_sections (take o objects)) (take i all) (listed o i s ∷ []))
    ∙ ap (λ l. l ++ listed o i s ∷ []) (sym (of_object objects o i own.object own.at))

-- before the first of an object are those of the objects before it
pub before_first : (objects : List ObjectParts) (o : ℕ) → sections_before objects o 0 ≡ all_sections (take o objects)
unfolding sections_before
before_first objects o = by (slice_get objects o)
  where
    by : (x : Option ObjectParts) → all_sections (take o objects) ++ option_map_or (λ t. take 0 (sections_in (o, t))) x [] ≡ all_sections (take o objects)
    by None = append-nil (all_sections (take o objects))
    by (Some object) = append-nil (all_sections (take o objects))

-- after the last of an object come those of the next
pub before_next : (objects : List ObjectParts) (o : ℕ) (object : ObjectParts) → slice_get objects o ≡ Some object → sections_before objects o (length object.sections) ≡ sections_before objects (o + 1) 0
before_next objects o object at =
    let within = slice_get_within objects o object at in
    let index : length (take o objects) ≡ o = length-take-le o objects (omega arith) in
    of_object objects o (length object.sections) object at
    ∙ ap (λ l. all_sections (take o objects) ++ l) (take_all (length object.sections) (sections_in (o, object)) (omega (arith, length-sections_in o object)))
    ∙ ap (λ n. all_sections (take o objects) ++ sections_in (n, object)) (sym index)
    ∙ sym (sections_push (take o objects) object)
    ∙ ap all_sections (sym (take_more objects o object within ∙ ap (λ x. take o objects ++ x ∷ []) (get_or_from_slice_get objects o object object at)))
    ∙ sym (before_first objects (o + 1))

-- after the last object are all
pub before_end : (objects : List ObjectParts) (o : ℕ) → length objects ≤ o → sections_before objects o 0 ≡ all_sections objects
before_end objects o past = before_first objects o ∙ ap all_sections (take_all o objects past)

-- all are those before a section, the section, and the rest
pub record IsCutAt (objects : List ObjectParts) (o i : ℕ) (s : SectionParts) : Type 0 where
  pub rest : List IndexedSection
  pub all_are : all_sections objects ≡ sections_before objects o i ++ listed o i s ∷ rest

pub cut_at : (objects : List ObjectParts) (o i : ℕ) (s : SectionParts) → section_at objects o i ≡ Some s → IsCutAt objects o i s
unfolding all_sections
cut_at objects o i s found =
    let own = found_in objects o i s found in
    let within = slice_get_within own.object.sections i s own.is in
    let inside : i < length (sections_in (o, own.object)) = omega (arith, within, length-sections_in o own.object) in
    let all = flat_map sections_in (enumerate_from 0 objects) in
    let k = length (flat_map sections_in (enumerate_from 0 (take o objects))) + i in
    let before : take k all ≡ sections_before objects o i = flat_before sections_in objects o i own.object own.at (omega (arith, inside)) ∙ sym (of_object objects o i own.object own.at) in
    let here : get_or all k (listed o i s) ≡ listed o i s =
    flat_at sections_in objects o i own.object (listed o i s) own.at inside ∙ section_listed o own.object i s (listed o i s) within
    ∙ ap (listed o i) (get_or_from_slice_get own.object.sections i s s own.is) in
    record {
      rest = drop (k + 1) all;
      all_are =
          sym (take-append-drop k all)
          ∙ (λ j. before j ++ (drop_more all k (listed o i s) (begins_within sections_in objects o i own.object own.at inside) ∙ ap (λ l. l ∷ drop (k + 1) all) here) j);
    }

-- the sections before a later one are those before a section, the section, and some more
pub record IsBetween (objects : List ObjectParts) (o i : ℕ) (s : SectionParts) (p j : ℕ) : Type 0 where
  pub rest : List IndexedSection
  pub are : sections_before objects p j ≡ sections_before objects o i ++ listed o i s ∷ rest

pub between : (objects : List ObjectParts) (o i : ℕ) (s : SectionParts) (p j : ℕ) (t : SectionParts) → section_at objects o i ≡ Some s → section_at objects p j ≡ Some t
    → (o < p) ⊎ ((o ≡ p) × (i < j)) → IsBetween objects o i s p j
between objects o i s p j t found later (inl lt) =
    let own = found_in objects o i s found in
    let other = found_in objects p j t later in
    let early = take p objects in
    let at : slice_get early o ≡ Some own.object = slice_get-take objects p o lt (slice_get_within objects p other.object other.at) ∙ own.at in
    let here : section_at early o i ≡ Some s = ap (option_and_then (λ (object : ObjectParts). slice_get object.sections i)) at ∙ own.is in
    let cut = cut_at early o i s here in
    let before : sections_before early o i ≡ sections_before objects o i =
    of_object early o i own.object at ∙ ap (λ l. all_sections l ++ take i (sections_in (o, own.object))) (take-take objects o p (omega arith)) ∙ sym (of_object objects o i own.object own.at) in
    record {
      rest = cut.rest ++ take j (sections_in (p, other.object));
      are = of_object objects p j other.object other.at ∙ ap (λ l. l ++ take j (sections_in (p, other.object))) (cut.all_are ∙ ap (λ l. l ++ listed o i s ∷ cut.rest) before)
          ∙ append_assoc (sections_before objects o i) (listed o i s ∷ cut.rest) (take j (sections_in (p, other.object)));
    }
between objects o i s p j t found later (inr (same, lt)) = subst (λ n. IsBetween objects o i s n j) same here
  where
    here : IsBetween objects o i s o j
    here =
        let own = found_in objects o i s found in
        let within = slice_get_within own.object.sections i s own.is in
        let all = sections_in (o, own.object) in
        let head : take (i + 1) all ≡ take i all ++ listed o i s ∷ [] =
        take_more all i (listed o i s) (omega (arith, within, length-sections_in o own.object))
        ∙ ap (λ l. take i all ++ l ∷ []) (section_listed o own.object i s (listed o i s) within ∙ ap (listed o i) (get_or_from_slice_get own.object.sections i s s own.is)) in
        let rest = take (j - (i + 1)) (drop (i + 1) all) in
        let whole : take j all ≡ take i all ++ listed o i s ∷ rest =
        take_split all (i + 1) j (omega arith) ∙ ap (λ l. l ++ rest) head ∙ append_assoc (take i all) (listed o i s ∷ []) rest in
        record {
          rest = rest;
          are = of_object objects o j own.object own.at ∙ ap (λ l. all_sections (take o objects) ++ l) whole
              ∙ sym (append_assoc (all_sections (take o objects)) (take i all) (listed o i s ∷ rest))
              ∙ ap (λ l. l ++ listed o i s ∷ rest) (sym (of_object objects o i own.object own.at));
        }
