-- The mark of an item decides its role, and there are no more groups than items.
use Prim.Native.Nat.{zero}
use Rattle.std.proofs.Common.{◌≡◌, ◌∙◌, ℕ, suc, ◌+◌, ◌<◌, ◌≤◌, List, [], ◌∷◌, ◌++◌, Option, Some, None, Bool, true, false, cond, length, map, take, eqb, ltb, refl, sym, ap, arith, subst, length-append, inl, inr}
use Rattle.std.specs.Prelude.{◌⊎◌, filter, slice_index_or}
use Rattle.std.specs.List.{flat_map, list_any, slice_get}
use Rattle.std.specs.Option.{is_some, option_and_then, option_map_or}
use Rattle.std.proofs.lemmas.Bool.{eqb-true, false_from_ne_true, le-ltb, or_cases}
use Rattle.std.proofs.lemmas.List.{length-map}
use Rattle.std.proofs.lemmas.Option.{get_or_from_slice_get, none-some, same_Some, slice_get_within}
use Rattle.zc_base.specs.declared.place.Place.{Place}
use Rattle.elf32_read.specs.Parts.{SectionParts, is_code_section}
use Rattle.psabi_sym.specs.Faults.{gather_fault}
use Rattle.psabi_sym.specs.Inputs.{Inputs, ParsedInputs, parsed}
use Rattle.psabi_sym.specs.Indexed.{IndexedSection, all_sections}
use Rattle.psabi_sym.proofs.SectionNumbers.{has_number, number_of_section}
use Rattle.block_cut.specs.Items.{all_items, code_at, index_on, is_end_at, is_start_at, is_target_at, item_at, item_in, items_in, place_of, starts_in, starts_on}
use Rattle.block_cut.specs.Places.{IsPlaceNumber}
use Rattle.block_cut.specs.declared.place_number.PlaceNumber.{PlaceNumber}
use Rattle.block_cut.proofs.StartLaws.{before_end_all}
use Rattle.block_cut.proofs.WholeLaws.{code_is_section, code_whole}
use Rattle.frame_match.specs.Groups.{starting_group, groups_in, groups_of, role_at, role_on, roles_from, roles_in, spot_on}
use Rattle.frame_match.specs.Invariants.Marks.{marks_from, section_marks, ArePlanned}
use Rattle.frame_match.specs.declared.group.Group.{Group}
use Rattle.frame_match.specs.declared.mark.Mark.{Mark}
use Rattle.frame_match.specs.declared.mark.Mark.TheVariants.{Apart, Start, Within}
use Rattle.frame_match.specs.declared.role.Role.{Role}
use Rattle.frame_match.specs.declared.role.Role.TheVariants.{Alone, First, Inside}
use Rattle.frame_match.proofs.GroupLaws.{roles_count}
use Rattle.frame_match.proofs.MarkLaws.{firsts}
use Rattle.frame_match.proofs.MemberLaws.{get_some}

-- ---- lists

get_left : {X : Type 0} (xs ys : List X) (j : ℕ) (x : X) → slice_get xs j ≡ Some x → slice_get (xs ++ ys) j ≡ Some x
get_left [] ys j x h = absurd (none-some x h)
get_left (z ∷ zs) ys zero x h = h
get_left (z ∷ zs) ys (suc j) x h = get_left zs ys j x h

get_right : {X : Type 0} (xs ys : List X) (j : ℕ) → slice_get (xs ++ ys) (length xs + j) ≡ slice_get ys j
get_right [] ys j = let e : 0 + j ≡ j = omega arith in ap (slice_get ys) e
get_right (z ∷ zs) ys j = let e : suc (length zs) + j ≡ suc (length zs + j) = omega arith in ap (slice_get (z ∷ (zs ++ ys))) e ∙ get_right zs ys j

flat_get : {X Y : Type 0} (f : X → List Y) (xs : List X) (k : ℕ) (x : X) (j : ℕ) (y : Y) → slice_get xs k ≡ Some x → slice_get (f x) j ≡ Some y
    → slice_get (flat_map f xs) (length (flat_map f (take k xs)) + j) ≡ Some y
flat_get f [] k x j y h g = absurd (none-some x h)
flat_get f (z ∷ zs) zero x j y h g =
    let e : 0 + j ≡ j = omega arith in
    ap (slice_get (f z ++ flat_map f zs)) e ∙ get_left (f z) (flat_map f zs) j y (ap (λ w. slice_get (f w) j) (same_Some z x h) ∙ g)
flat_get f (z ∷ zs) (suc k) x j y h g =
    let a = length-append (f z) (flat_map f (take k zs)) in
    let e : length (f z ++ flat_map f (take k zs)) + j ≡ length (f z) + (length (flat_map f (take k zs)) + j) = omega (arith, a) in
    ap (slice_get (f z ++ flat_map f zs)) e ∙ get_right (f z) (flat_map f zs) (length (flat_map f (take k zs)) + j) ∙ flat_get f zs k x j y h g

filter_few : (n : ℕ) (xs : List ℕ) → length (filter (λ m. ltb m n) xs) ≤ length xs
filter_few n [] = omega arith
filter_few n (x ∷ xs) = by (ltb x n) (filter_few n xs)
  where
    by : (b : Bool) → length (filter (λ m. ltb m n) xs) ≤ length xs → length (cond b (x ∷ filter (λ m. ltb m n) xs) (filter (λ m. ltb m n) xs)) ≤ length (x ∷ xs)
    by true h = omega (arith, h)
    by false h = omega (arith, h)

-- if a number is a member of a list, not all members are below it
filter_less : (n : ℕ) (xs : List ℕ) → list_any (λ m. eqb m n) xs ≡ true → length (filter (λ m. ltb m n) xs) < length xs
filter_less n [] h = absurd cc
filter_less n (x ∷ xs) h = by (or_cases (eqb x n) (list_any (λ m. eqb m n) xs) h) (λ g. filter_less n xs g)
  where
    keep : (b : Bool) → length (filter (λ m. ltb m n) xs) < length xs → length (cond b (x ∷ filter (λ m. ltb m n) xs) (filter (λ m. ltb m n) xs)) < length (x ∷ xs)
    keep true h = omega (arith, h)
    keep false h = omega (arith, h)

    by : (eqb x n ≡ true) ⊎ (list_any (λ m. eqb m n) xs ≡ true) → (list_any (λ m. eqb m n) xs ≡ true → length (filter (λ m. ltb m n) xs) < length xs)
        → length (filter (λ m. ltb m n) (x ∷ xs)) < length (x ∷ xs)
    by (inl e) rest =
        let same : x ≡ n = eqb-true x n e in
        let few = filter_few n xs in
        let none = ap (λ b. length (cond b (x ∷ filter (λ m. ltb m n) xs) (filter (λ m. ltb m n) xs))) (le-ltb x n (omega (arith, same))) in
        omega (arith, few, none)
    by (inr g) rest = keep (ltb x n) (rest g)

-- ---- roles

roles_length : (inputs : ParsedInputs) (l : IndexedSection) → is_code_section l.section ≡ true → length (roles_in inputs l) ≡ length (starts_in l.section)
unfolding roles_in
roles_length inputs l code =
    ap (λ b. length (cond b (roles_from 0 (map (spot_on inputs l) (starts_in l.section))) [])) code
    ∙ roles_count 0 (map (spot_on inputs l) (starts_in l.section))
    ∙ length-map (starts_in l.section) (spot_on inputs l)

-- ---- marks

abbrev pub mark_of : ℕ → Role → Mark
mark_of n Alone = Apart
mark_of n (First g) = Start n
mark_of n Inside = Within

marks_get : (n : ℕ) (rs : List Role) (j : ℕ) (r : Role) → slice_get rs j ≡ Some r
    → slice_get (marks_from n rs) j ≡ Some (mark_of (n + length (flat_map starting_group (take j rs))) r)
marks_get n [] j r h = absurd (none-some r h)
marks_get n (Alone ∷ rs) zero r h = ap (λ x. Some (mark_of (n + 0) x)) (same_Some Alone r h)
marks_get n (First g ∷ rs) zero r h = let e : n ≡ n + 0 = omega arith in ap (λ m. Some (Start m)) e ∙ ap (λ x. Some (mark_of (n + 0) x)) (same_Some (First g) r h)
marks_get n (Inside ∷ rs) zero r h = ap (λ x. Some (mark_of (n + 0) x)) (same_Some Inside r h)
marks_get n (Alone ∷ rs) (suc j) r h = marks_get n rs j r h
marks_get n (First g ∷ rs) (suc j) r h =
    let e : n + 1 + length (flat_map starting_group (take j rs)) ≡ n + suc (length (flat_map starting_group (take j rs))) = omega arith in
    marks_get (n + 1) rs j r h ∙ ap (λ m. Some (mark_of m r)) e
marks_get n (Inside ∷ rs) (suc j) r h = marks_get n rs j r h

section_get : (f : IndexedSection → List Role) (n : ℕ) (ls : List IndexedSection) (k : ℕ) (l : IndexedSection) → slice_get ls k ≡ Some l
    → slice_get (section_marks n (map f ls)) k ≡ Some (marks_from (n + length (flat_map (firsts f) (take k ls))) (f l))
section_get f n [] k l h = absurd (none-some l h)
section_get f n (m ∷ ms) zero l h =
    let e : n ≡ n + 0 = omega arith in
    ap (λ x. Some (marks_from n (f x))) (same_Some m l h) ∙ ap (λ x. Some (marks_from x (f l))) e
section_get f n (m ∷ ms) (suc k) l h =
    let a = length-append (firsts f m) (flat_map (firsts f) (take k ms)) in
    let e : n + length (firsts f m) + length (flat_map (firsts f) (take k ms)) ≡ n + length (firsts f m ++ flat_map (firsts f) (take k ms)) = omega (arith, a) in
    section_get f (n + length (firsts f m)) ms k l h ∙ ap (λ x. Some (marks_from x (f l))) e

-- ---- an item

-- what is stored for an item: a mark among the marks of its section, and a group if one starts there
pub record IsKept (inputs : ParsedInputs) (groups : List Group) (sections : List (List Mark)) (q : Place) (number : PlaceNumber) : Type 0 where
  pub marks : List Mark
  pub section : slice_get sections number.section ≡ Some marks
  pub role : Role
  pub before : ℕ
  pub mark : slice_get marks number.index ≡ Some (mark_of before role)
  pub role_is : role_at inputs q ≡ Some role
  pub group : (g : Group) → role ≡ First g → slice_get groups before ≡ Some g

role_here : (inputs : ParsedInputs) (q : Place) (s : SectionParts) (r : Role) → code_at inputs.objects q ≡ Some s → starts_on s q.offset ≡ true
    → slice_get (roles_in inputs (record { object = q.object; index = q.section; section = s })) (index_on s q.offset) ≡ Some r → role_at inputs q ≡ Some r
unfolding role_at
role_here inputs q s r here starts at =
    ap (option_and_then (role_on inputs q)) here
    ∙ ap (λ b. cond b (slice_get (roles_in inputs (record { object = q.object; index = q.section; section = s })) (index_on s q.offset)) None) starts
    ∙ at

pub is_kept : (inputs : ParsedInputs) (groups : List Group) (sections : List (List Mark)) → ArePlanned inputs groups sections
    → (q : Place) (number : PlaceNumber) → is_start_at inputs.objects q ≡ true → IsPlaceNumber inputs.objects q number → IsKept inputs groups sections q number
is_kept inputs groups sections are q number start has = made
  where
    all : List IndexedSection
    all = all_sections inputs.objects

    s : SectionParts
    s = has.section

    l : IndexedSection
    l = record { object = q.object; index = q.section; section = has.section }

    starts : starts_on has.section q.offset ≡ true
    starts = sym (ap (λ o. option_map_or (λ t. starts_on t q.offset) o false) has.here) ∙ start

    rs : List Role
    rs = roles_in inputs l

    made : IsKept inputs groups sections q number
    made =
        let two = code_is_section inputs.objects q has.section has.here in
        let there = number_of_section inputs.objects q.object q.section has.section two.0 in
        let at : number.section ≡ there.0 = has.section_is ∙ sym (has_number inputs.objects there.0 l there.1).place in
        let own : slice_get all number.section ≡ Some l = ap (slice_get all) at ∙ there.1 in
        let before = length (flat_map (groups_in inputs) (take number.section all)) in
        let zero_less : 0 + before ≡ before = omega arith in
        let within : index_on has.section q.offset < length rs =
        let less = filter_less q.offset (starts_in has.section) starts in
        let same = roles_length inputs l two.1 in
        omega (arith, less, same) in
        let r = get_some rs (index_on has.section q.offset) within in
        record {
          marks = marks_from before rs;
          section = ap (λ ms. slice_get ms number.section) are.marks_are
              ∙ section_get (roles_in inputs) 0 all number.section l own
              ∙ ap (λ n. Some (marks_from n rs)) zero_less;
          role = r.0;
          before = before + length (flat_map starting_group (take (index_on has.section q.offset) rs));
          mark = ap (slice_get (marks_from before rs)) has.index_is ∙ marks_get before rs (index_on has.section q.offset) r.0 r.1;
          role_is = role_here inputs q has.section r.0 has.here starts r.1;
          group = λ g e.
              let own_number = length (flat_map starting_group (take (index_on has.section q.offset) rs)) in
              let none : own_number + 0 ≡ own_number = omega arith in
              let one : slice_get (starting_group r.0) 0 ≡ Some g = ap (λ x. slice_get (starting_group x) 0) e in
              let mine : slice_get (groups_in inputs l) own_number ≡ Some g =
              ap (slice_get (groups_in inputs l)) (sym none) ∙ flat_get starting_group rs (index_on has.section q.offset) r.0 0 g r.1 one in
              ap (λ gs. slice_get gs (before + own_number)) are.groups_are ∙ flat_get (groups_in inputs) all number.section l own_number g own mine;
        }

-- ---- how many groups there are

firsts_few : (rs : List Role) → length (flat_map starting_group rs) ≤ length rs
firsts_few [] = omega arith
firsts_few (Alone ∷ rs) = let h = firsts_few rs in omega (arith, h)
firsts_few (First g ∷ rs) = let h = firsts_few rs in omega (arith, h)
firsts_few (Inside ∷ rs) = let h = firsts_few rs in omega (arith, h)

section_few : (inputs : ParsedInputs) (l : IndexedSection) → length (groups_in inputs l) ≤ length (items_in inputs l)
unfolding roles_in
section_few inputs l = by (is_code_section l.section)
  where
    by : (b : Bool) → length (flat_map starting_group (cond b (roles_from 0 (map (spot_on inputs l) (starts_in l.section))) []))
        ≤ length (map (item_in inputs l.section) (cond b (map (place_of l) (starts_in l.section)) []))
    by true =
        let a = firsts_few (roles_from 0 (map (spot_on inputs l) (starts_in l.section))) in
        let b = roles_count 0 (map (spot_on inputs l) (starts_in l.section)) in
        let c = length-map (starts_in l.section) (spot_on inputs l) in
        let d = length-map (map (place_of l) (starts_in l.section)) (item_in inputs l.section) in
        let e = length-map (starts_in l.section) (place_of l) in
        omega (arith, a, b, c, d, e)
    by false = omega arith

pub all_few : (inputs : ParsedInputs) (ls : List IndexedSection) → length (flat_map (groups_in inputs) ls) ≤ length (flat_map (items_in inputs) ls)
all_few inputs [] = omega arith
all_few inputs (l ∷ ls) =
    let a = section_few inputs l in
    let b = all_few inputs ls in
    let c = length-append (groups_in inputs l) (flat_map (groups_in inputs) ls) in
    let d = length-append (items_in inputs l) (flat_map (items_in inputs) ls) in
    omega (arith, a, b, c, d)

pub groups_few : (inputs : ParsedInputs) → length (groups_of inputs) ≤ length (all_items inputs)
groups_few inputs = all_few inputs (all_sections inputs.objects)

-- ---- in the code's words

apart_is : (b : ℕ) (r : Role) → mark_of b r ≡ Apart → r ≡ Alone
apart_is b Alone h = refl
apart_is b (First g) h = absurd cc
apart_is b Inside h = absurd cc

within_is : (b : ℕ) (r : Role) → mark_of b r ≡ Within → r ≡ Inside
within_is b Alone h = absurd cc
within_is b (First g) h = absurd cc
within_is b Inside h = refl

start_is : (b : ℕ) (r : Role) (n : ℕ) → mark_of b r ≡ Start n → (g : Group) × (r ≡ First g) × (b ≡ n)
start_is b Alone n h = absurd cc
start_is b (First g) n h = let e : b ≡ n = cc in (g, refl, e)
start_is b Inside n h = absurd cc

-- the item at a place by what the code reads: the marks of its section, and its own mark
module _ (view now : Inputs) (groups : List Group) (sections : List (List Mark)) (same : view ≡ now) (are : ArePlanned (parsed view) groups sections)
    (q : Place) (number : PlaceNumber) (start : is_start_at (parsed now).objects q ≡ true) (has : IsPlaceNumber (parsed now).objects q number) where
  kept : IsKept (parsed now) groups sections q number
  kept = is_kept (parsed now) groups sections (subst (λ x. ArePlanned (parsed x) groups sections) same are) q number start has

  pub section_within : number.section < length sections
  section_within = slice_get_within sections number.section kept.marks kept.section

  marks_read : (read : List Mark) → read ≡ slice_index_or sections number.section read → slice_get read number.index ≡ Some (mark_of kept.before kept.role)
  marks_read read is = ap (λ ms. slice_get ms number.index) (is ∙ get_or_from_slice_get sections number.section kept.marks read kept.section) ∙ kept.mark

  pub index_within : (read : List Mark) → read ≡ slice_index_or sections number.section read → number.index < length read
  index_within read is = slice_get_within read number.index (mark_of kept.before kept.role) (marks_read read is)

  own : (read : List Mark) (m : Mark) → read ≡ slice_index_or sections number.section read → slice_get read number.index ≡ Some m → mark_of kept.before kept.role ≡ m
  own read m is at = same_Some _ _ (sym (marks_read read is) ∙ at)

  pub apart_role : (read : List Mark) → read ≡ slice_index_or sections number.section read → slice_get read number.index ≡ Some Apart → role_at (parsed now) q ≡ Some Alone
  apart_role read is at = kept.role_is ∙ ap Some (apart_is kept.before kept.role (own read Apart is at))

  pub within_role : (read : List Mark) → read ≡ slice_index_or sections number.section read → slice_get read number.index ≡ Some Within → role_at (parsed now) q ≡ Some Inside
  within_role read is at = kept.role_is ∙ ap Some (within_is kept.before kept.role (own read Within is at))

  pub start_role : (read : List Mark) (n : ℕ) → read ≡ slice_index_or sections number.section read → slice_get read number.index ≡ Some (Start n)
      → (g : Group) × (slice_get groups n ≡ Some g) × (role_at (parsed now) q ≡ Some (First g))
  start_role read n is at =
      let w = start_is kept.before kept.role n (own read (Start n) is at) in
      (w.0, ap (slice_get groups) (sym w.2) ∙ kept.group w.0 w.1, kept.role_is ∙ ap Some w.1)

-- ---- where no item starts

pub start_item : (inputs : ParsedInputs) (q : Place) → is_start_at inputs.objects q ≡ is_some (item_at inputs q)
unfolding item_at
start_item inputs q = by (code_at inputs.objects q)
  where
    one : (s : SectionParts) (b : Bool) → b ≡ is_some (cond b (Some (item_in inputs s q)) None)
    one s true = refl
    one s false = refl

    by : (o : Option SectionParts) → option_map_or (λ s. starts_on s q.offset) o false
        ≡ is_some (option_and_then (λ s. cond (starts_on s q.offset) (Some (item_in inputs s q)) None) o)
    by None = refl
    by (Some s) = one s (starts_on s q.offset)

pub no_role : (inputs : ParsedInputs) (q : Place) → is_start_at inputs.objects q ≡ false → role_at inputs q ≡ None
unfolding role_at
no_role inputs q h = by (code_at inputs.objects q) h
  where
    by : (o : Option SectionParts) → option_map_or (λ s. starts_on s q.offset) o false ≡ false → option_and_then (role_on inputs q) o ≡ None
    by None e = refl
    by (Some s) e = ap (λ b. cond b (slice_get (roles_in inputs (record { object = q.object; index = q.section; section = s })) (index_on s q.offset)) None) e

-- ---- a place of code

-- there are as many marks as roles
marks_count : (n : ℕ) (rs : List Role) → length (marks_from n rs) ≡ length rs
marks_count n [] = refl
marks_count n (Alone ∷ rs) = ap suc (marks_count n rs)
marks_count n (First g ∷ rs) = ap suc (marks_count (n + 1) rs)
marks_count n (Inside ∷ rs) = ap suc (marks_count n rs)

-- the marks of a place's section, by what the code reads: a mark for each item
module _ (view now : Inputs) (groups : List Group) (sections : List (List Mark)) (same : view ≡ now) (are : ArePlanned (parsed view) groups sections)
    (q : Place) (number : PlaceNumber) (has : IsPlaceNumber (parsed now).objects q number) where
  abbrev p : ParsedInputs
  p = parsed now

  abbrev s : SectionParts
  s = has.section

  record HasMarks : Type 0 where
    marks : List Mark
    section : slice_get sections number.section ≡ Some marks
    many : length marks ≡ length (starts_in s)

  marks_there : HasMarks
  marks_there =
      let own = subst (λ x. ArePlanned (parsed x) groups sections) same are in
      let all = all_sections p.objects in
      let l : IndexedSection = record { object = q.object; index = q.section; section = s } in
      let two = code_is_section p.objects q s has.here in
      let there = number_of_section p.objects q.object q.section s two.0 in
      let at : number.section ≡ there.0 = has.section_is ∙ sym (has_number p.objects there.0 l there.1).place in
      let listed : slice_get all number.section ≡ Some l = ap (slice_get all) at ∙ there.1 in
      let before = length (flat_map (groups_in p) (take number.section all)) in
      let none : 0 + before ≡ before = omega arith in
      record {
        marks = marks_from before (roles_in p l);
        section = ap (λ ms. slice_get ms number.section) own.marks_are ∙ section_get (roles_in p) 0 all number.section l listed
            ∙ ap (λ n. Some (marks_from n (roles_in p l))) none;
        many = marks_count before (roles_in p l) ∙ roles_length p l two.1;
      }

  pub place_within : number.section < length sections
  place_within = slice_get_within sections number.section marks_there.marks marks_there.section

  module _ (read : List Mark) (is : read ≡ slice_index_or sections number.section read) where
    many_read : length read ≡ length (starts_in s)
    many_read = ap length (is ∙ get_or_from_slice_get sections number.section marks_there.marks read marks_there.section) ∙ marks_there.many

    -- an item starts at a place if the place has a mark
    pub marked_start : gather_fault now ≡ None → is_target_at p.objects q ≡ true → number.index < length read → is_start_at p.objects q ≡ true
    marked_start none target less = by (or_cases (is_start_at p.objects q) (is_end_at p.objects q) target)
      where
        by : (is_start_at p.objects q ≡ true) ⊎ (is_end_at p.objects q ≡ true) → is_start_at p.objects q ≡ true
        by (inl start) = start
        by (inr end) =
            let two = code_is_section p.objects q s has.here in
            let whole = code_whole now q s none has.here in
            let over : q.offset ≡ length s.bytes = eqb-true _ _ (ap (λ o. option_map_or (λ t. eqb q.offset (length t.bytes)) o false) (sym has.here) ∙ end) in
            let all : index_on s q.offset ≡ length (starts_in s) = ap (index_on s) over ∙ ap length (before_end_all s two.1 whole) in
            absurd (omega (arith, less, all, has.index_is, many_read))

    -- where no mark is read, no item starts
    pub unmarked_start : length read ≤ number.index → is_start_at p.objects q ≡ false
    unmarked_start over = false_from_ne_true (is_start_at p.objects q) (λ start.
        let starts : starts_on s q.offset ≡ true = sym (ap (λ o. option_map_or (λ t. starts_on t q.offset) o false) has.here) ∙ start in
        omega (arith, over, has.index_is, filter_less q.offset (starts_in s) starts, many_read))
