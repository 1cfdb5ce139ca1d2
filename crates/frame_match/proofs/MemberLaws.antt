-- Members of lists, and the longest of what was found.
use Prim.Native.Nat.{zero}
use Rattle.std.proofs.Common.{◌≡◌, ◌∙◌, ℕ, suc, ◌+◌, ◌<◌, ◌≤◌, List, [], ◌∷◌, ◌++◌, Option, Some, None, Bool, true, false, cond, length, take, drop, ltb, refl, sym, ap, arith, subst, inl, inr}
use Rattle.std.specs.Prelude.{◌⊎◌, ◌&&◌, IfSome}
use Rattle.std.specs.List.{flat_map, fold, list_all, list_any, range_with_len, slice_get}
use Rattle.std.specs.Option.{option_to_list}
use Rattle.std.proofs.lemmas.Bool.{and_parts, le-ltb, lt-ltb, ltb-false, ltb-true, cases_lt, or_cases}
use Rattle.std.proofs.lemmas.Option.{none-some, same_Some}
use Rattle.frame_match.specs.declared.found.Found.{Found}
use Rattle.frame_match.specs.Matches.{longer_of}
use Rattle.frame_match.specs.Invariants.Kinds.{longer_or, Beats}

-- ---- members

abbrev pub In : {X : Type 0} → X → List X → Type 0
In x [] = ⊥
In x (y ∷ ys) = (x ≡ y) ⊎ In x ys

pub in_left : {X : Type 0} (x : X) (xs ys : List X) → In x xs → In x (xs ++ ys)
in_left x [] ys h = absurd h
in_left x (z ∷ zs) ys (inl e) = inl e
in_left x (z ∷ zs) ys (inr h) = inr (in_left x zs ys h)

pub in_right : {X : Type 0} (x : X) (xs ys : List X) → In x ys → In x (xs ++ ys)
in_right x [] ys h = h
in_right x (z ∷ zs) ys h = inr (in_right x zs ys h)

pub in_cases : {X : Type 0} (x : X) (xs ys : List X) → In x (xs ++ ys) → In x xs ⊎ In x ys
in_cases x [] ys h = inr h
in_cases x (z ∷ zs) ys (inl e) = inl (inl e)
in_cases x (z ∷ zs) ys (inr h) = by (in_cases x zs ys h)
  where
    by : In x zs ⊎ In x ys → In x (z ∷ zs) ⊎ In x ys
    by (inl g) = inl (inr g)
    by (inr g) = inr g

pub in_flat_map : {X Y : Type 0} (f : X → List Y) (xs : List X) (x : X) (y : Y) → In x xs → In y (f x) → In y (flat_map f xs)
in_flat_map f [] x y h g = absurd h
in_flat_map f (z ∷ zs) x y (inl e) g = in_left y (f z) (flat_map f zs) (subst (λ w. In y (f w)) e g)
in_flat_map f (z ∷ zs) x y (inr h) g = in_right y (f z) (flat_map f zs) (in_flat_map f zs x y h g)

pub flat_map_cases : {X Y : Type 0} (f : X → List Y) (xs : List X) (y : Y) → In y (flat_map f xs) → (x : X) × In x xs × In y (f x)
flat_map_cases f [] y h = absurd h
flat_map_cases f (z ∷ zs) y h = by (in_cases y (f z) (flat_map f zs) h) (λ g. flat_map_cases f zs y g)
  where
    by : In y (f z) ⊎ In y (flat_map f zs) → (In y (flat_map f zs) → (x : _) × In x zs × In y (f x)) → (x : _) × In x (z ∷ zs) × In y (f x)
    by (inl g) rest = (z, inl refl, g)
    by (inr g) rest = let w = rest g in (w.0, inr w.1, w.2)

pub flat_map_same : {X Y : Type 0} (f g : X → List Y) → ((x : X) → f x ≡ g x) → (xs : List X) → flat_map f xs ≡ flat_map g xs
flat_map_same f g h [] = refl
flat_map_same f g h (x ∷ xs) = ap (λ l. l ++ flat_map f xs) (h x) ∙ ap (λ l. g x ++ l) (flat_map_same f g h xs)

pub in_cond : {X : Type 0} (b : Bool) (x y : X) → In y (cond b (x ∷ []) []) → (b ≡ true) × (y ≡ x)
in_cond true x y (inl e) = (refl, e)
in_cond true x y (inr h) = absurd h
in_cond false x y h = absurd h

pub in_range : (a n m : ℕ) → a ≤ m → m < a + n → In m (range_with_len a n)
in_range a zero m low high = absurd (omega (arith, low, high))
in_range a (suc n) m low high = by (cases_lt a m) (λ h. in_range (a + 1) n m (omega (arith, h)) (omega (arith, high)))
  where
    by : (a < m) ⊎ (m ≤ a) → (a < m → In m (range_with_len (a + 1) n)) → In m (range_with_len a (suc n))
    by (inl h) rest = inr (rest h)
    by (inr h) rest = inl (omega (arith, low, h))

pub range_cases : (a n m : ℕ) → In m (range_with_len a n) → (a ≤ m) × (m < a + n)
range_cases a zero m h = absurd h
range_cases a (suc n) m (inl e) = (omega (arith, e), omega (arith, e))
range_cases a (suc n) m (inr h) = let w = range_cases (a + 1) n m h in (omega (arith, w.0), omega (arith, w.1))

-- ---- tests of lists, by index

pub get_some : {X : Type 0} (xs : List X) (m : ℕ) → m < length xs → (x : X) × (slice_get xs m ≡ Some x)
get_some [] m h = absurd (omega (arith, h))
get_some (x ∷ xs) zero h = (x, refl)
get_some (x ∷ xs) (suc m) h = get_some xs m (omega (arith, h))

pub get_drop : {X : Type 0} (n : ℕ) (xs : List X) (m : ℕ) → slice_get (drop n xs) m ≡ slice_get xs (n + m)
get_drop zero xs m = let e : m ≡ 0 + m = omega arith in ap (slice_get xs) e
get_drop (suc n) [] m = refl
get_drop (suc n) (x ∷ xs) m = let e : suc (n + m) ≡ suc n + m = omega arith in get_drop n xs m ∙ ap (slice_get (x ∷ xs)) e

pub get_take : {X : Type 0} (n : ℕ) (xs : List X) (m : ℕ) → m < n → slice_get (take n xs) m ≡ slice_get xs m
get_take zero xs m h = absurd (omega (arith, h))
get_take (suc n) [] m h = refl
get_take (suc n) (x ∷ xs) zero h = refl
get_take (suc n) (x ∷ xs) (suc m) h = get_take n xs m (omega (arith, h))

pub all_get : {X : Type 0} (p : X → Bool) (xs : List X) (m : ℕ) (x : X) → list_all p xs ≡ true → slice_get xs m ≡ Some x → p x ≡ true
all_get p [] m x h g = absurd (none-some x g)
all_get p (y ∷ ys) zero x h g = ap p (sym (same_Some y x g)) ∙ (and_parts (p y) (list_all p ys) h).0
all_get p (y ∷ ys) (suc m) x h g = all_get p ys m x (and_parts (p y) (list_all p ys) h).1 g

pub all_from : {X : Type 0} (p : X → Bool) (xs : List X) → ((m : ℕ) (x : X) → slice_get xs m ≡ Some x → p x ≡ true) → list_all p xs ≡ true
all_from p [] h = refl
all_from p (y ∷ ys) h = ap (λ b. b && list_all p ys) (h 0 y refl) ∙ all_from p ys (λ m x g. h (suc m) x g)

pub any_get : {X : Type 0} (p : X → Bool) (xs : List X) → list_any p xs ≡ true → (m : ℕ) × (x : X) × (slice_get xs m ≡ Some x) × (p x ≡ true)
any_get p [] h = absurd cc
any_get p (y ∷ ys) h = by (or_cases (p y) (list_any p ys) h) (λ g. any_get p ys g)
  where
    by : (p y ≡ true) ⊎ (list_any p ys ≡ true) → (list_any p ys ≡ true → (m : ℕ) × (x : _) × (slice_get ys m ≡ Some x) × (p x ≡ true))
        → (m : ℕ) × (x : _) × (slice_get (y ∷ ys) m ≡ Some x) × (p x ≡ true)
    by (inl e) rest = (0, y, refl, e)
    by (inr g) rest = let w = rest g in (suc w.0, w.1, w.2, w.3)

-- ---- the longest

-- the longest of the members of a list and of the best one so far
longest_from : (xs : List Found) (kept r : Option Found) → IfSome r (λ g. (kept ≡ Some g) ⊎ In g xs)
    → ((g : Found) → (kept ≡ Some g) ⊎ In g xs → Beats r g) → fold longer_of kept xs ≡ r
longest_from [] kept r known each = by kept r known each
  where
    by : (kept r : Option Found) → IfSome r (λ g. (kept ≡ Some g) ⊎ In g []) → ((g : Found) → (kept ≡ Some g) ⊎ In g [] → Beats r g) → kept ≡ r
    by None None known each = refl
    by None (Some g) (inl e) each = e
    by None (Some g) (inr h) each = absurd h
    by (Some a) None known each = let b = (each a (inl refl)).is in absurd (none-some _ b)
    by (Some a) (Some g) (inl e) each = e
    by (Some a) (Some g) (inr h) each = absurd h
longest_from (x ∷ xs) kept r known each = longest_from xs (longer_of kept x) r (next r known each) (λ g h. each g (one kept g h))
  where
    one : (kept : Option Found) (g : Found) → (longer_of kept x ≡ Some g) ⊎ In g xs → (kept ≡ Some g) ⊎ In g (x ∷ xs)
    one kept g (inr h) = inr (inr h)
    one None g (inl e) = inr (inl (sym (same_Some x g e)))
    one (Some a) g (inl e) = by (ltb a.items x.items) e
      where
        by : (b : Bool) → cond b (Some x) (Some a) ≡ Some g → (Some a ≡ Some g) ⊎ In g (x ∷ xs)
        by true e = inr (inl (sym (same_Some x g e)))
        by false e = inl e

    -- the best member so far stays the best
    stays : (g : Found) → ((h : Found) → (kept ≡ Some h) ⊎ In h (x ∷ xs) → Beats (Some g) h) → kept ≡ Some g → longer_of kept x ≡ Some g
    stays g each e = ap (λ k. longer_of k x) e ∙ ap (λ b. cond b (Some x) (Some g)) (le-ltb g.items x.items (most (each x (inr (inl refl)))))
      where
        most : Beats (Some g) x → x.items ≤ g.items
        most b = by b.more
          where
            size : g.items ≡ b.best.items
            size = ap (λ (u : Found). u.items) (same_Some g b.best b.is)

            by : (x ≡ b.best) ⊎ (x.items < b.best.items) → x.items ≤ g.items
            by (inl e) = let f = ap (λ (u : Found). u.items) e in let s = size in omega (arith, f, s)
            by (inr l) = let s = size in omega (arith, l, s)

    -- the next member becomes the best, or the best one stays
    comes : (kept : Option Found) → ((h : Found) → (kept ≡ Some h) ⊎ In h (x ∷ xs) → Beats (Some x) h) → longer_of kept x ≡ Some x
    comes None each = refl
    comes (Some a) each = by (each a (inl refl))
      where
        by : Beats (Some x) a → longer_of (Some a) x ≡ Some x
        by b = go b.more
          where
            best : x ≡ b.best
            best = same_Some x b.best b.is

            split : (t : Bool) → a ≡ x → cond t (Some x) (Some a) ≡ Some x
            split true e = refl
            split false e = ap Some e

            go : (a ≡ b.best) ⊎ (a.items < b.best.items) → longer_of (Some a) x ≡ Some x
            go (inl e) = split (ltb a.items x.items) (e ∙ sym best)
            go (inr l) =
                let s : x.items ≡ b.best.items = ap (λ (u : Found). u.items) best in
                ap (λ t. cond t (Some x) (Some a)) (lt-ltb a.items x.items (omega (arith, l, s)))

    next : (r : Option Found) → IfSome r (λ g. (kept ≡ Some g) ⊎ In g (x ∷ xs)) → ((g : Found) → (kept ≡ Some g) ⊎ In g (x ∷ xs) → Beats r g)
        → IfSome r (λ g. (longer_of kept x ≡ Some g) ⊎ In g xs)
    next None known each = tt
    next (Some g) (inl e) each = inl (stays g each e)
    next (Some g) (inr (inl e)) each =
        inl (comes kept (λ h i. subst (λ (u : Found). Beats (Some u) h) e (each h i)) ∙ ap Some (sym e))
    next (Some g) (inr (inr h)) each = inr h

-- what is a member and has more items than the others is the longest
pub longest_is : (xs : List Found) (r : Option Found) → IfSome r (λ g. In g xs) → ((g : Found) → In g xs → Beats r g) → fold longer_of None xs ≡ r
longest_is xs r known each = longest_from xs None r (wider r known) (λ g h. each g (narrower g h))
  where
    wider : (r : Option Found) → IfSome r (λ g. In g xs) → IfSome r (λ g. (None ≡ Some g) ⊎ In g xs)
    wider None h = tt
    wider (Some g) h = inr h

    narrower : (g : Found) → (None ≡ Some g) ⊎ In g xs → In g xs
    narrower g (inl e) = absurd (none-some g e)
    narrower g (inr h) = h

-- the longest of two lists
none_longer : (o : Option Found) → longer_or None o ≡ o
none_longer None = refl
none_longer (Some g) = refl

longer_three : (x : Found) (r s : Option Found) → longer_or (longer_of r x) s ≡ longer_or r (longer_or (Some x) s)
longer_three x None None = refl
longer_three x None (Some h) = sym (none_longer (longer_of (Some x) h))
longer_three x (Some f) None = refl
longer_three x (Some f) (Some h) = by _ _ refl refl
  where
    by : (a b : Bool) → ltb f.items x.items ≡ a → ltb x.items h.items ≡ b → longer_or (longer_of (Some f) x) (Some h) ≡ longer_or (Some f) (longer_of (Some x) h)
    by true true p q =
        ap (λ b. longer_or (cond b (Some x) (Some f)) (Some h)) p ∙ ap (λ b. cond b (Some h) (Some x)) q
        ∙ sym (ap (λ b. longer_or (Some f) (cond b (Some h) (Some x))) q
        ∙ ap (λ b. cond b (Some h) (Some f)) (lt-ltb f.items h.items (omega (arith, ltb-true _ _ p, ltb-true _ _ q))))
    by true false p q =
        ap (λ b. longer_or (cond b (Some x) (Some f)) (Some h)) p ∙ ap (λ b. cond b (Some h) (Some x)) q
        ∙ sym (ap (λ b. longer_or (Some f) (cond b (Some h) (Some x))) q ∙ ap (λ b. cond b (Some x) (Some f)) p)
    by false true p q =
        ap (λ b. longer_or (cond b (Some x) (Some f)) (Some h)) p ∙ sym (ap (λ b. longer_or (Some f) (cond b (Some h) (Some x))) q)
    by false false p q =
        ap (λ b. longer_or (cond b (Some x) (Some f)) (Some h)) p
        ∙ ap (λ b. cond b (Some h) (Some f)) (le-ltb f.items h.items (omega (arith, ltb-false _ _ p, ltb-false _ _ q)))
        ∙ sym (ap (λ b. longer_or (Some f) (cond b (Some h) (Some x))) q ∙ ap (λ b. cond b (Some x) (Some f)) p)

pub fold_longer : (r : Option Found) (xs : List Found) → fold longer_of r xs ≡ longer_or r (fold longer_of None xs)
fold_longer r [] = refl
fold_longer r (x ∷ xs) =
    fold_longer (longer_of r x) xs ∙ longer_three x r (fold longer_of None xs) ∙ ap (longer_or r) (sym (fold_longer (Some x) xs))

pub fold_append : (r : Option Found) (xs ys : List Found) → fold longer_of r (xs ++ ys) ≡ fold longer_of (fold longer_of r xs) ys
fold_append r [] ys = refl
fold_append r (x ∷ xs) ys = fold_append (longer_of r x) xs ys

pub fold_one : (r o : Option Found) → fold longer_of r (option_to_list o) ≡ longer_or r o
fold_one r None = refl
fold_one r (Some g) = refl
