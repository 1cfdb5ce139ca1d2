-- Distances: a form that reaches between two addresses reaches between two that are nearer, if these are even.
use Rattle.std.proofs.Common.{◌≡◌, ℕ, suc, pos, negsuc, ◌-ℤ◌, ◌+ℤ◌, ◌+◌, ◌-◌, ◌%◌, ◌^◌, ◌<◌, ◌≤◌, ◌⊎◌, Bool, true, false, cond, eqb, ltb, refl, sym, ap, ◌∙◌, arith, inl, inr}
use Rattle.std.proofs.Math.IntN.{+ℤ-neg_ℤ_cancel, +ℤ_comm}
use Rattle.std.proofs.lemmas.Bool.{and_from, and_parts, cases_lt, eq-eqb, lt-ltb, ltb-true}
use Rattle.psabi_reloc.specs.Reaches.{is_even_of}
use Rattle.shrink_layout.specs.declared.piece.Piece.{Piece}
use Rattle.shrink_layout.specs.declared.piece.Piece.TheVariants.{Fixed, WithOthers, Align, Branch, Jump}
use Rattle.shrink_layout.specs.Forms.{distance, form_reaches}

-- ---- what a distance is

-- from an address to one that is n bytes on
on_by : (a n : ℕ) → distance a (a + n) ≡ pos n
on_by a n =
    let sum : n + a ≡ a + n = omega arith in
    ap (λ m. pos m -ℤ pos a) (sym sum) ∙ +ℤ-neg_ℤ_cancel (pos n) (pos a)

-- the distance back from an address that is k + 1 bytes further on
back_by : (b k : ℕ) → distance (b + suc k) b ≡ negsuc k
back_by b k =
    let down : pos (b + suc k) +ℤ negsuc k ≡ pos b = +ℤ-neg_ℤ_cancel (pos b) (pos (suc k)) in
    let up : negsuc k +ℤ pos (b + suc k) ≡ pos b = +ℤ_comm (negsuc k) (pos (b + suc k)) ∙ down in
    ap (λ z. z -ℤ pos (b + suc k)) (sym up) ∙ +ℤ-neg_ℤ_cancel (negsuc k) (pos (b + suc k))

-- forth it is the difference
pub distance_on : (f t : ℕ) → f ≤ t → distance f t ≡ pos (t - f)
distance_on f t le =
    let sum : f + (t - f) ≡ t = omega arith in
    ap (distance f) (sym sum) ∙ on_by f (t - f)

-- the distance back to a lower address
pub distance_back : (f t : ℕ) → t < f → distance f t ≡ negsuc (f - t - 1)
distance_back f t lt =
    let sum : t + suc (f - t - 1) ≡ f = omega arith in
    ap (λ a. distance a t) (sym sum) ∙ back_by t (f - t - 1)

-- ---- what reaches

-- from the one address to the other it is no farther than between two others, and in the same direction
abbrev pub Nearer : ℕ → ℕ → ℕ → ℕ → Type 0
Nearer f' t' f t = ((f' ≤ t') × (f ≤ t) × (t' + f ≤ t + f')) ⊎ ((t' ≤ f') × (t ≤ f) × (f' + t ≤ f + t'))

-- how far it is, if it reaches
reach_on : (bits f t : ℕ) → f ≤ t → is_even_of bits (distance f t) ≡ true → t - f < 2 ^ (bits - 1)
reach_on bits f t le reached =
    let there = ap (is_even_of bits) (sym (distance_on f t le)) ∙ reached in
    ltb-true (t - f) (2 ^ (bits - 1)) (and_parts (ltb (t - f) (2 ^ (bits - 1))) (eqb ((t - f) % 2) 0) there).0

-- also if it is back
reach_back : (bits f t : ℕ) → t < f → is_even_of bits (distance f t) ≡ true → f - t - 1 < 2 ^ (bits - 1)
reach_back bits f t lt reached =
    let there = ap (is_even_of bits) (sym (distance_back f t lt)) ∙ reached in
    ltb-true (f - t - 1) (2 ^ (bits - 1)) (and_parts (ltb (f - t - 1) (2 ^ (bits - 1))) (eqb ((f - t - 1) % 2) 1) there).0

-- even addresses that are no farther away than this are in range
on_reach : (bits f t : ℕ) → f ≤ t → f % 2 ≡ 0 → t % 2 ≡ 0 → t - f < 2 ^ (bits - 1) → is_even_of bits (distance f t) ≡ true
on_reach bits f t le e e' near =
    ap (is_even_of bits) (distance_on f t le)
    ∙ and_from (ltb (t - f) (2 ^ (bits - 1))) (eqb ((t - f) % 2) 0) (lt-ltb (t - f) (2 ^ (bits - 1)) near) (eq-eqb ((t - f) % 2) 0 (omega arith))

-- also if it is back
back_reach : (bits f t : ℕ) → t < f → f % 2 ≡ 0 → t % 2 ≡ 0 → f - t - 1 < 2 ^ (bits - 1) → is_even_of bits (distance f t) ≡ true
back_reach bits f t lt e e' near =
    ap (is_even_of bits) (distance_back f t lt)
    ∙ and_from (ltb (f - t - 1) (2 ^ (bits - 1))) (eqb ((f - t - 1) % 2) 1) (lt-ltb (f - t - 1) (2 ^ (bits - 1)) near) (eq-eqb ((f - t - 1) % 2) 1 (omega arith))

-- if an address is in range, so is one that is nearer
pub reaches_nearer : (bits f' t' f t : ℕ) → 0 < 2 ^ (bits - 1) → f' % 2 ≡ 0 → t' % 2 ≡ 0 → Nearer f' t' f t → is_even_of bits (distance f t) ≡ true → is_even_of bits (distance f' t') ≡ true
reaches_nearer bits f' t' f t some e e' (inl on) reached =
    let far = reach_on bits f t on.1 reached in
    on_reach bits f' t' on.0 e e' (omega arith)
reaches_nearer bits f' t' f t some e e' (inr back) reached = elim (cases_lt t' f') [
  | inl lt ↦
      let lt' : t < f = omega arith in
      let far = reach_back bits f t lt' reached in
      back_reach bits f' t' lt e e' (omega arith)
  | inr le ↦ on_reach bits f' t' le e e' (omega arith)
]

-- a test of two cases that both stay true
either_way : (b x x' y y' : Bool) → (x ≡ true → x' ≡ true) → (y ≡ true → y' ≡ true) → cond b x y ≡ true → cond b x' y' ≡ true
either_way true x x' y y' f g h = f h
either_way false x x' y y' f g h = g h

-- if a target is in a form's range, so is one that is nearer
pub holds_nearer : (p : Piece) (size f' t' f t : ℕ) → f' % 2 ≡ 0 → t' % 2 ≡ 0 → Nearer f' t' f t → form_reaches p size f t ≡ true → form_reaches p size f' t' ≡ true
holds_nearer (Fixed n) size f' t' f t e e' near reached = refl
holds_nearer (WithOthers n) size f' t' f t e e' near reached = refl
holds_nearer (Align alignment) size f' t' f t e e' near reached = refl
holds_nearer (Branch to short) size f' t' f t e e' near reached =
    either_way (eqb size 2) _ _ _ _ (reaches_nearer 9 f' t' f t (omega arith) e e' near) (either_way (eqb size 4) _ _ _ _ (reaches_nearer 13 f' t' f t (omega arith) e e' near) (λ h. h)) reached
holds_nearer (Jump to) size f' t' f t e e' near reached = either_way (eqb size 2) _ _ _ _ (reaches_nearer 12 f' t' f t (omega arith) e e' near) (λ h. h) reached
