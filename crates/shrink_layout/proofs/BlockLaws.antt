-- Pieces that are moved: which ones take as many bytes as before, and whose targets are in range as before.
use Rattle.std.proofs.Common.{◌≡◌, ℕ, zero, suc, pos, negsuc, ◌+◌, ◌-◌, ◌%◌, ◌/◌, ◌<◌, ◌≤◌, true, cond, eqb, List, length, set, get_or-set_same, get_or-set_other, refl, sym, ap, ◌∙◌, subst, arith, inl, inr}
use Rattle.std.specs.Prelude.{slice_index}
use Rattle.std.proofs.Math.Nat.{add-mod-mod, mod-mod_of_dvd}
use Rattle.std.proofs.lemmas.Bool.{cases_lt}
use Rattle.std.proofs.lemmas.Nat.Gcd.{dvd_of_mod-eq-zero, dvd_trans, mod-eq-zero_of_dvd}
use Rattle.psabi_reloc.specs.Reaches.{branch_reach, short_branch_reach, short_jump_reach}
use Rattle.shrink_layout.specs.declared.piece.Piece.{Piece}
use Rattle.shrink_layout.specs.declared.piece.Piece.TheVariants.{Fixed, WithOthers, Align, Branch, Jump}
use Rattle.shrink_layout.specs.Invariants.Blocks.{IsMovedBy, block_size, nth_piece}
use Rattle.shrink_layout.specs.Forms.{distance, form_reaches, width}
use Rattle.shrink_layout.proofs.Distances.{distance_back, distance_on}

-- ---- moves

-- a piece takes as many bytes at two addresses whose distance is such a multiple
pub same_width : (n : ℕ) (p : Piece) (size a b : ℕ) → IsMovedBy n p → a % n ≡ b % n → width p size a ≡ width p size b
same_width n (Fixed m) size a b moved e = refl
same_width n (WithOthers m) size a b moved e = refl
same_width n (Align alignment) size a b moved e =
    let divides = dvd_of_mod-eq-zero alignment moved in
    let same : a % alignment ≡ b % alignment = sym (mod-mod_of_dvd alignment a divides) ∙ ap (λ r. r % alignment) e ∙ mod-mod_of_dvd alignment b divides in
    ap (λ r. (alignment - r) % alignment) same
same_width n (Branch to short) size a b moved e = refl
same_width n (Jump to) size a b moved e = refl

-- what is so for a number is so for a multiple of it
pub moved_through : (n m : ℕ) (p : Piece) → m % n ≡ 0 → IsMovedBy n p → IsMovedBy m p
moved_through n m (Fixed size) e moved = tt
moved_through n m (WithOthers size) e moved = tt
moved_through n m (Align alignment) e moved = mod-eq-zero_of_dvd alignment (dvd_trans alignment (dvd_of_mod-eq-zero alignment moved) (dvd_of_mod-eq-zero n e))
moved_through n m (Branch to short) e moved = tt
moved_through n m (Jump to) e moved = tt

-- the pieces before number k can be moved by a multiple of their block's number
abbrev pub AreMovedTo : List Piece → List ℕ → ℕ → Type 0
AreMovedTo pieces multiples k =
    (j : ℕ) → j < k → 0 < slice_index multiples (j / block_size) → IsMovedBy (slice_index multiples (j / block_size)) (nth_piece pieces j)

-- one piece more, with which the number of its block changes
pub moved_more :
    (pieces : List Piece) (old new : List ℕ) (k x : ℕ) → k / block_size < length old → new ≡ set old (k / block_size) x
    → (0 < x → (0 < slice_index old (k / block_size)) × IsMovedBy x (nth_piece pieces k))
    → (0 < x → (p : Piece) → IsMovedBy (slice_index old (k / block_size)) p → IsMovedBy x p) → AreMovedTo pieces old k → AreMovedTo pieces new (k + 1)
moved_more pieces old new k x within is here before now = λ j lt some. elim (cases_lt (j / block_size) (k / block_size)) [
  | inl less ↦
      let same : slice_index new (j / block_size) ≡ slice_index old (j / block_size) =
      ap (λ l. slice_index l (j / block_size)) is ∙ get_or-set_other old (k / block_size) (j / block_size) x 0 (λ e. omega (arith, e, less)) in
      subst (λ n. IsMovedBy n (nth_piece pieces j)) (sym same) (now j (omega (arith, less)) (omega (arith, same, some)))
  | inr least ↦
      let block : j / block_size ≡ k / block_size = omega (arith, least, lt) in
      let is_x : slice_index new (j / block_size) ≡ x = ap (slice_index new) block ∙ ap (λ l. slice_index l (k / block_size)) is ∙ get_or-set_same old (k / block_size) x 0 within in
      let some_x : 0 < x = omega (arith, is_x, some) in
      subst (λ n. IsMovedBy n (nth_piece pieces j)) (sym is_x) (elim (cases_lt j k) [
        | inl done ↦
            let in_block : slice_index old (k / block_size) ≡ slice_index old (j / block_size) = ap (slice_index old) (sym block) in
            before some_x (nth_piece pieces j)
            (subst (λ n. IsMovedBy n (nth_piece pieces j)) (sym in_block) (now j done (omega (arith, in_block, (here some_x).0))))
        | inr new ↦ let e : k ≡ j = omega (arith, new, lt) in subst (λ m. IsMovedBy x (nth_piece pieces m)) e (here some_x).1
      ])
]

-- one piece more that is no padding
pub moved_still : (pieces : List Piece) (old new : List ℕ) (k : ℕ) → new ≡ old → ((n : ℕ) → IsMovedBy n (nth_piece pieces k)) → AreMovedTo pieces old k
    → AreMovedTo pieces new (k + 1)
moved_still pieces old new k is any now = subst (λ l. AreMovedTo pieces l (k + 1)) (sym is) (λ j lt some. elim (cases_lt j k) [
  | inl done ↦ now j done some
  | inr new ↦ let e : k ≡ j = omega (arith, new, lt) in subst (λ m. IsMovedBy (slice_index old (j / block_size)) (nth_piece pieces m)) e (any _)
])

-- addresses that were moved alike are still apart by such a multiple
pub alike_on : (n here at x y d : ℕ) → here % n ≡ at % n → x ≡ d + here → y ≡ d + at → x % n ≡ y % n
alike_on n here at x y d e is is' =
    ap (λ m. m % n) is ∙ sym (add-mod-mod d here n) ∙ ap (λ r. (d + r) % n) e ∙ add-mod-mod d at n ∙ ap (λ m. m % n) (sym is')

-- ---- distances

-- the next address is as far at the old and at the new addresses
abbrev pub IsSameStep : List ℕ → List ℕ → ℕ → Type 0
IsSameStep old new k = slice_index new (k + 1) + slice_index old k ≡ slice_index old (k + 1) + slice_index new k

-- where each address is as far from the next as before, distances are the same
pub same_way : (old new : List ℕ) (i d : ℕ) → ((k : ℕ) → i ≤ k → k < i + d → IsSameStep old new k) → slice_index new (i + d) + slice_index old i ≡ slice_index old (i + d) + slice_index new i
same_way old new i zero same = let e : i + 0 ≡ i = omega arith in omega (arith, ap (slice_index new) e, ap (slice_index old) e)
same_way old new i (suc d) same =
    let so_far = same_way old new i d (λ k ge lt. same k ge (omega arith)) in
    let e : i + suc d ≡ i + d + 1 = omega arith in
    omega (arith, so_far, ap (slice_index new) e, ap (slice_index old) e, same (i + d) (omega arith) (omega arith))

pub way_between : (old new : List ℕ) (i j : ℕ) → i ≤ j → ((k : ℕ) → i ≤ k → k < j → IsSameStep old new k) → slice_index new j + slice_index old i ≡ slice_index old j + slice_index new i
way_between old new i j le same =
    let e : i + (j - i) ≡ j = omega arith in
    let way = same_way old new i (j - i) (λ k ge lt. same k ge (omega arith)) in
    omega (arith, way, ap (slice_index new) e, ap (slice_index old) e)

-- the same difference is the same distance
same_distance : (f t f' t' : ℕ) → t' + f ≡ t + f' → distance f t ≡ distance f' t'
same_distance f t f' t' way = elim (cases_lt t f) [
  | inl back ↦
      let e : f - t - 1 ≡ f' - t' - 1 = omega arith in
      distance_back f t back ∙ ap negsuc e ∙ sym (distance_back f' t' (omega arith))
  | inr on ↦
      let e : t - f ≡ t' - f' = omega arith in
      distance_on f t on ∙ ap pos e ∙ sym (distance_on f' t' (omega arith))
]

-- whether the target is in a form's range depends on the distance alone
same_holds : (p : Piece) (size f t f' t' : ℕ) → distance f t ≡ distance f' t' → form_reaches p size f t ≡ form_reaches p size f' t'
same_holds (Fixed n) size f t f' t' e = refl
same_holds (WithOthers n) size f t f' t' e = refl
same_holds (Align alignment) size f t f' t' e = refl
same_holds (Branch to short) size f t f' t' e = ap (λ z. cond (eqb size 2) (short_branch_reach z) (cond (eqb size 4) (branch_reach z) true)) e
same_holds (Jump to) size f t f' t' e = ap (λ z. cond (eqb size 2) (short_jump_reach z) true) e

-- a target is in a form's range as before
pub still_holds : (p : Piece) (size f t f' t' : ℕ) → t' + f ≡ t + f' → form_reaches p size f t ≡ true → form_reaches p size f' t' ≡ true
still_holds p size f t f' t' way held = sym (same_holds p size f t f' t' (same_distance f t f' t' way)) ∙ held
