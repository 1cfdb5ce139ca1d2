-- Forms of one piece: the next longer one is the least above it, and what is even leaves addresses even.
use Rattle.std.proofs.Common.{◌≡◌, ℕ, ◌+◌, ◌-◌, ◌%◌, ◌<◌, ◌≤◌, ◌⊎◌, Bool, true, false, cond, eqb, ◌==◌, if◌then◌else◌, refl, ◌∙◌, arith, inl, inr}
use Rattle.std.proofs.Math.Nat.{mod-mod_of_dvd}
use Rattle.std.proofs.lemmas.Nat.Gcd.{dvd_of_mod-eq-zero}
use Rattle.std.proofs.lemmas.Bool.{true≢false}
use Rattle.std.proofs.lemmas.Bool.Decides.{nat_tests}
use Rattle.shrink_layout.specs.declared.piece.Piece.{Piece}
use Rattle.shrink_layout.specs.declared.piece.Piece.TheVariants.{Fixed, WithOthers, Align, Branch, Jump}
use Rattle.shrink_layout.specs.Forms.{shortest, longer, longest, IsForm, form_reaches, width, HasAlignment, IsEvenPiece}
use Rattle.shrink_layout.specs.Least.{IsTight}

-- ---- the forms from the shortest on

-- the number of times that a piece can still grow
abbrev pub slack : Piece → ℕ → ℕ
slack (Fixed n) size = 0
slack (WithOthers n) size = 0
slack (Align alignment) size = 0
slack (Branch to short) size = if size == 2 then 2 else (if size == 4 then 1 else 0)
slack (Jump to) size = if size == 2 then 1 else 0

-- no more than twice
pub slack_most : (p : Piece) (size : ℕ) → slack p size ≤ 2
slack_most (Fixed n) size = omega arith
slack_most (WithOthers n) size = omega arith
slack_most (Align alignment) size = omega arith
slack_most (Branch to short) size = grind (arith, nat_tests)
slack_most (Jump to) size = grind (arith, nat_tests)

-- the shortest form is one
pub shortest_form : (p : Piece) → IsForm p (shortest p)
shortest_form (Fixed n) = refl
shortest_form (WithOthers n) = refl
shortest_form (Align alignment) = refl
shortest_form (Branch to true) = inl refl
shortest_form (Branch to false) = inl refl
shortest_form (Jump to) = inl refl

-- no form is shorter
pub shortest_least : (p : Piece) (size : ℕ) → IsForm p size → shortest p ≤ size
shortest_least (Fixed n) size h = omega arith
shortest_least (WithOthers n) size h = omega arith
shortest_least (Align alignment) size h = omega arith
shortest_least (Branch to true) size h = omega arith
shortest_least (Branch to false) size h = omega arith
shortest_least (Jump to) size h = omega arith

-- the forms of a branch above the shortest
four_or_eight : (b : Bool) → (◌≡◌ {A = ℕ} (cond b 4 8) 4) ⊎ (◌≡◌ {A = ℕ} (cond b 4 8) 8)
four_or_eight true = inl refl
four_or_eight false = inr refl

-- the next longer form is one
pub longer_form : (p : Piece) (size : ℕ) → IsForm p size → IsForm p (longer p size)
longer_form (Fixed n) size h = h
longer_form (WithOthers n) size h = h
longer_form (Align alignment) size h = h
longer_form (Branch to true) size h = inr (four_or_eight (eqb size 2))
longer_form (Branch to false) size h = four_or_eight (eqb size 2)
longer_form (Jump to) size h = inr refl

-- the next longer form is no longer than any longer form
pub longer_least : (p : Piece) (r s : ℕ) → IsForm p r → IsForm p s → r < s → longer p r ≤ s
longer_least (Fixed n) r s h k lt = omega arith
longer_least (WithOthers n) r s h k lt = omega arith
longer_least (Align alignment) r s h k lt = omega arith
longer_least (Branch to true) r s h k lt = grind (arith, nat_tests)
longer_least (Branch to false) r s h k lt = grind (arith, nat_tests)
longer_least (Jump to) r s h k lt = omega arith

-- a piece that doesn't fit can still grow
pub slack_falls : (p : Piece) (size f t : ℕ) → IsForm p size → form_reaches p size f t ≡ false → slack p (longer p size) < slack p size
slack_falls (Fixed n) size f t h misses = absurd (true≢false misses)
slack_falls (WithOthers n) size f t h misses = absurd (true≢false misses)
slack_falls (Align alignment) size f t h misses = absurd (true≢false misses)
slack_falls (Branch to true) size f t h misses = grind (arith, nat_tests)
slack_falls (Branch to false) size f t h misses = grind (arith, nat_tests)
slack_falls (Jump to) size f t h misses = grind (arith, nat_tests)

-- ---- what is even

-- forms of an even piece are even
pub even_size : (p : Piece) (size : ℕ) → IsEvenPiece p → IsForm p size → size % 2 ≡ 0
even_size (Fixed n) size e h = rw h e
even_size (WithOthers n) size e h = rw h e
even_size (Align alignment) size e h = rw h refl
even_size (Branch to true) size e h = elim h [ inl a ↦ rw a refl | inr b ↦ elim b [ inl a ↦ rw a refl | inr a ↦ rw a refl ] ]
even_size (Branch to false) size e h = elim h [ inl a ↦ rw a refl | inr a ↦ rw a refl ]
even_size (Jump to) size e h = elim h [ inl a ↦ rw a refl | inr a ↦ rw a refl ]

-- what is left of an even number by an even one is even
even_rest : (n a : ℕ) → a % 2 ≡ 0 → n % 2 ≡ 0 → (n % a) % 2 ≡ 0
even_rest n a even e = mod-mod_of_dvd 2 n (dvd_of_mod-eq-zero 2 even) ∙ e

-- padding up to an even alignment is even
even_padding : (at a : ℕ) → a % 2 ≡ 0 → at % 2 ≡ 0 → ((a - at % a) % a) % 2 ≡ 0
even_padding at a even e =
    let left = even_rest at a even e in
    even_rest (a - at % a) a even (omega (arith, left))

-- an even piece at an even address takes an even number of bytes
pub even_width : (p : Piece) (size at : ℕ) → IsEvenPiece p → IsForm p size → at % 2 ≡ 0 → width p size at % 2 ≡ 0
even_width (Fixed n) size at e h even = even_size (Fixed n) size e h
even_width (WithOthers n) size at e h even = even_size (WithOthers n) size e h
even_width (Align alignment) size at e h even = even_padding at alignment e even
even_width (Branch to short) size at e h even = even_size (Branch to short) size e h
even_width (Jump to) size at e h even = even_size (Jump to) size e h

-- the address after a piece is even
pub even_after : (p : Piece) (size at : ℕ) → IsEvenPiece p → IsForm p size → at % 2 ≡ 0 → (at + width p size at) % 2 ≡ 0
even_after p size at e h even = omega (arith, even_width p size at e h even)

-- a piece that isn't aligned above 2 takes its size at an even address
pub tight_width : (p : Piece) (size at : ℕ) → IsTight p → IsForm p size → at % 2 ≡ 0 → width p size at ≡ size
tight_width (Fixed n) size at e h even = refl
tight_width (WithOthers n) size at e h even = refl
tight_width (Align alignment) size at e h even = rw (e, even, h) refl
tight_width (Branch to short) size at e h even = refl
tight_width (Jump to) size at e h even = refl

-- ---- how many bytes a piece takes

-- padding is less than its alignment
pub width_most : (p : Piece) (size at : ℕ) → HasAlignment p → IsForm p size → width p size at ≤ longest p
width_most (Fixed n) size at a h = omega arith
width_most (WithOthers n) size at a h = omega arith
width_most (Align alignment) size at a h = omega arith
width_most (Branch to true) size at a h = omega arith
width_most (Branch to false) size at a h = omega arith
width_most (Jump to) size at a h = omega arith
