-- If no piece is aligned above 2 bytes, smaller sizes make every distance shorter. So a form whose target is in range at a choice
-- that fits has it in range at every smaller one, and no round passes a choice that fits.
use Rattle.std.proofs.Common.{◌≡◌, ℕ, zero, suc, ◌+◌, ◌%◌, ◌<◌, ◌≤◌, Bool, true, false, cond, List, [], ◌∷◌, map, length, All, refl, sym, ap, ◌∙◌, arith, inl, inr, subst}
use Rattle.std.specs.Prelude.{slice_index}
use Rattle.std.proofs.lemmas.List.Elements.{All-tail}
use Rattle.std.proofs.lemmas.Bool.{and_parts, cases_lt, cases_order, true≢false}
use Rattle.shrink_layout.specs.declared.piece.Piece.{Piece}
use Rattle.shrink_layout.specs.Forms.{shortest, longer, IsEvenPiece, IsForm, width, target}
use Rattle.shrink_layout.specs.Layout.{addresses_of, form_reaches_at, fit_from, grown_from, Fits, round, IsLayout}
use Rattle.shrink_layout.specs.Least.{AreForms, IsLeast, IsTight}
use Rattle.shrink_layout.proofs.AddressLaws.{ascending, even_address, first_address}
use Rattle.shrink_layout.proofs.Distances.{Nearer, holds_nearer}
use Rattle.shrink_layout.proofs.FormLaws.{even_after, longer_least, shortest_least, tight_width}
use Rattle.shrink_layout.proofs.RoundLaws.{round_forms}

-- no size is larger than the other choice's
abbrev pub Below : List ℕ → List ℕ → Type 0
Below [] other = Unit {0}
Below (r ∷ sizes) [] = ⊥
Below (r ∷ sizes) (s ∷ other) = (r ≤ s) × Below sizes other

-- the sizes are no larger at each place
pub below_at : (sizes other : List ℕ) → Below sizes other → (k : ℕ) → slice_index sizes k ≤ slice_index other k
below_at [] other h k = omega arith
below_at (r ∷ sizes) [] h k = absurd h
below_at (r ∷ sizes) (s ∷ other) h zero = h.0
below_at (r ∷ sizes) (s ∷ other) h (suc k) = below_at sizes other h.1 k

-- ---- ways

-- with smaller sizes a distance is no longer, even if some pieces are others
pub closer :
    (low high : ℕ) (pieces others : List Piece) (sizes other : List ℕ) → All IsEvenPiece pieces → All IsTight pieces → All IsEvenPiece others → All IsTight others
    → low % 2 ≡ 0 → high % 2 ≡ 0 → AreForms pieces sizes → AreForms others other → Below sizes other → (i j : ℕ) → i ≤ j → j ≤ length pieces
    → slice_index (addresses_of low pieces sizes) j + slice_index (addresses_of high others other) i ≤ slice_index (addresses_of high others other) j + slice_index (addresses_of low pieces sizes) i
closer low high [] others sizes other even tight even' tight' e e' h h' b zero zero le within = omega arith
closer low high [] others sizes other even tight even' tight' e e' h h' b zero (suc j) le within = absurd (omega arith)
closer low high [] others sizes other even tight even' tight' e e' h h' b (suc i) j le within = absurd (omega arith)
closer low high (p ∷ pieces) others [] other even tight even' tight' e e' h h' b i j le within = absurd h
closer low high (p ∷ pieces) [] (r ∷ sizes) [] even tight even' tight' e e' h h' b i j le within = absurd b
closer low high (p ∷ pieces) [] (r ∷ sizes) (s ∷ other) even tight even' tight' e e' h h' b i j le within = absurd h'
closer low high (p ∷ pieces) (p' ∷ others) (r ∷ sizes) [] even tight even' tight' e e' h h' b i j le within = absurd h'
closer low high (p ∷ pieces) (p' ∷ others) (r ∷ sizes) (s ∷ other) even tight even' tight' e e' h h' b zero zero le within = omega arith
closer low high (p ∷ pieces) (p' ∷ others) (r ∷ sizes) (s ∷ other) even tight even' tight' e e' h h' b zero (suc j) le within =
    let is_even = even 0 p (omega arith) in
    let is_even' = even' 0 p' (omega arith) in
    let rest = closer (low + width p r low) (high + width p' s high) pieces others sizes other (All-tail IsEvenPiece p pieces even) (All-tail IsTight p pieces tight) (All-tail IsEvenPiece p' others even') (All-tail IsTight p' others tight') (even_after p r low is_even h.0 e) (even_after p' s high is_even' h'.0 e') h.1 h'.1 b.1 zero j (omega arith) (omega arith) in
    let first = first_address (low + width p r low) pieces sizes in
    let first' = first_address (high + width p' s high) others other in
    let w = tight_width p r low (tight 0 p (omega arith)) h.0 e in
    let w' = tight_width p' s high (tight' 0 p' (omega arith)) h'.0 e' in
    omega (arith, rest, first, first', w, w', b.0)
closer low high (p ∷ pieces) (p' ∷ others) (r ∷ sizes) (s ∷ other) even tight even' tight' e e' h h' b (suc i) zero le within = absurd (omega arith)
closer low high (p ∷ pieces) (p' ∷ others) (r ∷ sizes) (s ∷ other) even tight even' tight' e e' h h' b (suc i) (suc j) le within =
    let is_even = even 0 p (omega arith) in
    let is_even' = even' 0 p' (omega arith) in
    closer (low + width p r low) (high + width p' s high) pieces others sizes other (All-tail IsEvenPiece p pieces even) (All-tail IsTight p pieces tight) (All-tail IsEvenPiece p' others even') (All-tail IsTight p' others tight') (even_after p r low is_even h.0 e) (even_after p' s high is_even' h'.0 e') h.1 h'.1 b.1 i j (omega arith) (omega arith)

-- each distance is shorter, in either direction
pub nearer :
    (low high : ℕ) (pieces others : List Piece) (sizes other : List ℕ) → All IsEvenPiece pieces → All IsTight pieces → All IsEvenPiece others → All IsTight others
    → low % 2 ≡ 0 → high % 2 ≡ 0 → length others ≡ length pieces → AreForms pieces sizes → AreForms others other → Below sizes other
    → (k t : ℕ) → k ≤ length pieces → t ≤ length pieces
    → Nearer (slice_index (addresses_of low pieces sizes) k) (slice_index (addresses_of low pieces sizes) t) (slice_index (addresses_of high others other) k) (slice_index (addresses_of high others other) t)
nearer low high pieces others sizes other even tight even' tight' e e' same h h' b k t in_k in_t =
    elim (cases_lt t k) [
      | inl before ↦ inr (ascending low pieces sizes h t k (omega arith) in_k, ascending high others other h' t k (omega arith) (omega (arith, same, in_k)), closer low high pieces others sizes other even tight even' tight' e e' h h' b t k (omega arith) in_k)
      | inr after ↦ inl (ascending low pieces sizes h k t after in_t, ascending high others other h' k t after (omega (arith, same, in_t)), closer low high pieces others sizes other even tight even' tight' e e' h h' b k t after in_t)
    ]

-- ---- rounds

-- a piece grows only if the other choice has a longer form
head_below : (b : Bool) (p : Piece) (r s : ℕ) → IsForm p r → IsForm p s → r ≤ s → (b ≡ false → r < s) → cond b r (longer p r) ≤ s
head_below true p r s h h' le f = le
head_below false p r s h h' le f = longer_least p r s h h' (f refl)

-- what a round makes of smaller sizes is no larger than the other choice; a and a' are the addresses at the two, and n counts all
-- pieces
below_grown : (a a' : List ℕ) (n k : ℕ) (pieces : List Piece) (sizes other : List ℕ) → ((j : ℕ) → slice_index a j % 2 ≡ 0)
    → ((k t : ℕ) → k ≤ n → t ≤ n → Nearer (slice_index a k) (slice_index a t) (slice_index a' k) (slice_index a' t))
    → k + length pieces ≤ n → All (λ p. target p ≤ n) pieces → AreForms pieces sizes → AreForms pieces other → Below sizes other → fit_from a' k pieces other ≡ true
    → Below (grown_from a k pieces sizes) other
below_grown a a' n k [] sizes other even near within targets h h' b fits = b
below_grown a a' n k (p ∷ pieces) [] other even near within targets h h' b fits = absurd h
below_grown a a' n k (p ∷ pieces) (r ∷ sizes) [] even near within targets h h' b fits = absurd h'
below_grown a a' n k (p ∷ pieces) (r ∷ sizes) (s ∷ other) even near within targets h h' b fits =
    let parts = and_parts (form_reaches_at a' k p s) (fit_from a' (k + 1) pieces other) fits in
    let strictly : form_reaches_at a k p r ≡ false → r < s =
    λ out. elim (cases_order r s) [
      | inl same ↦
          let there : form_reaches_at a' k p r ≡ true = ap (form_reaches_at a' k p) same ∙ parts.0 in
          let here : form_reaches_at a k p r ≡ true = holds_nearer p r _ _ _ _ (even k) (even (target p)) (near k (target p) (omega arith) (targets 0 p (omega arith))) there in
          absurd (true≢false (sym here ∙ out))
      | inr differ ↦ elim differ [ inl lt ↦ lt | inr gt ↦ absurd (omega (arith, b.0)) ]
    ] in
    (head_below (form_reaches_at a k p r) p r s h.0 h'.0 b.0 strictly, below_grown a a' n (k + 1) pieces sizes other even near (omega arith) (All-tail (λ q. target q ≤ n) p pieces targets) h.1 h'.1 b.1 parts.1)

-- the shortest forms are below every choice
shortest_below : (pieces : List Piece) (other : List ℕ) → AreForms pieces other → Below (map shortest pieces) other
shortest_below [] other h = tt
shortest_below (p ∷ pieces) [] h = absurd h
shortest_below (p ∷ pieces) (s ∷ other) h = (shortest_least p s h.0, shortest_below pieces other h.1)

-- no round passes a choice that fits
pub round_below : (text : ℕ) (pieces : List Piece) (r : ℕ) (other : List ℕ) → text % 2 ≡ 0 → All IsEvenPiece pieces → All IsTight pieces → All (λ p. target p ≤ length pieces) pieces
    → AreForms pieces other → Fits text pieces other → Below (round text pieces r) other
round_below text pieces zero other e even tight targets h fits = shortest_below pieces other h
round_below text pieces (suc r) other e even tight targets h fits =
    let so_far = round_below text pieces r other e even tight targets h fits in
    let forms = round_forms text pieces r in
    below_grown (addresses_of text pieces (round text pieces r)) (addresses_of text pieces other) (length pieces) 0 pieces (round text pieces r) other (even_address text pieces (round text pieces r) even forms e) (nearer text text pieces pieces (round text pieces r) other even tight even tight e e refl forms h so_far) (omega arith) targets forms h so_far fits

-- the first round that fits is the least
pub least : (text : ℕ) (pieces : List Piece) (sizes : List ℕ) → text % 2 ≡ 0 → All IsEvenPiece pieces → All IsTight pieces → All (λ p. target p ≤ length pieces) pieces
    → IsLayout text pieces sizes → IsLeast text pieces sizes
least text pieces sizes e even tight targets is = record {
  fits = is.fits;
  least = λ other h fits k.
      let below = round_below text pieces is.rounds other e even tight targets h fits in
      below_at sizes other (subst (λ s. Below s other) (sym is.is) below) k;
}
