-- What a write leaves of each cell: at other addresses, one write after another, and an element at a time.
use Rattle.std.proofs.Common.{◌≡◌, ◌≢◌, ℕ, ◌+◌, ◌-◌, ◌<◌, ◌≤◌, List, cond, length, get_or, set, map, refl, sym, ap, ◌∙◌, arith, slice_index, ◌⊎◌, inl, inr, leb, ltb, Bool, true, false, get_or-set_same, get_or-set_other}
use Rattle.std.specs.Prelude.{◌&&◌}
use Rattle.std.proofs.lemmas.Bool.{and_from, and_parts, cases_eq, le-leb, leb-true, lt-ltb, ltb-true}
use Rattle.std.proofs.lemmas.List.{get_or-map, length-map}
use Rattle.rv_decode.specs.Memory.{written}
use Rattle.rv_decode.proofs.MemoryLaws.{untouched}
pub use Rattle.rv_decode.proofs.WriteLaws.{written_further, written_moved, written_none, written_there}
use Rattle.sym_machine.specs.declared.word.SymByte.TheVariants.{Num, Undef}

pub not_below : (a b : ℕ) → b ≤ a → ltb a b ≡ false
not_below a b le = either (ltb a b) refl
  where
    either : (t : Bool) → ltb a b ≡ t → t ≡ false
    either true h = absurd (let l = ltb-true a b h in omega (arith, l, le))
    either false h = refl

-- a write of one cell goes only by its first byte
pub written_one : {X : Type 0} (a : ℕ) (given rest : ℕ → X) → given 0 ≡ rest 0 → (x : ℕ) (c : X) → written a 1 given x c ≡ written a 1 rest x c
written_one a given rest same x c = either (leb a x && ltb x (a + 1)) refl
  where
    either : (t : Bool) → (leb a x && ltb x (a + 1)) ≡ t → cond t (given (x - a)) c ≡ cond t (rest (x - a)) c
    either true h =
        let q = and_parts (leb a x) (ltb x (a + 1)) h in
        let first : x - a ≡ 0 = omega (arith, leb-true a x q.0, ltb-true x (a + 1) q.1) in
        ap given first ∙ same ∙ ap rest (sym first)
    either false h = refl

-- a write of n cells and then of one behind them is one write of n + 1 cells
pub written_more : {X : Type 0} (a n : ℕ) (given : ℕ → X) (x : ℕ) (c : X) → written (a + n) 1 (λ _. given n) x (written a n given x c) ≡ written a (n + 1) given x c
written_more a n given x c = written_further a n 1 given (λ _. given n) (λ k lt. ap given (let e : n ≡ n + k = omega (arith, lt) in e)) x c

pub set_more : {X : Type 0} (a n : ℕ) (given : ℕ → X) (b : X) (old cells : List X) → b ≡ given n → a + n < length cells → length cells ≡ length old
    → ((j : ℕ) (d : X) → j < length old → get_or cells j d ≡ written a n given j (get_or old j d))
    → (j : ℕ) (d : X) → j < length old → get_or (set cells (a + n) b) j d ≡ written a (n + 1) given j (get_or old j d)
set_more a n given b old cells byte inside long so_far j d lt = by_place (cases_eq j (a + n)) ∙ written_more a n given j (get_or old j d)
  where
    by_place : (j ≡ a + n) ⊎ (j ≢ a + n) → get_or (set cells (a + n) b) j d ≡ written (a + n) 1 (λ _. given n) j (written a n given j (get_or old j d))
    by_place (inl same) =
        ap (λ q. get_or (set cells (a + n) b) q d) same ∙ get_or-set_same cells (a + n) b d inside ∙ byte
        ∙ sym (written_there (a + n) 1 (λ _. given n) j (written a n given j (get_or old j d)) (omega (arith, same)) (omega (arith, same)))
    by_place (inr other) =
        get_or-set_other cells (a + n) j b d other ∙ so_far j d lt
        ∙ sym (untouched (a + n) 1 (λ _. given n) j (written a n given j (get_or old j d)) (λ low high. other (omega (arith, low, high))))

-- numbers that are written are cells that are
pub written_numbers : (at : ℕ) (bytes : List ℕ) (x old : ℕ) → Num (written at (length bytes) (slice_index bytes) x old) ≡ written at (length (map Num bytes)) (λ i. get_or (map Num bytes) i Undef) x (Num old)
written_numbers at bytes x old = either (leb at x && ltb x (at + length bytes)) refl
  where
    long : length (map Num bytes) ≡ length bytes
    long = length-map bytes Num

    either : (t : Bool) → (leb at x && ltb x (at + length bytes)) ≡ t → Num (cond t (slice_index bytes (x - at)) old) ≡ written at (length (map Num bytes)) (λ i. get_or (map Num bytes) i Undef) x (Num old)
    either true h =
        let q = and_parts (leb at x) (ltb x (at + length bytes)) h in
        let low = leb-true at x q.0 in
        let high = ltb-true x (at + length bytes) q.1 in
        sym (get_or-map Num bytes (x - at) 0 Undef (omega (arith, low, high)))
        ∙ sym (written_there at (length (map Num bytes)) (λ i. get_or (map Num bytes) i Undef) x (Num old) low (omega (arith, high, long)))
    either false h = sym (untouched at (length (map Num bytes)) (λ i. get_or (map Num bytes) i Undef) x (Num old) (λ low high. outside low (omega (arith, high, long))))
      where
        outside : at ≤ x → x < at + length bytes → ⊥
        outside low high = let yes = and_from (leb at x) (ltb x (at + length bytes)) (le-leb at x low) (lt-ltb x (at + length bytes) high) in cc
