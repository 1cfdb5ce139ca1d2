-- Distances between addresses, as words and read in two's complement.
use Rattle.std.proofs.Common.{◌≡◌, ℕ, ℤ, ◌+◌, ◌%◌, ◌^◌, ◌<◌, sym, ap, ◌∙◌, arith}
use Rattle.std.specs.Int.{w32, cast_signed, cast_unsigned}
use Rattle.std.proofs.lemmas.Int.{of_z-to_z}
use Rattle.rv_decode.specs.Bits.{add32, as_signed, as_word}
use Rattle.zc_link.specs.Values.{way}

-- a distance as a word
pub way_word : (a b : ℕ) → as_word (as_signed (way a b)) ≡ way a b
way_word a b =
    let small : way a b < 2 ^ 32 = omega arith in
    ap (λ n. n % 2 ^ 32) (of_z-to_z w32 (way a b) small) ∙ omega arith

-- what the code takes as a distance
abbrev pub taken : ℤ → ℤ
taken d = cast_signed w32 (cast_unsigned w32 d)

-- is the distance
pub taken_is : (a b : ℕ) (d : ℤ) → d ≡ as_signed (way a b) → taken d ≡ d
taken_is a b d is =
    let small : way a b < 2 ^ 32 = omega arith in
    ap (λ z. cast_signed w32 (cast_unsigned w32 z)) is ∙ ap (cast_signed w32) (of_z-to_z w32 (way a b) small) ∙ sym is

-- the distance leads from one address to the other
pub way_leads : (a b : ℕ) → a < 2 ^ 32 → b < 2 ^ 32 → add32 a (as_signed (way a b)) ≡ b
way_leads a b low high =
    let small : way a b < 2 ^ 32 = omega arith in
    ap (λ n. (a + n) % 2 ^ 32) (of_z-to_z w32 (way a b) small) ∙ omega (arith, low, high)
