-- The upper part and the signed lower part of a word sum up to it, modulo 2^32; and those of the distance from an address to
-- another sum up to the other one, if the address is added.
use Rattle.std.proofs.Common.{◌≡◌, ℕ, ◌+◌, ◌-◌, ◌*◌, ◌/◌, ◌%◌, ◌^◌, ◌<◌, Bool, true, false, cond, refl, ap, ◌∙◌, arith, ℤ, pos, negsuc, ltb}
use Rattle.std.proofs.lemmas.Bool.{ltb-false, ltb-true}
use Rattle.rv_decode.specs.Bits.{add32, field}
use Rattle.psabi_reloc.specs.Parts.{hi20_of, lo12_of}
use Rattle.zc_link.specs.Values.{way}

-- what an `auipc` at address a gives for a target at address t
abbrev pub pc_upper : ℕ → ℕ → ℕ
pc_upper a t = (a + hi20_of (way a t) * 2 ^ 12) % 2 ^ 32

-- by the lower part's sign
low_part :
    (b : Bool) (n k x : ℕ) → ltb k 2048 ≡ b → n ≡ (x + 2048) % 2 ^ 32 / 4096 * 4096 → k ≡ x % 4096
    → add32 n (cond b (pos k) (negsuc (4096 - k - 1))) ≡ x % 2 ^ 32
low_part true n k x lt high low = let l = ltb-true k 2048 lt in omega (arith, l, high, low)
low_part false n k x lt high low = let l = ltb-false k 2048 lt in omega (arith, l, high, low)

pub parts_sum : (x : ℕ) → add32 (hi20_of x * 2 ^ 12) (lo12_of x) ≡ x % 2 ^ 32
parts_sum x = low_part (ltb (field x 0 12) (2 ^ 11)) (hi20_of x * 2 ^ 12) (field x 0 12) x refl refl (omega arith)

-- what is added to one of the summands is added to the sum
add32_shift : (a n d : ℕ) (z : ℤ) → add32 n z ≡ d → add32 ((a + n) % 2 ^ 32) z ≡ (a + d) % 2 ^ 32
add32_shift a n d z e = omega (arith, e)

pub way_sum : (a t : ℕ) → a < 2 ^ 32 → add32 (pc_upper a t) (lo12_of (way a t)) ≡ t % 2 ^ 32
way_sum a t low =
    let d : ℕ = way a t in
    add32_shift a (hi20_of d * 2 ^ 12) (d % 2 ^ 32) (lo12_of d) (parts_sum d) ∙ omega (arith, low)

-- an `auipc` and a `jalr` with the two parts lead to an even address
pub call_reaches : (a t : ℕ) → a < 2 ^ 32 → t < 2 ^ 32 → t % 2 ≡ 0 → add32 (pc_upper a t) (lo12_of (way a t)) / 2 * 2 ≡ t
call_reaches a t low small even = ap (λ x. x / 2 * 2) (way_sum a t low) ∙ omega (arith, small, even)
