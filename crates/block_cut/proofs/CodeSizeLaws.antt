-- Sizes in code: sums of multiples of its step are multiples, multiples are even, and what stands at one without a relocation lies inside.
use Rattle.std.proofs.Common.{◌≡◌, ℕ, ◌+◌, ◌%◌, ◌<◌, ◌≤◌, List, length, Bool, true, false, cond, refl, sym, ap, ◌∙◌, arith, eqb}
use Rattle.std.specs.Prelude.{nat_le, slice_index}
use Rattle.std.proofs.lemmas.Bool.{and_parts, leb-true}
use Rattle.psabi_sym.specs.Faults.{counted_bytes}
use Rattle.block_cut.specs.CodeSizes.{code_step, is_long_at, own_size}

pub step_sum : (c : Bool) (n m : ℕ) → n % code_step c ≡ 0 → m % code_step c ≡ 0 → (n + m) % code_step c ≡ 0
step_sum true n m one two = omega arith
step_sum false n m one two = omega arith

pub step_even : (c : Bool) (n : ℕ) → n % code_step c ≡ 0 → n % 2 ≡ 0
step_even true n is = is
step_even false n is = omega arith

-- padding goes up to such a multiple
pub step_four : (c : Bool) (n : ℕ) → n % 4 ≡ 0 → n % code_step c ≡ 0
step_four true n is = omega arith
step_four false n is = is

-- a number of bytes counts as that number or as more
pub counted_least : (c : Bool) (n : ℕ) → n ≤ counted_bytes c n
counted_least true n = omega arith
counted_least false n = omega arith

-- sums count as their parts do
pub counted_sum : (c : Bool) (n m : ℕ) → counted_bytes c (n + m) ≡ counted_bytes c n + counted_bytes c m
counted_sum true n m = omega arith
counted_sum false n m = refl

-- a step counts four bytes at least
pub counted_step : (c : Bool) (n : ℕ) → n % code_step c ≡ 0 → 2 ≤ n → 4 ≤ counted_bytes c n
counted_step true n units some = omega (arith, some)
counted_step false n units some = omega (arith, units, some)

-- where no object is compressed, multiples are words'
pub step_plain : (c : Bool) (n : ℕ) → c ≡ false → n % code_step c ≡ 0 → n % 4 ≡ 0
step_plain true n plain is = absurd cc
step_plain false n plain is = is

-- what stands without a relocation takes 2 bytes or 4
pub data OwnSize (size : ℕ) : Type 0 where
  Two : size ≡ 2 → OwnSize size
  Four : size ≡ 4 → OwnSize size

pub own_is : (c : Bool) (bytes : List ℕ) (n : ℕ) → OwnSize (own_size c bytes n)
own_is false bytes n = Four refl
own_is true bytes n = by (is_long_at bytes n)
  where
    by : (b : Bool) → OwnSize (cond b 4 2)
    by true = Four refl
    by false = Two refl

-- where no object is compressed, all have 4
pub own_plain : (c : Bool) (bytes : List ℕ) (n : ℕ) → c ≡ false → own_size c bytes n ≡ 4
own_plain c bytes n plain = ap (λ b. own_size b bytes n) plain

pub own_short : (c : Bool) (bytes : List ℕ) (n : ℕ) → own_size c bytes n ≤ 4
own_short c bytes n = by (own_is c bytes n)
  where
    by : OwnSize (own_size c bytes n) → own_size c bytes n ≤ 4
    by (Two is) = omega (arith, is)
    by (Four is) = omega (arith, is)

-- an item's own size, 2 or 4, is read as that size
pub own_read : (size : ℕ) → OwnSize size → cond (eqb size 2) 2 4 ≡ size
own_read size (Two is) = (λ j. cond (eqb (is j) 2) 2 4) ∙ sym is
own_read size (Four is) = (λ j. cond (eqb (is j) 2) 2 4) ∙ sym is

-- an item's own size is whole steps inside the section
pub record IsOwn (c : Bool) (bytes : List ℕ) (n size : ℕ) : Type 0 where
  pub some : 2 ≤ size
  pub short : size ≤ 4
  pub units : size % code_step c ≡ 0
  pub inside : n + size ≤ length bytes

pub own_sized : (c : Bool) (bytes : List ℕ) (n : ℕ) → n % code_step c ≡ 0 → n < length bytes → length bytes % code_step c ≡ 0 → IsOwn c bytes n (own_size c bytes n)
own_sized false bytes n units lt whole = record { some = omega arith; short = omega arith; units = refl; inside = omega arith }
own_sized true bytes n units lt whole = by (is_long_at bytes n) refl
  where
    by : (b : Bool) → is_long_at bytes n ≡ b → IsOwn true bytes n (cond b 4 2)
    by true long =
        let left = leb-true (n + 4) (length bytes) (and_parts (nat_le (n + 4) (length bytes)) (eqb (slice_index bytes n % 4) 3) long).0 in
        record { some = omega arith; short = omega arith; units = refl; inside = left }
    by false short = record { some = omega arith; short = omega arith; units = refl; inside = omega arith }
