-- Which branches have a short form, by their registers.
use Rattle.std.proofs.Common.{◌≡◌, ℕ, Bool, true, false, ◌&&◌, ◌||◌, refl, ◌∙◌, eqb, ltb, cond, arith}
use Rattle.std.specs.Prelude.{◌==◌, pos}
use Rattle.std.specs.Option.{is_some}
use Rattle.std.proofs.lemmas.Bool.{true≢false}
use Rattle.std.proofs.lemmas.Bool.Decides.{nat_tests}
use Rattle.rv_decode.specs.declared.instr.BranchOp.TheVariants.{Beq, Bne}
use Rattle.rv_decode.specs.declared.instr.Instr.TheVariants.{Branch}
use Rattle.zc_encode.specs.Halves.{beqz_half, half_for, is_popular, when}
use Rattle.shrink_layout.specs.Pieces.{is_short_branch}

-- what is given at a condition is there if that holds
when_some : (a b : Bool) (half : ℕ) → is_some (when (a && (b && true)) half) ≡ (a && b)
when_some true true half = refl
when_some true false half = refl
when_some false b half = refl

-- the second register is zero, and the first has a number of three bits
abbrev pub on_zero : ℕ → ℕ → Bool
on_zero first second = (second == 0) && is_popular first

zero_some : (group first second : ℕ) → is_some (beqz_half group first second (pos 0)) ≡ on_zero first second
zero_some group first second = when_some (second == 0) (is_popular first) _

-- the greater of two registers comes first, and then the second is zero; if the other one is zero too, neither is popular
in_order :
    (less first_zero second_zero first_popular second_popular : Bool) → (less ≡ true → second_zero ≡ false) → (less ≡ false → first_zero ≡ true → second_popular ≡ false)
    → cond less (first_zero && second_popular) (second_zero && first_popular) ≡ ((second_zero && first_popular) || (first_zero && second_popular))
in_order true z true p q f g = absurd (true≢false (f refl))
in_order true z false p q f g = refl
in_order false true true true true f g = refl
in_order false true true true false f g = refl
in_order false true true false true f g = absurd (true≢false (g refl refl))
in_order false true true false false f g = refl
in_order false true false p true f g = absurd (true≢false (g refl refl))
in_order false true false p false f g = refl
in_order false false true true q f g = refl
in_order false false true false q f g = refl
in_order false false false p q f g = refl

-- a branch that tests for equality has one if it is on zero, whichever register that is
equal_short : (first second : ℕ) → cond (ltb first second) (on_zero second first) (on_zero first second) ≡ (on_zero first second || on_zero second first)
equal_short first second =
    in_order (ltb first second) (eqb first 0) (eqb second 0) (is_popular first) (is_popular second) (grind (arith, nat_tests)) (grind (arith, nat_tests))

pub short_beq : (first second : ℕ) → is_short_branch Beq first second ≡ (on_zero first second || on_zero second first)
short_beq first second = by (ltb first second) ∙ equal_short first second
  where
    by : (less : Bool) → is_some (half_for (cond less (Branch Beq second first (pos 0)) (Branch Beq first second (pos 0)))) ≡ cond less (on_zero second first) (on_zero first second)
    by true = zero_some 0b110_01 second first
    by false = zero_some 0b110_01 first second

pub short_bne : (first second : ℕ) → is_short_branch Bne first second ≡ (on_zero first second || on_zero second first)
short_bne first second = by (ltb first second) ∙ equal_short first second
  where
    by : (less : Bool) → is_some (half_for (cond less (Branch Bne second first (pos 0)) (Branch Bne first second (pos 0)))) ≡ cond less (on_zero second first) (on_zero first second)
    by true = zero_some 0b111_01 second first
    by false = zero_some 0b111_01 first second
