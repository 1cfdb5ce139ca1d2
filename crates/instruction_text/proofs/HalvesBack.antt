-- The halfword of each row is that of its row and its operands, which are small.
use Rattle.std.proofs.Common.{◌≡◌, ℕ, ℤ, pos, negsuc, ◌-◌, ◌^◌, ◌<◌, Option, Some, None, Bool, true, false, refl, sym, ap, ◌∙◌, eqb, eqb-true, ltb}
use Rattle.std.specs.Prelude.{◌&&◌}
use Rattle.std.proofs.lemmas.Bool.{and_parts, ltb-true}
use Rattle.zc_decode.specs.Halfwords.{spelled}
use Rattle.zc_decode.specs.Rows.{form_of}
use Rattle.zc_decode.specs.declared.form.Form.{Form}
use Rattle.zc_decode.proofs.EachHalfword.{AllPass, each_passes, half_at, page, passes, tried, yes}
use Rattle.instruction_text.specs.Assembly.{assembled_half}
use Rattle.instruction_text.specs.Operands.{operands_of_short}
use Rattle.instruction_text.specs.declared.operands.Operands.{Operands}
use Rattle.instruction_text.specs.declared.operands.Operands.TheVariants.{Nothing, OneNumber, TwoNumbers, TwoRegisters, RegisterNumber, RegistersNumber, ThreeRegisters}
use Rattle.instruction_text.proofs.OperandsBack.{AreSmall, IsSmall}

-- ---- small operands, as a test

abbrev pub is_small : ℤ → Bool
is_small (pos n) = ltb n (2 ^ 31)
is_small (negsuc n) = ltb n (2 ^ 31 - 1)

abbrev pub are_small : Operands → Bool
are_small Nothing = true
are_small (OneNumber z) = is_small z
are_small (TwoNumbers z w) = is_small z && is_small w
are_small (TwoRegisters a b) = ltb a 32 && ltb b 32
are_small (RegisterNumber a z) = ltb a 32 && is_small z
are_small (RegistersNumber a b z) = ltb a 32 && (ltb b 32 && is_small z)
are_small (ThreeRegisters a b c) = ltb a 32 && (ltb b 32 && ltb c 32)

small_is : (z : ℤ) → is_small z ≡ true → IsSmall z
small_is (pos n) test = ltb-true n (2 ^ 31) test
small_is (negsuc n) test = ltb-true n (2 ^ 31 - 1) test

all_small : (os : Operands) → are_small os ≡ true → AreSmall os
all_small Nothing test = tt
all_small (OneNumber z) test = small_is z test
all_small (TwoNumbers z w) test = let p = and_parts (is_small z) (is_small w) test in (small_is z p.0, small_is w p.1)
all_small (TwoRegisters a b) test = let p = and_parts (ltb a 32) (ltb b 32) test in (ltb-true a 32 p.0, ltb-true b 32 p.1)
all_small (RegisterNumber a z) test = let p = and_parts (ltb a 32) (is_small z) test in (ltb-true a 32 p.0, small_is z p.1)
all_small (RegistersNumber a b z) test =
    let p = and_parts (ltb a 32) (ltb b 32 && is_small z) test in
    let q = and_parts (ltb b 32) (is_small z) p.1 in
    (ltb-true a 32 p.0, ltb-true b 32 q.0, small_is z q.1)
all_small (ThreeRegisters a b c) test =
    let p = and_parts (ltb a 32) (ltb b 32 && ltb c 32) test in
    let q = and_parts (ltb b 32) (ltb c 32) p.1 in
    (ltb-true a 32 p.0, ltb-true b 32 q.0, ltb-true c 32 q.1)

-- ---- all halfwords

-- whether a halfword was found
abbrev pub is_found : ℕ → Option ℕ → Bool
is_found half None = false
is_found half (Some k) = eqb k half

-- whether operands are small, and give a halfword of a row
abbrev pub gives : Form → ℕ → Operands → Bool
gives form half operands = are_small operands && is_found half (assembled_half form operands)

-- whether a halfword of a row comes back
abbrev pub comes_back : Form → ℕ → Bool
comes_back form half = gives form half (operands_of_short (spelled form half))

all_come_back : AllPass comes_back
unfolding form_of tried half_at page yes
all_come_back =
    (refl, (refl, (refl, (refl, (refl, (refl, (refl, (refl, (refl, (refl, (refl, (refl, (refl, (refl, (refl, (refl, (refl, tt)))))))))))))))))

found_is : (half : ℕ) (o : Option ℕ) → is_found half o ≡ true → o ≡ Some half
found_is half None h = absurd cc
found_is half (Some k) h = ap Some (eqb-true k half h)

module _ (half : ℕ) (form : Form) (small : half < 2 ^ 16) (row : form_of half ≡ Some form) where
  parts : (are_small (operands_of_short (spelled form half)) ≡ true) × (is_found half (assembled_half form (operands_of_short (spelled form half))) ≡ true)
  parts =
      and_parts (are_small (operands_of_short (spelled form half))) (is_found half (assembled_half form (operands_of_short (spelled form half))))
      (sym (ap (passes comes_back half) row) ∙ each_passes comes_back all_come_back half small)

  pub half_small : AreSmall (operands_of_short (spelled form half))
  half_small = all_small (operands_of_short (spelled form half)) parts.0

  pub half_back : assembled_half form (operands_of_short (spelled form half)) ≡ Some half
  half_back = found_is half (assembled_half form (operands_of_short (spelled form half))) parts.1
