-- What is shown of each row: the halfword for an instruction is of the row, is no hint, and spells it.
use Rattle.std.proofs.Common.{◌≡◌, ℕ, ◌^◌, ◌<◌, Some, Option, None, false, refl}
use Rattle.std.specs.Option.{option_or}
use Rattle.std.specs.Prelude.{◌⊎◌}
use Rattle.std.proofs.Common.{inl, inr}
use Rattle.rv_decode.specs.declared.instr.Instr.{Instr}
use Rattle.rv_decode.specs.Normal.{normal_of}
use Rattle.zc_decode.specs.Halfwords.{spelled}
use Rattle.zc_decode.specs.Hints.{is_hint}
use Rattle.zc_decode.specs.Rows.{form_of}
use Rattle.zc_decode.specs.declared.form.Form.{Form}
use Rattle.zc_decode.specs.declared.short.Short.{Short}
use Rattle.zc_decode.specs.declared.short.Short.TheVariants.{Base, Push, Pop, PopRet, PopRetz, MoveSa, MoveAs, TableJump}
use Rattle.zc_encode.specs.Encoding.{normal_short}

-- a halfword of a row that spells what is in normal form
pub record RowOf (form : Form) (half : ℕ) (s : Short) : Type 0 where
  pub small : half < 2 ^ 16
  pub row : form_of half ≡ Some form
  pub no_hint : is_hint form half ≡ false
  pub is : normal_short (spelled form half) ≡ s

-- an instruction of 32 bits
abbrev pub Row : Form → ℕ → Instr → Type 0
Row form half i = RowOf form half (Base i)

-- the halfword is of some row, is no hint, and spells the instruction
abbrev pub InRow : ℕ → Instr → Type 0
InRow half i = (form : Form) × Row form half i

abbrev pub InRowOf : ℕ → Short → Type 0
InRowOf half s = (form : Form) × RowOf form half s

-- what two in turn give comes from one of them
pub either_of : (first second : Option ℕ) (half : ℕ) → option_or first second ≡ Some half → (first ≡ Some half) ⊎ (second ≡ Some half)
either_of None second half is = inr is
either_of (Some k) second half is = inl is

-- what has an instruction as its normal form is one that has that normal form
pub normal-base : (s : Short) (i : Instr) → normal_short s ≡ Base i → (j : Instr) × (s ≡ Base j) × (normal_of j ≡ i)
normal-base (Base j) i is = (j, refl, base is)
  where
    base : {j k : Instr} → Base j ≡ Base k → j ≡ k
    base e = cc
normal-base (Push list adjust) i is = absurd cc
normal-base (Pop list adjust) i is = absurd cc
normal-base (PopRet list adjust) i is = absurd cc
normal-base (PopRetz list adjust) i is = absurd cc
normal-base (MoveSa first second) i is = absurd cc
normal-base (MoveAs first second) i is = absurd cc
normal-base (TableJump index) i is = absurd cc
