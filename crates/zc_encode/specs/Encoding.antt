-- Which halfword encodes an instruction: the one in the first row of the tables that has a halfword with the same
-- normal form.
use Rattle.std.specs.Prelude.{◌≡◌, ℕ, ◌<◌, ◌^◌, ◌⊎◌, Option, Some, None, false}
use Rattle.rv_decode.specs.Normal.{normal_of}
use Rattle.zc_decode.specs.Halfwords.{spelled}
use Rattle.zc_decode.specs.Hints.{is_hint, row_number}
use Rattle.zc_decode.specs.Rows.{form_of}
use Rattle.zc_decode.specs.declared.form.Form.{Form}
use Rattle.zc_decode.specs.declared.short.Short.{Short}
use Rattle.zc_decode.specs.declared.short.Short.TheVariants.{Base, Push, Pop, PopRet, PopRetz, MoveSa, MoveAs, TableJump}

-- the normal form of what a halfword can encode
abbrev pub normal_short : Short → Short
normal_short (Base i) = Base (normal_of i)
normal_short (Push list adjust) = Push list adjust
normal_short (Pop list adjust) = Pop list adjust
normal_short (PopRet list adjust) = PopRet list adjust
normal_short (PopRetz list adjust) = PopRetz list adjust
normal_short (MoveSa first second) = MoveSa first second
normal_short (MoveAs first second) = MoveAs first second
normal_short (TableJump index) = TableJump index

-- a halfword of a row that is no hint and encodes something with the same normal form
pub record Spells (form : Form) (half : ℕ) (s : Short) : Type 0 where
  pub small : half < 2 ^ 16
  pub row : form_of half ≡ Some form
  pub no_hint : is_hint form half ≡ false
  pub same : normal_short (spelled form half) ≡ normal_short s

-- a halfword that encodes `s`, where every other halfword that encodes it is in a later row
pub record IsFirst (half : ℕ) (s : Short) : Type 0 where
  pub form : Form
  pub spells : Spells form half s
  pub first : (other : Form) (k : ℕ) → Spells other k s → (k ≡ half) ⊎ (row_number form < row_number other)

-- the halfword for an instruction, or `None` if no halfword encodes it
abbrev pub IsEncoding : Short → Option ℕ → Type 0
IsEncoding s None = (form : Form) (half : ℕ) → Spells form half s → ⊥
IsEncoding s (Some half) = IsFirst half s
