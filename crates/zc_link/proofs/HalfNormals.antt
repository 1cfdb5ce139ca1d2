-- The instruction that two bytes of code are is a normal form.
use Rattle.std.proofs.Common.{◌≡◌, ℕ, List, Option, Some, None, refl, subst}
use Rattle.std.proofs.lemmas.Option.{same_Some}
use Rattle.zc_base.specs.Fields.{half_in}
use Rattle.rv_decode.specs.Normal.{normal_of}
use Rattle.rv_decode.specs.declared.instr.Instr.{Instr}
use Rattle.block_cut.specs.Relocs.{normal_base, instr_in}
use Rattle.zc_decode.specs.Halfwords.{decoded16}
use Rattle.zc_decode.specs.declared.short.Short.{Short}
use Rattle.zc_decode.specs.declared.short.Short.TheVariants.{Base, Push, Pop, PopRet, PopRetz, MoveSa, MoveAs, TableJump}
use Rattle.zca_zcb_pass.proofs.HalfNormals.{IsHalfNormal, half_normal}

-- an instruction is the normal form of the one that a halfword is
pub record IsNormalOf (half : ℕ) (i : Instr) : Type 0 where
  pub spelled : Instr
  pub spells : decoded16 half ≡ Some (Base spelled)
  pub normal : normal_of spelled ≡ i

-- the instruction of two bytes is a normal form
pub normal_in : (bytes : List ℕ) (n : ℕ) (i : Instr) → instr_in 2 bytes n ≡ Some i → IsNormalOf (half_in bytes n) i
normal_in bytes n i is = by (decoded16 (half_in bytes n)) refl is
  where
    by : (o : Option Short) → decoded16 (half_in bytes n) ≡ o → normal_base o ≡ Some i → IsNormalOf (half_in bytes n) i
    by None spells is = absurd cc
    by (Some (Base j)) spells is = record { spelled = j; spells = spells; normal = same_Some (normal_of j) i is }
    by (Some (Push list adjust)) spells is = absurd cc
    by (Some (Pop list adjust)) spells is = absurd cc
    by (Some (PopRet list adjust)) spells is = absurd cc
    by (Some (PopRetz list adjust)) spells is = absurd cc
    by (Some (MoveSa first second)) spells is = absurd cc
    by (Some (MoveAs first second)) spells is = absurd cc
    by (Some (TableJump index)) spells is = absurd cc

pub normal_there : (bytes : List ℕ) (n : ℕ) (i : Instr) → instr_in 2 bytes n ≡ Some i → IsHalfNormal i
normal_there bytes n i is =
    let normal = normal_in bytes n i is in
    subst IsHalfNormal normal.normal (half_normal (half_in bytes n) normal.spelled normal.spells)
