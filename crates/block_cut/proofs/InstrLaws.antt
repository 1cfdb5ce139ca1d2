-- What words and halfwords spell fits a word, and has registers below 32.
use Rattle.std.proofs.Common.{◌≡◌, ℕ, List, Bool, true, false, cond, Option, Some, None, refl, subst, eqb}
use Rattle.zc_base.specs.Fields.{half_in, word_in}
use Rattle.rv_decode.specs.Decode.{decoded}
use Rattle.rv_decode.specs.Immediates.{InRange}
use Rattle.rv_decode.specs.Normal.{normal_of}
use Rattle.rv_decode.specs.Registers.{HasRegisters}
use Rattle.rv_decode.specs.declared.instr.Instr.{Instr}
use Rattle.rv_decode.proofs.DecodeLaws.{decoded-in_range, decoded-registers}
use Rattle.zc_decode.specs.Halfwords.{decoded16}
use Rattle.zc_decode.specs.declared.short.Short.{Short}
use Rattle.zc_decode.specs.declared.short.Short.TheVariants.{Base, Push, Pop, PopRet, PopRetz, MoveSa, MoveAs, TableJump}
use Rattle.zc_decode.proofs.RangeLaws.{half_in_range, half_registers}
use Rattle.block_cut.specs.Relocs.{normal_base, instr_in}

-- what holds of the normal form of each instruction that a halfword spells holds of what one spells
half_by : (P : Instr → Type 0) (half : ℕ) (i : Instr) → ((j : Instr) → decoded16 half ≡ Some (Base j) → P (normal_of j)) → normal_base (decoded16 half) ≡ Some i → P i
half_by P half i each is = by (decoded16 half) refl is
  where
    by : (o : Option Short) → decoded16 half ≡ o → normal_base o ≡ Some i → P i
    by None spells is = absurd cc
    by (Some (Base j)) spells is = let same : normal_of j ≡ i = cc in subst P same (each j spells)
    by (Some (Push list adjust)) spells is = absurd cc
    by (Some (Pop list adjust)) spells is = absurd cc
    by (Some (PopRet list adjust)) spells is = absurd cc
    by (Some (PopRetz list adjust)) spells is = absurd cc
    by (Some (MoveSa first second)) spells is = absurd cc
    by (Some (MoveAs first second)) spells is = absurd cc
    by (Some (TableJump index)) spells is = absurd cc

pub in_range_in : (size : ℕ) (bytes : List ℕ) (n : ℕ) (i : Instr) → instr_in size bytes n ≡ Some i → InRange i
in_range_in size bytes n i is = by (eqb size 2) is
  where
    by : (b : Bool) → cond b (normal_base (decoded16 (half_in bytes n))) (decoded (word_in bytes n)) ≡ Some i → InRange i
    by true is = half_by InRange (half_in bytes n) i (half_in_range (half_in bytes n)) is
    by false is = decoded-in_range (word_in bytes n) i is

pub registers_in : (size : ℕ) (bytes : List ℕ) (n : ℕ) (i : Instr) → instr_in size bytes n ≡ Some i → HasRegisters i
registers_in size bytes n i is = by (eqb size 2) is
  where
    by : (b : Bool) → cond b (normal_base (decoded16 (half_in bytes n))) (decoded (word_in bytes n)) ≡ Some i → HasRegisters i
    by true is = half_by HasRegisters (half_in bytes n) i (half_registers (half_in bytes n)) is
    by false is = decoded-registers (word_in bytes n) i is
