-- The words of memory that pushes and pops save and load (RISC-V Zc specification 1.0, "Zcmp").
use Rattle.std.specs.Prelude.{ℕ, negsuc, List, [], ◌∷◌}
use Rattle.rv_decode.specs.Bits.{add32}
use Rattle.rv_decode.specs.Results.{reg_result}
use Rattle.rv_decode.specs.declared.instr.RegOp.TheVariants.{Add, Sub}
use Rattle.zc_decode.specs.Lists.{registers_of}
use Rattle.zc_decode.specs.declared.short.Short.{Short}
use Rattle.zc_decode.specs.declared.short.Short.TheVariants.{Base, Push, Pop, PopRet, PopRetz, MoveSa, MoveAs, TableJump}

-- a word of memory that a register is saved to, or loaded from
pub record Access : Type 0 where
  pub at : ℕ
  pub register : ℕ

-- the words below an address, a register each, going down
abbrev pub words_below : ℕ → List ℕ → List Access
words_below top [] = []
words_below top (r ∷ rs) = record { at = add32 top (negsuc 3); register = r } ∷ words_below (add32 top (negsuc 3)) rs

-- what sp becomes: a push lowers it, a pop raises it
abbrev pub sp_after : Short → ℕ → ℕ
sp_after (Base i) sp = sp
sp_after (Push list adjust) sp = reg_result Sub sp adjust
sp_after (Pop list adjust) sp = reg_result Add sp adjust
sp_after (PopRet list adjust) sp = reg_result Add sp adjust
sp_after (PopRetz list adjust) sp = reg_result Add sp adjust
sp_after (MoveSa first second) sp = sp
sp_after (MoveAs first second) sp = sp
sp_after (TableJump index) sp = sp

-- the accesses of an instruction in their order, with sp as it is before it: those of a push lie below sp, those of a pop
-- below what sp becomes
abbrev pub accesses_of : Short → ℕ → List Access
accesses_of (Base i) sp = []
accesses_of (Push list adjust) sp = words_below sp (registers_of list)
accesses_of (Pop list adjust) sp = words_below (sp_after (Pop list adjust) sp) (registers_of list)
accesses_of (PopRet list adjust) sp = words_below (sp_after (PopRet list adjust) sp) (registers_of list)
accesses_of (PopRetz list adjust) sp = words_below (sp_after (PopRetz list adjust) sp) (registers_of list)
accesses_of (MoveSa first second) sp = []
accesses_of (MoveAs first second) sp = []
accesses_of (TableJump index) sp = []
