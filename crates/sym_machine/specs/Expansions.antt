-- The instructions of RV32IM that a halfword of Zcmp stands for: a push, a pop or two moves does what they do one after another
-- (RISC-V Zc specification 1.0, "Zcmp").
use Rattle.std.specs.Prelude.{ℕ, ◌-◌, pos, negsuc, List, [], ◌∷◌, ◌++◌, Option, Some, None}
use Rattle.std.specs.Option.{option_and_then}
use Rattle.rv_decode.specs.declared.instr.Instr.{Instr}
use Rattle.rv_decode.specs.declared.instr.Instr.TheVariants.{Jalr, Load, Store, WithImm}
use Rattle.rv_decode.specs.declared.instr.ImmOp.TheVariants.{Addi}
use Rattle.rv_decode.specs.declared.instr.LoadOp.TheVariants.{Lw}
use Rattle.rv_decode.specs.declared.instr.StoreOp.TheVariants.{Sw}
use Rattle.zc_decode.specs.Halfwords.{decoded16}
use Rattle.zc_decode.specs.Lists.{registers_of}
use Rattle.zc_decode.specs.declared.short.Short.{Short}
use Rattle.zc_decode.specs.declared.short.Short.TheVariants.{Base, Push, Pop, PopRet, PopRetz, MoveSa, MoveAs, TableJump}
use Rattle.block_cut.specs.declared.item.Item.{Item}
use Rattle.block_cut.specs.declared.item.Item.TheVariants.{RawShort}

-- `sw r,offset(sp)` of each register of a list, and `lw r,offset(sp)`: the words lie one below the other, from below an offset on
abbrev pub saves : ℕ → List ℕ → List Instr
saves top [] = []
saves top (r ∷ rs) = Store Sw r 2 (pos (top - 4)) ∷ saves (top - 4) rs

abbrev pub restores : ℕ → List ℕ → List Instr
restores top [] = []
restores top (r ∷ rs) = Load Lw r 2 (pos (top - 4)) ∷ restores (top - 4) rs

-- what a push, a pop or two moves stand for, as an assembler would write it. A push lowers sp before it saves, so that the words
-- lie above sp; a pop raises sp behind its loads, and `cm.popretz` clears a0 before that
abbrev pub expansion : Short → Option (List Instr)
expansion (Base i) = None
expansion (Push list adjust) = Some (WithImm Addi 2 2 (negsuc (adjust - 1)) ∷ saves adjust (registers_of list))
expansion (Pop list adjust) = Some (restores adjust (registers_of list) ++ WithImm Addi 2 2 (pos adjust) ∷ [])
expansion (PopRet list adjust) = Some (restores adjust (registers_of list) ++ WithImm Addi 2 2 (pos adjust) ∷ Jalr 0 1 (pos 0) ∷ [])
expansion (PopRetz list adjust) =
    Some (restores adjust (registers_of list) ++ WithImm Addi 10 0 (pos 0) ∷ WithImm Addi 2 2 (pos adjust) ∷ Jalr 0 1 (pos 0) ∷ [])
expansion (MoveSa first second) = Some (WithImm Addi first 10 (pos 0) ∷ WithImm Addi second 11 (pos 0) ∷ [])
expansion (MoveAs first second) = Some (WithImm Addi 10 first (pos 0) ∷ WithImm Addi 11 second (pos 0) ∷ [])
expansion (TableJump index) = None

-- the instructions that an item stands for, if it is such a halfword
abbrev pub item_expansion : Option Item → Option (List Instr)
item_expansion (Some (RawShort half)) = option_and_then expansion (decoded16 half)
item_expansion other = None
