-- What the operands of pushes, pops and pairs of moves are (RISC-V Zc specification 1.0, "Zcmp"). Nothing that must be believed
-- names these: they follow from the tables.
use Rattle.std.specs.Prelude.{◌≡◌, ◌≢◌, ℕ, ◌≤◌, ◌+◌, ◌*◌, ◌⊎◌}
use Rattle.zc_decode.specs.Lists.{stack_adjust_base}
use Rattle.zc_decode.specs.declared.short.Short.{Short}
use Rattle.zc_decode.specs.declared.short.Short.TheVariants.{Base, Push, Pop, PopRet, PopRetz, MoveSa, MoveAs, TableJump}

-- a list that isn't reserved, and by how much a push or pop of it moves sp: by what the list needs, and by up to three times 16 bytes
-- more
pub record IsFrameSize (list adjust : ℕ) : Type 0 where
  pub from : 4 ≤ list
  pub to : list ≤ 15
  pub blocks : ℕ
  pub few : blocks ≤ 3
  pub is : adjust ≡ stack_adjust_base list + 16 * blocks

-- a register that moves name: s0 to s7
abbrev pub IsMoved : ℕ → Type 0
IsMoved r = ((8 ≤ r) × (r ≤ 9)) ⊎ ((18 ≤ r) × (r ≤ 23))

-- the operands of what a halfword encodes, if it is a push, a pop or a pair of moves. The moves from a0 and a1 have two different
-- registers
abbrev pub HasOperands : Short → Type 0
HasOperands (Base i) = Unit {0}
HasOperands (Push list adjust) = IsFrameSize list adjust
HasOperands (Pop list adjust) = IsFrameSize list adjust
HasOperands (PopRet list adjust) = IsFrameSize list adjust
HasOperands (PopRetz list adjust) = IsFrameSize list adjust
HasOperands (MoveSa first second) = IsMoved first × IsMoved second × (second ≢ first)
HasOperands (MoveAs first second) = IsMoved first × IsMoved second
HasOperands (TableJump index) = Unit {0}
