-- Groups of items that are written together: pushes, pops and pairs of moves (RISC-V Zc specification 1.0, "Zcmp"), with the
-- instructions that their items are.
use Rattle.std.specs.Prelude.{◌≡◌, ◌≢◌, ℕ, pos, negsuc, ◌-◌, ◌%◌, ◌==◌, ◌≤◌, if◌then◌else◌, List, [], ◌∷◌, ◌++◌, Contains}
use Rattle.rv_decode.specs.declared.instr.Instr.{Instr}
use Rattle.rv_decode.specs.declared.instr.Instr.TheVariants.{Jalr, Load, Store, WithImm}
use Rattle.rv_decode.specs.declared.instr.ImmOp.TheVariants.{Addi}
use Rattle.rv_decode.specs.declared.instr.LoadOp.TheVariants.{Lw}
use Rattle.rv_decode.specs.declared.instr.StoreOp.TheVariants.{Sw}
pub use Rattle.frame_match.specs.Matches.{pop_kind, rest_of, slots_below}
pub use Rattle.frame_match.specs.declared.found.Ending.{Ending}
pub use Rattle.frame_match.specs.declared.found.Ending.TheVariants.{GoesOn, Returns, ZeroBeforeRaise, ZeroBeforeReturn, ZeroFirst}
pub use Rattle.frame_match.specs.declared.slot.Slot.{Slot}
use Rattle.zc_decode.specs.Lists.{stack_adjust_base, registers_of}
use Rattle.zc_decode.specs.Operands.{IsMoved}
use Rattle.zc_decode.specs.declared.short.Short.{Short}
use Rattle.zc_decode.specs.declared.short.Short.TheVariants.{MoveAs, MoveSa, Push}

-- ---- frames

-- two lists have the same slots, whatever their order
pub record SameSlots (order slots : List Slot) : Type 0 where
  pub each : (d : Slot) → Contains order d → Contains slots d
  pub all : (d : Slot) → Contains slots d → Contains order d

-- a list may have a frame of `frame` bytes, and these are the slots of its registers, in any order
pub record IsFrame (list frame : ℕ) (order : List Slot) : Type 0 where
  pub from : 4 ≤ list
  pub to : list ≤ 15
  pub whole : frame % 16 ≡ 0
  pub least : stack_adjust_base list ≤ frame
  pub most : frame ≤ 2032
  pub same : SameSlots order (slots_below frame (registers_of list))

-- the part of a frame by which the group's halfword itself moves sp
abbrev pub frame_adjust : ℕ → ℕ → ℕ
frame_adjust list frame = frame - rest_of list frame

-- ---- instructions

-- the instructions `addi sp,sp,-n` and `addi sp,sp,n`
abbrev pub lower_sp : ℕ → Instr
lower_sp n = WithImm Addi 2 2 (negsuc (n - 1))

abbrev pub raise_sp : ℕ → Instr
raise_sp n = WithImm Addi 2 2 (pos n)

-- the instructions `sw` and `lw` of each slot
abbrev pub stores_of : List Slot → List Instr
stores_of [] = []
stores_of (d ∷ ds) = Store Sw d.register 2 (pos d.offset) ∷ stores_of ds

abbrev pub slot_loads : List Slot → List Instr
slot_loads [] = []
slot_loads (d ∷ ds) = Load Lw d.register 2 (pos d.offset) ∷ slot_loads ds

-- the instruction `addi a0,x0,0`
abbrev pub zero_a0 : Instr
zero_a0 = WithImm Addi 10 0 (pos 0)

-- the instruction `jalr x0,0(ra)`
abbrev pub return_to_ra : Instr
return_to_ra = Jalr 0 1 (pos 0)

-- the instruction `addi rd,source,0`
abbrev pub move_to : ℕ → ℕ → Instr
move_to rd source = WithImm Addi rd source (pos 0)

-- ---- pushes and pops

-- the items of a push: sp is lowered, and then the registers are saved
abbrev pub push_ops : ℕ → List Slot → List Instr
push_ops frame order = lower_sp frame ∷ stores_of order

-- the items of a pop, up to its end: the registers are loaded, and then sp is raised
abbrev pub pop_ops : ℕ → List Slot → List Instr
pop_ops frame order = slot_loads order ++ raise_sp frame ∷ []

-- all items of a pop but its return
abbrev pub ops_before_return : Ending → ℕ → List Slot → List Instr
ops_before_return GoesOn frame order = pop_ops frame order
ops_before_return Returns frame order = pop_ops frame order
ops_before_return ZeroFirst frame order = zero_a0 ∷ pop_ops frame order
ops_before_return ZeroBeforeRaise frame order = slot_loads order ++ zero_a0 ∷ raise_sp frame ∷ []
ops_before_return ZeroBeforeReturn frame order = pop_ops frame order ++ zero_a0 ∷ []

-- the return of a pop, if it has one
abbrev pub return_ops : Ending → List Instr
return_ops GoesOn = []
return_ops Returns = return_to_ra ∷ []
return_ops ZeroFirst = return_to_ra ∷ []
return_ops ZeroBeforeRaise = return_to_ra ∷ []
return_ops ZeroBeforeReturn = return_to_ra ∷ []

-- ---- moves

-- whether the move of a0 comes before that of a1
pub data MoveOrder : Type 0 where
  A0First : MoveOrder
  A1First : MoveOrder

-- two moves, each from a source to a register, in their order
abbrev pub move_ops : MoveOrder → ℕ × ℕ → ℕ × ℕ → List Instr
move_ops A0First a b = move_to a.0 a.1 ∷ move_to b.0 b.1 ∷ []
move_ops A1First a b = move_to b.0 b.1 ∷ move_to a.0 a.1 ∷ []

-- ---- groups

-- a push or a pop of a list, with the frame and the order of its slots; or moves of a0 and a1 to two s registers, or from two
pub data GroupKind : Type 0 where
  PushOf : (list frame : ℕ) → (order : List Slot) → GroupKind
  PopOf : Ending → (list frame : ℕ) → (order : List Slot) → GroupKind
  MovesToSaved : MoveOrder → (first second : ℕ) → GroupKind
  MovesFromSaved : MoveOrder → (first second : ℕ) → GroupKind

-- what a group must satisfy: its frame fits its list, or its registers are s registers, two different ones for moves to them
abbrev pub IsGroup : GroupKind → Type 0
IsGroup (PushOf list frame order) = IsFrame list frame order
IsGroup (PopOf ending list frame order) = IsFrame list frame order
IsGroup (MovesToSaved order first second) = IsMoved first × IsMoved second × (second ≢ first)
IsGroup (MovesFromSaved order first second) = IsMoved first × IsMoved second

-- the items of a group, as instructions
abbrev pub group_ops : GroupKind → List Instr
group_ops (PushOf list frame order) = push_ops frame order
group_ops (PopOf ending list frame order) = ops_before_return ending frame order ++ return_ops ending
group_ops (MovesToSaved order first second) = move_ops order (first, 10) (second, 11)
group_ops (MovesFromSaved order first second) = move_ops order (10, first) (11, second)

-- the number of instructions that a group is written as: two if the frame is too large for one
abbrev pub frame_commits : ℕ → ℕ → ℕ
frame_commits list frame = if rest_of list frame == 0 then 1 else 2

abbrev pub group_commits : GroupKind → ℕ
group_commits (PushOf list frame order) = frame_commits list frame
group_commits (PopOf ending list frame order) = frame_commits list frame
group_commits (MovesToSaved order first second) = 1
group_commits (MovesFromSaved order first second) = 1

-- the halfword that is written for a group
abbrev pub group_half : GroupKind → Short
group_half (PushOf list frame order) = Push list (frame_adjust list frame)
group_half (PopOf ending list frame order) = pop_kind ending list (frame_adjust list frame)
group_half (MovesToSaved order first second) = MoveSa first second
group_half (MovesFromSaved order first second) = MoveAs first second

-- the bytes by which a second instruction of the group moves sp; 0 if it has none
abbrev pub group_rest : GroupKind → ℕ
group_rest (PushOf list frame order) = rest_of list frame
group_rest (PopOf ending list frame order) = rest_of list frame
group_rest (MovesToSaved order first second) = 0
group_rest (MovesFromSaved order first second) = 0
