-- The state of the machine that runs RV32IM and Zc.
use Rattle.std.specs.Prelude.{◌≡◌, ℕ, ◌+◌, ◌*◌, ◌^◌, ◌<◌, ◌==◌, if◌then◌else◌, List, ◌∷◌, length, Option, replicate, slice_index, slice_set}
use Rattle.rv_decode.specs.Devices.{Device}
use Rattle.rv_decode.specs.Memory.{Region, cell_at}

-- what a program does to its environment: it reads input, writes output, or exits; it loads from a device's address, where it asks
-- for `width` bytes and gets these, or stores bytes there; or it makes an instruction of the system, by its word and operand, and
-- gets these bytes
pub data Event : Type 0 where
  Read : (bytes : List ℕ) → Event
  Write : (fd : ℕ) (bytes : List ℕ) → Event
  Exit : (status : ℕ) → Event
  Load : (at width : ℕ) (bytes : List ℕ) → Event
  Store : (at : ℕ) (bytes : List ℕ) → Event
  System : (word operand : ℕ) (bytes : List ℕ) → Event

-- what the machine itself keeps: the program counter, 32 registers, the base of the jump table (jvt, Zc 1.0,
-- chapter "Zcmt"), memory, the number of instructions that were committed, and the exit's status
pub record ZcCore : Type 0 where
  pub pc : ℕ
  pub regs : List ℕ
  pub jvt : ℕ
  pub memory : List (Region ℕ)
  pub commits : ℕ
  pub exit : Option ℕ

-- a state of the machine, with the input that is left, from which devices answer as well, the events so far, and where devices
-- lie
pub record ZcState : Type 0 where
  pub core : ZcCore
  pub input : List ℕ
  pub events : List Event
  pub devices : List Device

-- ---- registers

-- register rd gets v; register 0 stays (RISC-V unprivileged manual, "Programmers' Model for Base Integer ISA")
abbrev pub set_reg : {X : Type 0} → List X → ℕ → X → List X
set_reg regs rd v = if rd == 0 then regs else slice_set regs rd v

-- the registers at a program's start: x0, sp (x2), and what the others hold
abbrev pub start_regs : {X : Type 0} → X → X → X → List X
start_regs x0 sp other = x0 ∷ other ∷ sp ∷ replicate 29 other

-- what a register holds; register 0 holds 0
abbrev pub reg_in : ZcCore → ℕ → ℕ
reg_in z r = if r == 0 then 0 else slice_index z.regs r

-- ---- memory

-- the byte at an address, and 0 if no region has one
abbrev pub byte_in : ZcCore → ℕ → ℕ
byte_in z a = cell_at 0 z.memory a

-- the halfword at an address, its low byte first
abbrev pub half_at : ZcCore → ℕ → ℕ
half_at z a = byte_in z a + 256 * byte_in z (a + 1)

-- the word there
abbrev pub word_at : ZcCore → ℕ → ℕ
word_at z a = byte_in z a + 256 * byte_in z (a + 1) + 65536 * byte_in z (a + 2) + 16777216 * byte_in z (a + 3)

-- ---- states of a machine

-- 32 registers that hold words, and memory that holds bytes
pub record IsCore (z : ZcCore) : Type 0 where
  pub count : length z.regs ≡ 32
  pub words : (r : ℕ) → reg_in z r < 2 ^ 32
  pub bytes : (a : ℕ) → byte_in z a < 256
