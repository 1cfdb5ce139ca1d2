-- Pushes and pops in parts: whether the words of a frame can all be loaded and stored, how far the loads have come, and what a pop
-- does behind them.
use Rattle.std.specs.Prelude.{◌≡◌, ◌≢◌, ℕ, pos, ◌+◌, ◌-◌, ◌*◌, ◌%◌, ◌<◌, ◌≤◌, ◌&&◌, nat_le, true, List, [], ◌∷◌, ◌++◌, drop, length, Option, Some, slice_index_or}
use Rattle.zc_base.specs.declared.mem_map.MemMap.{MemMap}
use Rattle.zc_base.specs.declared.place.Place.{Place}
use Rattle.rv_decode.specs.Bits.{add32}
use Rattle.rv_decode.specs.Memory.{changed}
use Rattle.rv_decode.specs.declared.instr.Instr.{Instr}
use Rattle.rv_decode.specs.declared.instr.Instr.TheVariants.{Jalr, WithImm}
use Rattle.rv_decode.specs.declared.instr.ImmOp.TheVariants.{Addi}
use Rattle.rv_decode.specs.declared.instr.LoadOp.TheVariants.{Lw}
use Rattle.sym_machine.specs.declared.state.frames.PopEnd.{PopEnd}
use Rattle.sym_machine.specs.declared.state.frames.PopEnd.TheVariants.{GoesOn, Returns, ReturnsZero}
use Rattle.sym_machine.specs.declared.why.Why.{Why}
use Rattle.sym_machine.specs.Change.{Does, Goes, Stops, accessing, load_word, sets}
use Rattle.sym_machine.specs.Expansions.{restores}
use Rattle.sym_machine.specs.State.{PlainCore, reg_of}
use Rattle.sym_machine.specs.Step.{Went, applied, in_turn, undefined_below}
use Rattle.sym_machine.specs.Words.{number_of, number_word}

-- ---- the words of a frame

-- sp is this number, which lies within the stack, and all below it is undefined
pub record HasStack (map : MemMap) (sp : ℕ) (s : PlainCore) : Type 0 where
  pub count : length s.regs ≡ 32
  pub number : number_of (reg_of s 2) ≡ Some sp
  pub low : map.stack_low ≤ sp
  pub high : sp ≤ map.stack_high
  pub settled : changed (undefined_below map sp) s.memory ≡ s.memory

-- the address of a word, counted from the highest: all words lie below this offset from sp
abbrev pub word_address : ℕ → ℕ → ℕ → ℕ
word_address sp top k = add32 sp (pos (top - 4 * (k + 1)))

-- a word can be loaded and stored
abbrev pub IsReached : PlainCore → ℕ → Type 0
IsReached s a = (go : ℕ → Does) → accessing 4 (Some a) s go ≡ go a

-- the first n words, from the highest down, can each be loaded and stored
pub record AreReached (s : PlainCore) (sp top n : ℕ) : Type 0 where
  pub room : 4 * n ≤ top
  pub each : (k : ℕ) → k < n → IsReached s (word_address sp top k)

-- the highest word of a frame can't be loaded or stored, and why
abbrev pub IsObstacle : PlainCore → ℕ → ℕ → Why → Type 0
IsObstacle s sp top why = (go : ℕ → Does) → accessing 4 (Some (word_address sp top 0)) s go ≡ Stops why

-- a frame that ends in the stack, or at its end: each of its words can be loaded and stored
pub record IsInStack (map : MemMap) (s : PlainCore) (sp top : ℕ) : Type 0 where
  pub end : (nat_le map.stack_low (add32 sp (pos top)) && nat_le (add32 sp (pos top)) map.stack_high) ≡ true
  pub reached : (n : ℕ) → 4 * n ≤ top → AreReached s sp top n

-- the size of a frame: some words, of no more than 112 bytes
pub record IsFrameBytes (top : ℕ) : Type 0 where
  pub some : 0 < top
  pub most : top ≤ 112
  pub words : top % 4 ≡ 0

-- a register of a frame is neither register 0 nor sp
abbrev pub IsFrameRegister : ℕ → Type 0
IsFrameRegister r = (0 < r) × (r < 32) × (r ≢ 2)

-- ---- loads

-- the state in a loop over the registers, of which k are loaded
pub record IsLoading (map : MemMap) (sp top k : ℕ) (registers : List ℕ) (next : Place) (first s : PlainCore) : Type 0 where
  pub stack : HasStack map sp s
  pub memory : s.memory ≡ first.memory
  pub last : 0 < k → reg_of s (slice_index_or registers (k - 1) 0) ≡ load_word Lw first (word_address sp top (k - 1))
  pub same : (is : List Instr) → in_turn map (restores top registers ++ is) next first ≡ in_turn map (restores (top - 4 * k) (drop k registers) ++ is) next s

-- ---- the end of a pop

-- what a pop does behind its loads
abbrev pub behind_loads : PopEnd → ℕ → List Instr
behind_loads GoesOn frame = WithImm Addi 2 2 (pos frame) ∷ []
behind_loads Returns frame = WithImm Addi 2 2 (pos frame) ∷ Jalr 0 1 (pos 0) ∷ []
behind_loads ReturnsZero frame = WithImm Addi 10 0 (pos 0) ∷ WithImm Addi 2 2 (pos frame) ∷ Jalr 0 1 (pos 0) ∷ []

-- before sp is raised, a0 is 0 if the pop returns 0
abbrev pub IsZeroed : PopEnd → MemMap → Place → PlainCore → PlainCore → Type 0
IsZeroed GoesOn map next s z = z ≡ s
IsZeroed Returns map next s z = z ≡ s
IsZeroed ReturnsZero map next s z = applied map s (Goes (sets 10 (number_word 0) next)) ≡ Went z []

-- where a pop leads, by the place whose address was loaded to ra
abbrev pub pop_target : PopEnd → Option Place → Place → Option Place
pop_target GoesOn ra next = Some next
pop_target Returns ra next = ra
pop_target ReturnsZero ra next = ra
