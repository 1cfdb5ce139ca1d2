-- The state of the symbolic machine.
use Rattle.std.specs.Prelude.{◌≡◌, ℕ, ◌<◌, Bool, true, false, ◌==◌, if◌then◌else◌, List, length, All, Option, None, slice_index_or}
use Rattle.zc_base.specs.declared.place.Place.{Place}
use Rattle.rv_decode.specs.Devices.{Device}
use Rattle.rv_decode.specs.Memory.{Region, cell_at}
use Rattle.rv_decode.specs.State.{start_regs}
use Rattle.sym_machine.specs.declared.word.SymByte.{SymByte}
use Rattle.sym_machine.specs.declared.word.SymByte.TheVariants.{Undef}
use Rattle.sym_machine.specs.declared.word.SymWord.{SymWord}
use Rattle.sym_machine.specs.Events.{SymEvent}
use Rattle.sym_machine.specs.Words.{undef_word, number_word}
use Rattle.sym_machine.specs.Program.{Program, start_memory}

-- what the machine itself keeps: the place of the next item, 32 registers, the bytes of data and stack, the input
-- that is left, and the exit's status
pub record PlainCore : Type 0 where
  pub place : Place
  pub regs : List SymWord
  pub memory : List (Region SymByte)
  pub input : List ℕ
  pub exit : Option ℕ

-- a state of the machine, with the events up to it, and where devices lie
pub record PlainState : Type 0 where
  pub core : PlainCore
  pub events : List SymEvent
  pub devices : List Device

-- the registers as the machine keeps them: 32, and register 0 holds the number 0
pub record IsRegisters (regs : List SymWord) : Type 0 where
  pub count : length regs ≡ 32
  pub first : slice_index_or regs 0 undef_word ≡ number_word 0

-- what a register holds; register 0 holds the number 0
abbrev pub reg_of : PlainCore → ℕ → SymWord
reg_of s r = if r == 0 then number_word 0 else slice_index_or s.regs r undef_word

-- the byte at an address of data or of the stack
abbrev pub cell_of : PlainCore → ℕ → SymByte
cell_of s a = cell_at Undef s.memory a

-- a state: 32 registers, and input of bytes
pub record IsPlainState (s : PlainCore) : Type 0 where
  pub count : length s.regs ≡ 32
  pub input : All (λ b. b < 256) s.input

-- the state at the start where sp is set: it is the stack's end, and the other registers are undefined
abbrev pub first_plain : Program → List ℕ → PlainCore
first_plain p input = record {
  place = p.entry;
  regs = start_regs (number_word 0) (number_word p.map.stack_high) undef_word;
  memory = start_memory p;
  input = input;
  exit = None;
}

-- the state at the start, where sp is set or undefined, too
abbrev pub start_plain : Bool → Program → List ℕ → PlainCore
start_plain true p input = first_plain p input
start_plain false p input = record (first_plain p input) { regs = start_regs (number_word 0) undef_word undef_word }
