-- When a state of the symbolic machine stands for one of the machine that runs the image.
use Rattle.std.specs.Prelude.{◌≡◌, ℕ, ◌<◌, ◌≤◌, ◌⊎◌, Option, Some, None}
use Rattle.zc_base.specs.declared.place.Place.{Place}
use Rattle.rv_decode.specs.Memory.{byte_of}
use Rattle.rv_decode.specs.State.{ZcState, reg_in, byte_in}
use Rattle.sym_machine.specs.declared.word.Value.{Value}
use Rattle.sym_machine.specs.declared.word.SymByte.{SymByte}
use Rattle.sym_machine.specs.declared.word.SymByte.TheVariants.{Num, Part, Undef}
use Rattle.sym_machine.specs.declared.word.SymWord.{SymWord}
use Rattle.sym_machine.specs.Program.{Program, data_high}
use Rattle.sym_machine.specs.State.{PlainCore, reg_of, cell_of}
use Rattle.zc_link.specs.Values.{value_in}

-- an abstract byte stands for a byte, if V gives the values; an undefined one stands for any
abbrev pub ByteStands : (Value → Option ℕ) → SymByte → ℕ → Type 0
ByteStands V (Num n) b = b ≡ n
ByteStands V (Part v i) b = (x : ℕ) × (V v ≡ Some x) × (b ≡ byte_of x i)
ByteStands V Undef b = Unit {0}

-- a word stands for a number: each of its bytes does for that byte of it
pub record WordStands (V : Value → Option ℕ) (w : SymWord) (n : ℕ) : Type 0 where
  pub b0 : ByteStands V w.b0 (byte_of n 0)
  pub b1 : ByteStands V w.b1 (byte_of n 1)
  pub b2 : ByteStands V w.b2 (byte_of n 2)
  pub b3 : ByteStands V w.b3 (byte_of n 3)

-- an address of data or of the stack
abbrev pub IsMemory : Program → ℕ → Type 0
IsMemory p a = ((p.map.data_low ≤ a) × (a < data_high p)) ⊎ ((p.map.stack_low ≤ a) × (a < p.map.stack_high))

-- the program's registers, memory and input stand for the machine's, and so does its place, unless the program has exited
pub record Stands (p : Program) (A : Place → Option ℕ) (s : PlainCore) (z : ZcState) : Type 0 where
  pub registers : (r : ℕ) → r < 32 → WordStands (value_in p A) (reg_of s r) (reg_in z.core r)
  pub memory : (a : ℕ) → IsMemory p a → ByteStands (value_in p A) (cell_of s a) (byte_in z.core a)
  pub input : s.input ≡ z.input
  pub place : s.exit ≡ None → A s.place ≡ Some z.core.pc
