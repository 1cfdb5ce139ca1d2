-- States of the two machines that correspond: Ready and Alike whatever the place, Sound at a listed place, Over after the exit.
-- Which places a program may name is a parameter.
use Rattle.std.specs.Prelude.{◌≡◌, ℕ, ◌<◌, ◌≤◌, ◌⊎◌, true, Some, None}
use Rattle.zc_base.specs.declared.place.Place.{Place}
use Rattle.rv_decode.specs.Memory.{extents_of, is_text, lies_in}
use Rattle.rv_decode.specs.State.{IsCore, ZcCore, ZcState, byte_in, reg_in}
use Rattle.sym_machine.specs.declared.word.SymByte.{SymByte}
use Rattle.sym_machine.specs.declared.word.SymByte.TheVariants.{Num, Part, Undef}
use Rattle.sym_machine.specs.declared.word.SymWord.{SymWord}
use Rattle.sym_machine.specs.declared.word.Value.TheVariants.{Code, AbsHi, PcHi}
use Rattle.sym_machine.specs.Program.{Program, start_memory}
use Rattle.sym_machine.specs.State.{IsPlainState, PlainCore, cell_of, reg_of}
use Rattle.sym_machine.specs.Step.{stack_mark}
use Rattle.zc_link.specs.Image.{Image, loaded_core}
use Rattle.zc_link.specs.Stands.{ByteStands, IsMemory, Stands, WordStands}
use Rattle.zc_link.specs.Values.{value_in}

-- ---- addresses of code in a state

-- a byte that is part of a code address is part of that of a place that a program may name
abbrev pub NamesByte : (Place → Type 0) → SymByte → Type 0
NamesByte Named (Num n) = Unit {0}
NamesByte Named (Part (Code q) i) = Named q
NamesByte Named (Part (AbsHi q) i) = Unit {0}
NamesByte Named (Part (PcHi q) i) = Unit {0}
NamesByte Named Undef = Unit {0}

-- each byte of a word that is part of a code address is part of that of a place that the program may name
abbrev pub NamesWord : (Place → Type 0) → SymWord → Type 0
NamesWord Named w = NamesByte Named w.b0 × NamesByte Named w.b1 × NamesByte Named w.b2 × NamesByte Named w.b3

-- the same of all registers and all memory
pub record NamesPlaces (p : Program) (Named : Place → Type 0) (s : PlainCore) : Type 0 where
  pub registers : (r : ℕ) → r < 32 → NamesWord Named (reg_of s r)
  pub memory : (a : ℕ) → IsMemory p a → NamesByte Named (cell_of s a)

-- ---- states

-- neither machine has exited, and both are in a state; the program's registers and memory stand for the machine's; the regions of
-- both are as they were at the start, and so is the machine's text; and jvt is the text's start if the image doesn't start at the
-- program's start, which is so when the text begins with a table of jumps
pub record Ready (p : Program) (Named : Place → Type 0) (e : Image) (s : PlainCore) (z : ZcCore) : Type 0 where
  pub running : s.exit ≡ None
  pub going : z.exit ≡ None
  pub plain : IsPlainState s
  pub core : IsCore z
  pub registers : (r : ℕ) → r < 32 → WordStands (value_in p e.address) (reg_of s r) (reg_in z r)
  pub memory : (a : ℕ) → IsMemory p a → ByteStands (value_in p e.address) (cell_of s a) (byte_in z a)
  pub names : NamesPlaces p Named s
  pub lies : extents_of s.memory ≡ extents_of (start_memory p)
  pub extents : extents_of z.memory ≡ extents_of (loaded_core e).memory
  pub text : (a : ℕ) → lies_in is_text (extents_of (loaded_core e).memory) a 1 ≡ true → byte_in z a ≡ byte_in (loaded_core e) a
  pub table : (e.address p.entry ≡ Some e.entry → ⊥) → z.jvt ≡ e.map.text

-- `Ready`; also, the bytes of the stack below sp, or all of them if sp isn't set, are undefined to the program
pub record Alike (p : Program) (Named : Place → Type 0) (e : Image) (s : PlainCore) (z : ZcCore) : Type 0 where
  pub ready : Ready p Named e s z
  pub open ready use *
  pub below : (a : ℕ) → p.map.stack_low ≤ a → a < stack_mark p.map s → cell_of s a ≡ Undef

-- `Alike`; also, pc is the address of the program's place, and the inputs that are left are equal
pub record Sound (p : Program) (Named : Place → Type 0) (e : Image) (s : PlainCore) (z : ZcState) : Type 0 where
  pub alike : Alike p Named e s z.core
  pub input : s.input ≡ z.input
  pub place : e.address s.place ≡ Some z.core.pc

-- both have exited with the same status, and the program's state stands for the machine's
pub record Over (p : Program) (e : Image) (s : PlainCore) (z : ZcState) : Type 0 where
  pub status : ℕ
  pub exited : s.exit ≡ Some status
  pub ended : z.core.exit ≡ Some status
  pub stands : Stands p e.address s z

-- the two states correspond: at a listed place, or after the exit
abbrev pub Together : Program → (Place → Type 0) → Image → PlainCore → ZcState → Type 0
Together p Named e s z = Sound p Named e s z ⊎ Over p e s z
