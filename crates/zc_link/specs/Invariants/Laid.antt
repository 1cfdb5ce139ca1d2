-- What a layout must satisfy: each listed place starts a stretch that is laid, and the image's memory begins as the program's does.
use Rattle.std.specs.Prelude.{◌≡◌, ℕ, ℤ, ◌+◌, ◌*◌, ◌/◌, ◌%◌, ◌^◌, ◌<◌, ◌≤◌, Some}
use Rattle.zc_base.specs.declared.place.Place.{Place}
use Rattle.rv_decode.specs.declared.instr.Instr.TheVariants.{Csrrw, Jal, Upper}
use Rattle.rv_decode.specs.declared.instr.UpperOp.TheVariants.{Lui}
use Rattle.rv_decode.specs.Bits.{add32}
use Rattle.rv_decode.specs.Memory.{cell_at}
use Rattle.rv_decode.specs.State.{byte_in}
use Rattle.sym_machine.specs.declared.word.SymByte.TheVariants.{Undef}
use Rattle.sym_machine.specs.Program.{Program, start_memory}
use Rattle.sym_machine.specs.State.{PlainCore}
use Rattle.zc_decode.specs.declared.short.Short.TheVariants.{Base}
use Rattle.zc_link.specs.DataApart.{CellsLie}
use Rattle.zc_link.specs.Image.{Image, loaded_core}
use Rattle.moved_runs.specs.Leads.{Leads}
use Rattle.zc_link.specs.Pace.{Stretch, commits_of, span_of}
use Rattle.zc_link.specs.Invariants.Stretches.{OneAt, StretchLaid}
use Rattle.zc_link.specs.Invariants.Room.{Room}
use Rattle.zc_link.specs.Sound.{NamesByte}
use Rattle.zc_link.specs.Stands.{ByteStands, IsMemory}
use Rattle.zc_link.specs.Values.{value_in}

-- the stub stands at an address: `lui t0`, `csrrw x0,jvt,t0` and `jal x0` set jvt to the text's start, and go to the
-- program's, which is another address (RISC-V Zc specification 1.0, "Zcmt")
pub record StubLaid (p : Program) (e : Image) (a : ℕ) : Type 0 where
  pub whole : e.map.text % 2 ^ 12 ≡ 0
  pub small : e.map.text < 2 ^ 32
  pub upper : OneAt e a (Base (Upper Lui 5 (e.map.text / 2 ^ 12)))
  pub sets : OneAt e (a + upper.size) (Base (Csrrw 0 5))
  pub distance : ℤ
  pub goes : OneAt e (a + upper.size + sets.size) (Base (Jal 0 distance))
  pub leads : e.address p.entry ≡ Some (add32 (a + upper.size + sets.size) distance)
  pub elsewhere : e.address p.entry ≡ Some a → ⊥

-- where the image starts: at the program's start, or at a stub that leads there
pub data Begins (p : Program) (e : Image) : Type 0 where
  AtEntry : e.address p.entry ≡ Some e.entry → Begins p e
  BehindStub : StubLaid p e e.entry → Begins p e

-- if this holds of a program, an image, and what starts at each place, the image does the program's steps at the pace of these stretches
pub record Laid (p : Program) (Named : Place → Type 0) (e : Image) (stretch : Place → Stretch) : Type 0 where
  pub room : Room p e
  pub leads : Leads p Named
  pub begins : Begins p e
  pub some : (q : Place) → 0 < span_of (stretch q)
  pub few : (s : PlainCore) → commits_of p s (stretch s.place) ≤ 64 * span_of (stretch s.place)
  -- each listed place's stretch is laid at its address
  pub each : (q : Place) (a : ℕ) → e.address q ≡ Some a → StretchLaid p e q a (stretch q)
  -- memory begins with bytes that stand for the image's, and name what a program may name
  pub first :
      (a : ℕ) → IsMemory p a → ByteStands (value_in p e.address) (cell_at Undef (start_memory p) a) (byte_in (loaded_core e) a)
  pub names : (a : ℕ) → IsMemory p a → NamesByte Named (cell_at Undef (start_memory p) a)
  pub bytes : (a : ℕ) → byte_in (loaded_core e) a < 256
  pub cells : CellsLie p e
