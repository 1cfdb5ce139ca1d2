-- The code at the entry of an image with a jump table (RISC-V Zc specification 1.0, "Zcmt").
use Rattle.std.specs.Prelude.{◌≡◌, ℕ, ℤ, ◌+◌, ◌*◌, ◌/◌, ◌<◌, List, [], ◌∷◌, length, slice_get, slice_index, slice_set}
use Rattle.zc_base.specs.Fields.{word_in}
use Rattle.rv_decode.specs.declared.instr.Instr.{Instr}
use Rattle.rv_decode.specs.declared.instr.Instr.TheVariants.{Upper, Jal, Csrrw}
use Rattle.rv_decode.specs.declared.instr.UpperOp.TheVariants.{Lui}
use Rattle.rv_decode.specs.Bits.{add32}
use Rattle.rv_decode.specs.Decode.{decoded}
use Rattle.rv_decode.specs.Effect.{Commits, effect}
use Rattle.rv_decode.specs.State.{ZcCore}

-- `lui t0` with the address of the table, which is where the text begins, `csrrw x0,jvt,t0`, and `jal x0` to the
-- program's start
abbrev pub stub_instrs : ℕ → ℤ → List Instr
stub_instrs text distance = Upper Lui 5 (text / 4096) ∷ Csrrw 0 5 ∷ Jal 0 distance ∷ []

-- these bytes are the words of these instructions, one after another
pub record AreWordsOf (instrs : List Instr) (bytes : List ℕ) : Type 0 where
  pub whole : length bytes ≡ 4 * length instrs
  pub octets : (k : ℕ) → slice_index bytes k < 256
  pub spell : (k : ℕ) → k < length instrs → decoded (word_in bytes (4 * k)) ≡ slice_get instrs k

-- ---- what the code does

-- instructions of four bytes commit one after another, from one state to another
abbrev pub CommitInTurn : List Instr → ZcCore → ZcCore → Type 0
CommitInTurn [] z end = z ≡ end
CommitInTurn (i ∷ rest) z end = (next : ZcCore) × (effect i 4 z ≡ Commits next) × CommitInTurn rest next end

-- jvt and t0 hold the table's address, and the jump, eight bytes after the first instruction, was made; all else is as it was
abbrev pub after_stub : ℕ → ℤ → ZcCore → ZcCore
after_stub text distance z =
    record z { pc = add32 (z.pc + 8) distance; regs = slice_set z.regs 5 text; jvt = text; commits = z.commits + 3 }

-- running the stub's instructions one after another gives the state after the stub
abbrev pub SetsBase : ℕ → ℤ → Type 0
SetsBase text distance = (z : ZcCore) → length z.regs ≡ 32 → CommitInTurn (stub_instrs text distance) z (after_stub text distance z)
