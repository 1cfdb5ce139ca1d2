-- Instructions with a relocation: an upper part goes to a register, and a lower part is the immediate of a sum. Whatever the sum's
-- word is, it has only to stand for the machine's sum with that immediate; then the law is that of the format.
use Rattle.std.proofs.Common.{◌≡◌, ℕ, ◌*◌, ◌^◌, ◌<◌, Some, true, refl, arith, ℤ}
use Rattle.zc_base.specs.declared.place.Place.{Place}
use Rattle.psabi_reloc.specs.Parts.{hi20_of, lo12_of}
use Rattle.psabi_reloc.specs.Patched.{with_imm, with_upper}
use Rattle.psabi_sym.specs.declared.target.Target.{Target}
use Rattle.rv_decode.specs.declared.instr.Instr.{Instr}
use Rattle.rv_decode.specs.declared.instr.Instr.TheVariants as instr
use Rattle.rv_decode.specs.declared.instr.ImmOp.{ImmOp}
use Rattle.rv_decode.specs.declared.instr.ImmOp.TheVariants.{Addi, Slti, Sltiu, Xori, Ori, Andi, Slli, Srli, Srai}
use Rattle.rv_decode.specs.declared.instr.UpperOp.TheVariants.{Auipc, Lui}
use Rattle.rv_decode.specs.Bits.{add32}
use Rattle.rv_decode.specs.Effect.{after}
use Rattle.rv_decode.specs.Registers.{HasRegisters}
use Rattle.rv_decode.specs.Results.{upper_result}
use Rattle.rv_decode.specs.State.{ZcCore, reg_in}
use Rattle.block_cut.specs.Leaders.{is_jalr}
use Rattle.sym_machine.specs.declared.word.SymWord.{SymWord}
use Rattle.sym_machine.specs.declared.word.Value.TheVariants.{PcHi}
use Rattle.sym_machine.specs.AddressParts.{high_word, low_sum, pc_low_sum, pc_target}
use Rattle.sym_machine.specs.Change.{Change, Goes, base_register, by_sum, upper_does}
use Rattle.sym_machine.specs.Program.{Program}
use Rattle.sym_machine.specs.State.{PlainCore, reg_of}
use Rattle.sym_machine.specs.Words.{value_word}
use Rattle.zc_link.specs.Image.{Image}
use Rattle.moved_runs.specs.Named.{IsNamedTarget}
use Rattle.zc_link.specs.Invariants.Room.{Room}
use Rattle.zc_link.specs.Sound.{NamesWord, Ready}
use Rattle.zc_link.specs.Stands.{WordStands}
use Rattle.zc_link.specs.Values.{target_value, value_in, way}
use Rattle.zc_link.proofs.PartLaws.{pc_upper}
use Rattle.zc_link.proofs.Addresses.{high_names, high_stands, low_names, low_stands, pc_low_names, pc_low_stands, way_stands}
use Rattle.zc_link.proofs.Instrs.{GoesOn, Moves, jalr_moves, load_goes, moves_on, register_goes, store_goes}

-- the register that a sum begins with is one of the 32
pub base_low : (i : Instr) (k : ℤ) → HasRegisters (with_imm i k) → base_register i < 32
base_low (instr.Upper op rd imm) k registers = omega arith
base_low (instr.Jal rd distance) k registers = omega arith
base_low (instr.Jalr rd base imm) k registers = registers.1
base_low (instr.Branch op first second distance) k registers = omega arith
base_low (instr.Load op rd base imm) k registers = registers.1
base_low (instr.Store op source base imm) k registers = registers.1
base_low (instr.WithImm op rd first imm) k registers = registers.1
base_low (instr.WithReg op rd first second) k registers = omega arith
base_low (instr.Fence rest) k registers = omega arith
base_low instr.Ecall k registers = omega arith
base_low instr.Ebreak k registers = omega arith
base_low (instr.Csrrw rd source) k registers = omega arith

module _ {p : Program} {Named : Place → Type 0} {e : Image} {s : PlainCore} {z : ZcCore} (room : Room p e) (ready : Ready p Named e s z) (size : ℕ) (c : Change) (next : Place) where
  -- ---- upper parts

  pub hi_goes :
      (i : Instr) (t : Target) (x : ℕ) → target_value e.address t ≡ Some x → upper_does Lui i (high_word t) next ≡ Goes c
      → GoesOn p Named e (with_upper i (hi20_of x)) size c s next z
  hi_goes (instr.Upper Lui rd imm) t x is h =
      let v : ℕ = upper_result Lui z.pc (hi20_of x) in
      let same : v ≡ hi20_of x * 2 ^ 12 = omega arith in
      register_goes room ready size c next (instr.Upper Lui rd (hi20_of x)) rd v (high_word t) refl (omega arith) (rw same (high_stands room t x is)) (high_names Named t) h
  hi_goes (instr.Upper Auipc rd imm) t x is h = absurd cc
  hi_goes (instr.Jal rd distance) t x is h = absurd cc
  hi_goes (instr.Jalr rd base imm) t x is h = absurd cc
  hi_goes (instr.Branch op first second distance) t x is h = absurd cc
  hi_goes (instr.Load op rd base imm) t x is h = absurd cc
  hi_goes (instr.Store op source base imm) t x is h = absurd cc
  hi_goes (instr.WithImm op rd first imm) t x is h = absurd cc
  hi_goes (instr.WithReg op rd first second) t x is h = absurd cc
  hi_goes (instr.Fence rest) t x is h = absurd cc
  hi_goes instr.Ecall t x is h = absurd cc
  hi_goes instr.Ebreak t x is h = absurd cc
  hi_goes (instr.Csrrw rd source) t x is h = absurd cc

  -- an instruction with the upper part of the distance from here
  pub pc_hi_goes :
      (i : Instr) (q : Place) (t : Target) (x : ℕ) → pc_target (p.item q) ≡ Some t → e.address q ≡ Some z.pc
      → target_value e.address t ≡ Some x → upper_does Auipc i (value_word (PcHi q)) next ≡ Goes c
      → GoesOn p Named e (with_upper i (hi20_of (way z.pc x))) size c s next z
  pc_hi_goes (instr.Upper Lui rd imm) q t x leads at is h = absurd cc
  pc_hi_goes (instr.Upper Auipc rd imm) q t x leads at is h =
      register_goes room ready size c next (instr.Upper Auipc rd (hi20_of (way z.pc x))) rd (pc_upper z.pc x) (value_word (PcHi q)) refl (omega arith)
      (way_stands room q t z.pc x leads at is) (tt, tt, tt, tt) h
  pc_hi_goes (instr.Jal rd distance) q t x leads at is h = absurd cc
  pc_hi_goes (instr.Jalr rd base imm) q t x leads at is h = absurd cc
  pc_hi_goes (instr.Branch op first second distance) q t x leads at is h = absurd cc
  pc_hi_goes (instr.Load op rd base imm) q t x leads at is h = absurd cc
  pc_hi_goes (instr.Store op source base imm) q t x leads at is h = absurd cc
  pc_hi_goes (instr.WithImm op rd first imm) q t x leads at is h = absurd cc
  pc_hi_goes (instr.WithReg op rd first second) q t x leads at is h = absurd cc
  pc_hi_goes (instr.Fence rest) q t x leads at is h = absurd cc
  pc_hi_goes instr.Ecall q t x leads at is h = absurd cc
  pc_hi_goes instr.Ebreak q t x leads at is h = absurd cc
  pc_hi_goes (instr.Csrrw rd source) q t x leads at is h = absurd cc

  -- ---- sums

  module _ (listed : e.address next ≡ Some (after z size)) where
    -- `addi`
    addi_moves :
        (op : ImmOp) (rd first : ℕ) (imm k : ℤ) (w : SymWord) → WordStands (value_in p e.address) w (add32 (reg_in z first) k) → NamesWord Named w
        → by_sum (instr.WithImm op rd first imm) w s next ≡ Goes c → Moves p Named e (instr.WithImm op rd first k) size c s z
    addi_moves Addi rd first imm k w stands names h =
        moves_on listed (register_goes room ready size c next (instr.WithImm Addi rd first k) rd (add32 (reg_in z first) k) w refl (omega arith) stands names h)
    addi_moves Slti rd first imm k w stands names h = absurd cc
    addi_moves Sltiu rd first imm k w stands names h = absurd cc
    addi_moves Xori rd first imm k w stands names h = absurd cc
    addi_moves Ori rd first imm k w stands names h = absurd cc
    addi_moves Andi rd first imm k w stands names h = absurd cc
    addi_moves Slli rd first imm k w stands names h = absurd cc
    addi_moves Srli rd first imm k w stands names h = absurd cc
    addi_moves Srai rd first imm k w stands names h = absurd cc

    -- any sum, by its word
    pub sum_moves :
        (i : Instr) (k : ℤ) (w : SymWord) → HasRegisters (with_imm i k) → (is_jalr i ≡ true → Named next)
        → WordStands (value_in p e.address) w (add32 (reg_in z (base_register i)) k) → NamesWord Named w → by_sum i w s next ≡ Goes c
        → Moves p Named e (with_imm i k) size c s z
    sum_moves (instr.Upper op rd imm) k w registers named stands names h = absurd cc
    sum_moves (instr.Jal rd distance) k w registers named stands names h = absurd cc
    sum_moves (instr.Jalr rd base imm) k w registers named stands names h = jalr_moves room ready size c next listed rd base k w (named refl) stands h
    sum_moves (instr.Branch op first second distance) k w registers named stands names h = absurd cc
    sum_moves (instr.Load op rd base imm) k w registers named stands names h = moves_on listed (load_goes room ready size c next op rd base k w stands h)
    sum_moves (instr.Store op source base imm) k w registers named stands names h = moves_on listed (store_goes room ready size c next op source base k w registers.0 stands h)
    sum_moves (instr.WithImm op rd first imm) k w registers named stands names h = addi_moves op rd first imm k w stands names h
    sum_moves (instr.WithReg op rd first second) k w registers named stands names h = absurd cc
    sum_moves (instr.Fence rest) k w registers named stands names h = absurd cc
    sum_moves instr.Ecall k w registers named stands names h = absurd cc
    sum_moves instr.Ebreak k w registers named stands names h = absurd cc
    sum_moves (instr.Csrrw rd source) k w registers named stands names h = absurd cc

    -- an instruction with the lower part of an address
    pub lo_moves :
        (i : Instr) (t : Target) (x : ℕ) → target_value e.address t ≡ Some x → IsNamedTarget Named t → HasRegisters (with_imm i (lo12_of x))
        → (is_jalr i ≡ true → Named next) → by_sum i (low_sum t (reg_of s (base_register i))) s next ≡ Goes c → Moves p Named e (with_imm i (lo12_of x)) size c s z
    lo_moves i t x is names registers named h =
        let base = base_register i in
        let low = base_low i (lo12_of x) registers in
        sum_moves i (lo12_of x) (low_sum t (reg_of s base)) registers named
        (low_stands room t (reg_of s base) (reg_in z base) x (ready.core.words base) is (ready.registers base low))
        (low_names Named t (reg_of s base) names (ready.names.registers base low)) h

    -- an instruction with the lower part of the distance from an `auipc`
    pub pc_lo_moves :
        (i : Instr) (from : Place) (t : Target) (a x : ℕ) → pc_target (p.item from) ≡ Some t → ((u : Target) → pc_target (p.item from) ≡ Some u → IsNamedTarget Named u)
        → e.address from ≡ Some a → target_value e.address t ≡ Some x → HasRegisters (with_imm i (lo12_of (way a x)))
        → (is_jalr i ≡ true → Named next) → by_sum i (pc_low_sum from (pc_target (p.item from)) (reg_of s (base_register i))) s next ≡ Goes c
        → Moves p Named e (with_imm i (lo12_of (way a x))) size c s z
    pc_lo_moves i from t a x leads names at is registers named h =
        let base = base_register i in
        let low = base_low i (lo12_of (way a x)) registers in
        sum_moves i (lo12_of (way a x)) (pc_low_sum from (pc_target (p.item from)) (reg_of s base)) registers named
        (pc_low_stands room from t a x (reg_of s base) (reg_in z base) (ready.core.words base) leads at is (ready.registers base low))
        (pc_low_names Named from (pc_target (p.item from)) (reg_of s base) names) h
