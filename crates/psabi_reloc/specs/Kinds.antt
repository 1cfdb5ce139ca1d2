-- Types of relocations: which bytes each changes, and in which instructions (RISC-V ELF psABI, "Relocations").
use Rattle.std.specs.Prelude.{ℕ, ℤ, pos, negsuc, Bool, true, false, ◌==◌, if◌then◌else◌, Option, Some, None}
use Rattle.rv_decode.specs.declared.instr.Instr.{Instr}
use Rattle.rv_decode.specs.declared.instr.Instr.TheVariants.{Upper, Jal, Jalr, Load, Store, WithImm}
use Rattle.rv_decode.specs.declared.instr.Instr.TheVariants as instr
use Rattle.rv_decode.specs.declared.instr.ImmOp.TheVariants.{Addi}
use Rattle.rv_decode.specs.declared.instr.UpperOp.TheVariants.{Lui, Auipc}
use Rattle.psabi_reloc.specs.declared.kind.RelocKind.{RelocKind}
use Rattle.psabi_reloc.specs.declared.kind.RelocKind.TheVariants.{Ignored, Word, Branch, Jal as JalKind, Call, PcrelHi20, PcrelLo12I, PcrelLo12S, Hi20, Lo12I, Lo12S, RvcBranch, RvcJump, Align}

-- ---- types

-- what a type asks for; NONE (0) and RELAX (51) ask for nothing, and CALL_PLT (19) is CALL (18). Other types aren't known
abbrev pub kind_of : ℕ → Option RelocKind
kind_of n =
    if n == 0 then Some Ignored else (if n == 51 then Some Ignored else
    (if n == 1 then Some Word else
    (if n == 16 then Some Branch else
    (if n == 17 then Some JalKind else
    (if n == 18 then Some Call else (if n == 19 then Some Call else
    (if n == 23 then Some PcrelHi20 else
    (if n == 24 then Some PcrelLo12I else
    (if n == 25 then Some PcrelLo12S else
    (if n == 26 then Some Hi20 else
    (if n == 27 then Some Lo12I else
    (if n == 28 then Some Lo12S else
    (if n == 43 then Some Align else
    (if n == 44 then Some RvcBranch else
    (if n == 45 then Some RvcJump else None)))))))))))))))

-- ---- fields

-- the bytes of padding that an ALIGN asks for
abbrev pub padding_length : ℤ → ℕ
padding_length (pos n) = n
padding_length (negsuc n) = 0

-- the number of bytes that a relocation of a kind changes; a kind that isn't known changes none
abbrev pub field_length : Option RelocKind → ℤ → ℕ
field_length None addend = 0
field_length (Some Ignored) addend = 0
field_length (Some Word) addend = 4
field_length (Some Branch) addend = 4
field_length (Some JalKind) addend = 4
field_length (Some Call) addend = 8
field_length (Some PcrelHi20) addend = 4
field_length (Some PcrelLo12I) addend = 4
field_length (Some PcrelLo12S) addend = 4
field_length (Some Hi20) addend = 4
field_length (Some Lo12I) addend = 4
field_length (Some Lo12S) addend = 4
field_length (Some RvcBranch) addend = 2
field_length (Some RvcJump) addend = 2
field_length (Some Align) addend = padding_length addend

-- ---- instructions

abbrev pub is_auipc : Option Instr → Bool
is_auipc (Some (Upper Auipc rd imm)) = true
is_auipc other = false

abbrev pub is_lui : Option Instr → Bool
is_lui (Some (Upper Lui rd imm)) = true
is_lui other = false

-- `addi`, a load or `jalr`, whose immediate is added to a register
abbrev pub is_sum : Option Instr → Bool
is_sum (Some (WithImm Addi rd first imm)) = true
is_sum (Some (Load op rd base imm)) = true
is_sum (Some (Jalr rd base imm)) = true
is_sum other = false

abbrev pub is_store : Option Instr → Bool
is_store (Some (Store op source base imm)) = true
is_store other = false

-- an `auipc`, and a `jalr` whose base is its register
abbrev pub is_call : Option Instr → Option Instr → Bool
is_call (Some (Upper Auipc temp upper)) (Some (Jalr rd base lower)) = base == temp
is_call first second = false

-- the instructions at a relocation are of its kind: a branch, a jump, and so on; the second counts for a call alone
abbrev pub fits : RelocKind → Option Instr → Option Instr → Bool
fits Ignored first second = true
fits Word first second = true
fits Branch (Some (instr.Branch op left right distance)) second = true
fits JalKind (Some (Jal rd distance)) second = true
fits Call first second = is_call first second
fits PcrelHi20 first second = is_auipc first
fits PcrelLo12I first second = is_sum first
fits PcrelLo12S first second = is_store first
fits Hi20 first second = is_lui first
fits Lo12I first second = is_sum first
fits Lo12S first second = is_store first
fits RvcBranch (Some (instr.Branch op left right distance)) second = true
fits RvcJump (Some (Jal rd distance)) second = true
fits Align first second = true
fits kind first second = false
