-- What decodes has numbers without a sign that are small.
use Rattle.std.proofs.Common.{◌≡◌, ℕ, Option, Some, sym, ◌∙◌, arith}
use Rattle.rv_decode.specs.Decode.{decoded}
use Rattle.rv_decode.specs.Immediates.{InRange}
use Rattle.rv_decode.specs.Normal.{normal_of}
use Rattle.rv_decode.specs.declared.instr.Instr.{Instr}
use Rattle.rv_decode.specs.declared.instr.Instr.TheVariants.{Upper, Jal, Jalr, Branch, Load, Store, WithImm, WithReg, Fence, Ecall, Ebreak, Csrrw}
use Rattle.rv_decode.proofs.DecodeLaws.{decoded-in_range}
use Rattle.zc_decode.specs.Halfwords.{decoded16}
use Rattle.zc_decode.specs.declared.short.Short.{Short}
use Rattle.zc_decode.specs.declared.short.Short.TheVariants.{Base, Push, Pop, PopRet, PopRetz, MoveSa, MoveAs, TableJump}
use Rattle.zc_decode.proofs.RangeLaws.{half_in_range}
use Rattle.instruction_text.specs.Operands.{ShortUnsignedFits, UnsignedFits}

fits : (i : Instr) → InRange i → UnsignedFits i
fits (Upper op rd imm) range = omega (arith, range)
fits (Jal rd distance) range = tt
fits (Jalr rd base imm) range = tt
fits (Branch op first second distance) range = tt
fits (Load op rd base imm) range = tt
fits (Store op source base imm) range = tt
fits (WithImm op rd first imm) range = tt
fits (WithReg op rd first second) range = tt
fits (Fence rest) range = omega (arith, range)
fits Ecall range = tt
fits Ebreak range = tt
fits (Csrrw rd source) range = tt

normal_fits : (i : Instr) → InRange (normal_of i) → UnsignedFits i
normal_fits (Upper op rd imm) range = omega (arith, range)
normal_fits (Jal rd distance) range = tt
normal_fits (Jalr rd base imm) range = tt
normal_fits (Branch op first second distance) range = tt
normal_fits (Load op rd base imm) range = tt
normal_fits (Store op source base imm) range = tt
normal_fits (WithImm op rd first imm) range = tt
normal_fits (WithReg op rd first second) range = tt
normal_fits (Fence rest) range = omega (arith, range)
normal_fits Ecall range = tt
normal_fits Ebreak range = tt
normal_fits (Csrrw rd source) range = tt

pub word_fits : (word : ℕ) (i : Instr) (o : Option Instr) → o ≡ decoded word → o ≡ Some i → UnsignedFits i
word_fits word i o is found = fits i (decoded-in_range word i (sym is ∙ found))

short_fits : (half : ℕ) (short : Short) → decoded16 half ≡ Some short → ShortUnsignedFits short
short_fits half (Base i) is = normal_fits i (half_in_range half i is)
short_fits half (Push list adjust) is = tt
short_fits half (Pop list adjust) is = tt
short_fits half (PopRet list adjust) is = tt
short_fits half (PopRetz list adjust) is = tt
short_fits half (MoveSa first second) is = tt
short_fits half (MoveAs first second) is = tt
short_fits half (TableJump index) is = tt

pub half_fits : (half : ℕ) (short : Short) (o : Option Short) → o ≡ decoded16 half → o ≡ Some short → ShortUnsignedFits short
half_fits half short o is found = short_fits half short (sym is ∙ found)
