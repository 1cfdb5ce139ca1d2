-- Words of instructions, computed.
use Rattle.std.specs.Prelude.{◌≡◌, pos, negsuc, refl}
use Rattle.rv_decode.specs.declared.instr.Instr.TheVariants.{Jal, Store, WithImm}
use Rattle.rv_decode.specs.declared.instr.ImmOp.TheVariants.{Addi, Srai}
use Rattle.rv_decode.specs.declared.instr.StoreOp.TheVariants.{Sw}
use Rattle.rv_encode.specs.Words.{encoded}

-- addi a0, a0, 5
encoded_sum : encoded (WithImm Addi 10 10 (pos 5)) ≡ 0x00550513
unfolding encoded
encoded_sum = refl

-- srai a0, a0, 3
encoded_shift : encoded (WithImm Srai 10 10 (pos 3)) ≡ 0x40355513
unfolding encoded
encoded_shift = refl

-- sw ra, -4(sp)
encoded_store : encoded (Store Sw 1 2 (negsuc 3)) ≡ 0xFE112E23
unfolding encoded
encoded_store = refl

-- a jump to itself, and one back by four bytes
encoded_jump : encoded (Jal 0 (pos 0)) ≡ 0x0000006F
unfolding encoded
encoded_jump = refl

encoded_jump_back : encoded (Jal 0 (negsuc 3)) ≡ 0xFFDFF06F
unfolding encoded
encoded_jump_back = refl
