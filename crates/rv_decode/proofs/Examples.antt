-- The definitions on small cases, computed.
use Rattle.std.specs.Prelude.{◌≡◌, ℕ, true, false, pos, negsuc, List, [], ◌∷◌, None, Some, refl}
use Rattle.rv_decode.specs.declared.instr.Instr.TheVariants.{Jal, Jalr, Branch, Load, Store, WithImm}
use Rattle.rv_decode.specs.declared.instr.BranchOp.TheVariants.{Bne, Blt, Bltu}
use Rattle.rv_decode.specs.declared.instr.ImmOp.TheVariants.{Addi, Sltiu}
use Rattle.rv_decode.specs.declared.instr.LoadOp.TheVariants.{Lb, Lh, Lbu}
use Rattle.rv_decode.specs.declared.instr.RegOp.TheVariants.{Sll, Slt, Sltu, Srl, Sra, Mul, Mulh, Mulhsu, Mulhu, Div, Divu, Rem, Remu}
use Rattle.rv_decode.specs.declared.instr.StoreOp.TheVariants.{Sh}
use Rattle.rv_decode.specs.Bits.{signed, add32}
use Rattle.rv_decode.specs.Decode.{decoded}
use Rattle.rv_decode.specs.Memory.{Region, Data, Stack, cell_at, changed, written, byte_of}
use Rattle.rv_decode.specs.State.{ZcCore, set_reg, start_regs}
use Rattle.rv_decode.specs.Results.{imm_result, is_taken, reg_result}
use Rattle.rv_decode.specs.declared.device_access.DeviceAccess.TheVariants as access
use Rattle.rv_decode.specs.Effect.{Commits, Misaligned, Outside, effect, extended}

-- register 0 stays
zero_stays : set_reg {X = ℕ} (0 ∷ 5 ∷ []) 0 7 ≡ 0 ∷ 5 ∷ []
zero_stays = refl

other_is_set : set_reg {X = ℕ} (0 ∷ 5 ∷ []) 1 7 ≡ 0 ∷ 7 ∷ []
other_is_set = refl

-- a sum wraps at 2^32, upwards and downwards
sum_wraps : add32 0xFFFFFFFF (pos 3) ≡ 2
sum_wraps = refl

difference_wraps : add32 2 (negsuc 2) ≡ 0xFFFFFFFF
difference_wraps = refl

-- 0xFFF in 12 bits is -1
negative_immediate : signed 12 0xFFF ≡ negsuc 0
negative_immediate = refl

least_immediate : signed 12 0x800 ≡ negsuc 2047
least_immediate = refl

-- ---- words

-- addi sp, sp, -16
decoded_word : decoded 0xFF010113 ≡ Some (WithImm Addi 2 2 (negsuc 15))
unfolding decoded
decoded_word = refl

-- in a jump's word imm[11] stands above imm[19:12], and in a branch's above the opcode
jump_word : decoded 0x0010056F ≡ Some (Jal 10 (pos 0x800))
unfolding decoded
jump_word = refl

branch_word : decoded 0x00B560E3 ≡ Some (Branch Bltu 10 11 (pos 2048))
unfolding decoded
branch_word = refl

-- ---- results

-- a shift takes its amount modulo 32
shift_left : reg_result Sll 1 63 ≡ 0x80000000
shift_left = refl

shift_right : reg_result Srl 0x80000000 31 ≡ 1
shift_right = refl

shift_keeps_sign : reg_result Sra 0x80000000 31 ≡ 0xFFFFFFFF
shift_keeps_sign = refl

-- -2^31 is less than 0 with its sign, and not without
less_signed : reg_result Slt 0x80000000 0 ≡ 1
less_signed = refl

not_less_unsigned : reg_result Sltu 0x80000000 0 ≡ 0
not_less_unsigned = refl

-- the immediate -1 counts as the greatest word
less_than_immediate : imm_result Sltiu 0xFFFFFFFE (negsuc 0) ≡ 1
less_than_immediate = refl

-- the four products of -1 and -1, of -1 and 2^31, and of the smallest number with itself
low_product : reg_result Mul 0xFFFFFFFF 0xFFFFFFFF ≡ 1
low_product = refl

high_signed : reg_result Mulh 0xFFFFFFFF 0xFFFFFFFF ≡ 0
high_signed = refl

high_unsigned : reg_result Mulhu 0xFFFFFFFF 0xFFFFFFFF ≡ 0xFFFFFFFE
high_unsigned = refl

high_mixed : reg_result Mulhsu 0xFFFFFFFF 0xFFFFFFFF ≡ 0xFFFFFFFF
high_mixed = refl

high_of_one_sign : reg_result Mulhsu 0x80000000 0x80000000 ≡ 0xC0000000
high_of_one_sign = refl

high_of_smallest : reg_result Mulh 0x80000000 0x80000000 ≡ 0x40000000
high_of_smallest = refl

-- quotients round toward 0, and remainders have the dividend's sign: -7 by 2
quotient_down : reg_result Div 0xFFFFFFF9 2 ≡ 0xFFFFFFFD
quotient_down = refl

remainder_signed : reg_result Rem 0xFFFFFFF9 2 ≡ 0xFFFFFFFF
remainder_signed = refl

-- by 0
quotient_by_zero : reg_result Div 5 0 ≡ 0xFFFFFFFF
quotient_by_zero = refl

unsigned_by_zero : reg_result Divu 5 0 ≡ 0xFFFFFFFF
unsigned_by_zero = refl

remainder_by_zero : reg_result Rem 0x80000000 0 ≡ 0x80000000
remainder_by_zero = refl

unsigned_rest_by_zero : reg_result Remu 5 0 ≡ 5
unsigned_rest_by_zero = refl

-- the smallest number by -1, the one quotient that doesn't fit
quotient_overflows : reg_result Div 0x80000000 0xFFFFFFFF ≡ 0x80000000
quotient_overflows = refl

remainder_overflows : reg_result Rem 0x80000000 0xFFFFFFFF ≡ 0
remainder_overflows = refl

-- branches look at the sign, or don't
taken_signed : is_taken Blt 0xFFFFFFFF 0 ≡ true
taken_signed = refl

not_taken_unsigned : is_taken Bltu 0xFFFFFFFF 0 ≡ false
not_taken_unsigned = refl

-- ---- memory

memory : List (Region ℕ)
memory = record { kind = Data; at = 8; cells = 1 ∷ 2 ∷ [] } ∷ record { kind = Stack; at = 16; cells = 3 ∷ 4 ∷ [] } ∷ []

-- a write reaches the cells at its addresses and no others
written_memory : changed (written 9 8 (byte_of 0x0807060504030201)) memory ≡ record { kind = Data; at = 8; cells = 1 ∷ 1 ∷ [] } ∷ record { kind = Stack; at = 16; cells = 8 ∷ 4 ∷ [] } ∷ []
unfolding memory
written_memory = refl

outside_memory : cell_at 0 memory 10 ≡ 0
unfolding memory
outside_memory = refl

-- ---- effects

before : ZcCore
before = record { pc = 0xFFFFFFFE; regs = start_regs 0 16 0; jvt = 0; memory = []; commits = 4; exit = None }

-- addi sp, sp, -16 in four bytes: pc wraps, sp falls, and the commit counts
sp_falls : effect (WithImm Addi 2 2 (negsuc 15)) 4 before ≡ Commits (record before { pc = 2; regs = start_regs 0 0 0; commits = 5 })
unfolding before
sp_falls = refl

-- jalr clears bit 0 of its sum, and reads its base before it writes rd
jump_returns : effect (Jalr 2 2 (pos 5)) 2 before ≡ Commits (record before { pc = 20; regs = start_regs 0 0 0; commits = 5 })
unfolding before
jump_returns = refl

-- a branch that isn't taken goes on
branch_goes_on : effect (Branch Bne 0 1 (pos 100)) 4 before ≡ Commits (record before { pc = 2; commits = 5 })
unfolding before
branch_goes_on = refl

with_memory : ZcCore
with_memory = record before { memory = memory }

-- the byte 4 at 17 has no sign; at 18 nothing is
byte_loaded : effect (Load Lb 3 2 (pos 1)) 4 with_memory ≡ Commits (record with_memory { pc = 2; regs = set_reg with_memory.regs 3 4; commits = 5 })
unfolding with_memory before memory
byte_loaded = refl

past_memory : effect (Load Lbu 3 2 (pos 2)) 4 with_memory ≡ Outside (access.Load Lbu 18 3 4)
unfolding with_memory before memory
past_memory = refl

-- alignment is looked at before place
misaligned : effect (Load Lh 3 2 (pos 101)) 4 with_memory ≡ Misaligned
unfolding with_memory before memory
misaligned = refl

sign_above : extended 8 0x80 ≡ 0xFFFFFF80
sign_above = refl

-- a store of a half writes the low two bytes of sp
half_stored : effect (Store Sh 2 2 (pos 0)) 4 with_memory ≡ Commits (record with_memory { pc = 2; memory = changed (written 16 2 (byte_of 16)) memory; commits = 5 })
unfolding with_memory before memory
half_stored = refl
