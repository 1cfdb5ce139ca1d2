-- What an item does: a change, or the cause for which the machine is stuck.
use Rattle.std.specs.Prelude.{ℕ, zero, suc, ◌+◌, ◌%◌, Bool, ◌==◌, ◌||◌, min, if◌then◌else◌, List, [], ◌∷◌, length, map, take, Option, Some, None}
use Rattle.std.specs.Option.{option_map_or}
use Rattle.zc_base.specs.declared.place.Place.{Place}
use Rattle.rv_decode.specs.declared.instr.Instr.{Instr}
use Rattle.rv_decode.specs.declared.instr.Instr.TheVariants.{Upper, Jal, Jalr, Load, Store, WithImm, WithReg, Fence, Ecall, Ebreak, Csrrw}
use Rattle.rv_decode.specs.declared.instr.Instr.TheVariants as instr
use Rattle.rv_decode.specs.declared.instr.UpperOp.{UpperOp}
use Rattle.rv_decode.specs.declared.instr.UpperOp.TheVariants.{Lui, Auipc}
use Rattle.rv_decode.specs.declared.instr.ImmOp.TheVariants.{Addi}
use Rattle.rv_decode.specs.declared.instr.LoadOp.{LoadOp}
use Rattle.rv_decode.specs.declared.instr.LoadOp.TheVariants.{Lb, Lh, Lw, Lbu, Lhu}
use Rattle.rv_decode.specs.declared.instr.StoreOp.{StoreOp}
use Rattle.rv_decode.specs.declared.instr.StoreOp.TheVariants.{Sb, Sh, Sw}
use Rattle.rv_decode.specs.Effect.{load_width, store_width}
use Rattle.rv_decode.specs.Memory.{Region, cell_at, extents_of, is_data, lies_in}
use Rattle.rv_decode.specs.State.{Exit, Read, Write}
use Rattle.block_cut.specs.declared.item.Item.{Item}
use Rattle.block_cut.specs.declared.item.Item.TheVariants.{Op, Hi, Lo, PcHi, PcLo, Branch, Jump, Call, Align, Word, Raw, RawShort, RawPair}
use Rattle.sym_machine.specs.declared.arguments.Arguments.{Arguments}
use Rattle.sym_machine.specs.declared.why.Why.{Why}
use Rattle.sym_machine.specs.declared.why.Why.TheVariants.{AddressUnknown, ConditionUnknown, TargetUnknown, ArgumentUnknown, BadAddress, Misaligned, NoInstruction, UnknownCall}
use Rattle.sym_machine.specs.declared.word.SymByte.{SymByte}
use Rattle.sym_machine.specs.declared.word.SymByte.TheVariants.{Num, Undef}
use Rattle.sym_machine.specs.declared.word.SymWord.{SymWord}
use Rattle.sym_machine.specs.declared.word.Value.TheVariants as value
use Rattle.sym_machine.specs.AddressParts.{bytes_of, high_word, low_sum, pc_low_sum, pc_target}
use Rattle.sym_machine.specs.Conditions.{condition}
use Rattle.sym_machine.specs.Events.{SymEvent, Numeric}
use Rattle.sym_machine.specs.Program.{Program}
use Rattle.sym_machine.specs.State.{PlainCore, cell_of, reg_of}
use Rattle.sym_machine.specs.Words.{byte_word, code_of, code_word, half_word, imm_word, number_of, number_word, reg_word, sign_of, sum_word, undef_word, upper_word, value_word}

-- a change of state: the next place, words for registers in their order, bytes for memory from addresses on, how many
-- bytes of input are taken, the exit's status, and the events
pub record Change : Type 0 where
  pub place : Place
  pub writes : List (ℕ × SymWord)
  pub stores : List (ℕ × List SymByte)
  pub taken : ℕ
  pub exit : Option ℕ
  pub events : List SymEvent

pub data Does : Type 0 where
  Goes : Change → Does
  Stops : Why → Does

-- nothing but a next place
abbrev pub continues : Place → Change
continues q = record { place = q; writes = []; stores = []; taken = 0; exit = None; events = [] }

-- a word for a register, and then a place
abbrev pub sets : ℕ → SymWord → Place → Change
sets rd w q = record (continues q) { writes = (rd, w) ∷ [] }

-- ---- memory

-- whether n bytes from an address on lie in data, or in the stack
abbrev pub in_memory : PlainCore → ℕ → ℕ → Bool
in_memory s a n = lies_in is_data (extents_of s.memory) a n

-- an access of n bytes, by its address: its alignment is looked at before its place
abbrev pub accessing : ℕ → Option ℕ → PlainCore → (ℕ → Does) → Does
accessing n None s go = Stops AddressUnknown
accessing n (Some a) s go = if a % n == 0 then (if in_memory s a n then go a else Stops BadAddress) else Stops Misaligned

-- the word that a load gives: the bytes at the address are copied, and those above are signs or zeros
abbrev pub load_word : LoadOp → PlainCore → ℕ → SymWord
load_word Lb s a = byte_word (cell_of s a) (sign_of (cell_of s a))
load_word Lh s a = half_word (cell_of s a) (cell_of s (a + 1)) (sign_of (cell_of s (a + 1)))
load_word Lw s a = record { b0 = cell_of s a; b1 = cell_of s (a + 1); b2 = cell_of s (a + 2); b3 = cell_of s (a + 3) }
load_word Lbu s a = byte_word (cell_of s a) (Num 0)
load_word Lhu s a = half_word (cell_of s a) (cell_of s (a + 1)) (Num 0)

-- a load, by its address
abbrev pub load_does : LoadOp → ℕ → Option ℕ → PlainCore → Place → Does
load_does op rd address s next = accessing (load_width op) address s (λ a. Goes (sets rd (load_word op s a) next))

-- what a store writes: the low bytes of a word
abbrev pub stored_bytes : StoreOp → SymWord → List SymByte
stored_bytes Sb w = w.b0 ∷ []
stored_bytes Sh w = w.b0 ∷ w.b1 ∷ []
stored_bytes Sw w = bytes_of w

-- a change that writes bytes to memory from an address on, and then a place
abbrev pub puts : ℕ → List SymByte → Place → Change
puts a bytes q = record (continues q) { stores = (a, bytes) ∷ [] }

-- a store of a word, by its address
abbrev pub store_does : StoreOp → SymWord → Option ℕ → PlainCore → Place → Does
store_does op w address s next = accessing (store_width op) address s (λ a. Goes (puts a (stored_bytes op w) next))

-- ---- jumps and branches

-- a jump, if it goes to a place in code, with the next place's address in a register
abbrev pub jump_does : Option Place → ℕ → Place → Does
jump_does None rd next = Stops TargetUnknown
jump_does (Some q) rd next = Goes (sets rd (code_word next) q)

-- a branch, by its condition
abbrev pub branch_does : Option Bool → Place → Place → Does
branch_does None to next = Stops ConditionUnknown
branch_does (Some taken) to next = Goes (continues (if taken then to else next))

-- ---- environment calls

-- the exit, with the low byte of a0; the place stays
abbrev pub exit_does : Option ℕ → Place → Does
exit_does None at = Stops ArgumentUnknown
exit_does (Some a0) at = Goes (record (continues at) { exit = Some (a0 % 256); events = Numeric (Exit (a0 % 256)) ∷ [] })

-- what a call with a buffer uses, by a0, a1 and a2, if all of it is known; of no bytes a1 isn't looked at
abbrev pub arguments_of : Option ℕ → Option ℕ → Option ℕ → Option Arguments
arguments_of None a1 a2 = None
arguments_of (Some a0) a1 None = None
arguments_of (Some a0) None (Some len) = if len == 0 then Some (record { a0 = a0; at = 0; len = 0 }) else None
arguments_of (Some a0) (Some at) (Some len) = Some (record { a0 = a0; at = at; len = len })

-- whether a buffer lies in memory; one of no bytes does anywhere
abbrev pub is_buffer : PlainCore → Arguments → Bool
is_buffer s c = c.len == 0 || in_memory s c.at c.len

-- a call with a buffer, by the registers; a0 says whether there is such a call
abbrev pub with_buffer : (ℕ → Bool) → PlainCore → (Arguments → Does) → Does
with_buffer known s go =
    option_map_or (λ c. if known c.a0 then (if is_buffer s c then go c else Stops BadAddress) else Stops UnknownCall)
    (arguments_of (number_of (reg_of s 10)) (number_of (reg_of s 11)) (number_of (reg_of s 12))) (Stops ArgumentUnknown)

-- the first bytes of the input go to the buffer, and their number to a0
abbrev pub read_does : PlainCore → Place → Arguments → Does
read_does s next c =
    let count = min c.len (length s.input) in
    let bytes = take count s.input in
    Goes (record (continues next) {
      writes = (10, number_word count) ∷ [];
      stores = (c.at, map Num bytes) ∷ [];
      taken = count;
      events = Numeric (Read bytes) ∷ [];
    })

-- a byte before others, if all are numbers
abbrev pub then_number : SymByte → Option (List ℕ) → Option (List ℕ)
then_number (Num b) (Some bytes) = Some (b ∷ bytes)
then_number byte bytes = None

-- the n bytes of memory from an address on, if all are numbers
abbrev pub numbers_at : List (Region SymByte) → ℕ → ℕ → Option (List ℕ)
numbers_at memory a zero = Some []
numbers_at memory a (suc n) = then_number (cell_at Undef memory a) (numbers_at memory (suc a) n)

-- the buffer's bytes go out, if they are numbers, and their number goes to a0
abbrev pub write_does : PlainCore → Place → Arguments → Does
write_does s next c =
    option_map_or (λ bytes. Goes (record (sets 10 (number_word c.len) next) { events = Numeric (Write c.a0 bytes) ∷ [] }))
    (numbers_at s.memory c.at c.len) (Stops ArgumentUnknown)

-- a write goes to the output (1) or to the output for errors (2)
abbrev pub is_output : ℕ → Bool
is_output a0 = a0 == 1 || a0 == 2

-- a call, by a7: 93 is the exit, 63 reads from stream 0, by a0, and 64 writes
abbrev pub call_does : Option ℕ → PlainCore → Place → Does
call_does None s next = Stops ArgumentUnknown
call_does (Some a7) s next =
    if a7 == 93 then exit_does (number_of (reg_of s 10)) s.place else
    (if a7 == 63 then with_buffer (λ a0. a0 == 0) s (read_does s next) else
    (if a7 == 64 then with_buffer is_output s (write_does s next) else
    Stops UnknownCall))

-- ---- items

-- `addi`, a load, a store or `jalr`, by the word of the sum of its base and its immediate
abbrev pub by_sum : Instr → SymWord → PlainCore → Place → Does
by_sum (Jalr rd base imm) w s next = jump_does (code_of w) rd next
by_sum (Load op rd base imm) w s next = load_does op rd (number_of w) s next
by_sum (Store op source base imm) w s next = store_does op (reg_of s source) (number_of w) s next
by_sum (WithImm Addi rd first imm) w s next = Goes (sets rd w next)
by_sum other w s next = Stops NoInstruction

-- the register whose word such a sum begins with
abbrev pub base_register : Instr → ℕ
base_register (Jalr rd base imm) = base
base_register (Load op rd base imm) = base
base_register (Store op source base imm) = base
base_register (WithImm op rd first imm) = first
base_register other = 0

-- an instruction without relocation, by its format, with the place after it; a branch or a `jal` is an item of its own
abbrev pub op_does : Instr → PlainCore → Place → Does
op_does (Upper op rd imm) s next = Goes (sets rd (upper_word op imm) next)
op_does (Jal rd distance) s next = Stops NoInstruction
op_does (Jalr rd base imm) s next = by_sum (Jalr rd base imm) (sum_word (reg_of s base) imm) s next
op_does (instr.Branch op first second distance) s next = Stops NoInstruction
op_does (Load op rd base imm) s next = by_sum (Load op rd base imm) (sum_word (reg_of s base) imm) s next
op_does (Store op source base imm) s next = by_sum (Store op source base imm) (sum_word (reg_of s base) imm) s next
op_does (WithImm op rd first imm) s next = Goes (sets rd (imm_word op (reg_of s first) imm) next)
op_does (WithReg op rd first second) s next = Goes (sets rd (reg_word op first second (reg_of s first) (reg_of s second)) next)
op_does (Fence rest) s next = Goes (continues next)
op_does Ecall s next = call_does (number_of (reg_of s 17)) s next
op_does Ebreak s next = Stops NoInstruction
op_does (Csrrw rd source) s next = Stops NoInstruction

-- the upper part of an address for a register: a `lui` or an `auipc`, as the relocation asks
abbrev pub upper_does : UpperOp → Instr → SymWord → Place → Does
upper_does Lui (Upper Lui rd imm) w next = Goes (sets rd w next)
upper_does Auipc (Upper Auipc rd imm) w next = Goes (sets rd w next)
upper_does op other w next = Stops NoInstruction

-- a call to a place: what its first register holds afterwards isn't known, and then the link register gets the next place's
-- address. Register 0 takes no part of an address, so a call by it goes to no place
abbrev pub call_to : ℕ → ℕ → Place → Place → Does
call_to rd temp to next =
    if temp == 0 then Stops TargetUnknown
    else Goes (record (continues to) { writes = (temp, undef_word) ∷ (rd, code_word next) ∷ [] })

-- what stands at a place, with the place after it; the end of a section has no item
abbrev pub item_does : Program → Option Item → PlainCore → Place → Does
item_does p None s next = Stops NoInstruction
item_does p (Some (Op i)) s next = op_does i s next
item_does p (Some (Hi i t)) s next = upper_does Lui i (high_word t) next
item_does p (Some (Lo i t)) s next = by_sum i (low_sum t (reg_of s (base_register i))) s next
item_does p (Some (PcHi i t)) s next = upper_does Auipc i (value_word (value.PcHi s.place)) next
item_does p (Some (PcLo i q)) s next = by_sum i (pc_low_sum q (pc_target (p.item q)) (reg_of s (base_register i))) s next
item_does p (Some (Branch op first second to)) s next = branch_does (condition p op (reg_of s first) (reg_of s second)) to next
item_does p (Some (Jump rd to)) s next = jump_does (Some to) rd next
item_does p (Some (Call rd temp to)) s next = call_to rd temp to next
item_does p (Some (Align bytes)) s next = Goes (continues next)
item_does p (Some (Word t)) s next = Stops NoInstruction
item_does p (Some (Raw word)) s next = Stops NoInstruction
item_does p (Some (RawShort half)) s next = Stops NoInstruction
item_does p (Some (RawPair first second)) s next = Stops TargetUnknown
