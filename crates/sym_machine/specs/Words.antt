-- Words of abstract bytes: which number or value a word is, and what operations make of words.
use Rattle.std.specs.Prelude.{ℕ, ℤ, pos, negsuc, ◌+◌, ◌*◌, Bool, false, ◌&&◌, ◌==◌, nat_lt, if◌then◌else◌, Option, Some, None}
use Rattle.std.specs.Option.{option_map_or}
use Rattle.zc_base.specs.Places.{same_place}
use Rattle.zc_base.specs.declared.place.Place.{Place}
use Rattle.rv_decode.specs.declared.instr.UpperOp.{UpperOp}
use Rattle.rv_decode.specs.declared.instr.UpperOp.TheVariants.{Lui, Auipc}
use Rattle.rv_decode.specs.declared.instr.ImmOp.{ImmOp}
use Rattle.rv_decode.specs.declared.instr.ImmOp.TheVariants.{Addi, Slti, Sltiu, Xori, Ori, Andi, Slli, Srli, Srai}
use Rattle.rv_decode.specs.declared.instr.RegOp.{RegOp}
use Rattle.rv_decode.specs.declared.instr.RegOp.TheVariants.{Add, Sub, Sll, Slt, Sltu, Xor, Srl, Sra, Or, And, Mul, Mulh, Mulhsu, Mulhu, Div, Divu, Rem, Remu}
use Rattle.rv_decode.specs.Bits.{add32}
use Rattle.rv_decode.specs.Memory.{byte_of}
use Rattle.rv_decode.specs.Results.{imm_result, reg_result, upper_result}
use Rattle.sym_machine.specs.declared.word.SymByte.{SymByte}
use Rattle.sym_machine.specs.declared.word.SymByte.TheVariants.{Num, Part, Undef}
use Rattle.sym_machine.specs.declared.word.SymWord.{SymWord}
use Rattle.sym_machine.specs.declared.word.Value.{Value}
use Rattle.sym_machine.specs.declared.word.Value.TheVariants.{Code, AbsHi, PcHi}

-- ---- numbers

-- a word whose bytes are undefined
abbrev pub undef_word : SymWord
undef_word = record { b0 = Undef; b1 = Undef; b2 = Undef; b3 = Undef }

-- a number's word: its four bytes
abbrev pub number_word : ℕ → SymWord
number_word n = record { b0 = Num (byte_of n 0); b1 = Num (byte_of n 1); b2 = Num (byte_of n 2); b3 = Num (byte_of n 3) }

-- the number of four bytes, if all are numbers
abbrev pub number_of_bytes : SymByte → SymByte → SymByte → SymByte → Option ℕ
number_of_bytes (Num a) (Num b) (Num c) (Num d) = Some (a + 256 * b + 65536 * c + 16777216 * d)
number_of_bytes a b c d = None

-- the number that a word is, if it is one
abbrev pub number_of : SymWord → Option ℕ
number_of w = number_of_bytes w.b0 w.b1 w.b2 w.b3

-- ---- values

-- a value's word: its four parts
abbrev pub value_word : Value → SymWord
value_word v = record { b0 = Part v 0; b1 = Part v 1; b2 = Part v 2; b3 = Part v 3 }

-- the word of a place's address
abbrev pub code_word : Place → SymWord
code_word q = value_word (Code q)

-- whether two values are one
abbrev pub same_value : Value → Value → Bool
same_value (Code q) (Code r) = same_place q r
same_value (AbsHi q) (AbsHi r) = same_place q r
same_value (PcHi q) (PcHi r) = same_place q r
same_value v w = false

-- whether a byte is this part of a value
abbrev pub is_part : Value → ℕ → SymByte → Bool
is_part v i (Part w j) = same_value v w && i == j
is_part v i other = false

-- whether a word is a value: its bytes are the parts, in order
abbrev pub is_value : Value → SymWord → Bool
is_value v w = is_part v 0 w.b0 && (is_part v 1 w.b1 && (is_part v 2 w.b2 && is_part v 3 w.b3))

-- the place whose address a word is, by its first byte
abbrev pub code_from : SymByte → SymWord → Option Place
code_from (Part (Code q) i) w = if is_value (Code q) w then Some q else None
code_from other w = None

-- the place whose address a word is, if it is one
abbrev pub code_of : SymWord → Option Place
code_of w = code_from w.b0 w

-- ---- results

-- the result of an operation on a number, and an undefined word if there is none
abbrev pub numeric : Option ℕ → (ℕ → ℕ) → SymWord
numeric None f = undef_word
numeric (Some n) f = number_word (f n)

-- whether an immediate is 1
abbrev pub is_one : ℤ → Bool
is_one (pos n) = n == 1
is_one (negsuc n) = false

-- a number if there is a code place, and else a word
abbrev pub code_or : Option Place → ℕ → SymWord → SymWord
code_or None n w = w
code_or (Some q) n w = number_word n

-- a sum with an immediate; with 0 it copies the word, whatever the word is
abbrev pub sum_word : SymWord → ℤ → SymWord
sum_word w (pos m) = if m == 0 then w else numeric (number_of w) (λ n. add32 n (pos m))
sum_word w (negsuc m) = numeric (number_of w) (λ n. add32 n (negsuc m))

-- an operation on a register's word and an immediate, if the word is a number
abbrev pub imm_numeric : ImmOp → SymWord → ℤ → SymWord
imm_numeric op w imm = numeric (number_of w) (λ n. imm_result op n imm)

-- the operations on a register's word and an immediate; no code address is below 1
abbrev pub imm_word : ImmOp → SymWord → ℤ → SymWord
imm_word Addi w imm = sum_word w imm
imm_word Slti w imm = imm_numeric Slti w imm
imm_word Sltiu w imm = code_or (if is_one imm then code_of w else None) 0 (imm_numeric Sltiu w imm)
imm_word Xori w imm = imm_numeric Xori w imm
imm_word Ori w imm = imm_numeric Ori w imm
imm_word Andi w imm = imm_numeric Andi w imm
imm_word Slli w imm = imm_numeric Slli w imm
imm_word Srli w imm = imm_numeric Srli w imm
imm_word Srai w imm = imm_numeric Srai w imm

-- an operation on the words of two registers, if both are numbers
abbrev pub reg_numeric : RegOp → SymWord → SymWord → SymWord
reg_numeric op a b = option_map_or (λ m. option_map_or (λ n. number_word (reg_result op m n)) (number_of b) undef_word) (number_of a) undef_word

-- the operations on two registers, by the registers' numbers and their words; a sum with register 0 copies the other word,
-- and register 0 is below each code address
abbrev pub reg_word : RegOp → ℕ → ℕ → SymWord → SymWord → SymWord
reg_word Add first second a b = if second == 0 then a else (if first == 0 then b else reg_numeric Add a b)
reg_word Sub first second a b = reg_numeric Sub a b
reg_word Sll first second a b = reg_numeric Sll a b
reg_word Slt first second a b = reg_numeric Slt a b
reg_word Sltu first second a b = code_or (if first == 0 then code_of b else None) 1 (reg_numeric Sltu a b)
reg_word Xor first second a b = reg_numeric Xor a b
reg_word Srl first second a b = reg_numeric Srl a b
reg_word Sra first second a b = reg_numeric Sra a b
reg_word Or first second a b = reg_numeric Or a b
reg_word And first second a b = reg_numeric And a b
reg_word Mul first second a b = reg_numeric Mul a b
reg_word Mulh first second a b = reg_numeric Mulh a b
reg_word Mulhsu first second a b = reg_numeric Mulhsu a b
reg_word Mulhu first second a b = reg_numeric Mulhu a b
reg_word Div first second a b = reg_numeric Div a b
reg_word Divu first second a b = reg_numeric Divu a b
reg_word Rem first second a b = reg_numeric Rem a b
reg_word Remu first second a b = reg_numeric Remu a b

-- an upper immediate; what is added to the program counter isn't known
abbrev pub upper_word : UpperOp → ℕ → SymWord
upper_word Lui imm = number_word (upper_result Lui 0 imm)
upper_word Auipc imm = undef_word

-- ---- words that are loaded

-- the bytes above a byte with a sign, which isn't known of all
abbrev pub sign_of : SymByte → SymByte
sign_of (Num b) = Num (if nat_lt b 128 then 0 else 255)
sign_of other = Undef

-- a byte, or two, with this one above
abbrev pub byte_word : SymByte → SymByte → SymWord
byte_word b above = record { b0 = b; b1 = above; b2 = above; b3 = above }

abbrev pub half_word : SymByte → SymByte → SymByte → SymWord
half_word low high above = record { b0 = low; b1 = high; b2 = above; b3 = above }
