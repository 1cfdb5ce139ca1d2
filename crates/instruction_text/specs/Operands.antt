-- The operands of instructions, as words of a text.
use Rattle.std.specs.Prelude.{ℕ, ℤ, pos, negsuc, zero, suc, ◌-◌, ◌^◌, ◌<◌, List, [], ◌∷◌, Option, Some, None, ◌==◌, if◌then◌else◌, decimal}
use Rattle.std.specs.Fmt.{signed_decimal}
use Rattle.std.specs.Option.{option_and_then, option_map}
use Rattle.rv_decode.specs.declared.instr.Instr.{Instr}
use Rattle.rv_decode.specs.declared.instr.Instr.TheVariants.{Upper, Jal, Jalr, Branch, Load, Store, WithImm, WithReg, Fence, Ecall, Ebreak, Csrrw}
use Rattle.zc_decode.specs.declared.short.Short.{Short}
use Rattle.zc_decode.specs.declared.short.Short.TheVariants.{Base, Push, Pop, PopRet, PopRetz, MoveSa, MoveAs, TableJump}
use Rattle.text_lines.specs.Number.{decimal_of}
use Rattle.instruction_text.specs.declared.operands.Operand.{Operand}
use Rattle.instruction_text.specs.declared.operands.Operand.TheVariants.{Register, Number}
use Rattle.instruction_text.specs.declared.operands.Operands.{Operands}
use Rattle.instruction_text.specs.declared.operands.Operands.TheVariants.{Nothing, OneNumber, TwoNumbers, TwoRegisters, RegisterNumber, RegistersNumber, ThreeRegisters}

-- ---- the operands of instructions

-- those of a word, in the order rd, rs1, rs2, immediate; the source of a store is its rs2
abbrev pub operands_of : Instr → Operands
operands_of (Upper op rd imm) = RegisterNumber rd (pos imm)
operands_of (Jal rd distance) = RegisterNumber rd distance
operands_of (Jalr rd base imm) = RegistersNumber rd base imm
operands_of (Branch op first second distance) = RegistersNumber first second distance
operands_of (Load op rd base imm) = RegistersNumber rd base imm
operands_of (Store op source base imm) = RegistersNumber base source imm
operands_of (WithImm op rd first imm) = RegistersNumber rd first imm
operands_of (WithReg op rd first second) = ThreeRegisters rd first second
operands_of (Fence rest) = OneNumber (pos rest)
operands_of Ecall = Nothing
operands_of Ebreak = Nothing
operands_of (Csrrw rd source) = TwoRegisters rd source

-- those of a halfword: of the instruction that it expands to, or a list and an adjustment, two registers, or an index
abbrev pub operands_of_short : Short → Operands
operands_of_short (Base i) = operands_of i
operands_of_short (Push list adjust) = TwoNumbers (pos list) (pos adjust)
operands_of_short (Pop list adjust) = TwoNumbers (pos list) (pos adjust)
operands_of_short (PopRet list adjust) = TwoNumbers (pos list) (pos adjust)
operands_of_short (PopRetz list adjust) = TwoNumbers (pos list) (pos adjust)
operands_of_short (MoveSa first second) = TwoRegisters first second
operands_of_short (MoveAs first second) = TwoRegisters first second
operands_of_short (TableJump index) = OneNumber (pos index)

-- an upper part and the bits of a fence have no sign; as signed numbers they need a limit
abbrev pub UnsignedFits : Instr → Type 0
UnsignedFits (Upper op rd imm) = imm < 2 ^ 31
UnsignedFits (Jal rd distance) = Unit {0}
UnsignedFits (Jalr rd base imm) = Unit {0}
UnsignedFits (Branch op first second distance) = Unit {0}
UnsignedFits (Load op rd base imm) = Unit {0}
UnsignedFits (Store op source base imm) = Unit {0}
UnsignedFits (WithImm op rd first imm) = Unit {0}
UnsignedFits (WithReg op rd first second) = Unit {0}
UnsignedFits (Fence rest) = rest < 2 ^ 31
UnsignedFits Ecall = Unit {0}
UnsignedFits Ebreak = Unit {0}
UnsignedFits (Csrrw rd source) = Unit {0}

-- the same of the instruction that a halfword expands to
abbrev pub ShortUnsignedFits : Short → Type 0
ShortUnsignedFits (Base i) = UnsignedFits i
ShortUnsignedFits (Push list adjust) = Unit {0}
ShortUnsignedFits (Pop list adjust) = Unit {0}
ShortUnsignedFits (PopRet list adjust) = Unit {0}
ShortUnsignedFits (PopRetz list adjust) = Unit {0}
ShortUnsignedFits (MoveSa first second) = Unit {0}
ShortUnsignedFits (MoveAs first second) = Unit {0}
ShortUnsignedFits (TableJump index) = Unit {0}

-- ---- as words

-- a register is an x and its number
abbrev pub register_word : ℕ → List ℕ
register_word r = 120 ∷ decimal r

abbrev pub operand_words : Operands → List (List ℕ)
operand_words Nothing = []
operand_words (OneNumber z) = signed_decimal z ∷ []
operand_words (TwoNumbers z w) = signed_decimal z ∷ signed_decimal w ∷ []
operand_words (TwoRegisters a b) = register_word a ∷ register_word b ∷ []
operand_words (RegisterNumber a z) = register_word a ∷ signed_decimal z ∷ []
operand_words (RegistersNumber a b z) = register_word a ∷ register_word b ∷ signed_decimal z ∷ []
operand_words (ThreeRegisters a b c) = register_word a ∷ register_word b ∷ register_word c ∷ []

-- ---- from words

-- a number below 0, by what follows its sign
abbrev pub negative : ℕ → Option ℤ
negative zero = None
negative (suc n) = Some (negsuc n)

-- the register with the number that digits spell
abbrev pub register_in : List ℕ → Option Operand
register_in digits = option_map Register (decimal_of 31 digits)

-- the number below 0 that digits spell after a sign
abbrev pub negative_in : List ℕ → Option Operand
negative_in digits = option_map Number (option_and_then negative (decimal_of (2 ^ 31 - 1) digits))

-- a register, or a number of at most 31 bits beside its sign
abbrev pub operand_in : List ℕ → Option Operand
operand_in [] = None
operand_in (c ∷ rest) =
    if c == 120 then register_in rest else
    (if c == 45 then negative_in rest else
    option_map (λ n. Number (pos n)) (decimal_of (2 ^ 31 - 1) (c ∷ rest)))

abbrev pub one_operand : Operand → Option Operands
one_operand (Number z) = Some (OneNumber z)
one_operand (Register a) = None

abbrev pub two_operands : Operand → Operand → Option Operands
two_operands (Number z) (Number w) = Some (TwoNumbers z w)
two_operands (Number z) (Register b) = None
two_operands (Register a) (Number z) = Some (RegisterNumber a z)
two_operands (Register a) (Register b) = Some (TwoRegisters a b)

-- two registers, and a third operand
abbrev pub third_operand : ℕ → ℕ → Operand → Option Operands
third_operand a b (Number z) = Some (RegistersNumber a b z)
third_operand a b (Register c) = Some (ThreeRegisters a b c)

abbrev pub three_operands : Operand → Operand → Operand → Option Operands
three_operands (Number z) second third = None
three_operands (Register a) (Number z) third = None
three_operands (Register a) (Register b) third = third_operand a b third

-- three operands, if that is all
abbrev pub operands_after_three : Operand → Operand → Operand → List (List ℕ) → Option Operands
operands_after_three x y z [] = three_operands x y z
operands_after_three x y z (d ∷ more) = None

-- two operands, and what further words spell
abbrev pub operands_after_two : Operand → Operand → List (List ℕ) → Option Operands
operands_after_two x y [] = two_operands x y
operands_after_two x y (c ∷ more) = option_and_then (λ z. operands_after_three x y z more) (operand_in c)

-- an operand, and what further words spell
abbrev pub operands_after_one : Operand → List (List ℕ) → Option Operands
operands_after_one x [] = one_operand x
operands_after_one x (b ∷ more) = option_and_then (λ y. operands_after_two x y more) (operand_in b)

-- the operands that words spell
abbrev pub operands_in : List (List ℕ) → Option Operands
operands_in [] = Some Nothing
operands_in (a ∷ more) = option_and_then (λ x. operands_after_one x more) (operand_in a)
