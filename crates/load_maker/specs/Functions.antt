-- The generated functions: each by its number, and by the state of the draws before its own.
use Rattle.std.specs.Prelude.{ℕ, zero, suc, pos, negsuc, ◌+◌, ◌%◌, ◌-ℤ◌, Bool, true, false, ◌&&◌, ◌==◌, nat_lt, if◌then◌else◌, List, [], ◌∷◌, ◌++◌, map}
use Rattle.zc_base.specs.Draws.{drawn, stepped}
use Rattle.rv_decode.specs.declared.instr.Instr.{Instr}
use Rattle.load_maker.specs.Instructions.{add, addi, beq, jalr, lui, lw, slli, srai, sub, sw, xor, xori}
use Rattle.load_maker.specs.declared.saved_registers.SavedRegisters.{SavedRegisters}
use Rattle.load_maker.specs.declared.saved_registers.SavedRegisters.TheVariants.{Both, ReturnAddress, Neither}
use Rattle.load_maker.specs.declared.register.Register.TheVariants.{Zero, Ra, Sp, S0, A0, A1}
use Rattle.load_maker.specs.declared.statement.Statement.{Statement}
use Rattle.load_maker.specs.declared.statement.Statement.TheVariants.{Plain, Call}

-- ---- parts of a function

-- what it saves on the stack, by a number below 3
abbrev pub saves_numbered : ℕ → SavedRegisters
saves_numbered n = if n == 0 then Both else (if n == 1 then ReturnAddress else Neither)

-- how it begins
abbrev pub prologue : SavedRegisters → List Instr
prologue Both = addi Sp Sp (negsuc 15) ∷ sw S0 (pos 12) Sp ∷ sw Ra (pos 8) Sp ∷ addi S0 A0 (pos 0) ∷ []
prologue ReturnAddress = addi Sp Sp (negsuc 15) ∷ sw Ra (pos 12) Sp ∷ []
prologue Neither = []

-- an operation on its value, by a number below 6 and one below 2,048
abbrev pub operation : ℕ → ℕ → List Instr
operation kind value =
    if kind == 0 then addi A0 A0 (pos value -ℤ pos 1024) ∷ [] else
    (if kind == 1 then xori A0 A0 (pos value) ∷ [] else
    (if kind == 2 then slli A0 A0 (pos (1 + value % 3)) ∷ [] else
    (if kind == 3 then addi A1 A0 (pos (value % 32)) ∷ add A0 A0 A1 ∷ [] else
    (if kind == 4 then lui A1 value ∷ sub A0 A0 A1 ∷ [] else
    srai A0 A0 (pos (1 + value % 3)) ∷ []))))

-- m operations, each by two draws, and the state after them
abbrev pub drawn_operations : ℕ → ℕ → List Instr
drawn_operations zero x = []
drawn_operations (suc m) x =
    operation (drawn (stepped x) % 6) (drawn (stepped (stepped x)) % 2048) ++ drawn_operations m (stepped (stepped x))

abbrev pub after_operations : ℕ → ℕ → ℕ
after_operations zero x = x
after_operations (suc m) x = after_operations m (stepped (stepped x))

-- an increment of a0, unless a0 is 0
abbrev pub increment : List Instr
increment = beq A0 Zero (pos 8) ∷ addi A0 A0 (pos 1) ∷ []

-- a function calls another if it saves ra, and if there are functions before it
abbrev pub saves_ra : SavedRegisters → Bool
saves_ra Both = true
saves_ra ReturnAddress = true
saves_ra Neither = false

abbrev pub calls : SavedRegisters → ℕ → Bool
calls saved i = saves_ra saved && nat_lt 0 i

-- the call of a function before it, by one draw, and the state after that
abbrev pub call : SavedRegisters → ℕ → ℕ → List Statement
call saved i x = if calls saved i then Call (drawn (stepped x) % i) ∷ [] else []

abbrev pub after_call : SavedRegisters → ℕ → ℕ → ℕ
after_call saved i x = if calls saved i then stepped x else x

-- the end of a function
abbrev pub epilogue : SavedRegisters → List Instr
epilogue Both = xor A0 A0 S0 ∷ lw S0 (pos 12) Sp ∷ lw Ra (pos 8) Sp ∷ addi Sp Sp (pos 16) ∷ jalr Zero (pos 0) Ra ∷ []
epilogue ReturnAddress = lw Ra (pos 12) Sp ∷ addi Sp Sp (pos 16) ∷ jalr Zero (pos 0) Ra ∷ []
epilogue Neither = jalr Zero (pos 0) Ra ∷ []

-- ---- a function

-- what a function saves is drawn first, and then its number of operations; then come the operations' draws
abbrev pub drawn_saves : ℕ → SavedRegisters
drawn_saves x = saves_numbered (drawn (stepped x) % 3)

abbrev pub operation_count : ℕ → ℕ
operation_count x = 4 + drawn (stepped (stepped x)) % 8

abbrev pub before_call : ℕ → ℕ
before_call x = after_operations (operation_count x) (stepped (stepped x))

-- the statements of a function
abbrev pub function_statements : ℕ → ℕ → List Statement
function_statements i x =
    map Plain (prologue (drawn_saves x) ++ drawn_operations (operation_count x) (stepped (stepped x)) ++ increment)
    ++ call (drawn_saves x) i (before_call x) ++ map Plain (epilogue (drawn_saves x))

-- the state after a function
abbrev pub after_function : ℕ → ℕ → ℕ
after_function i x = after_call (drawn_saves x) i (before_call x)

-- n functions, from number i on
abbrev pub functions_from : ℕ → ℕ → ℕ → List (List Statement)
functions_from zero i x = []
functions_from (suc n) i x = function_statements i x ∷ functions_from n (i + 1) (after_function i x)
