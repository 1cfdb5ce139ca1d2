-- What an instruction of either length does (RISC-V Zc specification 1.0, "Zcmp" and "Zcmt").
use Rattle.std.specs.Prelude.{ℕ, ◌+◌, ◌*◌, ◌/◌, ◌%◌, ◌^◌, nat_lt, if◌then◌else◌, List, [], ◌∷◌}
use Rattle.rv_decode.specs.Effect.{Effect, BadAccess, Commits, effect, jumps, onward, reaching, stored}
use Rattle.rv_decode.specs.Memory.{extents_of, is_text, lies_in}
use Rattle.rv_decode.specs.State.{ZcCore, reg_in, set_reg, word_at}
use Rattle.zc_decode.specs.Accesses.{Access, accesses_of, sp_after}
use Rattle.zc_decode.specs.declared.short.Short.{Short}
use Rattle.zc_decode.specs.declared.short.Short.TheVariants.{Base, Push, Pop, PopRet, PopRetz, MoveSa, MoveAs, TableJump}

-- ---- pushes and pops

-- a register's word goes to memory
abbrev pub saved : Access → ZcCore → ZcCore
saved a z = stored 4 a.at (reg_in z a.register) z

-- a word of memory goes to a register
abbrev pub restored : Access → ZcCore → ZcCore
restored a z = record z { regs = set_reg z.regs a.register (word_at z a.at) }

-- an access that is made: a push saves and a pop restores; the others have none
abbrev pub accessed : Short → Access → ZcCore → ZcCore
accessed (Base i) a z = z
accessed (Push list adjust) a z = saved a z
accessed (Pop list adjust) a z = restored a z
accessed (PopRet list adjust) a z = restored a z
accessed (PopRetz list adjust) a z = restored a z
accessed (MoveSa first second) a z = z
accessed (MoveAs first second) a z = z
accessed (TableJump index) a z = z

-- accesses, one after another
abbrev pub all_accessed : Short → List Access → ZcCore → ZcCore
all_accessed s [] z = z
all_accessed s (a ∷ rest) z = all_accessed s rest (accessed s a z)

-- each must lie in memory for data, at a multiple of 4; the first that doesn't is the cause
abbrev pub reaching_all : List Access → ZcCore → Effect → Effect
reaching_all [] z go = go
reaching_all (a ∷ rest) z go = reaching 4 a.at z (reaching_all rest z go)

-- the state after a push or pop: all its accesses made, sp moved, and on to the next instruction
abbrev pub framed : Short → ℕ → ZcCore → ZcCore
framed s size z =
    let y = all_accessed s (accesses_of s (reg_in z 2)) z in
    onward y size (set_reg y.regs 2 (sp_after s (reg_in z 2)))

-- the program goes on at ra, whose bit 0 is cleared
abbrev pub returned : ZcCore → ZcCore
returned z = record z { pc = reg_in z 1 / 2 * 2 }

-- a0 is 0
abbrev pub zeroed : ZcCore → ZcCore
zeroed z = record z { regs = set_reg z.regs 10 0 }

-- a push or pop that commits, and leaves this state, if all its accesses can be made
abbrev pub frames : Short → ZcCore → ZcCore → Effect
frames s left z = reaching_all (accesses_of s (reg_in z 2)) z (Commits left)

-- ---- moves and table jumps

-- two registers get words
abbrev pub moves : ℕ × ℕ → ℕ × ℕ → ℕ → ZcCore → Effect
moves to words size z = Commits (onward z size (set_reg (set_reg z.regs to.0 words.0) to.1 words.1))

-- the address of an entry of the jump table
abbrev pub entry_at : ℕ → ZcCore → ℕ
entry_at index z = (z.jvt + 4 * index) % 2 ^ 32

-- an entry is fetched from code; its bit 0 is cleared, and from 32 on the jump links
abbrev pub table_jumps : ℕ → ℕ → ZcCore → Effect
table_jumps index size z =
    if lies_in is_text (extents_of z.memory) (entry_at index z) 4
    then jumps (word_at z (entry_at index z) / 2 * 2) (if nat_lt index 32 then 0 else 1) size z
    else BadAccess

-- ---- instructions

-- the effect of an instruction of `size` bytes
abbrev pub short_effect : Short → ℕ → ZcCore → Effect
short_effect (Base i) size z = effect i size z
short_effect (Push list adjust) size z = frames (Push list adjust) (framed (Push list adjust) size z) z
short_effect (Pop list adjust) size z = frames (Pop list adjust) (framed (Pop list adjust) size z) z
short_effect (PopRet list adjust) size z = frames (PopRet list adjust) (returned (framed (PopRet list adjust) size z)) z
short_effect (PopRetz list adjust) size z = frames (PopRetz list adjust) (returned (zeroed (framed (PopRetz list adjust) size z))) z
short_effect (MoveSa first second) size z = moves (first, second) (reg_in z 10, reg_in z 11) size z
short_effect (MoveAs first second) size z = moves (10, 11) (reg_in z first, reg_in z second) size z
short_effect (TableJump index) size z = table_jumps index size z
