-- The register lists of pushes and pops (RISC-V Zc specification 1.0, "Zcmp").
use Rattle.std.specs.Prelude.{ℕ, ◌-◌, ◌==◌, nat_lt, if◌then◌else◌, List, [], ◌∷◌, drop}

-- the registers that a push saves, from the highest number down: s11 to s2, s1, s0, ra
abbrev pub saved_registers : List ℕ
saved_registers = 27 ∷ 26 ∷ 25 ∷ 24 ∷ 23 ∷ 22 ∷ 21 ∷ 20 ∷ 19 ∷ 18 ∷ 9 ∷ 8 ∷ 1 ∷ []

-- the registers of a list: 4 is ra alone, each number up to 14 has one s register more, and 15 has all
abbrev pub registers_of : ℕ → List ℕ
registers_of list = if list == 15 then saved_registers else drop (16 - list) saved_registers

-- the bytes that sp moves by at least
abbrev pub stack_adjust_base : ℕ → ℕ
stack_adjust_base list = if list == 15 then 64 else (if nat_lt list 8 then 16 else (if nat_lt list 12 then 32 else 48))
