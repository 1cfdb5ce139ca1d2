-- Numbered calls and counts, each up to the largest value of its type.
use Rattle.std.specs.Prelude.{ℕ, ◌+◌, ◌-◌, ◌^◌, min}

-- the number of the next call, in 32 bits
abbrev pub next_call : ℕ → ℕ
next_call calls = min (calls + 1) (2 ^ 32 - 1)

-- a count that rises by n, up to the largest number of 64 bits
abbrev pub more : ℕ → ℕ → ℕ
more count n = count + min n (2 ^ 64 - 1 - count)
