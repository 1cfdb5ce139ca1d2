-- Draws: a linear congruential generator modulo 2^64.
use Rattle.std.specs.Prelude.{ℕ, ◌+◌, ◌*◌, ◌/◌, ◌%◌, ◌^◌}

-- the state after a draw
unfoldable pub stepped : ℕ → ℕ
stepped x = (x * 6364136223846793005 + 1442695040888963407) % 2 ^ 64

-- the number that a draw gives, by the state after the draw: its upper 31 bits
abbrev pub drawn : ℕ → ℕ
drawn x = x / 2 ^ 33
