-- The bytes of a call's buffer.
use Rattle.std.specs.Prelude.{◌≡◌, ℕ, zero, suc, ◌+◌, ◌-◌, ◌%◌, ◌<◌, ◌≤◌, ◌⊎◌, true, List, [], ◌∷◌, length}
use Rattle.rv_decode.specs.Memory.{extents_of, is_data, lies_in}
use Rattle.rv_decode.specs.State.{ZcCore, byte_in}

-- the n bytes from an address on
abbrev pub bytes_at : ZcCore → ℕ → ℕ → List ℕ
bytes_at z a zero = []
bytes_at z a (suc n) = byte_in z a ∷ bytes_at z (suc a) n

-- n bytes from an address on lie in memory for data, or n is 0
abbrev pub InMemory : ZcCore → ℕ → ℕ → Type 0
InMemory z a n = 0 < n → lies_in is_data (extents_of z.memory) a n ≡ true

-- the first of n bytes from an address on, up to where they end or to the next multiple of 4,096
pub record IsPiece (z : ZcCore) (a n : ℕ) (piece : List ℕ) : Type 0 where
  pub some : 0 < length piece
  pub within : length piece ≤ n
  pub ends : (length piece ≡ n) ⊎ ((a + length piece) % 4096 ≡ 0)
  pub page : length piece ≤ 4096 - a % 4096
  pub bytes : piece ≡ bytes_at z a (length piece)
