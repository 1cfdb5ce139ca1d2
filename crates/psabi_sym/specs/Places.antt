-- Where what an object has stands among what all objects have.
use Rattle.std.specs.Prelude.{ℕ, ◌+◌, ◌&&◌, nat_lt, List, length, slice_index, if◌then◌else◌, Option, Some, None}

-- by where each object's begin, with the end of all at last
abbrev pub place_in : List ℕ → ℕ → ℕ → Option ℕ
place_in starts o i =
    if nat_lt (o + 1) (length starts) && nat_lt (slice_index starts o + i) (slice_index starts (o + 1)) then Some (slice_index starts o + i) else None
