-- Data that are written from outside, between commits.
use Rattle.std.specs.Prelude.{ℕ, Bool, true, false, if◌then◌else◌}
use Rattle.rv_decode.specs.Memory.{Kind, Text, Data, Stack, changed, extents_of, lies_in, written}
use Rattle.rv_decode.specs.State.{ZcCore}

-- the kind of the segments of data
abbrev pub is_segment : Kind → Bool
is_segment Text = false
is_segment Data = true
is_segment Stack = false

-- the state after a byte was written to a segment of data; at any other address nothing changes
abbrev pub poked_core : ℕ × ℕ → ZcCore → ZcCore
poked_core c z =
    if lies_in is_segment (extents_of z.memory) c.0 1
    then record z { memory = changed (written c.0 1 (λ i. c.1)) z.memory }
    else z
