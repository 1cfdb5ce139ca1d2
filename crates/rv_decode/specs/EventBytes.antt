-- What events write.
use Rattle.std.specs.Prelude.{ℕ, ◌+◌, ◌==◌, if◌then◌else◌, List, [], ◌∷◌, ◌++◌}
use Rattle.std.specs.List.{flat_map, list_any}
use Rattle.rv_decode.specs.State.{Event, Write, Store}

-- those of the bytes that are stored from an address on which are stored at one of these addresses
abbrev pub shown_bytes : List ℕ → ℕ → List ℕ → List ℕ
shown_bytes outputs a [] = []
shown_bytes outputs a (b ∷ bytes) = (if list_any (λ x. x == a) outputs then b ∷ [] else []) ++ shown_bytes outputs (a + 1) bytes

-- what an event writes to the stream with this number: standard output has the number 1, and standard error the number 2. What a
-- device gets at one of these addresses appears on standard output
abbrev pub bytes_to : List ℕ → ℕ → Event → List ℕ
bytes_to outputs stream (Write fd bytes) = if fd == stream then bytes else []
bytes_to outputs stream (Store at bytes) = if stream == 1 then shown_bytes outputs at bytes else []
bytes_to outputs stream other = []

-- the bytes that events write to a stream, in order
abbrev pub written_to : List ℕ → ℕ → List Event → List ℕ
written_to outputs stream events = flat_map (bytes_to outputs stream) events
