-- What a program does to its environment, as long as its code has no addresses.
use Rattle.std.specs.Prelude.{ℕ, List, [], Option}
use Rattle.std.specs.List.{flat_map}
use Rattle.std.specs.Option.{option_map_or}
use Rattle.zc_base.specs.Fields.{word_bytes}
use Rattle.zc_base.specs.declared.place.Place.{Place}
use Rattle.rv_decode.specs.EventBytes.{bytes_to}
use Rattle.rv_decode.specs.State.{Event, Store, System}

-- an event that is numbers alone; or the address of a place is stored at a device's address, or is the operand of an instruction of
-- the system, which gets these bytes
pub data SymEvent : Type 0 where
  Numeric : Event → SymEvent
  StoresCode : (at : ℕ) (place : Place) → SymEvent
  HandsCode : (word : ℕ) (place : Place) (bytes : List ℕ) → SymEvent

-- the event that it is in an image in which A gives the addresses of places; a place that has none counts as 0
abbrev pub event_in : (Place → Option ℕ) → SymEvent → Event
event_in A (Numeric e) = e
event_in A (StoresCode at q) = Store at (word_bytes (option_map_or (λ a. a) (A q) 0))
event_in A (HandsCode word q bytes) = System word (option_map_or (λ a. a) (A q) 0) bytes

-- what it writes to a stream; no byte of an address of code appears
abbrev pub sym_bytes_to : List ℕ → ℕ → SymEvent → List ℕ
sym_bytes_to outputs stream (Numeric e) = bytes_to outputs stream e
sym_bytes_to outputs stream other = []

-- the bytes that events write to a stream, in order
abbrev pub sym_written_to : List ℕ → ℕ → List SymEvent → List ℕ
sym_written_to outputs stream events = flat_map (sym_bytes_to outputs stream) events
