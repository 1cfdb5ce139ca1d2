-- Accesses of devices: what one shows, and where it ends.
use Rattle.std.specs.Prelude.{ℕ, ◌+◌, ◌^◌, ◌≤◌, List, []}
use Rattle.rv_decode.specs.Devices.{sent_bytes}
use Rattle.rv_decode.specs.Effect.{load_width, store_width}
use Rattle.rv_decode.specs.EventBytes.{shown_bytes}
use Rattle.rv_decode.specs.declared.device_access.DeviceAccess.{DeviceAccess}
use Rattle.rv_decode.specs.declared.device_access.DeviceAccess.TheVariants.{Load, Store, System}

-- the bytes that an access shows on standard output, if what is stored at these addresses appears there
abbrev pub shown_by : List ℕ → DeviceAccess → List ℕ
shown_by outputs (Load op a rd size) = []
shown_by outputs (Store op a word size) = shown_bytes outputs a (sent_bytes op word)
shown_by outputs (System word operand) = []

-- it ends at 2^32 or before, as one does whose address is a multiple of its width
abbrev pub EndsWithin : DeviceAccess → Type 0
EndsWithin (Load op a rd size) = a + load_width op ≤ 2 ^ 32
EndsWithin (Store op a word size) = a + store_width op ≤ 2 ^ 32
EndsWithin (System word operand) = Unit {0}
