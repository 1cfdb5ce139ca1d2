-- What comes before the first section: the table of jumps and calls, and after it the stub that sets jvt to the table (RISC-V Zc
-- specification 1.0, "Zcmt"). Where an image starts.
use Rattle.std.specs.Prelude.{◌≡◌, ℕ, ℤ, ◌+◌, ◌*◌, ◌<◌, ◌⊎◌, ◌==◌, if◌then◌else◌, List, [], ◌++◌, length, Option}
use Rattle.std.specs.List.{flat_map}
use Rattle.std.specs.Option.{option_and_then, unwrap_or}
use Rattle.zc_base.specs.Fields.{word_bytes}
use Rattle.zc_base.specs.declared.place.Place.{Place}
use Rattle.psabi_sym.specs.Inputs.{parsed}
use Rattle.rv_decode.specs.Bits.{as_signed}
use Rattle.block_cut.specs.Items.{entry_of}
use Rattle.entry_stub.specs.Stub.{AreWordsOf, stub_instrs}
use Rattle.zc_link.specs.TextLayout.{TextLayout}
use Rattle.zc_link.specs.Values.{way}

-- ---- the table

-- the bytes of a slot: the address of its place, or 0 if it is a hole
abbrev pub slot_bytes : (Place → Option ℕ) → Option Place → List ℕ
slot_bytes A slot = word_bytes (unwrap_or (option_and_then A slot) 0)

-- the bytes of all slots
abbrev pub table_bytes : (Place → Option ℕ) → List (Option Place) → List ℕ
table_bytes A slots = flat_map (slot_bytes A) slots

-- ---- the stub

-- the address of the stub
abbrev pub stub_address : TextLayout → ℕ
stub_address L = L.inputs.map.text + 4 * length L.slots

-- the address of the program's start
abbrev pub start_address : TextLayout → ℕ
start_address L = unwrap_or (L.address (entry_of (parsed L.inputs))) L.inputs.map.text

-- the distance of the stub's jump to the program's start; the stub's first two instructions have eight bytes
abbrev pub stub_distance : TextLayout → ℤ
stub_distance L = as_signed (way (stub_address L + 8) (start_address L))

-- ---- both

-- these bytes are the table, and the stub after it
pub record AreTableAndStub (L : TextLayout) (bytes : List ℕ) : Type 0 where
  pub stub : List ℕ
  pub both : bytes ≡ table_bytes L.address L.slots ++ stub
  pub spells : AreWordsOf (stub_instrs L.inputs.map.text (stub_distance L)) stub

-- these bytes are what comes before the first section: without slots nothing, or else the table and the stub
abbrev pub IsFront : TextLayout → List ℕ → Type 0
IsFront L bytes = ((length L.slots ≡ 0) × (bytes ≡ [])) ⊎ ((0 < length L.slots) × AreTableAndStub L bytes)

-- where the image starts: at the stub, or, if there is none, where the program does
abbrev pub image_entry : TextLayout → ℕ
image_entry L = if length L.slots == 0 then start_address L else stub_address L
