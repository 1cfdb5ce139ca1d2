-- What is kept of the slots of a table while pieces are made.
use Rattle.std.specs.Prelude.{◌≡◌, ℕ, ◌+◌, List, [], drop, length, take, slice_index_or, Option, None, Some}
use Rattle.zc_base.specs.declared.place.Place.{Place}
use Rattle.elf32_read.specs.Parts.{ObjectParts}
use Rattle.psabi_sym.specs.Faults.{gather_fault}
use Rattle.psabi_sym.specs.Inputs.{ParsedInputs, parsed}
use Rattle.shrink_layout.specs.Invariants.Numbers.{AreFirstNumbers}
use Rattle.shrink_layout.specs.Pieces.{piece_at, piece_number_at, pieces_of, slot_at, unit_at}
use Rattle.shrink_layout.specs.Settled.{settled_widths}
use Rattle.shrink_layout.specs.Units.{AreTargetSlots, CodeUnit, OneSite, slot_from}
use Rattle.shrink_layout.specs.declared.piece.Piece.{Piece}
use Rattle.shrink_layout.specs.declared.slots.Numbered.{Numbered}
use Rattle.shrink_layout.specs.declared.slots.PieceSource.{PieceSource}
use Rattle.shrink_layout.specs.declared.slots.Slots.{Slots}

-- for the number of each place's piece, the first slot that leads to the place, in a part of the slots whose first has this
-- number
abbrev pub AreFirstSlots : List ObjectParts → ℕ → List (Option Place) → List (Option ℕ) → Type 0
AreFirstSlots objects first part firsts =
    (q : Place) → slice_index_or firsts (piece_number_at objects q) None ≡ slot_from first q part

-- there is an entry for each piece, and for the end
abbrev pub HasAll : {X : Type 0} → ParsedInputs → List X → Type 0
HasAll inputs xs = length xs ≡ length (pieces_of inputs []) + 1

-- the slots of a table by where they lead, and the bytes of pieces in the layout without the table
pub record AreSlotsOf (inputs : ParsedInputs) (kept : Slots) : Type 0 where
  pub targets : AreTargetSlots inputs kept.slots.now
  pub first : kept.first ≡ settled_widths inputs []
  pub all_jumps : HasAll inputs kept.jumps.items
  pub all_calls : HasAll inputs kept.calls.items
  pub jumps : AreFirstSlots inputs.objects 0 (take 32 kept.slots.now) kept.jumps.items
  pub calls : AreFirstSlots inputs.objects 32 (drop 32 kept.slots.now) kept.calls.items

-- objects without a fault, with the number of each section's first place
pub record AreNumbered (of : Numbered) : Type 0 where
  pub faultless : gather_fault of.planned.now ≡ None
  pub starts : AreFirstNumbers (parsed of.planned.now).objects of.starts.now

-- what is written at a place in the layout without a table, and its piece
abbrev pub first_unit : ParsedInputs → Place → Option CodeUnit
first_unit inputs q = unit_at inputs [] q

abbrev pub first_piece : ParsedInputs → Place → Piece
first_piece inputs q = piece_at inputs (slot_at inputs []) q

-- what is written at a place with the table, by the slot of the jump or call there
abbrev pub put_unit : Option ℕ → Option CodeUnit → Option CodeUnit
put_unit None unit = unit
put_unit (Some slot) unit = Some (OneSite slot)

-- what the pieces of a layout with a table are made from: inputs, and the slots
abbrev pub source_inputs : PieceSource → ParsedInputs
source_inputs of = parsed of.planned.now

abbrev pub source_slots : PieceSource → List (Option Place)
source_slots of = of.slots.now.slots.now

-- the source is objects without a fault, with the number of each section's first place, and slots by where they lead
pub record IsSource (of : PieceSource) : Type 0 where
  pub faultless : gather_fault of.planned.now ≡ None
  pub starts : AreFirstNumbers (source_inputs of).objects of.starts.now
  pub slots : AreSlotsOf (source_inputs of) of.slots.now

-- what is written at a place with the table, and its piece
abbrev pub source_unit : PieceSource → Place → Option CodeUnit
source_unit of q = unit_at (source_inputs of) (source_slots of) q

abbrev pub source_piece : PieceSource → Place → Piece
source_piece of q = piece_at (source_inputs of) (slot_at (source_inputs of) (source_slots of)) q
