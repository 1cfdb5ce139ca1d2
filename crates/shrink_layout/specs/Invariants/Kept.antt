-- What is kept of a layout.
use Rattle.std.specs.Prelude.{◌≡◌, ℕ, List, length, Option, None}
use Rattle.zc_base.specs.declared.counts.Counts.{Counts}
use Rattle.zc_base.specs.declared.place.Place.{Place}
use Rattle.psabi_sym.specs.Faults.{gather_fault}
use Rattle.psabi_sym.specs.Inputs.{Inputs, parsed}
use Rattle.shrink_layout.specs.Invariants.Made.{ArePiecesOf}
use Rattle.shrink_layout.specs.Invariants.Numbers.{AreFirstNumbers}
use Rattle.shrink_layout.specs.Invariants.Widths.{AreStarts}
use Rattle.shrink_layout.specs.Pieces.{pieces_of}
use Rattle.shrink_layout.specs.Settled.{settled_addresses, settled_counts, settled_widths}
use Rattle.shrink_layout.specs.Units.{AreTargetSlots}
use Rattle.shrink_layout.specs.declared.pieces.Pieces.{Pieces}

-- a layout of inputs without a fault, with a table of these slots
pub record IsSettled (inputs : Inputs) (slots : List (Option Place)) (starts : List ℕ) (made : Pieces)
    (sums block_starts : List ℕ) (counts : Counts) : Type 0 where
  pub faultless : gather_fault inputs ≡ None
  pub targets : AreTargetSlots (parsed inputs) slots
  pub starts_are : AreFirstNumbers (parsed inputs).objects starts
  pub made_are : ArePiecesOf (parsed inputs) slots made
  pub sums_are : sums ≡ settled_widths (parsed inputs) slots
  pub block_starts_are :
      AreStarts (settled_addresses (parsed inputs) slots) (length (pieces_of (parsed inputs) slots)) block_starts
  pub counts_are : counts ≡ settled_counts (parsed inputs) slots
