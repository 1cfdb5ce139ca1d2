-- Where a run stands in the code.
use Rattle.std.specs.Prelude.{◌≡◌, ℕ, Some, slice_get}
use Rattle.psabi_sym.specs.Inputs.{ParsedInputs}
use Rattle.block_cut.specs.Places.{place_there}
use Rattle.block_cut.specs.declared.code_place.CodePlace.{CodePlace}
use Rattle.sym_machine.specs.declared.cursor.Cursor.{Cursor}

-- each of the places is what stands at its offset in the section; where the cursor looks is only a guess, of which nothing is known
pub record IsCursor (inputs : ParsedInputs) (cursor : Cursor) : Type 0 where
  pub each : (k : ℕ) (x : CodePlace) → slice_get cursor.places.now k ≡ Some x
      → x ≡ place_there inputs (record { object = cursor.object; section = cursor.section; offset = x.offset })
