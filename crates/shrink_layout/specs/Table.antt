-- What is promised of the layout after a table, and what the table is worth.
use Rattle.std.specs.Prelude.{◌+◌, ◌*◌, ◌≤◌, IsTrue, List, [], Option}
use Rattle.zc_base.specs.declared.place.Place.{Place}
use Rattle.psabi_sym.specs.Inputs.{ParsedInputs}
use Rattle.shrink_layout.specs.FixedSections.{KeepsFixed}
use Rattle.shrink_layout.specs.Layout.{IsLayout}
use Rattle.shrink_layout.specs.Least.{IsLeast}
use Rattle.shrink_layout.specs.Pieces.{is_unaligned, pieces_of}
use Rattle.shrink_layout.specs.Settled.{is_site, settled_address, settled_end, settled_sizes, units_with}
use Rattle.shrink_layout.specs.Units.{front_size}

-- the text with the table is no longer than the text without it, apart from the table and its stub, and less 2 bytes for each
-- jump or call through the table
abbrev pub TablePays : ParsedInputs → List (Option Place) → Type 0
TablePays inputs slots =
    settled_end inputs slots + 2 * units_with inputs slots is_site ≤ settled_end inputs [] + front_size slots

-- after a table of these slots, the sizes are those of the first round that fits; if there is no ALIGN, no code aligned above 4
-- bytes and no fixed section, they are the least that fit, and the table pays; fixed sections keep their distances
pub record IsLaidBehind (inputs : ParsedInputs) (slots : List (Option Place)) : Type 0 where
  pub layout : IsLayout inputs.map.text (pieces_of inputs slots) (settled_sizes inputs slots)
  pub least : IsTrue (is_unaligned inputs)
      → IsLeast inputs.map.text (pieces_of inputs slots) (settled_sizes inputs slots)
  pub pays : IsTrue (is_unaligned inputs) → TablePays inputs slots
  pub kept : KeepsFixed inputs (settled_address inputs slots)
