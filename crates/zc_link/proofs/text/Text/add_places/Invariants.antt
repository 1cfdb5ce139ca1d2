-- So far the text has the places of the section before the one at hand.
use Rattle.std.proofs.Common.{◌≡◌, Some, true, slice_get}
use Rattle.elf32_read.specs.Parts.{is_code_section}
use Rattle.psabi_sym.specs.Inputs.{parsed}
use Rattle.psabi_sym.specs.Indexed.{IndexedSection, all_sections}
use Rattle.zc_link.proofs.Walk.{After}
use Rattle.zc_link.proofs.text.Text.add_places.Given as goal

abbrev pub invariant-loop-i : goal.invariant-loop-i
invariant-loop-i g l = record {
  after : (m : IndexedSection) → slice_get (all_sections (parsed (g.L.Layout.layout l.layout).inputs).objects) l.k ≡ Some m → is_code_section m.section ≡ true
      → After (g.L.Layout.layout l.layout) l.k m l.i l.self.text.items l.self.places.items;
}
