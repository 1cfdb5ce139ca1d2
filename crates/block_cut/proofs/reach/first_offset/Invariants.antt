use Rattle.std.proofs.Common.{◌≡◌, None, Some, take}
use Rattle.std.specs.List.{find}
use Rattle.psabi_sym.specs.Inputs.{parsed}
use Rattle.psabi_sym.specs.Indexed.{IndexedSection, section_at}
use Rattle.psabi_sym.specs.Invariants.Rows.{section_row}
use Rattle.block_cut.specs.Places.{code_places}
use Rattle.block_cut.proofs.ReachLaws.{is_out_at}
use Rattle.block_cut.proofs.reach.first_offset.Given as goal

abbrev pub invariant-loop-place : goal.invariant-loop-place
invariant-loop-place l = (m : IndexedSection) → section_at (parsed l.objects).objects m.object m.index ≡ Some m.section → l.places ≡ code_places (parsed l.objects) m → l.section ≡ section_row l.objects.fixed m → find (is_out_at (parsed l.objects) m) (take l.place-index l.places) ≡ None
