use Rattle.std.proofs.Common.{◌≡◌, map, take}
use Rattle.psabi_sym.specs.Inputs.{parsed}
use Rattle.psabi_sym.specs.Indexed.{all_sections}
use Rattle.block_cut.specs.Invariants.CodeTargets.{AreCodeTargets}
use Rattle.block_cut.specs.Invariants.SectionItems.{section_tables}
use Rattle.block_cut.specs.Invariants.CodeTables.{IsCodeSpan}
use Rattle.block_cut.proofs.code_tables.CodeTables.new.Given as goal

abbrev pub invariant-loop-k : goal.invariant-loop-k
invariant-loop-k l = record {
  sections : l.sections.items ≡ map (section_tables (parsed l.objects)) (take l.k (all_sections (parsed l.objects).objects));
  targets : AreCodeTargets (parsed l.objects) (take l.k (all_sections (parsed l.objects).objects)) l.targets;
  span : IsCodeSpan (parsed l.objects) (take l.k (all_sections (parsed l.objects).objects)) l.span;
}
