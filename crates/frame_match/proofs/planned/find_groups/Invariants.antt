use Rattle.std.proofs.Common.{◌≡◌, map, take}
use Rattle.std.specs.List.{flat_map}
use Rattle.psabi_sym.specs.Inputs.{parsed}
use Rattle.psabi_sym.specs.Indexed.{all_sections}
use Rattle.frame_match.specs.Groups.{groups_in, roles_in}
use Rattle.frame_match.specs.Invariants.Marks.{section_marks}
use Rattle.frame_match.proofs.planned.find_groups.Given as goal

abbrev pub invariant-loop-k : goal.invariant-loop-k
invariant-loop-k l = record {
  groups : l.groups.items ≡ flat_map (groups_in (parsed l.cut)) (take l.k (all_sections (parsed l.cut).objects));
  sections : l.sections.items ≡ section_marks 0 (map (roles_in (parsed l.cut)) (take l.k (all_sections (parsed l.cut).objects)));
}
