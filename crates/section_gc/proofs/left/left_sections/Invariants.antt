use Rattle.std.proofs.Common.{◌≡◌, map, take}
use Rattle.psabi_sym.specs.Indexed.{all_sections}
use Rattle.psabi_sym.specs.Inputs.{parsed}
use Rattle.section_gc.specs.Left.{cleaned_left}
use Rattle.section_gc.specs.Marked.{needed_by}
use Rattle.section_gc.proofs.left.left_sections.Given as goal

abbrev pub invariant-loop-k : goal.invariant-loop-k
invariant-loop-k l = l.left.items ≡ map (cleaned_left (needed_by l.objects l.marks)) (take l.k (all_sections (parsed l.objects).objects))
