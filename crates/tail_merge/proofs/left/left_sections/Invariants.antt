use Rattle.std.proofs.Common.{◌≡◌, map, take}
use Rattle.psabi_sym.specs.Indexed.{all_sections}
use Rattle.psabi_sym.specs.Inputs.{parsed}
use Rattle.tail_merge.specs.Left.{merged_left}
use Rattle.tail_merge.proofs.left.left_sections.Given as goal

abbrev pub invariant-loop-k : goal.invariant-loop-k
invariant-loop-k l = l.left.items ≡ map (merged_left (parsed l.cut)) (take l.k (all_sections (parsed l.cut).objects))
