use Rattle.std.proofs.Common.{◌≡◌, take}
use Rattle.psabi_sym.specs.Indexed.{all_sections}
use Rattle.psabi_sym.specs.Inputs.{parsed}
use Rattle.section_gc.specs.Counts.{code_counts}
use Rattle.section_gc.specs.Graph.{has_mark}
use Rattle.section_gc.proofs.counts.code_counts.Given as goal

abbrev pub invariant-loop-k : goal.invariant-loop-k
invariant-loop-k l = l.counts ≡ code_counts (has_mark (parsed l.objects).objects l.marks) (take l.k (all_sections (parsed l.objects).objects))
