use Rattle.std.proofs.Common.{◌≡◌, take}
use Rattle.std.specs.List.{count_by}
use Rattle.psabi_sym.specs.Fixed.{is_fixed}
use Rattle.psabi_sym.specs.Indexed.{all_sections}
use Rattle.psabi_sym.specs.Inputs.{parsed}
use Rattle.zcld.proofs.zc.fixed_count.Given as goal

-- the fixed sections so far
abbrev pub invariant-loop-k : goal.invariant-loop-k
invariant-loop-k l = l.count ≡ count_by (λ s. is_fixed (parsed l.objects).fixed s.section) (take l.k (all_sections (parsed l.objects).objects))
