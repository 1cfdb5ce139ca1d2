use Rattle.std.proofs.Common.{◌≡◌, take}
use Rattle.std.specs.List.{filter_map}
use Rattle.psabi_sym.specs.Inputs.{parsed}
use Rattle.psabi_sym.specs.Indexed.{all_sections}
use Rattle.psabi_sym.specs.Shared.{shared_range}
use Rattle.psabi_sym.proofs.objects.Objects.shared.Given as goal

abbrev pub invariant-loop-k : goal.invariant-loop-k
invariant-loop-k l = let inputs = parsed l.self in
    l.ranges.items ≡ filter_map (shared_range inputs) (take l.k (all_sections inputs.objects))
