use Rattle.std.proofs.Common.{◌≡◌, None, take}
use Rattle.std.specs.List.{find, flat_map}
use Rattle.psabi_sym.specs.Inputs.{parsed}
use Rattle.psabi_sym.specs.Indexed.{all_sections}
use Rattle.block_cut.specs.Faults.{is_out_of_reach}
use Rattle.block_cut.specs.Items.{places_of}
use Rattle.block_cut.proofs.reach.first_out_of_reach.Given as goal

abbrev pub invariant-loop-k : goal.invariant-loop-k
invariant-loop-k l = find (is_out_of_reach (parsed l.objects)) (flat_map places_of (take l.k (all_sections (parsed l.objects).objects))) ≡ None
