use Rattle.std.proofs.Common.{◌≡◌, ◌-◌, replicate, take}
use Rattle.std.specs.List.{fold}
use Rattle.psabi_sym.specs.Contents.{with_content}
use Rattle.psabi_sym.specs.Data.{data_file_end}
use Rattle.psabi_sym.specs.Inputs.{parsed}
use Rattle.psabi_sym.specs.Indexed.{all_sections}
use Rattle.psabi_sym.proofs.objects.Objects.data_contents.Given as goal

abbrev pub invariant-loop-k : goal.invariant-loop-k
invariant-loop-k l = let inputs = parsed l.self in
    l.bytes.items ≡ fold (with_content inputs) (replicate (data_file_end inputs - inputs.map.data_low) 0) (take l.k (all_sections inputs.objects))
