-- Files of objects with equal tails shared run as the given ones do, in at most twice the steps.
use Rattle.std.proofs.Common.{◌≡◌, ℕ, List, map, None}
use Rattle.std.specs.Prelude.{◌≤◌, ◌+◌}
use Rattle.std.specs.List.{AllZip}
use Rattle.zc_base.specs.MemMap.{IsMap, data_limit}
use Rattle.elf32_write.specs.Writable.{IsObjectOf}
use Rattle.psabi_sym.specs.Data.{data_end}
use Rattle.psabi_sym.specs.Inputs.{Inputs, parsed}
use Rattle.block_cut.specs.Faults.{first_fault}
use Rattle.moved_runs.specs.Passes.{with_files}
use Rattle.object_passes.specs.Written.{without_marks}
use Rattle.tail_merge.specs.Merged.{merged}
use Rattle.tail_merge.specs.Merging.{AreMerged, merged_files}
use Rattle.tail_merge.proofs.Shares.{merged-runs, merged-shares, merged-uppers}

-- what is written of each, and has no fault with the others, is what is promised
pub are-merged : (inputs : Inputs) (files : List (List ℕ)) → first_fault inputs ≡ None → IsMap inputs.map → data_end (parsed inputs) ≤ inputs.map.data_low + data_limit inputs.map
    → files ≡ merged_files inputs → AllZip IsObjectOf (map without_marks (merged (parsed inputs))) files → first_fault (with_files inputs files) ≡ None → AreMerged inputs files
are-merged inputs files none is room files_are read fine = record {
  given_faultless = none;
  files_are = files_are;
  faultless = fine;
  shares = merged-shares inputs files none is room read;
  uppers = merged-uppers inputs files none is room read;
  runs = merged-runs inputs files none is room read;
}
