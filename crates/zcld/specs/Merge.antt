-- What `merge` does: it shares equal tails of code in the objects, puts the results, and writes how much was removed.
use Rattle.std.specs.Prelude.{ℕ, ◌++◌, List, codes, decimal}
use Rattle.psabi_sym.specs.Inputs.{inputs_in}
use Rattle.tail_merge.specs.Merging.{BreaksMerged, IsMerging, Merging}
use Rattle.zc_base.specs.Options.{Options}
use Rattle.zc_outside.specs.World.{World}
use Rattle.zcld.specs.declared.outcome.Outcome.{Outcome}
use Rattle.zcld.specs.ErrLine.{line}
use Rattle.zcld.specs.ObjectNames.{named_from}
use Rattle.zcld.specs.Puts.{Output}
use Rattle.zcld.specs.Rewrites.{Rewrites}

-- how many tails were removed, and how many bytes of code fewer there are
abbrev pub removed_lines : Merging → List ℕ
removed_lines m = line (codes "tails " ++ decimal m.tails) ++ line (codes "bytes " ++ decimal m.bytes)

-- the results under their names, and those lines
abbrev pub merge_output : List ℕ → Merging → Output
merge_output prefix m = record { files = named_from prefix 0 m.files; text = removed_lines m }

-- the work of `merge`, under the options
abbrev pub MergeWork : Options → List ℕ → List (List ℕ) → Outcome → World → World → Type 0
MergeWork options prefix files =
    Rewrites (BreaksMerged (inputs_in options files)) (IsMerging (inputs_in options files)) (merge_output prefix)
