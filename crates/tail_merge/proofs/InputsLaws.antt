-- The files of merged objects read back as what becomes of the given ones.
use Rattle.std.proofs.Common.{◌≡◌, ℕ, List, length, map, refl, Bool, true, false, cond, None}
use Rattle.std.specs.List.{AllZip}
use Rattle.elf32_read.specs.Parts.{is_code_section}
use Rattle.elf32_write.specs.Writable.{IsObjectOf}
use Rattle.psabi_sym.specs.Inputs.{Inputs, ParsedInputs, parsed}
use Rattle.block_cut.specs.Faults.{first_fault}
use Rattle.moved_runs.specs.Passes.{ArePassed, with_files}
use Rattle.object_passes.specs.Written.{without_marks}
use Rattle.object_passes.proofs.ReadBack.{KeepsMarks, passed-of}
use Rattle.tail_merge.specs.Merged.{indexed, merged, merged_bytes, merged_relocs}
use Rattle.tail_merge.proofs.MergingLaws.{merging}

-- compressed code stays compressed
pub merged-marks : (inputs : ParsedInputs) → KeepsMarks (merging inputs)
merged-marks inputs o i s = by (is_code_section s)
  where
    by : (c : Bool)
        → (cond c (record s { relocs = merged_relocs inputs (indexed o i s); size = length (merged_bytes inputs (indexed o i s)); bytes = merged_bytes inputs (indexed o i s) }) (record s { relocs = merged_relocs inputs (indexed o i s) })).compressed
        ≡ s.compressed
    by true = refl
    by false = refl

pub inputs-merged : (inputs : Inputs) (files : List (List ℕ)) → first_fault inputs ≡ None → AllZip IsObjectOf (map without_marks (merged (parsed inputs))) files
    → ArePassed (merging (parsed inputs)) (parsed inputs) (parsed (with_files inputs files))
inputs-merged inputs files none read = passed-of (merging (parsed inputs)) (merged-marks (parsed inputs)) inputs (λ o i. refl) files none read
