use Rattle.std.proofs.Common.{◌≡◌, ℕ, Bool, [], map, filter, take}
use Rattle.std.specs.Prelude.{slice_index_or}
use Rattle.std.specs.List.{enumerate_from}
use Rattle.elf32_read.specs.Parts.{is_kept_section, object_parts}
use Rattle.object_passes.specs.Written.{without_mark}
use Rattle.section_gc.specs.Cleaned.{cleaned_section}
use Rattle.section_gc.specs.Remains.{remains_in}
use Rattle.section_gc.proofs.sections.section_parts.Given as goal

abbrev pub invariant-loop-i : goal.invariant-loop-i
invariant-loop-i l =
    let object = object_parts (slice_index_or l.objects.files l.fn.object []) in
    (needed : ℕ → Bool) → l.table ≡ remains_in needed object
    → l.sections.items ≡ map (λ e. without_mark (cleaned_section (needed e.0) e.1)) (filter (λ e. is_kept_section e.1) (take l.i (enumerate_from 0 object.sections)))
