-- The numbers of the sections before this one, and that of the next one that is kept.
use Rattle.std.proofs.Common.{◌≡◌, ◌+◌, ◌≤◌, [], map, take}
use Rattle.std.specs.Prelude.{slice_index_or}
use Rattle.std.specs.List.{enumerate_from}
use Rattle.elf32_read.specs.Parts.{object_parts}
use Rattle.moved_runs.specs.Passes.{new_number}
use Rattle.tail_merge.specs.MovedTails.{kept_number}
use Rattle.tail_merge.proofs.symbols.kept_numbers.Given as goal

abbrev pub invariant-loop-i : goal.invariant-loop-i
invariant-loop-i l =
    let sections = (object_parts (slice_index_or l.objects.files l.fn.object [])).sections in
    record {
      numbers : l.numbers.items ≡ map (kept_number sections) (take l.i (enumerate_from 0 sections));
      next : l.next ≡ new_number sections l.i;
      few : l.next ≤ 1 + l.i;
    }
