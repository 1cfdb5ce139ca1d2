-- The table has what is left of the sections before this one, and the number is that of the next section that is left.
use Rattle.std.proofs.Common.{◌≡◌, ◌+◌, ◌≤◌, [], map, take}
use Rattle.std.specs.Prelude.{slice_index_or}
use Rattle.std.specs.List.{enumerate_from}
use Rattle.elf32_read.specs.Parts.{object_parts}
use Rattle.psabi_sym.specs.Inputs.{parsed}
use Rattle.moved_runs.specs.Passes.{new_number}
use Rattle.section_gc.specs.Graph.{has_mark}
use Rattle.section_gc.specs.Remains.{remains_of}
use Rattle.section_gc.proofs.remains.remains_in.Given as goal

abbrev pub invariant-loop-i : goal.invariant-loop-i
invariant-loop-i l =
    let sections = (object_parts (slice_index_or l.objects.files l.fn.object [])).sections in
    record {
      table : l.table.items ≡ map (λ e. remains_of (has_mark (parsed l.objects).objects l.marks l.fn.object e.0) (new_number sections e.0) e.1) (take l.i (enumerate_from 0 sections));
      number : l.number ≡ new_number sections l.i;
      few : l.number ≤ 1 + l.i;
    }
