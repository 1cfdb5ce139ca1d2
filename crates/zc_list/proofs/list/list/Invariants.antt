use Rattle.std.proofs.Common.{◌≡◌, ◌++◌, drop, take}
use Rattle.std.specs.Prelude.{All, codes, flat_map}
use Rattle.elf32_read.specs.Segments.{segments_of}
use Rattle.zc_list.specs.Listing.{FitsSegment, segment_lines, text_of_lines}
use Rattle.zc_list.proofs.list.list.Given as goal

abbrev pub invariant-loop-i : goal.invariant-loop-i
invariant-loop-i l = record {
  lines : l.text.items ++ text_of_lines (flat_map segment_lines (drop l.i (segments_of l.image.0))) ≡ codes "zcld list 1\n" ++ text_of_lines (flat_map segment_lines (segments_of l.image.0));
  fits : All FitsSegment (take l.i (segments_of l.image.0));
}
