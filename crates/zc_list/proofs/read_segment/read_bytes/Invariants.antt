use Rattle.std.proofs.Common.{◌≡◌, ◌+◌, ◌≤◌, List, false, length}
use Rattle.elf32_read.specs.Segments.{SegmentData}
use Rattle.text_lines.specs.Lines.{lines_of}
use Rattle.zc_list.specs.Reader.{read_left, segment_with}
use Rattle.zc_list.specs.Spelled.{inside, read_lines}
use Rattle.zc_list.proofs.read_segment.read_bytes.Given as goal

abbrev pub invariant-loop-head : goal.invariant-loop-head
invariant-loop-head l = record {
  so_far : (done : List SegmentData) → read_left (inside done (segment_with l.head l.fn.bytes.items) false) l.fn.lines ≡ read_lines (inside done (segment_with l.head l.bytes.items) l.last) l.number (lines_of l.rest);
  within : length l.bytes.items ≤ l.head.size;
  shorter : length l.rest ≤ length l.fn.lines.rest.now;
  room : l.number + length l.rest ≤ l.fn.lines.number + length l.fn.lines.rest.now;
}

abbrev pub decreases-loop-head : goal.decreases-loop-head
decreases-loop-head l = length l.rest
