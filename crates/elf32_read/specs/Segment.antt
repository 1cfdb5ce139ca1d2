-- A segment, as the code returns it with borrowed bytes.
use Rattle.elf32_read.specs.Segments.{SegmentData}
use Rattle.elf32_read.specs.declared.segment.Segment.{Segment}

-- the segment as plain data
abbrev pub segment_data : Segment → SegmentData
segment_data segment = record {
  at = segment.at;
  size = segment.size;
  code = segment.code;
  bytes = segment.bytes.now;
}
