-- The segments of an image (System V gABI, "Program Header").
use Rattle.std.specs.Prelude.{ℕ, ◌+◌, Bool, ◌&&◌, ◌==◌, nat_lt, nat_le, min, max, if◌then◌else◌, List, take, drop, map, filter, bit_and}
use Rattle.std.specs.List.{range_with_len}
use Rattle.zc_base.specs.MemMap.{data_limit}
use Rattle.zc_base.specs.declared.mem_map.MemMap.{MemMap}
use Rattle.elf32_read.specs.Header.{program_count, program_header_of}
use Rattle.elf32_read.specs.declared.header.ProgramHeader.{ProgramHeader}

-- the program headers that load a segment, PT_LOAD (1), in order
unfoldable pub loads_of : List ℕ → List ProgramHeader
loads_of bytes = filter (λ header. header.kind == 1) (map (program_header_of bytes) (range_with_len 0 (program_count bytes)))

-- the segment is executable, PF_X (1)
abbrev pub is_code : ProgramHeader → Bool
is_code header = bit_and header.flags 1 == 1

-- where the segment ends in memory
abbrev pub memory_end : ProgramHeader → ℕ
memory_end header = header.address + header.memory_size

-- a segment lies in the region for its kind: code from text to below data_low, all else in the room for data, from
-- data_low on
abbrev pub is_in_place : MemMap → ProgramHeader → Bool
is_in_place memory header =
    if is_code header
    then (nat_le memory.text header.address && nat_le (memory_end header) memory.data_low)
    else (nat_le memory.data_low header.address && nat_le (memory_end header) (memory.data_low + data_limit memory))

-- two segments share a byte of memory
abbrev pub overlap_in_memory : ProgramHeader → ProgramHeader → Bool
overlap_in_memory first second =
    nat_lt (max first.address second.address) (min (memory_end first) (memory_end second))

-- an address inside the bytes that a code segment has in the file, or at their end
abbrev pub is_entry_of : ℕ → ProgramHeader → Bool
is_entry_of entry header = is_code header && nat_le header.address entry && nat_le entry (header.address + header.file_size)

-- a segment: where it lies, its size in memory, whether it holds code, and its bytes from the file,
-- after which it is zero
pub record SegmentData : Type 0 where
  pub at : ℕ
  pub size : ℕ
  pub code : Bool
  pub bytes : List ℕ

-- the segment that a program header loads
abbrev pub segment_of : List ℕ → ProgramHeader → SegmentData
segment_of bytes header = record {
  at = header.address;
  size = header.memory_size;
  code = is_code header;
  bytes = take header.file_size (drop header.offset bytes);
}

-- the segments, in the order of their headers
abbrev pub segments_of : List ℕ → List SegmentData
segments_of bytes = map (segment_of bytes) (loads_of bytes)
