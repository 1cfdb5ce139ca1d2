-- The machine's first state (System V gABI, "Program Loading").
use Rattle.std.specs.Prelude.{ℕ, ◌-◌, if◌then◌else◌, List, [], ◌∷◌, ◌++◌, None, length, map}
use Rattle.zc_base.specs.declared.mem_map.MemMap.{MemMap}
use Rattle.elf32_read.specs.Header.{entry_address}
use Rattle.elf32_read.specs.Segments.{SegmentData, segments_of}
use Rattle.rv_decode.specs.Memory.{Region, Text, Data, Stack, blank}
use Rattle.rv_decode.specs.State.{ZcCore, set_reg, start_regs}

-- the region of a segment: its bytes from the file, and zeros after them
abbrev pub region_of : SegmentData → Region ℕ
region_of s = record { kind = (if s.code then Text else Data); at = s.at; cells = s.bytes ++ blank (s.size - length s.bytes) 0 }

-- the segments, and the stack, of zeros
abbrev pub first_memory : List SegmentData → MemMap → List (Region ℕ)
first_memory segments m =
    map region_of segments ++ record { kind = Stack; at = m.stack_low; cells = blank (m.stack_high - m.stack_low) 0 } ∷ []

-- the state at the start: sp is the stack's end, and the other registers are 0
unfoldable pub first_core : ℕ → List SegmentData → MemMap → ZcCore
first_core entry segments m = record {
  pc = entry;
  regs = start_regs 0 m.stack_high 0;
  jvt = 0;
  memory = first_memory segments m;
  commits = 0;
  exit = None;
}

-- the state after a chip's reset, in which sp isn't set: it is 0
abbrev pub reset_core : ZcCore → ZcCore
reset_core z = record z { regs = set_reg z.regs 2 0 }

-- an image's first state in a map
abbrev pub first_core_of : List ℕ → MemMap → ZcCore
first_core_of image m = first_core (entry_address image) (segments_of image) m
