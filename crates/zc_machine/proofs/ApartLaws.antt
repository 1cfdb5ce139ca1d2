-- The regions of an image without a fault have no address in common, under each map that a link may be made for: the reader
-- refuses segments that overlap or lie out of their place.
use Rattle.std.proofs.Common.{◌≡◌, ℕ, ◌+◌, ◌-◌, ◌^◌, ◌≤◌, List, [], ◌∷◌, length, Bool, true, false, cond, map, max, min, None, arith, leb, ltb, take, drop, length-append}
use Rattle.std.specs.Prelude.{◌==◌, ◌&&◌, ◌||◌, not, ◌%◌, All, bit_and}
use Rattle.std.specs.List.{list_any}
use Rattle.std.proofs.lemmas.Bool.{and_parts, leb-true, ltb-false, not-false, or_parts}
use Rattle.std.proofs.lemmas.List.{length-take}
use Rattle.std.proofs.lemmas.List.Elements.{All-cons, All-nil}
use Rattle.zc_base.specs.MemMap.{IsMap, data_limit}
use Rattle.zc_base.specs.declared.mem_map.MemMap.{MemMap}
use Rattle.elf32_read.proofs.Decided.{first_no}
use Rattle.elf32_read.specs.Header.{entry_address}
use Rattle.elf32_read.specs.Image.{bad_segments, image_fault, image_truncated, is_bad_load, not_image, some_overlap}
use Rattle.elf32_read.specs.Segments.{is_code, is_in_place, loads_of, memory_end, overlap_in_memory, segment_of, segments_of}
use Rattle.elf32_read.specs.declared.header.ProgramHeader.{ProgramHeader}
use Rattle.elf32_read.specs.declared.image_fault.ImageFault.TheVariants.{BadSegment, NotElf, TooLarge, Truncated}
use Rattle.rv_decode.specs.Memory.{Extent, blank, extent_of, extents_of, Region, Stack}
use Rattle.rv_decode.proofs.MemoryLaws.{length_blank}
use Rattle.zc_machine.specs.Load.{first_memory, region_of}
use Rattle.zc_machine.specs.Memory.{Apart, AreApart}

-- ---- what the reader's tests say

record IsPlaced (map : MemMap) (header : ProgramHeader) : Type 0 where
  pub fits : header.file_size ≤ header.memory_size
  pub low : map.text ≤ header.address
  pub high : memory_end header ≤ map.data_low + data_limit map

abbrev stack_region : MemMap → Region ℕ
stack_region m = record { kind = Stack; at = m.stack_low; cells = blank (m.stack_high - m.stack_low) 0 }

module _ (bytes : List ℕ) (memory : MemMap) (is : IsMap memory) where
  placed : (header : ProgramHeader) → is_bad_load memory header ≡ false → IsPlaced memory header
  placed header good =
      let parts = or_parts (ltb header.memory_size header.file_size || (is_code header && bit_and header.flags 2 == 2)) (not (is_in_place memory header)) good in
      let sizes = or_parts (ltb header.memory_size header.file_size) (is_code header && bit_and header.flags 2 == 2) parts.0 in
      let place = by_kind (is_code header) (not-false (is_in_place memory header) parts.1) in
      record { fits = ltb-false header.memory_size header.file_size sizes.0; low = place.0; high = place.1 }
    where
      within : (low high : ℕ) → (leb low header.address && leb (memory_end header) high) ≡ true → (low ≤ header.address) × (memory_end header ≤ high)
      within low high h = let q = and_parts (leb low header.address) (leb (memory_end header) high) h in (leb-true low header.address q.0, leb-true (memory_end header) high q.1)

      by_kind :
          (b : Bool) → cond b (leb memory.text header.address && leb (memory_end header) memory.data_low) (leb memory.data_low header.address && leb (memory_end header) (memory.data_low + data_limit memory)) ≡ true
          → (memory.text ≤ header.address) × (memory_end header ≤ memory.data_low + data_limit memory)
      by_kind true h = let q = within memory.text memory.data_low h in (q.0, omega (arith, q))
      by_kind false h = let q = within memory.data_low (memory.data_low + data_limit memory) h in let code = is.code in (omega (arith, q, code), q.1)

  -- the region of a segment ends where the segment does
  size_in : (header : ProgramHeader) → IsPlaced memory header → length (region_of (segment_of bytes header)).cells ≡ header.memory_size
  size_in header at =
      let given = take header.file_size (drop header.offset bytes) in
      let front = length-take header.file_size (drop header.offset bytes) in
      let rest = length_blank {X = ℕ} (header.memory_size - length given) 0 in
      let fits = at.fits in
      omega (arith, length-append given (blank (header.memory_size - length given) 0), front, rest, fits)

  stack_size : length (stack_region memory).cells ≡ memory.stack_high - memory.stack_low
  stack_size = length_blank {X = ℕ} (memory.stack_high - memory.stack_low) 0

  -- ---- apart

  abbrev extent_in : ProgramHeader → Extent
  extent_in header = extent_of (region_of (segment_of bytes header))

  pair_apart : (first second : ProgramHeader) → IsPlaced memory first → IsPlaced memory second → overlap_in_memory first second ≡ false → Apart (extent_in first) (extent_in second)
  pair_apart first second at to apart =
      let none = ltb-false (max first.address second.address) (min (memory_end first) (memory_end second)) apart in
      omega (arith, size_in first at, size_in second to, none)

  stack_apart : (header : ProgramHeader) → IsPlaced memory header → Apart (extent_in header) (extent_of (stack_region memory))
  stack_apart header at =
      let high = at.high in
      let below = is.below in
      omega (arith, size_in header at, stack_size, high, below)

  abbrev region_list : List ProgramHeader → List Extent
  region_list headers = extents_of (first_memory (map (segment_of bytes) headers) memory)

  all_apart : (header : ProgramHeader) (headers : List ProgramHeader) → IsPlaced memory header → list_any (is_bad_load memory) headers ≡ false → list_any (overlap_in_memory header) headers ≡ false → All (Apart (extent_in header)) (region_list headers)
  all_apart header [] at good apart = All-cons (Apart (extent_in header)) (extent_of (stack_region memory)) [] (stack_apart header at) (All-nil (Apart (extent_in header)))
  all_apart header (h ∷ hs) at good apart =
      let goods = or_parts (is_bad_load memory h) (list_any (is_bad_load memory) hs) good in
      let aparts = or_parts (overlap_in_memory header h) (list_any (overlap_in_memory header) hs) apart in
      All-cons (Apart (extent_in header)) (extent_in h) (region_list hs) (pair_apart header h at (placed h goods.0) aparts.0) (all_apart header hs at goods.1 aparts.1)

  are_apart : (headers : List ProgramHeader) → list_any (is_bad_load memory) headers ≡ false → some_overlap headers ≡ false → AreApart (region_list headers)
  are_apart [] good apart =
      let stack = is.stack in
      let top = is.top in
      let end : memory.stack_low + length (stack_region memory).cells ≤ 2 ^ 32 = omega (arith, stack_size, stack, top) in
      (end, All-nil (Apart (extent_of (stack_region memory))), tt)
  are_apart (h ∷ hs) good apart =
      let goods = or_parts (is_bad_load memory h) (list_any (is_bad_load memory) hs) good in
      let aparts = or_parts (list_any (overlap_in_memory h) hs) (some_overlap hs) apart in
      let at = placed h goods.0 in
      let high = at.high in
      let room = is.room in
      (omega (arith, size_in h at, high, room), all_apart h hs at goods.1 aparts.0, are_apart hs goods.1 aparts.1)

  -- the image's regions
  pub first_apart : image_fault bytes memory ≡ None → AreApart (extents_of (first_memory (segments_of bytes) memory))
  unfolding image_fault
  first_apart faultless =
      let small = first_no (ltb 0x80_0000 (length bytes)) TooLarge _ faultless in
      let image = first_no (not_image bytes) NotElf _ small.1 in
      let whole = first_no (image_truncated bytes) Truncated _ image.1 in
      let segments = first_no (bad_segments bytes memory) BadSegment _ whole.1 in
      let entered = or_parts (_ || (entry_address bytes % 2 == 1)) _ segments.0 in
      let even = or_parts (_ || some_overlap (loads_of bytes)) _ entered.0 in
      let overlaps = or_parts (_ || list_any (is_bad_load memory) (loads_of bytes)) (some_overlap (loads_of bytes)) even.0 in
      let loads = or_parts _ (list_any (is_bad_load memory) (loads_of bytes)) overlaps.0 in
      are_apart (loads_of bytes) loads.1 overlaps.1
