-- What holds of an image without a fault.
use Rattle.std.proofs.Common.{◌≡◌, ℕ, ◌+◌, ◌*◌, ◌≤◌, List, length, Bool, false, ltb, None}
use Rattle.std.specs.Prelude.{◌||◌}
use Rattle.std.specs.List.{list_any}
use Rattle.std.proofs.lemmas.Bool.{ltb-false, or_parts}
use Rattle.zc_base.specs.declared.mem_map.MemMap.{MemMap}
use Rattle.elf32_read.specs.Header.{program_count, program_table}
use Rattle.elf32_read.specs.Image.{image_fault, image_truncated, not_image}
use Rattle.elf32_read.specs.Object.{truncated}
use Rattle.elf32_read.specs.Segments.{loads_of}
use Rattle.elf32_read.specs.declared.image_fault.ImageFault.TheVariants.{NotElf, Truncated, TooLarge}
use Rattle.elf32_read.proofs.Decided.{first_no}
use Rattle.elf32_read.proofs.Tests.{load_passes_end}

-- the image has a bounded length, and its header and the bytes of its segments lie in the file
pub record IsWholeImage (bytes : List ℕ) : Type 0 where
  pub small : length bytes ≤ 0x80_0000
  pub long : 52 ≤ length bytes
  pub segments : list_any (load_passes_end bytes) (loads_of bytes) ≡ false

long_image : (bytes : List ℕ) → not_image bytes ≡ false → 52 ≤ length bytes
long_image bytes h =
    let short : Bool = ltb (length bytes) 52 in
    ltb-false (length bytes) 52 (or_parts short _ (or_parts (short || _) _ (or_parts (short || _ || _) _ (or_parts (short || _ || _ || _) _ h).0).0).0).0

whole_segments : (bytes : List ℕ) → image_truncated bytes ≡ false → list_any (load_passes_end bytes) (loads_of bytes) ≡ false
whole_segments bytes h =
    (or_parts (ltb (length bytes) (program_table bytes + 32 * program_count bytes) || truncated bytes) (list_any (load_passes_end bytes) (loads_of bytes)) h).1

pub faultless_whole_image : (bytes : List ℕ) (memory : MemMap) → image_fault bytes memory ≡ None → IsWholeImage bytes
unfolding image_fault
faultless_whole_image bytes memory h =
    let small = first_no (ltb 0x80_0000 (length bytes)) TooLarge _ h in
    let image = first_no (not_image bytes) NotElf _ small.1 in
    let whole = first_no (image_truncated bytes) Truncated _ image.1 in
    record {
      small = ltb-false 0x80_0000 (length bytes) small.0;
      long = long_image bytes image.0;
      segments = whole_segments bytes whole.0;
    }
