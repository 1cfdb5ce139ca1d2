-- What an image holds, by its bytes (System V gABI, "ELF Header" and "Program Header"), and what is loaded of it.
use Rattle.std.specs.Prelude.{◌≡◌, ◌≢◌, ℕ, ◌^◌, ◌<◌, ◌⊎◌, List, length, Option, Some, None, Bool, if◌then◌else◌, true, false}
use Rattle.zc_base.specs.declared.mem_map.MemMap.{MemMap}
use Rattle.zc_base.specs.declared.place.Place.{Place}
use Rattle.elf32_read.specs.Header.{entry_address}
use Rattle.elf32_read.specs.Image.{image_fault}
use Rattle.elf32_read.specs.Places.{place_list}
use Rattle.elf32_read.specs.Segments.{SegmentData, segments_of}
use Rattle.rv_decode.specs.Memory.{extents_of, is_stack, lies_in}
use Rattle.rv_decode.specs.State.{ZcCore, byte_in, reg_in}
use Rattle.zc_machine.specs.Load.{first_core}
use Rattle.zc_link.specs.Places.{listed_address}
use Rattle.std.specs.Option.{is_some}

-- the entry's address, the segments that are loaded, the addresses of the listed places, and the map that the image was
-- made for
pub record Image : Type 0 where
  pub entry : ℕ
  pub segments : List SegmentData
  pub address : Place → Option ℕ
  pub map : MemMap

-- the image that a file's bytes are under a map; none if they have a fault
unfoldable pub image_in : List ℕ → MemMap → Option Image
image_in bytes map = if is_some (image_fault bytes map) then None else Some (record {
  entry = entry_address bytes;
  segments = segments_of bytes;
  address = listed_address (place_list bytes);
  map = map;
})

-- the machine's first state
abbrev pub loaded_core : Image → ZcCore
loaded_core e = first_core e.entry e.segments e.map

-- a state that a chip may start in: pc, text and data are as loaded, and sp is the stack's end if it is set; the other registers, jvt
-- and the bytes of the stack hold anything
pub record IsFirstState (sp_set : Bool) (e : Image) (z : ZcCore) : Type 0 where
  pub pc : z.pc ≡ e.entry
  pub count : length z.regs ≡ 32
  pub sp : sp_set ≡ true → reg_in z 2 ≡ e.map.stack_high
  pub words : (r : ℕ) → (r ≢ 2) ⊎ (sp_set ≡ false) → reg_in z r < 2 ^ 32
  pub extents : extents_of z.memory ≡ extents_of (loaded_core e).memory
  pub bytes :
      (a : ℕ)
      → (byte_in z a ≡ byte_in (loaded_core e) a) ⊎ ((lies_in is_stack (extents_of z.memory) a 1 ≡ true) × (byte_in z a < 256))
  pub exit : z.exit ≡ None
