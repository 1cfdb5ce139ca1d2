-- What links give, and what is promised of them.
use Rattle.std.specs.Prelude.{◌≡◌, ℕ, ◌+◌, ◌≤◌, IsTrue, List, [], ◌∷◌, filter, All, Option, Some}
use Rattle.zc_base.specs.declared.counts.Counts.{Counts}
use Rattle.zc_base.specs.declared.place.Place.{Place}
use Rattle.elf32_read.specs.Places.{place_list}
use Rattle.elf32_read.specs.Segments.{SegmentData, segments_of}
use Rattle.elf32_write.specs.Image.{image_bytes}
use Rattle.psabi_sym.specs.Inputs.{Inputs, parsed}
use Rattle.pick_check.specs.Best.{NoneSavesMore}
use Rattle.pick_check.specs.Certified.{Certified, IsAccepted}
use Rattle.pick_check.specs.declared.saving.Saving.{Saving}
use Rattle.jumptable_pick.specs.Picked.{picked}
use Rattle.jumptable_pick.specs.Slots.{slot_places}
use Rattle.block_cut.specs.PlainLayout.{plain_counts, plain_end}
use Rattle.shrink_layout.specs.FixedSections.{KeepsFixed}
use Rattle.shrink_layout.specs.Pieces.{is_unaligned}
use Rattle.shrink_layout.specs.Savings.{table_savings}
use Rattle.shrink_layout.specs.Settled.{settled_counts, settled_end}
use Rattle.shrink_layout.specs.Table.{IsLaidBehind}
use Rattle.sym_machine.specs.Objects.{program_of}
use Rattle.zc_link.specs.Copied.{IsCopiedTo}
use Rattle.zc_link.specs.Image.{Image, image_in}
use Rattle.zc_link.specs.ImageParts.{listed_places, parts_of, plain_flags}
use Rattle.zc_link.specs.Pace.{pace_of}
use Rattle.zc_link.specs.Places.{listed_address}
use Rattle.zc_link.specs.Preserves.{Preserves, aligns_of}
use Rattle.zc_link.specs.IsSimulation.{IsPaced, IsSimulation}
use Rattle.zc_link.specs.Supported.{FitsChip}
use Rattle.moved_runs.specs.Leads.{IsNamed}
use Rattle.zc_link.specs.TextLayout.{TextLayout, plain_layout, stretch_in, zc_layout}
use Rattle.zc_link.specs.Written.{GapsAreZero, HoldsFront, HoldsPlace}

-- what a link gives: the file of the image, what a table of jumps and calls could save, the certificate of the table that it has,
-- and what the plain layout and the image count
pub record Link : Type 0 where
  pub elf : List ℕ
  pub savings : List Saving
  pub certificate : Certified
  pub plain : Counts
  pub zc : Counts

-- ---- images

-- the file is an image of the objects' parts with a text that holds what stands in front, and at each listed place what is written
-- there, and zeros between
pub record HasParts (L : TextLayout) (flags : ℕ) (elf : List ℕ) : Type 0 where
  pub text : List ℕ
  pub bytes : elf ≡ image_bytes (parts_of L flags text)
  pub front : HoldsFront L text
  pub holds : All (HoldsPlace L text) (listed_places L)
  pub gaps : GapsAreZero L text

-- an image of the inputs in a layout, whose text ends at an address: it has the parts laid out for the objects; it does what the
-- objects' program does, under every plan of interrupts; read as an image, it does the steps of that program at the layout's pace; its
-- one segment of code begins where text does, ends there, and has what is copied; and it lists the places that have an address: those
-- where an item starts or a section of code ends, but in a layout with groups none inside a group
pub record IsImageOf (L : TextLayout) (flags end : ℕ) (elf : List ℕ) : Type 0 where
  pub parts : HasParts L flags elf
  pub preserves : Preserves L.inputs elf
  pub loaded : Image
  pub read : image_in elf L.inputs.map ≡ Some loaded
  pub simulates :
      IsSimulation (program_of (parsed L.inputs)) (IsNamed (parsed L.inputs)) loaded
      (pace_of (program_of (parsed L.inputs)) (stretch_in L))
  pub paced : IsPaced (program_of (parsed L.inputs)) (pace_of (program_of (parsed L.inputs)) (stretch_in L)) (aligns_of (parsed L.inputs))
  pub text : SegmentData
  pub alone : filter (λ s. s.code) (segments_of elf) ≡ text ∷ []
  pub start : text.at ≡ L.inputs.map.text
  pub ends : text.at + text.size ≡ end
  pub copied : IsCopiedTo (parsed L.inputs) (listed_address (place_list elf)) text
  pub places : place_list elf ≡ listed_places L

-- ---- tables

-- the certificate of a link without a table
abbrev pub empty_certificate : Certified
empty_certificate = record { slots = []; prices = 0 ∷ 0 ∷ 0 ∷ []; net = 0 }

-- the places that the slots of a link's table lead to; some slots may be holes
abbrev pub slots_of : Link → List (Option Place)
slots_of link = slot_places link.savings link.certificate.slots

-- the table is the one that is picked for what it could save, and its certificate shows that none saves more
pub record HasBestTable (inputs : Inputs) (link : Link) : Type 0 where
  pub savings : link.savings ≡ table_savings (parsed inputs)
  pub is_picked : link.certificate ≡ picked link.savings
  pub accepted : IsAccepted link.savings link.certificate
  pub best : NoneSavesMore link.savings link.certificate.net

-- ---- links

-- the link that writes code as it is: its image has the plain layout, without a table, and its counts are those of that layout
pub record IsPlainLink (inputs : Inputs) (link : Link) : Type 0 where
  pub image : IsImageOf (plain_layout inputs) (plain_flags (parsed inputs)) (plain_end (parsed inputs)) link.elf
  pub open image use *
  pub savings : link.savings ≡ []
  pub certificate : link.certificate ≡ empty_certificate
  pub plain : link.plain ≡ plain_counts (parsed inputs)
  pub zc : link.zc ≡ plain_counts (parsed inputs)

-- the layout after a table of these slots is settled; if there is no ALIGN, no code aligned above 4 bytes and no fixed section,
-- the text is shorter than without the table, by at least `net` bytes
pub record IsShortest (inputs : Inputs) (slots : List (Option Place)) (net : ℕ) : Type 0 where
  pub laid : IsLaidBehind (parsed inputs) slots
  pub saves : IsTrue (is_unaligned (parsed inputs)) → settled_end (parsed inputs) slots + net ≤ settled_end (parsed inputs) []

-- the link that makes code smaller: its image has the settled layout behind the best table, in which fixed sections keep their
-- distances, and needs no extension that the chip lacks; and what the plain layout and this one count
pub record IsZcLink (inputs : Inputs) (link : Link) : Type 0 where
  pub table : HasBestTable inputs link
  pub layout : IsShortest inputs (slots_of link) link.certificate.net
  pub fixed : KeepsFixed (parsed inputs) (zc_layout inputs (slots_of link)).address
  pub image : IsImageOf (zc_layout inputs (slots_of link)) 1 (settled_end (parsed inputs) (slots_of link)) link.elf
  pub open image use *
  pub supported : FitsChip (zc_layout inputs (slots_of link)) image.parts.text
  pub plain : link.plain ≡ plain_counts (parsed inputs)
  pub zc : link.zc ≡ settled_counts (parsed inputs) (slots_of link)
