-- Where the parts of an image begin, as the code counts them.
use Rattle.std.specs.Prelude.{◌≡◌}
use Rattle.elf32_write.specs.Image.{data_offset, places_offset, names_offset, sections_offset}
use Rattle.elf32_write.specs.Parts.{Parts}
use Rattle.elf32_write.specs.declared.offsets.Offsets.{Offsets}

-- the offsets in the file of an image with these parts
pub record AreOffsetsOf (parts : Parts) (offsets : Offsets) : Type 0 where
  pub data_part : offsets.data ≡ data_offset parts
  pub places : offsets.places ≡ places_offset parts
  pub names : offsets.names ≡ names_offset parts
  pub sections : offsets.sections ≡ sections_offset parts
