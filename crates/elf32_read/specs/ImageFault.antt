-- The faults of an image, by number.
use Rattle.std.specs.Prelude.{ℕ}
use Rattle.elf32_read.specs.declared.image_fault.ImageFault.{ImageFault}
use Rattle.elf32_read.specs.declared.image_fault.ImageFault.TheVariants.{NotElf, Truncated, BadSegment, BadPlaces, TooLarge}

-- the number that a report gives for a fault
abbrev pub image_fault_number : ImageFault → ℕ
image_fault_number NotElf = 1
image_fault_number Truncated = 2
image_fault_number BadSegment = 3
image_fault_number BadPlaces = 4
image_fault_number TooLarge = 5
