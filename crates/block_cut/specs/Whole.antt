-- What holds of code in objects without a fault (System V gABI, "Sections").
use Rattle.std.specs.Prelude.{◌≡◌, ◌≤◌, ◌%◌, length, max}
use Rattle.elf32_read.specs.Parts.{SectionParts}
use Rattle.block_cut.specs.CodeSizes.{code_step}

-- the content is as long as the section, has whole instructions, and is no longer than a file; it begins at a word
pub record IsWhole (s : SectionParts) : Type 0 where
  pub bytes : length s.bytes ≡ s.size
  pub words : length s.bytes % code_step s.compressed ≡ 0
  pub short : length s.bytes ≤ 0x40_0000
  pub low : s.align ≤ 256
  pub aligned : max 4 s.align % 4 ≡ 0
