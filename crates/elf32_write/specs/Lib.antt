pub mod EachAfter
pub mod Entries
pub mod FileSections
pub mod Image
pub mod Loadable
pub mod NameTable
pub mod ObjectFile
pub mod Offsets
pub mod Parts
pub mod Ranges
pub mod SectionTable
pub mod Writable
pub use Rattle.zc_base.specs.Fields
pub use Rattle.elf32_read.specs.Header
pub use Rattle.elf32_read.specs.Image as Reading
pub use Rattle.elf32_read.specs.Object
pub use Rattle.elf32_read.specs.Parts as ObjectParts
pub use Rattle.elf32_read.specs.Places
pub use Rattle.elf32_read.specs.Segments
