-- Parts as the code makes them, which don't say whether their object is compressed: its e_flags do.
use Rattle.std.specs.Prelude.{false, map}
use Rattle.elf32_read.specs.Parts.{ObjectParts, SectionParts}

abbrev pub without_mark : SectionParts → SectionParts
without_mark s = record s { compressed = false }

abbrev pub without_marks : ObjectParts → ObjectParts
without_marks parts = record parts { sections = map without_mark parts.sections }
