use Rattle.std.proofs.Common.{◌∙◌, [], ap, get_or}
use Rattle.elf32_read.specs.Parts.{object_parts}
use Rattle.elf32_write.specs.ObjectFile.{object_bytes}
use Rattle.psabi_sym.specs.Inputs.{parsed}
use Rattle.object_passes.proofs.MarkLaws.{bytes-same}
use Rattle.tail_merge.specs.Merged.{merged_object}
use Rattle.tail_merge.proofs.files.file_of.Goals as goal

pub returns-clause-bytes : goal.returns-clause-bytes
returns-clause-bytes c =
    c.in_ok-file.ensures.bytes ∙ ap object_bytes c.in_ok-parts.ensures
    ∙ bytes-same (merged_object (parsed c.args.cut.now) c.args.object (object_parts (get_or c.args.cut.now.files c.args.object [])))
