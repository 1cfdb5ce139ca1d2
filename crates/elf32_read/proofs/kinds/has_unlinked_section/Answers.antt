use Rattle.std.proofs.Common.{sym, ◌∙◌, arith}
use Rattle.elf32_read.specs.Header.{section_count, header_of}
use Rattle.elf32_read.specs.Object.{is_unlinked}
use Rattle.elf32_read.proofs.Listed.{some_listed}
use Rattle.elf32_read.proofs.kinds.has_unlinked_section.Goals as goal

pub returns-then-is_unlinked : goal.returns-then-is_unlinked
returns-then-is_unlinked c =
    let bytes = c.args.sections.now in
    some_listed (is_unlinked bytes) (header_of bytes) (section_count bytes) c.loop-i.i c.header.result c.header.ensures.header (omega arith) (sym c.is_unlinked.ensures ∙ c.if-is_unlinked.true)
