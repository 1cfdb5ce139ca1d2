use Rattle.std.proofs.Common.{sym, ap, ◌∙◌, arith}
use Rattle.std.specs.Prelude.{not}
use Rattle.elf32_read.specs.Header.{section_count, header_of}
use Rattle.elf32_read.specs.Names.{has_end, is_unnamed_section}
use Rattle.elf32_read.proofs.Listed.{some_listed}
use Rattle.elf32_read.proofs.Named.{ends_past}
use Rattle.elf32_read.proofs.unnamed.has_unnamed_section.Goals as goal

-- the name of the current section isn't terminated
pub returns-then-end-header : goal.returns-then-end-header
returns-then-end-header c =
    let bytes = c.args.sections.now in
    let name = c.header.result.name in
    let unnamed = ends_past c.names.result.now c.names_end-end.result name c.names_end-end.ensures c.if-end-header.true in
    some_listed (is_unnamed_section bytes) (header_of bytes) (section_count bytes) c.loop-i.i c.header.result c.header.ensures.header (omega arith) (sym (ap (λ names. not (has_end names name)) c.names.ensures) ∙ unnamed)
