use Rattle.std.proofs.Common.{sym, ◌∙◌, arith}
use Rattle.elf32_read.specs.Header.{section_count, header_of}
use Rattle.elf32_read.specs.Object.{is_cut_code}
use Rattle.elf32_read.proofs.Listed.{some_listed}
use Rattle.elf32_read.proofs.alignments.has_cut_code.Goals as goal

pub returns-then-is_cut_code : goal.returns-then-is_cut_code
returns-then-is_cut_code c =
    let bytes = c.args.sections.now in
    some_listed (is_cut_code bytes) (header_of bytes) (section_count bytes) c.loop-i.i c.header.result c.header.ensures.header (omega arith) (sym c.is_cut_code.ensures ∙ c.if-is_cut_code.true)
