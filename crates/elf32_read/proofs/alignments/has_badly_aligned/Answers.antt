use Rattle.std.proofs.Common.{sym, ◌∙◌, arith}
use Rattle.elf32_read.specs.Header.{section_count, header_of}
use Rattle.elf32_read.specs.Object.{is_badly_aligned}
use Rattle.elf32_read.proofs.Listed.{some_listed}
use Rattle.elf32_read.proofs.alignments.has_badly_aligned.Goals as goal

pub returns-then-is_badly_aligned : goal.returns-then-is_badly_aligned
returns-then-is_badly_aligned c =
    let bytes = c.args.sections.now in
    some_listed (is_badly_aligned bytes) (header_of bytes) (section_count bytes) c.loop-i.i c.header.result c.header.ensures.header (omega arith) (sym c.is_badly_aligned.ensures ∙ c.if-is_badly_aligned.true)
