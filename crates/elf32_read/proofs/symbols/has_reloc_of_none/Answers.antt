use Rattle.std.proofs.Common.{sym, ◌∙◌, arith}
use Rattle.elf32_read.specs.Header.{section_count, header_of}
use Rattle.elf32_read.specs.Object.{is_of_no_symbol}
use Rattle.elf32_read.proofs.Listed.{some_listed}
use Rattle.elf32_read.proofs.symbols.has_reloc_of_none.Goals as goal

pub returns-then-is_of_no_symbol : goal.returns-then-is_of_no_symbol
returns-then-is_of_no_symbol c =
    let bytes = c.args.sections.now in
    some_listed (is_of_no_symbol bytes) (header_of bytes) (section_count bytes) c.loop-i.i c.header.result c.header.ensures.header (omega arith) (sym c.is_of_no_symbol.ensures ∙ c.if-is_of_no_symbol.true)
