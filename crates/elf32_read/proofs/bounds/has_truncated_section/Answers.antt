use Rattle.std.proofs.Common.{◌<◌, sym, ◌∙◌, arith}
use Rattle.elf32_read.specs.Header.{section_count, header_of}
use Rattle.elf32_read.specs.Object.{passes_end}
use Rattle.elf32_read.proofs.Listed.{list_any_listed}
use Rattle.elf32_read.proofs.bounds.has_truncated_section.Goals as goal

-- the current section passes the end of the file
pub returns-then-is_section_truncated : goal.returns-then-is_section_truncated
returns-then-is_section_truncated c =
    let bytes = c.args.bytes.now in
    let inside : c.loop-i.i < section_count bytes = omega arith in
    sym (list_any_listed (passes_end bytes) (header_of bytes) (section_count bytes) c.loop-i.i inside (sym c.is_section_truncated.ensures ∙ c.if-is_section_truncated.true))
