use Rattle.std.proofs.Common.{◌≡◌, ◌<◌, Bool, map, sym, ap, ◌∙◌, arith}
use Rattle.std.specs.Prelude.{◌&&◌, ◌==◌}
use Rattle.std.specs.List.{list_any, range_with_len}
use Rattle.elf32_read.specs.Header.{program_count, program_header_of}
use Rattle.elf32_read.specs.Segments.{loads_of}
use Rattle.elf32_read.specs.declared.header.ProgramHeader.{ProgramHeader}
use Rattle.elf32_read.proofs.Listed.{list_any_listed, list_any-filter}
use Rattle.elf32_read.proofs.Tests.{load_passes_end}
use Rattle.elf32_read.proofs.bounds.has_truncated_load.Goals as goal

-- the current segment passes the end of the file
pub returns-then-is_load_truncated : goal.returns-then-is_load_truncated
unfolding loads_of
returns-then-is_load_truncated c =
    let bytes = c.args.bytes.now in
    let passes : ProgramHeader → Bool = λ header. header.kind == 1 && load_passes_end bytes header in
    let inside : c.loop-i.i < program_count bytes = omega arith in
    let some = list_any_listed passes (program_header_of bytes) (program_count bytes) c.loop-i.i inside (sym c.is_load_truncated.ensures ∙ c.if-is_load_truncated.true) in
    sym (list_any-filter (λ header. header.kind == 1) (load_passes_end bytes) (map (program_header_of bytes) (range_with_len 0 (program_count bytes))) ∙ some)

-- no segment passes the end of the file
pub returns : goal.returns
unfolding loads_of
returns c =
    let bytes = c.args.bytes.now in
    let passes : ProgramHeader → Bool = λ header. header.kind == 1 && load_passes_end bytes header in
    let all : program_count bytes ≡ c.loop-i.i = omega arith in
    let none = ap (λ n. list_any passes (map (program_header_of bytes) (range_with_len 0 n))) all ∙ c.loop-i.invariant in
    sym (list_any-filter (λ header. header.kind == 1) (load_passes_end bytes) (map (program_header_of bytes) (range_with_len 0 (program_count bytes))) ∙ none)
