use Rattle.std.proofs.Common.{◌<◌, ◌||◌, take, ap, sym, ◌∙◌, arith, slice_index_or, false}
use Rattle.std.specs.List.{list_any}
use Rattle.std.proofs.lemmas.List.{take_all}
use Rattle.elf32_read.specs.Header.{section_count}
use Rattle.elf32_read.specs.Parts.{object_parts, relocs_of, section_parts}
use Rattle.psabi_sym.specs.Faults.{names}
use Rattle.psabi_sym.proofs.PartLaws.{section_count_is, section_got}
use Rattle.psabi_sym.proofs.UsedLaws.{any_next, or_assoc}
use Rattle.psabi_sym.proofs.used.mark_object.Goals as goal

pub loop-i-preserved : goal.loop-i-preserved
loop-i-preserved c = λ s within.
    let file = c.args.loaded.now in
    let i = c.loop-i.i in
    let inside : i < section_count file = omega (arith, ap section_count c.object-object.ensures.object, c.section_count-i-end.ensures.count) in
    let all = (object_parts file).sections in
    let old = slice_index_or c.args.marks.now s false in
    c.mark_section.ensures s (omega arith) ∙ ap (λ l. slice_index_or c.loop-i.marks s false || names s l) c.relocs_of.ensures ∙ ap (λ b. b || names s (relocs_of file i)) (c.loop-i.invariant s within)
    ∙ or_assoc old (list_any (λ t. names s t.relocs) (take i all)) (names s (relocs_of file i))
    ∙ ap (λ b. old || b) (sym (any_next (λ t. names s t.relocs) all i (section_parts file i) (section_got file i inside)))

pub returns : goal.returns
returns c = λ s within.
    let file = c.args.loaded.now in
    let all = (object_parts file).sections in
    c.loop-i.invariant s within
    ∙ ap (λ l. slice_index_or c.args.marks.now s false || list_any (λ t. names s t.relocs) l)
    (take_all c.loop-i.i all (omega (arith, section_count_is file, ap section_count c.object-object.ensures.object, c.section_count-i-end.ensures.count)))
