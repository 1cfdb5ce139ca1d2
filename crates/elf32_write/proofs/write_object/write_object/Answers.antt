use Rattle.std.proofs.Common.{◌≡◌, ℕ, subst, ◌<◌, ◌^◌, ◌+◌, ◌++◌, [], List, length, sym, ap, ◌∙◌, arith, append_assoc, rules}
use Rattle.std.specs.List.{flat_map}
use Rattle.elf32_read.specs.Parts.{ObjectParts, SectionParts, SymbolParts}
use Rattle.elf32_write.specs.Image.{section_bytes}
use Rattle.elf32_write.specs.FileSections.{file_sections}
use Rattle.elf32_write.specs.ObjectFile.{contents, headers_for, headers_offset, object_bytes, object_header, section_total, written_header}
use Rattle.elf32_write.specs.Ranges.{IsPartsSized}
use Rattle.elf32_write.specs.SectionTable.{HoldsSections}
use Rattle.elf32_write.specs.Writable.{IsObjectOf}
use Rattle.elf32_write.proofs.ObjectBack.{object_back}
use Rattle.elf32_write.specs.declared.section_table.SectionTable.{SectionTable}
use Rattle.elf32_write.proofs.Stages.{length-each_after}
use Rattle.elf32_write.proofs.WritableRoom.{writable_fits, writable_size}
use Rattle.elf32_write.proofs.write_object.write_object.Goals as goal

-- what is shown of the sections and the symbols that were read is shown of the parts
module _ (p read : ObjectParts) (sections : List SectionParts) (symbols : List SymbolParts) (same : read ≡ p) (one : sections ≡ read.sections) (two : symbols ≡ read.symbols) where
  of_parts : (P : List SectionParts → List SymbolParts → Type 0) → P sections symbols → P p.sections p.symbols
  of_parts P shown = rw (sym (ap (λ (q : ObjectParts). q.sections) same), sym (ap (λ (q : ObjectParts). q.symbols) same), sym one, sym two) shown

  -- the table holds their sections
  table_held : (table : SectionTable) → HoldsSections (file_sections sections symbols) table → HoldsSections (file_sections p.sections p.symbols) table
  table_held table held = of_parts (λ s t. HoldsSections (file_sections s t) table) held

pub sections_of-requires : goal.sections_of-requires
sections_of-requires c =
    let sections = c.deref.ensures.value ∙ ap (λ p. p.sections) c.parts.view_is in
    let symbols = c.deref-2.ensures.value ∙ ap (λ p. p.symbols) c.parts.view_is in
    rw (sections, symbols) (writable_fits c.args.parts.now c.requires)

pub overflow_cast-headers_offset : goal.overflow_cast-headers_offset
overflow_cast-headers_offset c =
    let p = c.args.parts.now in
    let held = table_held p _ _ _ c.parts.view_is c.deref.ensures.value c.deref-2.ensures.value c.in_ok-table.table c.in_ok-table.ensures.held in
    let long : c.len.result ≡ length c.in_ok-table.table.contents.items = search rules in
    omega (arith, long, ap length held.contents_held, writable_size p c.requires)

pub overflow_add-headers_offset : goal.overflow_add-headers_offset
overflow_add-headers_offset c =
    let p = c.args.parts.now in
    let held = table_held p _ _ _ c.parts.view_is c.deref.ensures.value c.deref-2.ensures.value c.in_ok-table.table c.in_ok-table.ensures.held in
    let long : c.len.result ≡ length c.in_ok-table.table.contents.items = search rules in
    omega (arith, long, ap length held.contents_held, writable_size p c.requires)

pub overflow_add-size : goal.overflow_add-size
overflow_add-size c =
    let p = c.args.parts.now in
    let held = table_held p _ _ _ c.parts.view_is c.deref.ensures.value c.deref-2.ensures.value c.in_ok-table.table c.in_ok-table.ensures.held in
    let long : c.len.result ≡ length c.in_ok-table.table.contents.items = search rules in
    let many : c.len-2.result ≡ length c.in_ok-table.table.headers.items = search rules in
    let headers = length-each_after written_header [] (file_sections p.sections p.symbols) in
    omega (arith, long, many, ap length held.contents_held, ap length held.headers_held, headers, writable_size p c.requires)

pub overflow_cast-len : goal.overflow_cast-len
overflow_cast-len c =
    let p = c.args.parts.now in
    let held = table_held p _ _ _ c.parts.view_is c.deref.ensures.value c.deref-2.ensures.value c.in_ok-table.table c.in_ok-table.ensures.held in
    let long : c.len-3.result ≡ length c.in_ok-table.table.headers.items = search rules in
    omega (arith, long, ap length held.headers_held, length-each_after written_header [] (file_sections p.sections p.symbols), c.requires.count)

pub returns-clause-bytes : goal.returns-clause-bytes
unfolding object_bytes
returns-clause-bytes c =
    let p = c.args.parts.now in
    let all = file_sections p.sections p.symbols in
    let held = table_held p _ _ _ c.parts.view_is c.deref.ensures.value c.deref-2.ensures.value c.in_ok-table.table c.in_ok-table.ensures.held in
    let long : c.len.result ≡ length c.in_ok-table.table.contents.items = search rules in
    let offset : 52 + c.len.result ≡ headers_offset p = omega (arith, long, ap length held.contents_held) in
    let many : c.len-3.result ≡ length c.in_ok-table.table.headers.items = search rules in
    let count : c.len-3.result ≡ section_total p = omega (arith, many, ap length held.headers_held, length-each_after written_header [] all) in
    let flags = ap (λ q. q.flags) c.parts.view_is in
    let contents_are = c.deref-3.ensures.value ∙ held.contents_held in
    let headers_are = c.deref-4.ensures.value ∙ held.headers_held in
    let header = c.in_ok-push_object_header.ensures.appended ∙ (λ i. c.in_ok-file.ensures.items i ++ object_header (offset i) (flags i) (count i)) in
    let filled = c.in_ok-extend_from_slice.ensures.items ∙ (λ i. header i ++ contents_are i) in
    c.in_ok-push_headers.ensures ∙ (λ i. filled i ++ flat_map section_bytes (headers_are i))
    ∙ append_assoc (object_header (headers_offset p) p.flags (section_total p)) (contents all) (flat_map section_bytes (headers_for all))

pub returns-clause-reads_back : goal.returns-clause-reads_back
returns-clause-reads_back c =
    let p = c.args.parts.now in
    let sized = of_parts p _ _ _ c.parts.view_is c.deref.ensures.value c.deref-2.ensures.value IsPartsSized c.in_ok-table.ensures.sized in
    let flags : p.flags < 2 ^ 32 = omega (arith, c.in_ok-push_object_header.ensures.sized, ap (λ q. q.flags) c.parts.view_is) in
    let IsRead : List ℕ → Type 0 = λ file. IsObjectOf p file in
    subst IsRead (sym (returns-clause-bytes c)) (object_back p c.requires flags sized)
