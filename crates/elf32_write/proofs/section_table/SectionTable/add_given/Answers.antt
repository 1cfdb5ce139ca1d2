use Rattle.std.proofs.Common.{◌≡◌, ℕ, ◌++◌, [], ◌∷◌, map, take, sym, ap, ◌∙◌, arith, subst}
use Rattle.std.proofs.lemmas.List.{map_push}
use Rattle.elf32_read.specs.Parts.{SectionParts}
use Rattle.elf32_write.specs.FileSections.{given_section}
use Rattle.elf32_write.specs.Ranges.{IsHeaderSized, IsSectionSized}
use Rattle.elf32_write.specs.SectionTable.{HoldsSections, file_section}
use Rattle.elf32_write.proofs.SymbolsMore.{all_more, taken}
use Rattle.elf32_write.proofs.Room.{room_given, room_offsets}
use Rattle.elf32_write.proofs.section_table.SectionTable.add_given.Goals as goal

-- the header's numbers are the section's
section_sized : (kind flags align size : ℕ) (s : SectionParts) → kind ≡ s.kind → flags ≡ s.flags → align ≡ s.align → size ≡ s.size → IsHeaderSized (record { name = 0; kind = kind; flags = flags; address = 0; offset = 0; size = size; link = 0; info = 0; align = align; entry_size = 0 }) → IsSectionSized s
section_sized kind flags align size s k f a z h = record {
  kind = omega (arith, h.kind, k);
  flags = omega (arith, h.flags, f);
  align = omega (arith, h.align, a);
  size = omega (arith, h.size, z);
}

pub add-requires-clause-room : goal.add-requires-clause-room
add-requires-clause-room c =
    let index = c.loop-section.section-index in
    let xs = c.args.sections.now in
    room_offsets (map given_section (take index xs)) c.loop-section.self c.loop-section.invariant.0 (room_given xs index c.requires.room)

pub loop-section-preserved : goal.loop-section-preserved
loop-section-preserved c =
    let xs = c.args.sections.now in
    let index = c.loop-section.section-index in
    let s = c.section-item.result in
    let name = c.deref.ensures.value ∙ ap (λ p. p.name) c.section.view_is in
    let bytes = c.deref-in-loop-section.ensures.value ∙ ap (λ p. p.bytes) c.section.view_is in
    let held = c.in_ok-add.ensures.held (map given_section (take index xs)) c.loop-section.invariant.0 in
    let inside = c.section.inside in
    let section : file_section c.deref.result.now (record { name = 0; kind = inside.kind; flags = inside.flags; address = 0; offset = 0; size = inside.size; link = 0; info = 0; align = inside.align; entry_size = 0 }) c.deref-in-loop-section.result.now ≡ given_section s =
    λ i. let v = c.section.view_is i in record { name = name i; kind = v.kind; flags = v.flags; size = v.size; link = 0; info = 0; align = v.align; entry_size = 0; content = bytes i } in
    let all = ap (λ t. map given_section (take index xs) ++ t ∷ []) section ∙ sym (ap (map given_section) (taken xs index s c.loop-section-test.true c.section-item.is) ∙ map_push given_section (take index xs) s) in
    let sized = section_sized inside.kind inside.flags inside.align inside.size s (ap (λ v. v.kind) c.section.view_is) (ap (λ v. v.flags) c.section.view_is) (ap (λ v. v.align) c.section.view_is) (ap (λ v. v.size) c.section.view_is) c.in_ok-add.ensures.sized in
    (subst (λ l. HoldsSections l c.add.new.self) all held, all_more IsSectionSized xs index s c.loop-section-test.true c.section-item.is c.loop-section.invariant.1 sized)
