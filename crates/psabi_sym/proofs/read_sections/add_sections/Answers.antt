use Rattle.std.proofs.Common.{◌≡◌, ◌++◌, ◌<◌, [], ◌∷◌, length, get_or, map, take, ap, sym, ◌∙◌, arith, append_assoc, ◌+◌}
use Rattle.std.proofs.lemmas.List.{map_more, take_all}
use Rattle.elf32_read.specs.Header.{section_count}
use Rattle.elf32_read.specs.Parts.{object_parts, section_parts}
use Rattle.psabi_sym.specs.Indexed.{IndexedSection, sections_in}
use Rattle.psabi_sym.specs.Invariants.Rows.{section_row}
use Rattle.psabi_sym.specs.Objects.{contents_of}
use Rattle.psabi_sym.specs.declared.section_row.SectionRow.{SectionRow}
use Rattle.psabi_sym.proofs.PartLaws.{length-sections_in, section_count_is, section_is, section_listed}
use Rattle.psabi_sym.proofs.read_sections.add_sections.Goals as goal

pub loop-i-preserved : goal.loop-i-preserved
loop-i-preserved c =
    let file = c.args.object.loaded.now in
    let o = c.args.object.index in
    let i = c.loop-i.i in
    let read = c.object-object.result in
    let same : read ≡ file = c.object-object.ensures.object in
    let parts = section_parts read i in
    let is = c.section_entry-section.ensures in
    let within : i < section_count file = omega (arith, ap section_count same, c.section_count-i-end.ensures.count) in
    let all = sections_in (o, object_parts file) in
    let here : IndexedSection = record { object = o; index = i; section = parts } in
    let inside : i < length all = omega (arith, within, length-sections_in o (object_parts file), section_count_is file) in
    let listed : get_or all i here ≡ here =
    section_listed o (object_parts file) i parts here (omega (arith, within, section_count_is file))
    ∙ ap (λ s. record { object = o; index = i; section = s }) (section_is file i parts within ∙ ap (λ f. section_parts f i) (sym same)) in
    let row : SectionRow = record { object = o; index = i; role = c.role_of-role.result; align = c.section_entry-section.result.align; size = c.section_entry-section.result.size; fixed = c.is_fixed.result } in
    let names = contents_of c.args.names.now in
    let role = c.role_of-role.ensures parts is in
    let fixed = c.is_fixed.ensures parts is role in
    let row_is : row ≡ section_row names here = λ j. record { object = o; index = i; role = role j; align = is.align j; size = is.size j; fixed = fixed j } in
    let more : map (section_row names) (take (i + 1) all) ≡ map (section_row names) (take i all) ++ row ∷ [] =
    map_more (section_row names) all i here inside ∙ ap (λ r. map (section_row names) (take i all) ++ r ∷ []) (ap (section_row names) listed ∙ sym row_is) in
    record {
      added = c.in_ok-push.ensures.items ∙ ap (λ t. t ++ row ∷ []) c.loop-i.invariant.added
          ∙ append_assoc c.args.rows.now.items (map (section_row names) (take i all)) (row ∷ [])
          ∙ ap (λ t. c.args.rows.now.items ++ t) (sym more);
      few = omega (arith, c.in_ok-push.ensures.len, c.loop-i.invariant.few);
    }

pub returns-clause-added : goal.returns-clause-added
returns-clause-added c =
    let names = contents_of c.args.names.now in
    let file = c.args.object.loaded.now in
    let all = sections_in (c.args.object.index, object_parts file) in
    c.loop-i.invariant.added
    ∙ ap (λ t. c.args.rows.now.items ++ map (section_row names) t)
    (take_all c.loop-i.i all (omega (arith, length-sections_in c.args.object.index (object_parts file), section_count_is file, c.section_count-i-end.ensures.count, ap section_count c.object-object.ensures.object)))
