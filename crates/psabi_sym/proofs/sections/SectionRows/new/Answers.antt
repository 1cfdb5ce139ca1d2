use Rattle.std.proofs.Common.{◌≡◌, ◌≤◌, ◌+◌, [], ◌∷◌, ◌++◌, length, map, take, ap, sym, ◌∙◌, arith}
use Rattle.std.specs.List.{range_with_len}
use Rattle.std.proofs.lemmas.List.{length-map, map-append, take_all}
use Rattle.std.proofs.lemmas.List.FromFn.{map-range_with_len_more}
use Rattle.elf32_read.specs.Parts.{object_parts}
use Rattle.psabi_sym.specs.Indexed.{all_sections, sections_in}
use Rattle.psabi_sym.specs.Invariants.Rows.{section_row, section_starts}
use Rattle.psabi_sym.specs.Objects.{contents_of}
use Rattle.psabi_sym.proofs.FlatLaws.{length-parsed, parsed_more, sections_push}
use Rattle.psabi_sym.proofs.sections.SectionRows.new.Goals as goal

pub loop-i-init : goal.loop-i-init
unfolding all_sections
loop-i-init c = record { rows = c.new-rows.ensures.items; starts = c.in_ok-starts.ensures.items; few = omega arith }

pub loop-i-preserved : goal.loop-i-preserved
loop-i-preserved c =
    let files = c.args.objects.now in
    let i = c.loop-i.i in
    let file = c.index-objects-i.result in
    let all = map object_parts files in
    let object = object_parts file in
    let more = parsed_more object_parts files i file (omega arith) c.index-objects-i.is in
    let index : length (take i all) ≡ i = length-parsed object_parts files i (omega arith) in
    let rows = c.loop-i.rows in
    let count : length rows.items ≡ section_starts all i = ap length c.loop-i.invariant.rows ∙ length-map (all_sections (take i all)) (section_row (contents_of c.args.names.now)) in
    record {
      rows =
          c.in_ok-add_sections.ensures.added ∙ ap (λ l. l ++ map (section_row (contents_of c.args.names.now)) (sections_in (i, object))) c.loop-i.invariant.rows
          ∙ ap (λ n. map (section_row (contents_of c.args.names.now)) (all_sections (take i all)) ++ map (section_row (contents_of c.args.names.now)) (sections_in (n, object))) (sym index)
          ∙ sym (map-append (section_row (contents_of c.args.names.now)) (all_sections (take i all)) (sections_in (length (take i all), object)))
          ∙ ap (map (section_row (contents_of c.args.names.now))) (sym (sections_push (take i all) object) ∙ ap all_sections (sym more));
      starts =
          c.in_ok-push.ensures.items ∙ ap (λ l. l ++ c.len.result ∷ []) c.loop-i.invariant.starts
          ∙ ap (λ n. map (section_starts all) (range_with_len 0 i) ++ n ∷ []) (omega (arith, c.len.ensures, rows.ok.0, count))
          ∙ sym (map-range_with_len_more (section_starts all) 0 i i (omega arith));
      few = omega (arith, c.in_ok-add_sections.ensures.few, c.loop-i.invariant.few);
    }

pub returns-clause-starts : goal.returns-clause-starts
returns-clause-starts c =
    let files = c.args.objects.now in
    let i = c.loop-i.i in
    let n = length files in
    let all = map object_parts files in
    let rows = c.loop-i.rows in
    let end : i ≡ n = omega arith in
    let count : length rows.items ≡ section_starts all i = ap length c.loop-i.invariant.rows ∙ length-map (all_sections (take i all)) (section_row (contents_of c.args.names.now)) in
    c.in_ok-push-2.ensures.items ∙ ap (λ l. l ++ c.len-2.result ∷ []) c.loop-i.invariant.starts
    ∙ ap (λ k. map (section_starts all) (range_with_len 0 i) ++ k ∷ []) (omega (arith, c.len-2.ensures, rows.ok.0, count))
    ∙ sym (map-range_with_len_more (section_starts all) 0 i i (omega arith))
    ∙ ap (λ k. map (section_starts all) (range_with_len 0 (k + 1))) end

pub returns-clause-rows : goal.returns-clause-rows
returns-clause-rows c =
    let files = c.args.objects.now in
    let all = map object_parts files in
    let end : length all ≤ c.loop-i.i = omega (arith, length-map files object_parts) in
    c.loop-i.invariant.rows ∙ ap (λ l. map (section_row (contents_of c.args.names.now)) (all_sections l)) (take_all c.loop-i.i all end)
