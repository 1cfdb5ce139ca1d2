use Rattle.std.proofs.Common.{◌∙◌, ◌∷◌, ◌++◌, ◌<◌, ◌≡◌, [], ap, append-nil, arith, cond, get_or, slice_get, sym}
use Rattle.std.proofs.lemmas.Option.{get_or_from_slice_get, slice_get-get_or, slice_get_within}
use Rattle.elf32_read.specs.Header.{section_count}
use Rattle.elf32_read.specs.Parts.{SectionParts, is_kept_section, object_parts, section_parts}
use Rattle.elf32_read.proofs.PartsLaws.{length-sections, section_at}
use Rattle.psabi_sym.specs.Indexed.{IndexedSection, all_sections, section_at as section-of}
use Rattle.psabi_sym.specs.Inputs.{Inputs, parsed}
use Rattle.block_cut.proofs.WholeLaws.{section_there}
use Rattle.object_passes.specs.Written.{without_mark}
use Rattle.tail_merge.specs.Merged.{merged_section}
use Rattle.tail_merge.proofs.PartTurns.{parts-turn, parts-whole}
use Rattle.tail_merge.proofs.parts.section_parts.Goals as goal
use Rattle.tail_merge.proofs.parts.section_parts.Goals.{then-is_kept+in_ok-section_part+in_ok-push, else-is_kept}

pub unreachable-requires : goal.unreachable-requires
unreachable-requires c =
    let inputs = c.objects-objects.result.now in
    let o = c.args.object in
    let file = get_or inputs.files o [] in
    let same = get_or_from_slice_get inputs.files o c.object.result [] c.object.ensures in
    let within : c.loop-i.i < section_count file = omega (arith, c.loop-i-test.true, c.section_count-i-end.ensures.count, ap section_count same) in
    let listed = slice_get_within inputs.files o c.object.result c.object.ensures in
    let there = section_there inputs o c.loop-i.i file (slice_get-get_or inputs.files o [] listed) within in
    let none = c.in_default.ensures in
    absurd (cc (none, there))

pub section-requires : goal.section-requires
section-requires c = slice_get_within (all_sections (parsed c.objects-objects.result.now).objects) c.in-Some.k _ c.in-Some.ensures.2

pub section_part-requires-clause-section : goal.section_part-requires-clause-section
section_part-requires-clause-section c =
    slice_get_within (all_sections (parsed c.args.given.now.cut.now).objects) c.in-Some.k _
    (ap (λ (it : Inputs). slice_get (all_sections (parsed it).objects) c.in-Some.k) (sym c.objects-objects.ensures.same) ∙ c.in-Some.ensures.2)

pub loop-i-preserved : goal.loop-i-preserved
loop-i-preserved c =
    let inputs = c.args.given.now.cut.now in
    let o = c.args.object in
    let i = c.loop-i.i in
    let k = c.in-Some.k in
    let given = c.objects-objects.ensures.same in
    let file = get_or inputs.files o [] in
    let s = section_parts file i in
    let f = merged_section (parsed inputs) o in
    let old = c.loop-i.sections.items in
    let read = ap (λ (it : Inputs). get_or it.files o []) (sym given) ∙ get_or_from_slice_get c.objects-objects.result.now.files o c.object.result [] c.object.ensures in
    let within : i < section_count file = omega (arith, c.loop-i-test.true, c.section_count-i-end.ensures.count, ap section_count read) in
    let there = section_there inputs o i file (slice_get-get_or inputs.files o [] c.requires.object) within in
    let l : IndexedSection = record { object = o; index = i; section = c.in-Some.ensures.0 } in
    let found = ap (λ (it : Inputs). section-of (parsed it).objects o i) (sym given) ∙ c.in-Some.ensures.1 in
    let listed = ap (λ (it : Inputs). slice_get (all_sections (parsed it).objects) k) (sym given) ∙ c.in-Some.ensures.2 in
    let is : l.section ≡ s = cc (found, there) in
    let home : c.section.result ≡ l = cc (c.section.ensures, c.in-Some.ensures.2) in
    let kept = c.is_kept.ensures ∙ ap (λ (m : IndexedSection). is_kept_section m.section) home ∙ ap is_kept_section is in
    let turn = parts-turn f (object_parts file).sections i s old (section_at file i within) c.loop-i.invariant in
    elim c.if-is_kept.branch [
      | then-is_kept+in_ok-section_part+in_ok-push w ↦
          let part = w.in_ok-section_part.ensures l listed ∙ ap (λ (s : SectionParts). without_mark (f i s)) is in
          ap (λ v. v.items) w.sections-is ∙ w.in_ok-push.ensures.items ∙ ap (λ t. old ++ t ∷ []) part
          ∙ ap (λ b. old ++ cond b (without_mark (f i s) ∷ []) []) (sym (sym kept ∙ w.if-is_kept.true)) ∙ turn
      | else-is_kept w ↦
          ap (λ v. v.items) w.sections-is ∙ sym (append-nil old)
          ∙ ap (λ b. old ++ cond b (without_mark (f i s) ∷ []) []) (sym (sym kept ∙ w.if-is_kept.false)) ∙ turn
    ]

pub returns : goal.returns
returns c =
    let inputs = c.args.given.now.cut.now in
    let o = c.args.object in
    let file = get_or inputs.files o [] in
    let read = ap (λ (it : Inputs). get_or it.files o []) (sym c.objects-objects.ensures.same) ∙ get_or_from_slice_get c.objects-objects.result.now.files o c.object.result [] c.object.ensures in
    parts-whole (merged_section (parsed inputs) o) (object_parts file).sections c.loop-i.i c.loop-i.sections.items
    (omega (arith, c.loop-i-test.false, c.section_count-i-end.ensures.count, ap section_count read, length-sections file)) c.loop-i.invariant
