use Rattle.std.proofs.Common.{◌∙◌, ◌≡◌, ap, slice_get, subst, sym}
use Rattle.elf32_read.specs.Lent.{IsSection}
use Rattle.psabi_sym.specs.Indexed.{IndexedSection, all_sections}
use Rattle.psabi_sym.specs.Inputs.{Inputs, parsed}
use Rattle.object_passes.proofs.RoomLaws.{own-object, own-section}
use Rattle.tail_merge.proofs.parts.section_part.Goals as goal

pub object-object-requires : goal.object-object-requires
object-object-requires c = own-object c.objects-objects.result.now.files c.args.section c.object.result c.section-home.result c.section-home.ensures c.object.ensures

pub section-header-requires : goal.section-header-requires
section-header-requires c =
    (own-section c.objects-objects.result.now.files c.args.section c.object.result c.from.result c.section-home.result c.object-object.result c.section-home.ensures c.object.ensures (c.from.ensures ∙ c.index.ensures) c.object-object.ensures).0

pub code_part-requires-clause-header : goal.code_part-requires-clause-header
code_part-requires-clause-header c = λ l at.
    let own = own-section c.objects-objects.result.now.files c.args.section c.object.result c.from.result c.section-home.result c.object-object.result c.section-home.ensures c.object.ensures (c.from.ensures ∙ c.index.ensures) c.object-object.ensures in
    let here = ap (λ (it : Inputs). slice_get (all_sections (parsed it).objects) c.args.section) (sym c.objects-objects.ensures.same) ∙ c.section-home.ensures in
    let same : c.section-home.result ≡ l = cc (here, at) in
    subst (IsSection c.section-header.result) (own.1 ∙ ap (λ (m : IndexedSection). m.section) same) c.section-header.ensures

pub data_part-requires-clause-header : goal.data_part-requires-clause-header
data_part-requires-clause-header c =
    let own = own-section c.objects-objects.result.now.files c.args.section c.object.result c.from.result c.section-home.result c.object-object.result c.section-home.ensures c.object.ensures (c.from.ensures ∙ c.index.ensures) c.object-object.ensures in
    subst (IsSection c.section-header.result) own.1 c.section-header.ensures
