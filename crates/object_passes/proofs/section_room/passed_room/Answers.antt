use Rattle.std.proofs.Common.{◌≡◌, ◌∙◌, ◌<◌, ◌≤◌, ap, arith, get_or, length, refl, subst, sym}
use Rattle.std.proofs.lemmas.Option.{slice_get-get_or}
use Rattle.elf32_read.specs.Parts.{SectionParts, is_kept_section, section_parts}
use Rattle.psabi_sym.specs.Indexed.{IndexedSection}
use Rattle.psabi_sym.specs.Inputs.{parsed}
use Rattle.psabi_sym.proofs.Gathered.{readable}
use Rattle.object_passes.specs.declared.section_room.LeftSection.{LeftSection}
use Rattle.object_passes.proofs.RoomLaws.{kept-left, kept-room, own-name, own-object, own-section}
use Rattle.object_passes.proofs.section_room.passed_room.Goals as goal

pub object-object-requires : goal.object-object-requires
object-object-requires c = own-object c.args.objects.now.files c.args.k c.object.result c.section-section.result c.section-section.ensures c.object.ensures

pub section-header-requires : goal.section-header-requires
section-header-requires c =
    (own-section c.args.objects.now.files c.args.k c.object.result c.from.result c.section-section.result c.object-object.result c.section-section.ensures c.object.ensures (c.from.ensures ∙ c.index.ensures) c.object-object.ensures).0

pub room_with-requires : goal.room_with-requires
room_with-requires c =
    let own = own-section c.args.objects.now.files c.args.k c.object.result c.from.result c.section-section.result c.object-object.result c.section-section.ensures c.object.ensures (c.from.ensures ∙ c.index.ensures) c.object-object.ensures in
    subst (λ name. length name ≤ 0x40_0000) (sym c.section-header.ensures.name)
    (own-name c.object-object.result c.from.result (section_parts c.object-object.result c.from.result) (readable c.args.objects.now c.object.result c.object-object.result c.recall_invariant.ensures.faultless c.object-object.ensures) refl)

pub returns-clause-room : goal.returns-clause-room
returns-clause-room c pass l left at =
    let own = own-section c.args.objects.now.files c.args.k c.object.result c.from.result c.section-section.result c.object-object.result c.section-section.ensures c.object.ensures (c.from.ensures ∙ c.index.ensures) c.object-object.ensures in
    let same : c.section-section.result ≡ l = cc (c.section-section.ensures, at) in
    let kept = ap (λ (m : IndexedSection). is_kept_section m.section) (sym same) ∙ sym c.is_kept.ensures ∙ c.if-not-is_kept.false in
    let name = (pass.keeps_sections l.object l.index l.section).name ∙ ap (λ (m : IndexedSection). m.section.name) (sym same) ∙ ap (λ (s : SectionParts). s.name) (sym own.1) ∙ sym c.section-header.ensures.name in
    let none : LeftSection = record { bytes = 0; relocs = 0 } in
    let within : c.args.k < length c.args.left.now = omega (arith, c.requires.section, c.requires.left) in
    let counts = kept-left pass (parsed c.args.objects.now).objects c.args.left.now c.args.k l (get_or c.args.left.now c.args.k none) left at (slice_get-get_or c.args.left.now c.args.k none within) kept in
    kept-room pass l c.room_with.result kept
    (c.room_with.ensures.room (pass.section l.object l.index l.section) name (ap (λ (x : LeftSection). x.bytes) (sym counts)) (ap (λ (x : LeftSection). x.relocs) (sym counts)))
