use Rattle.std.proofs.Common.{◌≡◌, ◌+◌, ap, arith}
use Rattle.std.proofs.lemmas.Option.{slice_get_within}
use Rattle.elf32_read.specs.Header.{section_count}
use Rattle.elf32_read.specs.Parts.{object_parts}
use Rattle.psabi_sym.specs.Indexed.{all_sections}
use Rattle.psabi_sym.specs.Inputs.{parsed}
use Rattle.psabi_sym.proofs.PartLaws.{section_count_is}
use Rattle.object_passes.proofs.RoomLaws.{next-room, section-found}
use Rattle.object_passes.proofs.SizeLaws.{room-below, room-end}
use Rattle.object_passes.specs.declared.section_room.SectionRoom.{SectionRoom}
use Rattle.object_passes.proofs.sizes.sections_room.Goals as goal

pub unreachable-requires : goal.unreachable-requires
unreachable-requires c =
    section-found c.args.objects.now.files c.args.object c.loop-i.i c.object.result c.object.ensures (omega (arith, c.section_count-i-end.ensures.count)) c.in_default.ensures

pub passed_room-requires-clause-section : goal.passed_room-requires-clause-section
passed_room-requires-clause-section c = slice_get_within (all_sections (parsed c.args.objects.now).objects) c.in-Some.k _ c.in-Some.ensures.2

pub returns-then-room-gt-MOST_FILE_BYTES-clause-room : goal.returns-then-room-gt-MOST_FILE_BYTES-clause-room
returns-then-room-gt-MOST_FILE_BYTES-clause-room c pass file left at =
    let i = c.loop-i.i in
    let s = c.in-Some.ensures.0 in
    let more = c.passed_room.ensures.room pass (record { object = c.args.object; index = i; section = s }) left c.in-Some.ensures.2 in
    let next = next-room pass c.args.objects.now.files c.args.object i s file c.loop-i.room c.passed_room.result c.with-room.result at c.in-Some.ensures.1 more c.with-room.ensures (c.loop-i.invariant.sum pass file left at) in
    omega (arith, room-below (pass.section c.args.object) (object_parts file) (i + 1) c.with-room.result next, c.if-room-gt-MOST_FILE_BYTES.true)

pub loop-i-preserved : goal.loop-i-preserved
loop-i-preserved c =
    let i = c.loop-i.i in
    let s = c.in-Some.ensures.0 in
    let headers = ap (λ (r : SectionRoom). r.headers) c.with-room.ensures in
    record {
      sum = λ pass file left at.
          let more = c.passed_room.ensures.room pass (record { object = c.args.object; index = i; section = s }) left c.in-Some.ensures.2 in
          next-room pass c.args.objects.now.files c.args.object i s file c.loop-i.room c.passed_room.result c.with-room.result at c.in-Some.ensures.1 more c.with-room.ensures (c.loop-i.invariant.sum pass file left at);
      most = c.if-room-gt-MOST_FILE_BYTES.false;
      few = omega (arith, headers, c.loop-i.invariant.few, c.passed_room.ensures.few.headers);
    }

pub returns-clause-room : goal.returns-clause-room
returns-clause-room c pass file left at =
    let same : c.object.result ≡ file = cc (c.object.ensures, at) in
    (room-end (pass.section c.args.object) (object_parts file) c.loop-i.i c.loop-i.room (omega (arith, c.loop-i-test.false, c.section_count-i-end.ensures.count, ap section_count same, section_count_is file)) (c.loop-i.invariant.sum pass file left at), c.loop-i.invariant.most)
