use Rattle.std.proofs.Common.{◌<◌, ap, ◌∙◌, arith}
use Rattle.std.specs.List.{sum_by}
use Rattle.std.proofs.lemmas.List.{take_all}
use Rattle.elf32_read.specs.Header.{section_count}
use Rattle.elf32_read.specs.Parts.{object_parts, section_parts}
use Rattle.psabi_sym.specs.Faults.{code_room, data_room}
use Rattle.psabi_sym.proofs.PartLaws.{section_count_is, section_got}
use Rattle.psabi_sym.proofs.SumLaws.{sum_next}
use Rattle.psabi_sym.proofs.sums.sections_room.Goals as goal

pub loop-i-preserved : goal.loop-i-preserved
loop-i-preserved c =
    let file = c.args.loaded.now in
    let i = c.loop-i.i in
    let all = (object_parts file).sections in
    let within : i < section_count file = omega (arith, ap section_count c.object.ensures.object, c.section_count-i-end.ensures.count) in
    let at = section_got file i within in
    record {
      code = omega (arith, sum_next code_room all i (section_parts file i) at, c.loop-i.invariant.code, c.section_room-room.ensures.code);
      held = omega (arith, sum_next data_room all i (section_parts file i) at, c.loop-i.invariant.held, c.section_room-room.ensures.data_is);
      code_most = omega (arith, c.loop-i.invariant.code_most, c.section_room-room.ensures.code_most);
      held_most = omega (arith, c.loop-i.invariant.held_most, c.section_room-room.ensures.data_most);
    }

pub returns-clause-code : goal.returns-clause-code
returns-clause-code c =
    let file = c.args.loaded.now in
    let all = (object_parts file).sections in
    c.loop-i.invariant.code ∙ ap (sum_by code_room) (take_all c.loop-i.i all (omega (arith, section_count_is file, ap section_count c.object.ensures.object, c.section_count-i-end.ensures.count)))

pub returns-clause-data_is : goal.returns-clause-data_is
returns-clause-data_is c =
    let file = c.args.loaded.now in
    let all = (object_parts file).sections in
    c.loop-i.invariant.held ∙ ap (sum_by data_room) (take_all c.loop-i.i all (omega (arith, section_count_is file, ap section_count c.object.ensures.object, c.section_count-i-end.ensures.count)))
