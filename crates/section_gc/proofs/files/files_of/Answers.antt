use Rattle.std.proofs.Common.{◌<◌, ◌∙◌, ap, arith, length, map, subst}
use Rattle.std.specs.List.{AllZip}
use Rattle.std.proofs.lemmas.List.{take_all}
use Rattle.elf32_write.specs.ObjectFile.{object_bytes}
use Rattle.elf32_write.specs.Writable.{IsObjectOf}
use Rattle.psabi_sym.specs.Inputs.{parsed}
use Rattle.psabi_sym.specs.Objects.{contents_of}
use Rattle.object_passes.specs.Written.{without_marks}
use Rattle.object_passes.proofs.FileLaws.{backs-turn, files-turn}
use Rattle.object_passes.proofs.RoomLaws.{length-passed}
use Rattle.object_passes.proofs.WritableLaws.{can-be-written}
use Rattle.section_gc.specs.Cleaned.{cleaned}
use Rattle.section_gc.specs.Graph.{has_mark}
use Rattle.section_gc.proofs.CleaningLaws.{cleaning_of}
use Rattle.section_gc.proofs.FitLaws.{cleaning-fit}
use Rattle.section_gc.proofs.files.files_of.Goals as goal

pub file_of-requires-clause-writable : goal.file_of-requires-clause-writable
file_of-requires-clause-writable c =
    let inputs = c.args.objects.now in
    let pass = cleaning_of inputs (has_mark (parsed inputs).objects c.args.marks.now) in
    can-be-written inputs pass c.loop-o.o (omega (arith, c.loop-o-test.true, c.object_count-o-end.ensures.count)) c.requires.faultless
    (cleaning-fit inputs (has_mark (parsed inputs).objects c.args.marks.now)) c.requires.small

pub loop-o-preserved : goal.loop-o-preserved
loop-o-preserved c =
    let inputs = c.args.objects.now in
    let pass = cleaning_of inputs (has_mark (parsed inputs).objects c.args.marks.now) in
    let within : c.loop-o.o < length inputs.files = omega (arith, c.loop-o-test.true, c.object_count-o-end.ensures.count) in
    let file = c.in_ok-file_of.field-0 in
    record {
      bytes = files-turn pass inputs.files c.loop-o.o c.loop-o.files.items c.push.new.self.items file within c.loop-o.invariant.bytes c.in_ok-push.ensures.items c.in_ok-file_of.ensures.bytes;
      read_back = backs-turn pass inputs.files c.loop-o.o c.loop-o.files.items c.push.new.self.items file within c.loop-o.invariant.read_back c.in_ok-push.ensures.items c.in_ok-file_of.ensures.reads_back;
    }

pub returns-clause-bytes : goal.returns-clause-bytes
returns-clause-bytes c =
    let inputs = c.args.objects.now in
    let needed = has_mark (parsed inputs).objects c.args.marks.now in
    let all = take_all c.loop-o.o (cleaned needed (parsed inputs).objects) (omega (arith, c.loop-o-test.false, c.object_count-o-end.ensures.count, length-passed (cleaning_of inputs needed) inputs.files)) in
    c.loop-o.invariant.bytes ∙ ap (map object_bytes) all

pub returns-clause-read_back : goal.returns-clause-read_back
returns-clause-read_back c =
    let inputs = c.args.objects.now in
    let needed = has_mark (parsed inputs).objects c.args.marks.now in
    let all = take_all c.loop-o.o (cleaned needed (parsed inputs).objects) (omega (arith, c.loop-o-test.false, c.object_count-o-end.ensures.count, length-passed (cleaning_of inputs needed) inputs.files)) in
    subst (λ parts. AllZip IsObjectOf (map without_marks parts) (contents_of c.loop-o.files.items)) all c.loop-o.invariant.read_back
