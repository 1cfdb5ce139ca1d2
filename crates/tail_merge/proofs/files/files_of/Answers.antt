use Rattle.std.proofs.Common.{◌<◌, ◌∙◌, ap, arith, length, map, subst}
use Rattle.std.specs.List.{AllZip}
use Rattle.std.proofs.lemmas.List.{take_all}
use Rattle.elf32_write.specs.ObjectFile.{object_bytes}
use Rattle.elf32_write.specs.Writable.{IsObjectOf}
use Rattle.psabi_sym.specs.Inputs.{Inputs, parsed}
use Rattle.psabi_sym.specs.Objects.{contents_of}
use Rattle.object_passes.specs.Written.{without_marks}
use Rattle.object_passes.proofs.FileLaws.{backs-turn, files-turn}
use Rattle.object_passes.proofs.RoomLaws.{length-passed}
use Rattle.tail_merge.specs.Merged.{merged}
use Rattle.tail_merge.proofs.MergingLaws.{merging}
use Rattle.tail_merge.proofs.WritableParts.{merged-writable}
use Rattle.tail_merge.proofs.files.files_of.Goals as goal

pub file_of-requires-clause-object : goal.file_of-requires-clause-object
file_of-requires-clause-object c =
    let count = ap (λ (i : Inputs). length i.files) c.objects.ensures.same in
    omega (arith, c.loop-o-test.true, c.object_count-o-end.ensures.count, count)

pub file_of-requires-clause-writable : goal.file_of-requires-clause-writable
file_of-requires-clause-writable c =
    let inputs = c.args.cut.now in
    let count = ap (λ (i : Inputs). length i.files) c.objects.ensures.same in
    merged-writable inputs c.loop-o.o (omega (arith, c.loop-o-test.true, c.object_count-o-end.ensures.count, count)) c.objects.ensures.faultless c.requires.small

pub loop-o-preserved : goal.loop-o-preserved
loop-o-preserved c =
    let inputs = c.args.cut.now in
    let pass = merging (parsed inputs) in
    let count = ap (λ (i : Inputs). length i.files) c.objects.ensures.same in
    let within : c.loop-o.o < length inputs.files = omega (arith, c.loop-o-test.true, c.object_count-o-end.ensures.count, count) in
    let file = c.in_ok-file_of.field-0 in
    record {
      bytes = files-turn pass inputs.files c.loop-o.o c.loop-o.files.items c.push.new.self.items file within c.loop-o.invariant.bytes c.in_ok-push.ensures.items c.in_ok-file_of.ensures.bytes;
      read_back = backs-turn pass inputs.files c.loop-o.o c.loop-o.files.items c.push.new.self.items file within c.loop-o.invariant.read_back c.in_ok-push.ensures.items c.in_ok-file_of.ensures.reads_back;
    }

pub returns-clause-bytes : goal.returns-clause-bytes
returns-clause-bytes c =
    let inputs = c.args.cut.now in
    let count = ap (λ (i : Inputs). length i.files) c.objects.ensures.same in
    let all = take_all c.loop-o.o (merged (parsed inputs)) (omega (arith, c.loop-o-test.false, c.object_count-o-end.ensures.count, count, length-passed (merging (parsed inputs)) inputs.files)) in
    c.loop-o.invariant.bytes ∙ ap (map object_bytes) all

pub returns-clause-read_back : goal.returns-clause-read_back
returns-clause-read_back c =
    let inputs = c.args.cut.now in
    let count = ap (λ (i : Inputs). length i.files) c.objects.ensures.same in
    let all = take_all c.loop-o.o (merged (parsed inputs)) (omega (arith, c.loop-o-test.false, c.object_count-o-end.ensures.count, count, length-passed (merging (parsed inputs)) inputs.files)) in
    subst (λ parts. AllZip IsObjectOf (map without_marks parts) (contents_of c.loop-o.files.items)) all c.loop-o.invariant.read_back
