use Rattle.std.proofs.Common.{◌∙◌, ◌<◌, [], ap, arith, get_or, map, sym}
use Rattle.std.specs.List.{enumerate_from}
use Rattle.std.proofs.lemmas.List.{take_all}
use Rattle.std.proofs.lemmas.List.FromFn.{length-enumerate_from}
use Rattle.std.proofs.lemmas.Option.{get_or_from_slice_get}
use Rattle.elf32_read.specs.Header.{section_count}
use Rattle.elf32_read.specs.Parts.{object_parts, section_parts}
use Rattle.elf32_read.proofs.PartsLaws.{length-sections, section_at}
use Rattle.psabi_sym.specs.Inputs.{parsed}
use Rattle.moved_runs.specs.Passes.{new_number}
use Rattle.reach.specs.Reach.{mark_of}
use Rattle.section_gc.specs.Graph.{has_mark}
use Rattle.section_gc.specs.Remains.{is_something, remains_of}
use Rattle.section_gc.proofs.RemainsLaws.{next-number, remains-turn, row-role}
use Rattle.section_gc.proofs.remains.remains_in.Goals as goal
use Rattle.section_gc.proofs.remains.remains_in.Goals.{then-is_something, else-is_something}

pub loop-i-preserved : goal.loop-i-preserved
loop-i-preserved c =
    let objects = (parsed c.args.objects.now).objects in
    let file = get_or c.args.objects.now.files c.args.object [] in
    let i = c.loop-i.i in
    let number = c.loop-i.number in
    let k = c.number_among_all-k.result in
    let s = section_parts file i in
    let same = get_or_from_slice_get c.args.objects.now.files c.args.object c.object.result [] c.object.ensures in
    let within : i < section_count file = omega (arith, c.loop-i-test.true, c.section_count-i-end.ensures.count, ap section_count same) in
    let here = section_at file i within in
    let row = c.section_row.ensures in
    let role = row-role c.args.objects.now.fixed objects k row.0 (record { object = c.args.object; index = i; section = s }) c.section_row.result row.1 c.number_among_all-k.ensures row.2 in
    let is = c.remains_of-remains.ensures s role in
    let table = c.in_ok-push.ensures.items ∙ remains-turn objects c.args.marks.now (object_parts file) c.args.object i k s number c.remains_of-remains.result c.loop-i.table.items here c.number_among_all-k.ensures c.loop-i.invariant.number is c.loop-i.invariant.table in
    let left = sym (ap is_something is) in
    elim c.if-is_something.branch [
      | then-is_something w ↦ record {
        table = table;
        number = next-number (object_parts file).sections i number s (mark_of c.args.marks.now k) _ number _ here c.loop-i.invariant.number (left ∙ sym c.is_something.ensures ∙ w.if-is_something.true) w.number-is;
        few = omega (arith, w.number-is, c.loop-i.invariant.few);
      }
      | else-is_something w ↦ record {
        table = table;
        number = next-number (object_parts file).sections i number s (mark_of c.args.marks.now k) _ number _ here c.loop-i.invariant.number (left ∙ sym c.is_something.ensures ∙ w.if-is_something.false) (omega (arith, w.number-is));
        few = omega (arith, w.number-is, c.loop-i.invariant.few);
      }
    ]

pub returns : goal.returns
returns c =
    let objects = (parsed c.args.objects.now).objects in
    let file = get_or c.args.objects.now.files c.args.object [] in
    let sections = (object_parts file).sections in
    let same = get_or_from_slice_get c.args.objects.now.files c.args.object c.object.result [] c.object.ensures in
    c.loop-i.invariant.table
    ∙ ap (map (λ e. remains_of (has_mark objects c.args.marks.now c.args.object e.0) (new_number sections e.0) e.1))
    (take_all c.loop-i.i (enumerate_from 0 sections) (omega (arith, c.loop-i-test.false, c.section_count-i-end.ensures.count, ap section_count same, length-sections file, length-enumerate_from 0 sections)))
