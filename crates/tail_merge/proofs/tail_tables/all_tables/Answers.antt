use Rattle.std.proofs.Common.{◌∙◌, ◌∷◌, ◌<◌, [], ap, arith, length, sym, subst}
use Rattle.std.specs.Prelude.{Vec, slice_index_or}
use Rattle.std.specs.declared.alloc.Global.{Global}
use Rattle.std.proofs.lemmas.List.{get_or-map, length-append, length-map}
use Rattle.std.proofs.lemmas.Option.{slice_get_within}
use Rattle.psabi_sym.specs.Indexed.{all_sections}
use Rattle.psabi_sym.specs.Inputs.{Inputs, parsed}
use Rattle.tail_merge.specs.MovedTails.{AreMovedTails, tables_of}
use Rattle.tail_merge.specs.RemovedTails.{AreRemovedFrom}
use Rattle.tail_merge.specs.declared.moved_tail.MovedTail.{MovedTail}
use Rattle.tail_merge.specs.declared.removed_tail.RemovedTail.{RemovedTail}
use Rattle.tail_merge.proofs.TailTableLaws.{tables-turn}
use Rattle.tail_merge.proofs.tail_tables.all_tables.Goals as goal

pub section_table-requires-clause-removed : goal.section_table-requires-clause-removed
section_table-requires-clause-removed c = λ l at.
    let inputs = parsed c.args.cut.now in
    let lists = c.args.lists.now in
    let k = c.loop-k.k in
    let items = λ (v : Vec RemovedTail Global). v.items in
    let lt = slice_get_within (all_sections inputs.objects) k l at in
    let within : k < length lists = omega (arith, lt, c.requires.count, length-map lists items) in
    let same = get_or-map items lists k c.index-lists-k.result [] within ∙ ap items (sym c.index-lists-k.is) ∙ sym c.deref.ensures.value in
    subst (AreRemovedFrom inputs l) same (c.requires.removed k l at)

pub loop-k-preserved : goal.loop-k-preserved
loop-k-preserved c =
    let inputs = parsed c.args.cut.now in
    let tables = c.loop-k.tables.items in
    let v = c.in_ok-section_table.field-0 in
    record {
      count = omega (arith, ap length c.in_ok-push.ensures.items, length-append tables (v ∷ []), c.loop-k.invariant.count);
      moved = λ j m lt at. subst (λ items. AreMovedTails inputs m (slice_index_or (tables_of items) j [])) (sym c.in_ok-push.ensures.items)
          (tables-turn inputs tables v c.loop-k.k c.loop-k.invariant.count c.loop-k.invariant.moved c.in_ok-section_table.ensures j m lt at);
    }

pub returns : goal.returns
returns c =
    let inputs = parsed c.args.cut.now in
    let tables = c.loop-k.tables.items in
    let items = λ (v : Vec MovedTail Global). v.items in
    let all = ap (λ (it : Inputs). length (all_sections (parsed it).objects)) c.objects.ensures.same in
    record {
      count = omega (arith, length-map tables items, c.loop-k.invariant.count, c.loop-k-test.false, c.section_count-k-end.ensures.count, all, c.loop-k.auto.k-end);
      moved = λ j m at. c.loop-k.invariant.moved j m (let lt = slice_get_within (all_sections inputs.objects) j m at in omega (arith, lt, c.loop-k-test.false, c.section_count-k-end.ensures.count, all)) at;
    }
