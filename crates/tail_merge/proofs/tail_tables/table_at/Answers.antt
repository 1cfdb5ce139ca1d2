use Rattle.std.proofs.Common.{◌∙◌, ◌≡◌, ◌<◌, [], ap, arith, length, subst, sym}
use Rattle.std.specs.Prelude.{MatchOption, Vec}
use Rattle.std.specs.declared.alloc.Global.{Global}
use Rattle.std.proofs.lemmas.List.{get_or-map, length-map}
use Rattle.std.proofs.lemmas.Option.{slice_get_within}
use Rattle.psabi_sym.specs.Indexed.{all_sections}
use Rattle.psabi_sym.specs.Inputs.{parsed}
use Rattle.tail_merge.specs.Merged.{indexed}
use Rattle.tail_merge.specs.MovedTails.{AreMovedTails}
use Rattle.tail_merge.specs.declared.moved_tail.MovedTail.{MovedTail}
use Rattle.tail_merge.proofs.tail_tables.table_at.Goals as goal

pub returns-in-Some : goal.returns-in-Some
returns-in-Some c =
    let inputs = parsed c.args.objects.now in
    let tables = c.args.tables.now in
    let k = c.in-Some.k in
    let number = c.in-Some.ensures in
    let items = λ (v : Vec MovedTail Global). v.items in
    let lt = slice_get_within (all_sections inputs.objects) k _ number.2 in
    let within : k < length tables = omega (arith, lt, c.requires.count, length-map tables items) in
    let moved = c.requires.moved k _ number.2 in
    let same = get_or-map items tables k c.index-tables-k.result [] within ∙ ap items (sym c.index-tables-k.is) ∙ sym c.deref.ensures.value in
    subst (λ o. MatchOption o (c.deref.result.now ≡ []) (λ s. AreMovedTails inputs (indexed c.args.object c.args.section s) c.deref.result.now)) (sym number.1)
    (subst (AreMovedTails inputs (indexed c.args.object c.args.section number.0)) same moved)
