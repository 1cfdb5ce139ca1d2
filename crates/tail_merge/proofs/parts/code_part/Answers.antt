use Rattle.std.proofs.Common.{◌∙◌, ◌<◌, [], ap, arith, length, slice_get, subst, sym}
use Rattle.std.specs.Prelude.{Vec}
use Rattle.std.specs.declared.alloc.Global.{Global}
use Rattle.std.proofs.lemmas.List.{get_or-map, length-map}
use Rattle.psabi_sym.specs.Indexed.{all_sections}
use Rattle.psabi_sym.specs.Inputs.{Inputs, parsed}
use Rattle.tail_merge.specs.MovedTails.{AreMovedTails}
use Rattle.tail_merge.specs.declared.moved_tail.MovedTail.{MovedTail}
use Rattle.tail_merge.proofs.PartTurns.{merged-short}
use Rattle.tail_merge.proofs.parts.code_part.Goals as goal

pub section_bytes-requires-clause-tails : goal.section_bytes-requires-clause-tails
section_bytes-requires-clause-tails c = λ l at.
    let inputs = parsed c.args.given.now.cut.now in
    let tables = c.args.given.now.tables.now in
    let k = c.args.section in
    let items = λ (v : Vec MovedTail Global). v.items in
    let within : k < length tables = omega (arith, c.requires.section, c.requires.tables.count, length-map tables items) in
    let same = get_or-map items tables k c.index-given-section.result [] within ∙ sym c.deref.ensures.value in
    subst (AreMovedTails inputs l) same (c.requires.tables.moved k l at)

pub overflow_cast-result : goal.overflow_cast-result
overflow_cast-result c =
    let inputs = c.args.given.now.cut.now in
    let l = c.section-home.result in
    let at = ap (λ (it : Inputs). slice_get (all_sections (parsed it).objects) c.args.section) (sym c.objects.ensures.same) ∙ c.section-home.ensures in
    let bytes = c.in_ok-bytes.ensures l at in
    let short = merged-short inputs c.args.section l c.recall_invariant.ensures.gathered at (c.requires.code l at) in
    omega (arith, c.len.ensures, ap length bytes, short)
