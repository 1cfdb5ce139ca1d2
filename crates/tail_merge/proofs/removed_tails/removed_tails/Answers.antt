use Rattle.std.proofs.Common.{◌∙◌, ap, arith, length}
use Rattle.psabi_sym.specs.Inputs.{parsed}
use Rattle.psabi_sym.specs.Indexed.{all_sections}
use Rattle.tail_merge.proofs.TailItemLaws.{items-few, row-fixed, some-in, tails-are, tails-fixed}
use Rattle.tail_merge.proofs.removed_tails.removed_tails.Goals as goal

pub removed_among-requires : goal.removed_among-requires
removed_among-requires c =
    let given = parsed c.args.cut.now in
    let there = some-in (all_sections given.objects) c.args.section c.requires in
    let few = items-few given c.args.section there.0 there.1 in
    let same = ap length (c.in_ok-items.ensures there.0 there.1) in
    omega (arith, few, same, c.recall_invariant.ensures.few, c.deref.ensures.len)

pub returns-then-section_row : goal.returns-then-section_row
returns-then-section_row c = λ l at.
    let row = c.section_row.ensures in
    let fixed = row-fixed c.args.cut.now c.objects.result.now c.args.section l row.0 c.section_row.result c.objects.ensures.same row.1 row.2 at ∙ c.if-section_row.true in
    tails-fixed (parsed c.args.cut.now) l c.new.result.items fixed c.new.ensures.items

pub returns : goal.returns
returns c = λ l at.
    let row = c.section_row.ensures in
    let loose = row-fixed c.args.cut.now c.objects.result.now c.args.section l row.0 c.section_row.result c.objects.ensures.same row.1 row.2 at ∙ c.if-section_row.false in
    tails-are (parsed c.args.cut.now) l c.deref.result.now c.in_ok-tails.tails.items loose (c.deref.ensures.value ∙ c.in_ok-items.ensures l at) c.in_ok-tails.ensures.among c.in_ok-tails.ensures.are
