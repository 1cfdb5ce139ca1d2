-- The number at the offset gives the number of items before it.
use Rattle.std.proofs.Common.{ap, ◌∙◌}
use Rattle.psabi_sym.specs.Inputs.{parsed}
use Rattle.block_cut.proofs.TextLaws.{by_number, tables_of}
use Rattle.block_cut.proofs.section_items.SectionItems.index.Goals as goal

pub returns-then-number-eq0 : goal.returns-then-number-eq0
returns-then-number-eq0 c = λ inputs l none found is.
    let numbers = c.deref.ensures.value ∙ ap (λ t. t.numbers) c.self.view_is ∙ (tables_of (parsed inputs) l c.args.self.now is).numbers in
    (by_number inputs l c.args.offset c.number_at-number.result c.deref.result.now none found numbers c.number_at-number.ensures.value c.number_at-number.ensures.none).none c.if-number-eq0.true

pub returns : goal.returns
returns c = λ inputs l none found is.
    let numbers = c.deref.ensures.value ∙ ap (λ t. t.numbers) c.self.view_is ∙ (tables_of (parsed inputs) l c.args.self.now is).numbers in
    let own = by_number inputs l c.args.offset c.number_at-number.result c.deref.result.now none found numbers c.number_at-number.ensures.value c.number_at-number.ensures.none in
    ((own.some c.if-number-eq0.false).0, own.index c.if-number-eq0.false)
