use Rattle.std.proofs.Common.{sym, ap, ◌∙◌}
use Rattle.std.specs.List.{list_any}
use Rattle.std.specs.Prelude.{◌==◌}
use Rattle.block_cut.proofs.FieldLaws.{found_is, upper_is}
use Rattle.block_cut.proofs.fields.Fields.has_upper.Goals as goal

pub returns-then-is_last : goal.returns-then-is_last
returns-then-is_last c = λ relocs are.
    let last = c.is_last.ensures c.if-is_last.true in
    sym (sym (upper_is relocs c.args.self.now c.args.offset are) ∙ ap (list_any (λ m. m == c.args.offset)) (sym c.deref.ensures.value) ∙ last)

pub returns : goal.returns
returns c = λ relocs are.
    c.is_ok.ensures.value
    ∙ found_is c.deref-2.result.now c.args.offset c.binary_search.result c.binary_search.ensures.position (rw c.deref-2.ensures.value are.uppers.rise)
    ∙ (λ j. list_any (λ m. m == c.args.offset) (c.deref-2.ensures.value j)) ∙ upper_is relocs c.args.self.now c.args.offset are
