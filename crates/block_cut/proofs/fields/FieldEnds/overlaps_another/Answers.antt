use Rattle.std.proofs.Common.{◌<◌, arith, ◌∙◌}
use Rattle.std.specs.List.{count_by}
use Rattle.std.specs.Prelude.{nat_lt, ◌+◌}
use Rattle.block_cut.specs.Relocs.{field_of}
use Rattle.block_cut.proofs.FieldLaws.{crowded_is}
use Rattle.block_cut.proofs.fields.FieldEnds.overlaps_another.Goals as goal

pub returns : goal.returns
returns c = λ relocs r are start end.
    let has : 0 < field_of r = omega (arith, start, end, c.requires) in
    let begun = c.count_below-begun.ensures.value (rw c.deref.ensures.value are.starts.rise) ∙ (λ j. count_by (λ n. nat_lt n (end j)) (c.deref.ensures.value j)) in
    let ended = c.count_below-ended.ensures.value (rw c.deref-2.ensures.value are.ends.rise) ∙ (λ j. count_by (λ n. nat_lt n (start j + 1)) (c.deref-2.ensures.value j)) in
    crowded_is r relocs c.args.self.now c.count_below-begun.result c.count_below-ended.result has are begun ended
