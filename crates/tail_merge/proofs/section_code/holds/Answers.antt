use Rattle.std.proofs.Common.{◌∙◌}
use Rattle.block_cut.proofs.FieldLaws.{found_is}
use Rattle.tail_merge.proofs.section_code.holds.Goals as goal

pub returns : goal.returns
returns c = λ rise. c.is_ok.ensures.value ∙ found_is c.args.numbers.now c.args.number c.binary_search.result c.binary_search.ensures.position rise
