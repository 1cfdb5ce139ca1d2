use Rattle.std.proofs.Common.{IfSome, subst}
use Rattle.rv_decode.specs.Immediates.{InRange}
use Rattle.block_cut.proofs.spelled.item_of.Goals as goal

pub instr_item-requires : goal.instr_item-requires
instr_item-requires c = subst (λ o. IfSome o InRange) c.in-Some.is c.requires
