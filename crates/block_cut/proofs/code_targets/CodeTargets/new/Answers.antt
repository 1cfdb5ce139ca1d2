use Rattle.std.proofs.Common.{refl}
use Rattle.block_cut.proofs.code_targets.CodeTargets.new.Goals as goal

pub returns : goal.returns
returns c = record { leaders_are = λ q. c.in_ok-new.ensures q; wrong_is = refl }
