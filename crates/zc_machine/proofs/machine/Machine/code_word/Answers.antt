use Rattle.std.proofs.Common.{subst, arith, ◌∙◌}
use Rattle.rv_decode.specs.State.{ZcCore}
use Rattle.zc_machine.specs.Memory.{Reaches}
use Rattle.zc_machine.specs.declared.region.AccessKind.TheVariants.{Fetch}
use Rattle.zc_machine.proofs.ReachLaws.{reach_word}
use Rattle.zc_machine.proofs.machine.Machine.code_word.Goals as goal

pub returns : goal.returns
returns c =
    let P : ZcCore → Type 0 = λ y. Reaches Fetch y.memory c.args.at c.reach.result.now in
    c.first_word.ensures ∙ reach_word Fetch c.args.self.now c.args.at c.reach.result.now (subst P c.self.view_is c.reach.ensures) (omega arith)
