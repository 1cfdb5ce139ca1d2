use Rattle.std.proofs.Common.{subst, ◌∙◌}
use Rattle.rv_decode.specs.State.{ZcCore}
use Rattle.zc_machine.specs.Memory.{Reaches}
use Rattle.zc_machine.specs.declared.region.AccessKind.TheVariants.{Fetch}
use Rattle.zc_machine.proofs.ReachLaws.{reach_fetched}
use Rattle.zc_machine.proofs.machine.Machine.fetch.Goals as goal

pub returns-clause-found : goal.returns-clause-found
returns-clause-found c =
    let z = c.args.self.now in
    let found = c.fetch.ensures.found in
    let P : ZcCore → Type 0 = λ y. Reaches Fetch y.memory y.pc found.0 in
    found.2 ∙ reach_fetched z z.pc found.0 (subst P c.self.view_is found.1)
