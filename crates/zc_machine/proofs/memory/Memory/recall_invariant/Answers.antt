use Rattle.std.proofs.Common.{◌≡◌, true, subst, sym}
use Rattle.rv_decode.specs.Memory.{extents_of, lies_in}
use Rattle.zc_machine.proofs.RegionLaws.{lies_below}
use Rattle.zc_machine.proofs.memory.Memory.recall_invariant.Goals as goal

pub returns : goal.returns
returns c = λ fits a n lies.
    lies_below fits (extents_of c.self.inside.regions.items) a n c.self.invariant (subst (λ rs. lies_in fits (extents_of rs) a n ≡ true) (sym c.self.view_is) lies)
