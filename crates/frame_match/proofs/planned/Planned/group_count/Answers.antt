use Rattle.std.proofs.Common.{ap, arith, length}
use Rattle.psabi_sym.specs.Inputs.{parsed}
use Rattle.frame_match.proofs.RoleLaws.{groups_few}
use Rattle.frame_match.proofs.planned.Planned.group_count.Goals as goal

pub overflow_cast-result : goal.overflow_cast-result
overflow_cast-result c =
    let inside = c.self.inside in
    let few = groups_few (parsed inside.cut) in
    let groups = ap length c.self.invariant.groups_are in
    omega (arith, few, groups, inside.groups.ok.0, c.len.ensures, c.recall_invariant.ensures.few)
