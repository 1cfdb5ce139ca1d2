use Rattle.std.proofs.Common.{arith}
use Rattle.zc_machine.proofs.PoolLaws.{size_seen}
use Rattle.zc_machine.proofs.pages.Pages.room.Goals as goal

pub overflow_add-result : goal.overflow_add-result
overflow_add-result c =
    let p = c.self.inside in
    omega (arith, size_seen p.table.items p.pool.items p.skip p.size c.args.self.now c.self.view_is, c.requires, c.self.invariant.covered, c.self.invariant.in_pool.few)
