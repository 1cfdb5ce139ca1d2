use Rattle.zc_machine.proofs.PoolLaws.{size_seen}
use Rattle.zc_machine.proofs.pages.Pages.len.Goals as goal

pub returns : goal.returns
returns c = let p = c.self.inside in size_seen p.table.items p.pool.items p.skip p.size c.args.self.now c.self.view_is
