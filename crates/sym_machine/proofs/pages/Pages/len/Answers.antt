use Rattle.sym_machine.proofs.PageLaws.{size_seen}
use Rattle.sym_machine.proofs.pages.Pages.len.Goals as goal

pub returns-clause-value : goal.returns-clause-value
returns-clause-value c = let i = c.self.inside in size_seen i.pool i.size c.args.self.now c.self.view_is
