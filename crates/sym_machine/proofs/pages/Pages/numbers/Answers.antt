use Rattle.sym_machine.proofs.PageLaws.{filled}
use Rattle.sym_machine.proofs.pages.Pages.numbers.Goals as goal

pub returns : goal.returns
returns c = filled c.args.numbers.now c.args.size c.in_ok-pages.pages c.write_numbers.new.self c.in_ok-pages.ensures c.requires.within c.write_numbers.ensures.len c.write_numbers.ensures.each
