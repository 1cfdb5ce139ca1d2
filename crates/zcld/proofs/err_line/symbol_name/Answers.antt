use Rattle.std.proofs.Common.{ap, ◌∙◌}
use Rattle.zcld.specs.ErrLine.{name_in}
use Rattle.zcld.proofs.Names.{name_unread}
use Rattle.zcld.proofs.err_line.symbol_name.Goals as goal

pub returns-in-Ok : goal.returns-in-Ok
returns-in-Ok c = let read = c.in-Ok.ensures in c.symbol_name_of.ensures ∙ ap (name_in c.args.symbol) read.0

pub returns-in-Err : goal.returns-in-Err
returns-in-Err c = name_unread c.args.file.now c.args.symbol c.in-Err.field-0 c.in-Err.ensures
