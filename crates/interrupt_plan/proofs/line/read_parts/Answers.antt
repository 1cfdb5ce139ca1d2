use Rattle.std.proofs.Common.{sym, ◌∙◌}
use Rattle.std.specs.Option.{option_copied}
use Rattle.text_lines.specs.Lines.{words_in}
use Rattle.interrupt_plan.specs.Text.{entry_from}
use Rattle.interrupt_plan.proofs.LineLaws.{parts_read, some_left}
use Rattle.interrupt_plan.proofs.line.read_parts.Goals as goal

pub returns-then-is_some : goal.returns-then-is_some
returns-then-is_some c =
    let done = c.in_ok-done.done.items in
    let dirt = c.in_ok-dirt.dirt.items in
    let cells = c.in_ok-cells.cells.items in
    sym (parts_read c.args.at (words_in (option_copied c.args.words)) (words_in (option_copied c.in_ok-done.behind_done)) (words_in (option_copied c.in_ok-dirt.behind_dirt)) (words_in (option_copied c.in_ok-cells.left)) done dirt cells c.in_ok-done.ensures c.in_ok-dirt.ensures c.in_ok-cells.ensures
    ∙ some_left (entry_from c.args.at done dirt cells) c.in_ok-cells.left (sym c.if-is_some.ensures))
