use Rattle.std.proofs.Common.{sym, ◌∙◌}
use Rattle.pick_check.specs.Text.{saving_in_line}
use Rattle.pick_check.proofs.FirstLaws.{first_line, saving_room}
use Rattle.pick_check.proofs.first.first_saving.Goals as goal

pub returns-clause-read : goal.returns-clause-read
returns-clause-read c =
    sym (first_line saving_in_line c.args.text.now c.in_ok-line.line.now c.in_ok-line.rest.now c.in_ok-line.ensures.lines ∙ sym c.in_ok-read_saving.ensures)

pub returns-clause-room : goal.returns-clause-room
returns-clause-room c =
    saving_room c.args.text.now c.in_ok-line.line.now c.in_ok-line.rest.now c.in_ok-read_saving.field-0 c.in_ok-line.ensures.whole (sym c.in_ok-read_saving.ensures)
