use Rattle.std.proofs.Common.{◌-◌, length, min, ap, ◌∙◌, arith}
use Rattle.sym_machine.proofs.PageLaws.{overlaid_cells}
use Rattle.sym_machine.proofs.first_data.overlay.Goals as goal

pub returns-then-at-len-clause-bytes : goal.returns-then-at-len-clause-bytes
returns-then-at-len-clause-bytes c =
    overlaid_cells c.args.at c.min-count.result c.args.new.now c.args.old.now c.write_cells.new.self (omega (arith, c.if-at-len.true, c.len.ensures.value))
    (c.min-count.ensures ∙ ap (λ n. min (length c.args.new.now) (n - c.args.at)) c.len-then-at-len.ensures.value) c.write_cells.ensures.len c.write_cells.ensures.each
