use Rattle.std.proofs.Common.{length, ap, sym, subst, arith}
use Rattle.sym_machine.specs.Stack.{AreOpened, Strips}
use Rattle.sym_machine.proofs.StackLaws.{length-stack, length-stored, stored}
use Rattle.sym_machine.proofs.stack.Stack.write_cells.Goals as goal

pub open-requires : goal.open-requires
open-requires c = omega (arith, c.requires, length-stack c.args.self.now)

pub write_cells-requires : goal.write_cells-requires
write_cells-requires c = omega (arith, c.requires, length-stack c.args.self.now, c.open.ensures.size, ap (λ (s : Strips). length s.cells) c.self.view_is)

pub returns-clause-len : goal.returns-clause-len
returns-clause-len c =
    let t : Strips = record { cells = c.self.inside.cells; live = c.self.inside.live.items; mark = c.self.inside.mark } in
    length-stored c.args.i c.args.cells.now c.args.self.now t c.write_cells.new.self
    (subst (AreOpened c.args.i (length c.args.cells.now) c.args.self.now) (sym c.self.view_is) c.open.ensures)
    c.write_cells.ensures.len c.write_cells.ensures.each

pub returns-clause-each : goal.returns-clause-each
returns-clause-each c =
    let t : Strips = record { cells = c.self.inside.cells; live = c.self.inside.live.items; mark = c.self.inside.mark } in
    stored c.args.i c.args.cells.now c.args.self.now t c.write_cells.new.self
    (subst (AreOpened c.args.i (length c.args.cells.now) c.args.self.now) (sym c.self.view_is) c.open.ensures)
    c.write_cells.ensures.len c.write_cells.ensures.each
