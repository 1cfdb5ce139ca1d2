use Rattle.std.proofs.Common.{◌+◌, ◌*◌, ◌≤◌, length, refl, ap, ◌∙◌, arith}
use Rattle.sym_machine.specs.declared.word.SymByte.TheVariants.{Num}
use Rattle.sym_machine.specs.declared.page.Page.TheVariants.{Numbers, Cells}
use Rattle.sym_machine.specs.Pages.{Pooled}
use Rattle.sym_machine.proofs.PageLaws.{page_inside, cell_read}
use Rattle.sym_machine.proofs.pool.Pool.cell.Goals as goal

pub index-requires : goal.index-requires
index-requires c = omega (arith, c.requires.within, ap (λ (q : Pooled). length q.pages) c.self.view_is)

pub byte_in_numbers-requires : goal.byte_in_numbers-requires
byte_in_numbers-requires c =
    let inside : 4096 * c.in-Numbers.n + 4096 ≤ length c.self.inside.numbers.items =
    page_inside c.args.self.now c.self.view_is c.args.i c.requires.within (Numbers c.in-Numbers.n) c.index.result.now c.index.ensures c.in-Numbers.is c.requires.pooled in
    omega (arith, inside)

pub cell_in_cells-requires : goal.cell_in_cells-requires
cell_in_cells-requires c =
    let inside : 4096 * c.in-Cells.n + 4096 ≤ length c.self.inside.cells.items =
    page_inside c.args.self.now c.self.view_is c.args.i c.requires.within (Cells c.in-Cells.n) c.index.result.now c.index.ensures c.in-Cells.is c.requires.pooled in
    omega (arith, inside)

pub returns-in-Numbers : goal.returns-in-Numbers
returns-in-Numbers c = ap Num c.byte_in_numbers.ensures ∙ cell_read c.args.self.now c.self.view_is c.args.i c.requires.within (Numbers c.in-Numbers.n) c.index.result.now c.index.ensures c.in-Numbers.is c.args.i refl

pub returns-in-Cells : goal.returns-in-Cells
returns-in-Cells c = c.cell_in_cells.ensures ∙ cell_read c.args.self.now c.self.view_is c.args.i c.requires.within (Cells c.in-Cells.n) c.index.result.now c.index.ensures c.in-Cells.is c.args.i refl
