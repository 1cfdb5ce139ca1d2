use Rattle.std.proofs.Common.{◌+◌, ◌*◌, ◌≤◌, length, ap, ◌∙◌, arith}
use Rattle.sym_machine.specs.declared.page.Page.TheVariants.{Numbers, Cells}
use Rattle.sym_machine.specs.Pages.{Pooled}
use Rattle.sym_machine.proofs.PageLaws.{page_inside, word_of_cells, word_of_numbers}
use Rattle.sym_machine.proofs.pool.Pool.word.Goals as goal

pub index-requires : goal.index-requires
index-requires c = omega (arith, c.requires.within, ap (λ (q : Pooled). length q.pages) c.self.view_is)

pub word_in_numbers-requires : goal.word_in_numbers-requires
word_in_numbers-requires c =
    let inside : 4096 * c.in-Numbers.n + 4096 ≤ length c.self.inside.numbers.items =
    page_inside c.args.self.now c.self.view_is c.args.i c.requires.within (Numbers c.in-Numbers.n) c.index.result.now c.index.ensures c.in-Numbers.is c.requires.pooled in
    omega (arith, inside, c.requires.page)

pub word_in_cells-requires : goal.word_in_cells-requires
word_in_cells-requires c =
    let inside : 4096 * c.in-Cells.n + 4096 ≤ length c.self.inside.cells.items =
    page_inside c.args.self.now c.self.view_is c.args.i c.requires.within (Cells c.in-Cells.n) c.index.result.now c.index.ensures c.in-Cells.is c.requires.pooled in
    omega (arith, inside, c.requires.page)

pub returns-in-Numbers : goal.returns-in-Numbers
returns-in-Numbers c = c.word_in_numbers.ensures ∙ word_of_numbers c.args.self.now c.self.view_is c.args.i c.requires.within c.in-Numbers.n c.index.result.now c.index.ensures c.in-Numbers.is c.requires.page

pub returns-in-Cells : goal.returns-in-Cells
returns-in-Cells c = c.word_in_cells.ensures ∙ word_of_cells c.args.self.now c.self.view_is c.args.i c.requires.within c.in-Cells.n c.index.result.now c.index.ensures c.in-Cells.is c.requires.page
