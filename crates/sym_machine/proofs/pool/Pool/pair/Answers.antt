use Rattle.std.proofs.Common.{◌≡◌, ◌+◌, ◌*◌, ◌≤◌, length, refl, sym, subst, ap, ◌∙◌, arith}
use Rattle.std.specs.Prelude.{IfSome}
use Rattle.sym_machine.specs.declared.word.SymByte.{SymByte}
use Rattle.sym_machine.specs.declared.word.SymByte.TheVariants.{Num}
use Rattle.sym_machine.specs.declared.page.Page.TheVariants.{Numbers, Cells}
use Rattle.sym_machine.specs.Pages.{Pooled}
use Rattle.sym_machine.proofs.PageLaws.{page_inside, cell_further, cell_read, number_further}
use Rattle.sym_machine.proofs.pool.Pool.pair.Goals as goal

pub index-requires : goal.index-requires
index-requires c = omega (arith, c.requires.within, ap (λ (q : Pooled). length q.pages) c.self.view_is)

pub pair_in_numbers-requires : goal.pair_in_numbers-requires
pair_in_numbers-requires c =
    let inside : 4096 * c.in-Numbers.n + 4096 ≤ length c.self.inside.numbers.items =
    page_inside c.args.self.now c.self.view_is c.args.i c.requires.within (Numbers c.in-Numbers.n) c.index.result.now c.index.ensures c.in-Numbers.is c.requires.pooled in
    omega (arith, inside, c.requires.page)

pub pair_in_cells-requires : goal.pair_in_cells-requires
pair_in_cells-requires c =
    let inside : 4096 * c.in-Cells.n + 4096 ≤ length c.self.inside.cells.items =
    page_inside c.args.self.now c.self.view_is c.args.i c.requires.within (Cells c.in-Cells.n) c.index.result.now c.index.ensures c.in-Cells.is c.requires.pooled in
    omega (arith, inside, c.requires.page)

pub returns-in-Numbers-clause-low : goal.returns-in-Numbers-clause-low
returns-in-Numbers-clause-low c = sym (ap Num c.pair_in_numbers.ensures.low ∙ cell_read c.args.self.now c.self.view_is c.args.i c.requires.within (Numbers c.in-Numbers.n) c.index.result.now c.index.ensures c.in-Numbers.is c.args.i refl)

pub returns-in-Numbers-clause-high : goal.returns-in-Numbers-clause-high
returns-in-Numbers-clause-high c = sym (ap Num c.pair_in_numbers.ensures.high ∙ number_further c.args.self.now c.self.view_is c.args.i c.requires.within c.in-Numbers.n c.index.result.now c.index.ensures c.in-Numbers.is 1 (omega (arith, c.requires.page)))

pub returns-in-Cells-clause-low : goal.returns-in-Cells-clause-low
returns-in-Cells-clause-low c =
    subst (λ (cell : SymByte). IfSome c.pair_in_cells.result (λ b. cell ≡ Num b.0)) (cell_read c.args.self.now c.self.view_is c.args.i c.requires.within (Cells c.in-Cells.n) c.index.result.now c.index.ensures c.in-Cells.is c.args.i refl) c.pair_in_cells.ensures.low

pub returns-in-Cells-clause-high : goal.returns-in-Cells-clause-high
returns-in-Cells-clause-high c =
    subst (λ (cell : SymByte). IfSome c.pair_in_cells.result (λ b. cell ≡ Num b.1)) (cell_further c.args.self.now c.self.view_is c.args.i c.requires.within c.in-Cells.n c.index.result.now c.index.ensures c.in-Cells.is 1 (omega (arith, c.requires.page))) c.pair_in_cells.ensures.high
