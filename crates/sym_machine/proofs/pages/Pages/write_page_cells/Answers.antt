use Rattle.std.proofs.Common.{◌≡◌, ◌∙◌, length, get_or, arith}
use Rattle.rv_decode.specs.Memory.{written}
use Rattle.sym_machine.specs.declared.word.SymByte.TheVariants.{Undef}
use Rattle.sym_machine.proofs.PageLaws.{length-cells, made_seen, size_seen}
use Rattle.sym_machine.proofs.pages.Pages.write_page_cells.Goals as goal

pub write_cells-requires-clause-within : goal.write_cells-requires-clause-within
write_cells-requires-clause-within c =
    let i = c.self.inside in
    let now = c.args.self.now in
    let size : i.size ≡ length now = size_seen i.pool i.size now c.self.view_is in
    omega (arith, size, c.requires, c.self.invariant.covered)

pub write_cells-requires-clause-page : goal.write_cells-requires-clause-page
write_cells-requires-clause-page c = c.requires.page

pub invariant_of-self : goal.invariant_of-self
invariant_of-self c = record {
  pooled = c.write_cells.ensures.pooled;
  covered = omega (arith, c.self.invariant.covered, c.write_cells.ensures.count);
}

pub returns-clause-len : goal.returns-clause-len
returns-clause-len c =
    let i = c.self.inside in
    length-cells c.write_cells.new.self i.size ∙ size_seen i.pool i.size c.args.self.now c.self.view_is

pub returns-clause-each : goal.returns-clause-each
returns-clause-each c =
    let i = c.self.inside in
    made_seen (written c.args.i (length c.args.cells.now) (λ k. get_or c.args.cells.now k Undef)) i.pool c.write_cells.new.self i.size c.args.self.now c.self.view_is c.write_cells.ensures
