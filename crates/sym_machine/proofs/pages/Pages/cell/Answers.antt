use Rattle.std.proofs.Common.{◌≡◌, length, sym, ◌∙◌, arith}
use Rattle.std.proofs.lemmas.List.{get_or_past}
use Rattle.sym_machine.specs.declared.word.SymByte.TheVariants.{Undef}
use Rattle.sym_machine.proofs.PageLaws.{cell_seen, size_seen}
use Rattle.sym_machine.proofs.pages.Pages.cell.Goals as goal

pub returns-then-i-self : goal.returns-then-i-self
returns-then-i-self c =
    let i = c.self.inside in
    let now = c.args.self.now in
    let size : i.size ≡ length now = size_seen i.pool i.size now c.self.view_is in
    c.cell.ensures ∙ cell_seen i.pool i.size now c.self.view_is c.args.i Undef (omega (arith, size))

pub returns-else-i-self : goal.returns-else-i-self
returns-else-i-self c =
    let i = c.self.inside in
    let now = c.args.self.now in
    let size : i.size ≡ length now = size_seen i.pool i.size now c.self.view_is in
    sym (get_or_past now c.args.i Undef (omega (arith, size)))
