use Rattle.std.proofs.Common.{◌≡◌, length, subst, arith}
use Rattle.std.specs.Prelude.{IfSome}
use Rattle.sym_machine.specs.declared.word.SymByte.{SymByte}
use Rattle.sym_machine.specs.declared.word.SymByte.TheVariants.{Num, Undef}
use Rattle.sym_machine.proofs.PageLaws.{cell_seen, size_seen}
use Rattle.sym_machine.proofs.pages.Pages.number_at.Goals as goal

pub number-requires-clause-within : goal.number-requires-clause-within
number-requires-clause-within c =
    let i = c.self.inside in
    let now = c.args.self.now in
    let size : i.size ≡ length now = size_seen i.pool i.size now c.self.view_is in
    omega (arith, size, c.requires, c.self.invariant.covered)

pub returns : goal.returns
returns c =
    let i = c.self.inside in
    let now = c.args.self.now in
    let size : i.size ≡ length now = size_seen i.pool i.size now c.self.view_is in
    subst (λ (x : SymByte). IfSome c.number.result (λ b. x ≡ Num b)) (cell_seen i.pool i.size now c.self.view_is c.args.i Undef c.requires) c.number.ensures
