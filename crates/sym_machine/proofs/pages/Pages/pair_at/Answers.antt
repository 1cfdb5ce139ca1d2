use Rattle.std.proofs.Common.{◌≡◌, ◌+◌, length, subst, arith}
use Rattle.std.specs.Prelude.{IfSome}
use Rattle.sym_machine.specs.declared.word.SymByte.{SymByte}
use Rattle.sym_machine.specs.declared.word.SymByte.TheVariants.{Num, Undef}
use Rattle.sym_machine.proofs.PageLaws.{cell_seen, size_seen}
use Rattle.sym_machine.proofs.pages.Pages.pair_at.Goals as goal

pub pair-requires-clause-within : goal.pair-requires-clause-within
pair-requires-clause-within c =
    let i = c.self.inside in
    let now = c.args.self.now in
    let size : i.size ≡ length now = size_seen i.pool i.size now c.self.view_is in
    omega (arith, size, c.requires, c.self.invariant.covered)

pub returns-clause-low : goal.returns-clause-low
returns-clause-low c =
    let i = c.self.inside in
    let now = c.args.self.now in
    let size : i.size ≡ length now = size_seen i.pool i.size now c.self.view_is in
    subst (λ (x : SymByte). IfSome c.pair.result (λ b. x ≡ Num b.0)) (cell_seen i.pool i.size now c.self.view_is c.args.i Undef (omega (arith, c.requires))) c.pair.ensures.low

pub returns-clause-high : goal.returns-clause-high
returns-clause-high c =
    let i = c.self.inside in
    let now = c.args.self.now in
    let size : i.size ≡ length now = size_seen i.pool i.size now c.self.view_is in
    subst (λ (x : SymByte). IfSome c.pair.result (λ b. x ≡ Num b.1)) (cell_seen i.pool i.size now c.self.view_is (c.args.i + 1) Undef (omega (arith, c.requires))) c.pair.ensures.high
