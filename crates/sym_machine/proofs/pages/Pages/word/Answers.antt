use Rattle.std.proofs.Common.{◌≡◌, ℕ, ◌+◌, ◌<◌, length, ◌∙◌, arith}
use Rattle.sym_machine.specs.declared.word.SymByte.TheVariants.{Undef}
use Rattle.sym_machine.proofs.PageLaws.{cell_seen, size_seen}
use Rattle.sym_machine.proofs.pages.Pages.word.Goals as goal

pub word-requires-clause-within : goal.word-requires-clause-within
word-requires-clause-within c =
    let i = c.self.inside in
    let size : i.size ≡ length c.args.self.now = size_seen i.pool i.size c.args.self.now c.self.view_is in
    omega (arith, size, c.requires, c.self.invariant.covered)

pub returns : goal.returns
returns c =
    let i = c.self.inside in
    let now = c.args.self.now in
    let first = cell_seen i.pool i.size now c.self.view_is c.args.i Undef (omega (arith, c.requires)) in
    let read = λ (k : ℕ) (lt : k < 4). cell_seen i.pool i.size now c.self.view_is (c.args.i + k) Undef (omega (arith, c.requires, lt)) in
    c.word.ensures ∙ (λ j. record { b0 = first j; b1 = read 1 (omega arith) j; b2 = read 2 (omega arith) j; b3 = read 3 (omega arith) j })
