use Rattle.std.proofs.Common.{◌≡◌, ◌+◌, List, length, get_or, ap, sym, subst, ◌∙◌, arith}
use Rattle.std.specs.Prelude.{IfSome}
use Rattle.sym_machine.specs.declared.word.SymByte.{SymByte}
use Rattle.sym_machine.specs.declared.word.SymByte.TheVariants.{Num, Undef}
use Rattle.sym_machine.specs.Stack.{Strips}
use Rattle.sym_machine.proofs.StackLaws.{length-stack, open_strip_there}
use Rattle.sym_machine.proofs.stack.Stack.pair_at.Goals as goal

pub is_open-requires : goal.is_open-requires
is_open-requires c = omega (arith, c.requires, length-stack c.args.self.now)

pub pair_at-requires : goal.pair_at-requires
pair_at-requires c = omega (arith, c.requires, length-stack c.args.self.now, ap (λ (s : Strips). length s.cells) c.self.view_is)

pub returns-then-is_open-clause-low : goal.returns-then-is_open-clause-low
returns-then-is_open-clause-low c =
    let now = c.args.self.now in
    let cells : c.self.inside.cells ≡ now.cells = ap (λ (s : Strips). s.cells) c.self.view_is in
    let there = open_strip_there now c.args.i 2 (omega (arith, c.requires, length-stack now)) (omega (arith, c.if-i.true)) (sym c.is_open.ensures ∙ c.if-is_open.true) in
    subst (λ (x : SymByte). IfSome c.pair_at.result (λ b. x ≡ Num b.0)) (ap (λ (l : List SymByte). get_or l c.args.i Undef) cells ∙ there c.args.i (omega arith) (omega arith)) c.pair_at.ensures.low

pub returns-then-is_open-clause-high : goal.returns-then-is_open-clause-high
returns-then-is_open-clause-high c =
    let now = c.args.self.now in
    let cells : c.self.inside.cells ≡ now.cells = ap (λ (s : Strips). s.cells) c.self.view_is in
    let there = open_strip_there now c.args.i 2 (omega (arith, c.requires, length-stack now)) (omega (arith, c.if-i.true)) (sym c.is_open.ensures ∙ c.if-is_open.true) in
    subst (λ (x : SymByte). IfSome c.pair_at.result (λ b. x ≡ Num b.1)) (ap (λ (l : List SymByte). get_or l (c.args.i + 1) Undef) cells ∙ there (c.args.i + 1) (omega arith) (omega arith)) c.pair_at.ensures.high
