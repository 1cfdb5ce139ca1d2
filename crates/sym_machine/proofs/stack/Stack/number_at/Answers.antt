use Rattle.std.proofs.Common.{◌≡◌, ◌<◌, List, length, get_or, ap, sym, subst, ◌∙◌, arith}
use Rattle.std.specs.Prelude.{IfSome}
use Rattle.sym_machine.specs.declared.word.SymByte.{SymByte}
use Rattle.sym_machine.specs.declared.word.SymByte.TheVariants.{Num, Undef}
use Rattle.sym_machine.specs.Stack.{Strips}
use Rattle.sym_machine.proofs.StackLaws.{length-stack, open_there}
use Rattle.sym_machine.proofs.stack.Stack.number_at.Goals as goal

pub is_open-requires : goal.is_open-requires
is_open-requires c = omega (arith, c.requires, length-stack c.args.self.now)

pub number_at-requires : goal.number_at-requires
number_at-requires c = omega (arith, c.requires, length-stack c.args.self.now, ap (λ (s : Strips). length s.cells) c.self.view_is)

pub returns-then-is_open : goal.returns-then-is_open
returns-then-is_open c =
    let now = c.args.self.now in
    let cells : c.self.inside.cells ≡ now.cells = ap (λ (s : Strips). s.cells) c.self.view_is in
    let within : c.args.i < length now.cells = omega (arith, c.requires, length-stack now) in
    subst (λ (x : SymByte). IfSome c.number_at.result (λ b. x ≡ Num b))
    (ap (λ (l : List SymByte). get_or l c.args.i Undef) cells ∙ open_there now c.args.i within (sym c.is_open.ensures ∙ c.if-is_open.true)) c.number_at.ensures
