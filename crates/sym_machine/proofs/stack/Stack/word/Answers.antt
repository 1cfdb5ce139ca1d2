use Rattle.std.proofs.Common.{◌≡◌, List, length, ap, sym, ◌∙◌, arith}
use Rattle.sym_machine.specs.declared.word.SymByte.{SymByte}
use Rattle.sym_machine.specs.Pages.{cell_word}
use Rattle.sym_machine.specs.Stack.{Strips}
use Rattle.sym_machine.proofs.StackLaws.{length-stack, open_word}
use Rattle.sym_machine.proofs.stack.Stack.word.Goals as goal

pub is_open-requires : goal.is_open-requires
is_open-requires c = omega (arith, c.requires, length-stack c.args.self.now)

pub word-requires : goal.word-requires
word-requires c = omega (arith, c.requires, length-stack c.args.self.now, ap (λ (s : Strips). length s.cells) c.self.view_is)

pub returns-then-is_open : goal.returns-then-is_open
returns-then-is_open c =
    let now = c.args.self.now in
    let cells : c.self.inside.cells ≡ now.cells = ap (λ (s : Strips). s.cells) c.self.view_is in
    c.word.ensures ∙ ap (λ (l : List SymByte). cell_word l c.args.i) cells
    ∙ open_word now c.args.i (omega (arith, c.requires, length-stack now)) (omega (arith, c.if-i.true)) (sym c.is_open.ensures ∙ c.if-is_open.true)
