use Rattle.std.proofs.Common.{◌≡◌, ◌<◌, List, length, get_or, ap, sym, ◌∙◌, arith}
use Rattle.std.proofs.lemmas.List.{get_or_past}
use Rattle.sym_machine.specs.declared.word.SymByte.{SymByte}
use Rattle.sym_machine.specs.declared.word.SymByte.TheVariants.{Undef}
use Rattle.sym_machine.specs.Stack.{Strips, stack_cells}
use Rattle.sym_machine.proofs.StackLaws.{cell_shut, get_or-stack, length-stack, open_there}
use Rattle.sym_machine.proofs.stack.Stack.cell.Goals.{else-i-len-via-then-i-len+else-is_open, else-i-len-via-else-i-len}
use Rattle.sym_machine.proofs.stack.Stack.cell.Goals as goal

pub returns-then-is_open : goal.returns-then-is_open
returns-then-is_open c =
    let now = c.args.self.now in
    let cells : c.self.inside.cells ≡ now.cells = ap (λ (s : Strips). s.cells) c.self.view_is in
    let within : c.args.i < length now.cells = omega (arith, c.if-i-len.true, c.len.ensures.value, ap length cells) in
    c.cell.ensures ∙ ap (λ (l : List SymByte). get_or l c.args.i Undef) cells ∙ open_there now c.args.i within (sym c.is_open.ensures ∙ c.if-is_open.true)

pub returns-else-i-len : goal.returns-else-i-len
returns-else-i-len c =
    let now = c.args.self.now in
    let size : c.len.result ≡ length now.cells = c.len.ensures.value ∙ ap (λ (s : Strips). length s.cells) c.self.view_is in
    elim c.else-i-len.branch [
      | else-i-len-via-then-i-len+else-is_open w ↦
          sym (get_or-stack now c.args.i Undef (omega (arith, w.if-i-len.true, size)) ∙ cell_shut now c.args.i (sym w.is_open.ensures ∙ w.if-is_open.false))
      | else-i-len-via-else-i-len w ↦
          sym (get_or_past (stack_cells now) c.args.i Undef (omega (arith, w.if-i-len.false, size, length-stack now)))
    ]
