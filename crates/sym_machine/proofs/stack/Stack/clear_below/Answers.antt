use Rattle.std.proofs.Common.{◌≡◌, ℕ, ◌<◌, ◌≤◌, length, cond, get_or, ltb, ap, subst, ◌∙◌, arith}
use Rattle.sym_machine.specs.declared.word.SymByte.{SymByte}
use Rattle.sym_machine.specs.declared.word.SymByte.TheVariants.{Undef}
use Rattle.sym_machine.specs.Stack.{Strips, stack_cells}
use Rattle.sym_machine.proofs.StackLaws.{cleared, length-risen, length-stack}
use Rattle.sym_machine.proofs.stack.Stack.clear_below.Goals as goal

pub invariant_of-self : goal.invariant_of-self
invariant_of-self c =
    let within : c.args.i ≤ length c.self.inside.cells = omega (arith, c.requires, length-stack c.args.self.now, ap (λ (s : Strips). length s.cells) c.self.view_is) in
    record { mark = omega (arith, within, c.max-self-inside.ensures, c.self.invariant.mark); live = c.self.invariant.live }

pub returns-clause-len : goal.returns-clause-len
returns-clause-len c =
    let s : Strips = record { cells = c.self.inside.cells; live = c.self.inside.live.items; mark = c.self.inside.mark } in
    length-risen s c.max-self-inside.result c.args.i c.max-self-inside.ensures ∙ ap (λ (t : Strips). length (stack_cells t)) c.self.view_is

pub returns-clause-each : goal.returns-clause-each
returns-clause-each c =
    let s : Strips = record { cells = c.self.inside.cells; live = c.self.inside.live.items; mark = c.self.inside.mark } in
    let risen : Strips = record { cells = s.cells; live = s.live; mark = c.max-self-inside.result } in
    subst (λ (now : Strips). (j : ℕ) (d : SymByte) → j < length (stack_cells now)
    → get_or (stack_cells risen) j d ≡ cond (ltb j c.args.i) Undef (get_or (stack_cells now) j d)) c.self.view_is
    (cleared s c.max-self-inside.result c.args.i c.max-self-inside.ensures)
