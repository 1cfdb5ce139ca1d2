use Rattle.std.proofs.Common.{◌≡◌, length, ap, ◌∙◌, refl, arith}
use Rattle.std.proofs.lemmas.List.{length-replicate}
use Rattle.rv_decode.specs.Memory.{blank}
use Rattle.sym_machine.specs.declared.word.SymByte.TheVariants.{Undef}
use Rattle.sym_machine.proofs.StackLaws.{all_undefined}
use Rattle.sym_machine.proofs.stack.Stack.undefined.Goals as goal

pub invariant_of-result : goal.invariant_of-result
unfolding blank
invariant_of-result c =
    let size : length c.in_ok-cells.cells ≡ c.args.size = ap length c.in_ok-cells.ensures ∙ length-replicate c.args.size Undef in
    record { mark = omega (arith, size); live = omega (arith, size, c.in_ok-resize.ensures.len) }

pub returns : goal.returns
returns c = all_undefined (record { cells = c.in_ok-cells.cells; live = c.resize.new.self.items; mark = c.args.size }) c.args.size c.in_ok-cells.ensures refl
