-- The four bytes are the parts of the place's address, in order.
use Rattle.std.proofs.Common.{◌+◌, sym, ◌∙◌}
use Rattle.rv_decode.specs.Memory.{cell_at}
use Rattle.sym_machine.specs.declared.word.SymByte.TheVariants.{Undef}
use Rattle.sym_machine.specs.declared.word.Value.{Value}
use Rattle.sym_machine.specs.declared.word.Value.TheVariants.{Code}
use Rattle.sym_machine.proofs.WordLaws.{part_is}
use Rattle.sym_machine.proofs.state.State.loaded_code.Goals as goal

pub returns-then-is_part-4 : goal.returns-then-is_part-4
returns-then-is_part-4 c =
    let v : Value = Code c.in-Part-Code-default.q in
    let b0 = part_is v 0 c.byte-first.result (sym c.is_part.ensures ∙ c.if-is_part.true) ∙ c.byte-first.ensures in
    let b1 = part_is v 1 c.byte.result (sym c.is_part-then-is_part.ensures ∙ c.if-is_part-2.true) ∙ c.byte.ensures in
    let b2 = part_is v 2 c.byte-then-is_part-2.result (sym c.is_part-then-is_part-2.ensures ∙ c.if-is_part-3.true) ∙ c.byte-then-is_part-2.ensures in
    let b3 = part_is v 3 c.byte-then-is_part-3.result (sym c.is_part-then-is_part-3.ensures ∙ c.if-is_part-4.true) ∙ c.byte-then-is_part-3.ensures in
    (λ j. record { b0 = b0 j; b1 = b1 j; b2 = b2 j; b3 = b3 j })
    ∙ (λ j. record {
      b0 = cell_at Undef (c.self.view_is j).core.memory (c.from-a.ensures j);
      b1 = cell_at Undef (c.self.view_is j).core.memory (c.from-a.ensures j + 1);
      b2 = cell_at Undef (c.self.view_is j).core.memory (c.from-a.ensures j + 2);
      b3 = cell_at Undef (c.self.view_is j).core.memory (c.from-a.ensures j + 3);
    })
