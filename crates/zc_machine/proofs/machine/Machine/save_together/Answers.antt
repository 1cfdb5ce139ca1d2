use Rattle.std.proofs.Common.{◌≡◌, ◌-◌, ◌*◌, length, take, ap, sym, ◌∙◌, arith}
use Rattle.std.proofs.lemmas.List.{length-take-le}
use Rattle.rv_decode.specs.Memory.{extents_of, is_data, lies_in}
use Rattle.zc_machine.proofs.FrameLaws.{free_at, saved_at}
use Rattle.zc_machine.proofs.machine.Machine.save_together.Goals as goal

pub returns-clause-why : goal.returns-clause-why
returns-clause-why c = λ made.
    let end = 4 * length c.args.registers.now in
    let low = c.args.top - end in
    let front : length (take end c.put_words.new.bytes) ≡ end = length-take-le end c.put_words.new.bytes (omega arith) in
    free_at c.args.registers.now low end c.args.top _ c.args.self.now (omega arith) (omega arith) (omega arith) (omega arith) c.self.view_is
    (λ some. ap (lies_in is_data (extents_of c.self.inside.memory) low) (sym front) ∙ sym c.write.ensures.reached ∙ made)

pub returns-clause-after : goal.returns-clause-after
returns-clause-after c =
    let end = 4 * length c.args.registers.now in
    saved_at c.args.registers.now (c.args.top - end) end c.args.top _ c.put_words.new.bytes _ c.args.self.now c.write.result c.write.new.self (omega arith) (omega arith) (omega arith) (omega arith) c.self.invariant c.self.view_is c.put_words.ensures (omega arith) c.write.ensures.after
