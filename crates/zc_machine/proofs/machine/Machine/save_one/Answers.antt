use Rattle.std.proofs.Common.{ap, cond, slice_index, ◌∙◌}
use Rattle.rv_decode.specs.Memory.{byte_of, changed, written}
use Rattle.zc_machine.proofs.FrameLaws.{saved_one_at}
use Rattle.zc_machine.proofs.machine.Machine.save_one.Goals as goal

pub returns-then-at-eq0 : goal.returns-then-at-eq0
returns-then-at-eq0 c =
    let memory = c.self.inside.memory in
    let wrote = c.put.ensures.after ∙ ap (λ r. cond c.put.result (changed (written c.args.at 4 (byte_of (slice_index c.self.inside.regs r))) memory) memory) c.from.ensures in
    saved_one_at c.args.at c.args.register _ c.args.self.now c.put.result c.put.new.memory c.if-at-eq0.true c.self.invariant c.self.view_is c.put.ensures.reached wrote
