use Rattle.std.proofs.Common.{◌≡◌, ◌≤◌, ◌*◌, ◌-◌, drop, length}
use Rattle.zc_machine.specs.Frames.{words_put}
use Rattle.zc_machine.proofs.machine.frames.put_words.Given as goal

abbrev pub invariant-loop-r : goal.invariant-loop-r
invariant-loop-r l = record {
  end : l.end ≡ 4 * (length l.registers - l.r-index);
  room : l.end ≤ length l.bytes;
  same :
      words_put l.regs (drop l.r-index l.registers) l.end l.bytes
      ≡ words_put l.regs l.registers (4 * length l.registers) l.initial.bytes;
}
