use Rattle.std.proofs.Common.{◌≡◌, ◌*◌, ◌-◌, drop, length}
use Rattle.zc_machine.specs.Frames.{words_taken}
use Rattle.zc_machine.proofs.machine.frames.take_words.Given as goal

abbrev pub invariant-loop-r : goal.invariant-loop-r
invariant-loop-r l = record {
  end : l.end ≡ 4 * (length l.registers - l.r-index);
  same :
      words_taken l.bytes (drop l.r-index l.registers) l.end l.regs
      ≡ words_taken l.bytes l.registers (4 * length l.registers) l.initial.regs;
}
