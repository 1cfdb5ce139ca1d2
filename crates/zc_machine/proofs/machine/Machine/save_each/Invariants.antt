use Rattle.std.proofs.Common.{◌≡◌, drop, true}
use Rattle.std.specs.Prelude.{is_none}
use Rattle.zc_decode.specs.Accesses.{words_below}
use Rattle.zc_decode.specs.Effect.{saved}
use Rattle.zc_machine.specs.Frames.{all_made, obstacle}
use Rattle.zc_machine.proofs.machine.Machine.save_each.Given as goal

abbrev pub invariant-loop-r : goal.invariant-loop-r
invariant-loop-r l = record {
  free : is_none (obstacle (words_below l.at (drop l.r-index l.registers)) l.self) ≡ true;
  same :
      all_made saved (words_below l.at (drop l.r-index l.registers)) l.self
      ≡ all_made saved (words_below l.top l.registers) l.initial.self;
}
