use Rattle.std.proofs.Common.{◌≡◌, drop}
use Rattle.zc_decode.specs.Accesses.{words_below}
use Rattle.zc_machine.specs.Frames.{obstacle}
use Rattle.zc_machine.proofs.machine.Machine.obstacle.Given as goal

abbrev pub invariant-loop-register : goal.invariant-loop-register
invariant-loop-register l = obstacle (words_below l.at (drop l._register-index l.registers)) l.self ≡ obstacle (words_below l.top l.registers) l.self
