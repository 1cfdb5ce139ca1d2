use Rattle.std.proofs.Common.{◌≡◌, ◌+◌, ◌-◌, ◌≤◌, drop, length, take}
use Rattle.rv_decode.specs.Memory.{extents_of}
use Rattle.zc_machine.proofs.AnswerLaws.{filled}
use Rattle.zc_machine.proofs.machine.device_answers.fill.Given as goal

abbrev pub invariant-loop-done : goal.invariant-loop-done
invariant-loop-done l = record {
  within : l.done ≤ l.len;
  extents : extents_of l.memory ≡ extents_of l.initial.memory;
  count : length (take (l.len - l.done) l.answers) + l.done ≡ length (take l.len l.initial.answers);
  left : drop (l.len - l.done) l.answers ≡ drop l.len l.initial.answers;
  made : filled (l.at + l.done) (take (l.len - l.done) l.answers) l.memory ≡ filled l.at (take l.len l.initial.answers) l.initial.memory;
}

abbrev pub decreases-loop-done : goal.decreases-loop-done
decreases-loop-done l = l.len - l.done
