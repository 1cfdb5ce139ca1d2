use Rattle.std.proofs.Common.{◌≡◌, ◌≤◌, length, take}
use Rattle.rv_decode.specs.EventBytes.{shown_bytes}
use Rattle.devices.proofs.environment.shown_bytes.Given as goal

abbrev pub invariant-loop-i : goal.invariant-loop-i
invariant-loop-i l = record {
  room : length l.shown ≡ 4;
  within : l.count ≤ l.i;
  bytes : take l.count l.shown ≡ shown_bytes l.devices.outputs l.at (take l.i l.bytes);
}
