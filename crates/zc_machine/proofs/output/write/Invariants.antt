use Rattle.std.proofs.Common.{◌+◌, ◌-◌, ◌^◌, ◌<◌, ◌≤◌}
use Rattle.zc_machine.specs.Buffer.{bytes_at}
use Rattle.zc_outside.specs.Course.{WroteTo}
use Rattle.zc_machine.proofs.output.write.Given as goal
use Rattle.zc_outside.specs.Desk.{OnlyWrites}

abbrev pub invariant-loop-done : goal.invariant-loop-done
invariant-loop-done g l = record {
  within : l.done ≤ l.len;
  below : l.done < l.len → l.at + l.done < 2 ^ 32;
  wrote : WroteTo l.fd (bytes_at l.machine l.at l.done) (g.C.Console.shown l.initial.console) (g.C.Console.shown l.console);
  only : OnlyWrites (g.C.Console.shown l.initial.console) (g.C.Console.shown l.console);
}

abbrev pub decreases-loop-done : goal.decreases-loop-done
decreases-loop-done g l = l.len - l.done
