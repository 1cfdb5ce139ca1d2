use Rattle.std.proofs.Common.{◌≤◌, ◌+◌, ◌-◌, ◌^◌, min, length}
use Rattle.zc_outside.specs.Desk.{OnlyTakes}
use Rattle.zcld.specs.declared.input.TheConstants.{INPUT_LIMIT}
use Rattle.zcld.proofs.TakenInput.{TakesFront}
use Rattle.zcld.proofs.input.take_all.Given as goal

abbrev pub invariant-loop-input : goal.invariant-loop-input
invariant-loop-input g l = record {
  front : TakesFront (g.C.Console.shown l.initial.console).input (g.C.Console.shown l.console).input l.input.items;
  taken : min ((g.C.Console.shown l.initial.console).taken + length l.input.items) (2 ^ 64 - 1) ≤ (g.C.Console.shown l.console).taken;
  only : OnlyTakes (g.C.Console.shown l.initial.console) (g.C.Console.shown l.console);
}

abbrev pub decreases-loop-input : goal.decreases-loop-input
decreases-loop-input g l = INPUT_LIMIT + 1 - length l.input.items
