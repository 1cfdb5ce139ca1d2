use Rattle.std.proofs.Common.{◌≡◌, ◌≤◌, take}
use Rattle.psabi_sym.specs.Inputs.{parsed}
use Rattle.frame_match.specs.Groups.{groups_of}
use Rattle.shrink_layout.specs.Settled.{is_move, is_pop}
use Rattle.shrink_layout.specs.Units.{is_push}
use Rattle.shrink_layout.proofs.GroupCounts.{kinds_in}
use Rattle.shrink_layout.proofs.group_counts.count_groups.Given as goal

abbrev pub invariant-loop-i : goal.invariant-loop-i
invariant-loop-i l = record {
  pushes : l.pushes ≡ kinds_in is_push (take l.i (groups_of (parsed l.planned)));
  pops : l.pops ≡ kinds_in is_pop (take l.i (groups_of (parsed l.planned)));
  moves : l.moves ≡ kinds_in is_move (take l.i (groups_of (parsed l.planned)));
  few_pushes : l.pushes ≤ l.i;
  few_pops : l.pops ≤ l.i;
  few_moves : l.moves ≤ l.i;
}
