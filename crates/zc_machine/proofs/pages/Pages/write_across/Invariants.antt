use Rattle.std.proofs.Common.{◌≡◌, ◌-◌, ◌≤◌, length, slice_index}
use Rattle.rv_decode.specs.Memory.{cells_changed, written}
use Rattle.zc_machine.proofs.pages.Pages.write_across.Given as goal

abbrev pub invariant-loop-done : goal.invariant-loop-done
invariant-loop-done l = record {
  within : l.done ≤ length l.bytes;
  same : l.self ≡ record l.initial.self { cells = cells_changed (written l.index l.done (slice_index l.bytes)) 0 l.initial.self.cells };
}

abbrev pub decreases-loop-done : goal.decreases-loop-done
decreases-loop-done l = length l.bytes - l.done
