use Rattle.std.proofs.Common.{◌≡◌, drop}
use Rattle.zc_decode.specs.Accesses.{accesses_of}
use Rattle.zc_machine.specs.Interrupt.{done_all}
use Rattle.zc_machine.proofs.machine.Machine.make_done.Given as goal

abbrev pub invariant-loop-number : goal.invariant-loop-number
invariant-loop-number l =
    done_all l.short (accesses_of l.short l.sp) (drop l.number-index l.done) l.self
    ≡ done_all l.short (accesses_of l.short l.sp) l.done l.initial.self
