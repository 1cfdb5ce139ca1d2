-- The bytes so far are the first ones that the reader had.
use Rattle.std.proofs.Common.{◌-◌, ◌≤◌, vec_len}
use Rattle.std.specs.Io.KnownBytes.{Consumes}
use Rattle.zc_outside.proofs.disk_store.read_below.Given as goal

abbrev pub invariant-loop-file : goal.invariant-loop-file
invariant-loop-file g l =
    (vec_len l.bytes ≤ l.most) × Consumes (g.F.Read.remaining l.fn.file) (g.F.Read.remaining l.file) l.bytes.items

abbrev pub decreases-loop-file : goal.decreases-loop-file
decreases-loop-file g l = l.most - vec_len l.bytes
