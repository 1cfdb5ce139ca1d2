-- A read that a signal interrupts moves nothing.
use Rattle.std.specs.Io.KnownBytes.{Keeps}
use Rattle.zc_outside.proofs.transfer.read_some.Given as goal

abbrev pub invariant-loop : goal.invariant-loop
invariant-loop g l = Keeps (g.S.Read.remaining l.initial.source) (g.S.Read.remaining l.source)
