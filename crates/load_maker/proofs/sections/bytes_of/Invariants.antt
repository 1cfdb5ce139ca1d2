use Rattle.std.proofs.Common.{◌≡◌, map, take}
use Rattle.sound_objects.specs.Fragments.{fragments_bytes}
use Rattle.load_maker.specs.Statements.{fragment_of}
use Rattle.load_maker.proofs.sections.bytes_of.Given as goal

abbrev pub invariant-loop-statement : goal.invariant-loop-statement
invariant-loop-statement l = l.bytes.items ≡ fragments_bytes (map (fragment_of (λ function. 0)) (take l.statement-index l.statements))
