use Rattle.std.proofs.Common.{◌≡◌}
use Rattle.command_words.specs.Command.{texts}
use Rattle.zcld.specs.ObjectNames.{names_from}
use Rattle.zcld.proofs.put_objects.object_names.Given as goal

-- the names so far
abbrev pub invariant-loop-i : goal.invariant-loop-i
invariant-loop-i l = texts l.names.items ≡ names_from l.prefix 0 l.i
