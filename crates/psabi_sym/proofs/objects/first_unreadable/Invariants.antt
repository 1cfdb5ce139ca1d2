use Rattle.std.proofs.Common.{◌≡◌, drop}
use Rattle.psabi_sym.specs.Faults.{fault_from}
use Rattle.psabi_sym.specs.Objects.{contents_of}
use Rattle.psabi_sym.proofs.objects.first_unreadable.Given as goal

abbrev pub invariant-loop-i : goal.invariant-loop-i
invariant-loop-i l = fault_from 0 (contents_of l.files) ≡ fault_from l.i (contents_of (drop l.i l.files))
