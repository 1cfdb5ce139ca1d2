use Rattle.std.proofs.Common.{◌≡◌, take}
use Rattle.psabi_sym.specs.Objects.{contents_of}
use Rattle.psabi_sym.proofs.objects.load.Given as goal

abbrev pub invariant-loop-file : goal.invariant-loop-file
invariant-loop-file l = l.objects.items ≡ contents_of (take l.file-index l.files)
