-- No object so far is compressed.
use Rattle.std.proofs.Common.{◌≡◌, take, false}
use Rattle.std.specs.List.{list_any}
use Rattle.elf32_read.specs.Compressed.{has_rvc}
use Rattle.elf32_read.specs.Parts.{ObjectParts}
use Rattle.psabi_sym.specs.Inputs.{parsed}
use Rattle.zc_link.proofs.plain.plain_flags.Given as goal

abbrev pub invariant-loop-i : goal.invariant-loop-i
invariant-loop-i l = list_any (λ (object : ObjectParts). has_rvc object.flags) (take l.i (parsed l.objects).objects) ≡ false
