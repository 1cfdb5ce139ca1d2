use Rattle.std.proofs.Common.{◌≡◌, None, map, take}
use Rattle.psabi_sym.specs.Faults.{first_some}
use Rattle.psabi_sym.specs.Inputs.{parsed}
use Rattle.block_cut.specs.Resolved.{resolved_fault}
use Rattle.block_cut.proofs.judge.section_fault.Given as goal

abbrev pub invariant-loop-reloc : goal.invariant-loop-reloc
invariant-loop-reloc l = first_some (map (resolved_fault (parsed l.objects).objects l.section) (take l.reloc-index l.relocs)) ≡ None
