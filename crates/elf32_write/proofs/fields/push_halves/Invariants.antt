use Rattle.std.proofs.Common.{◌≡◌, ◌++◌, take}
use Rattle.std.specs.List.{flat_map}
use Rattle.zc_base.specs.Fields.{half_bytes}
use Rattle.elf32_write.proofs.fields.push_halves.Given as goal

abbrev pub invariant-loop-half : goal.invariant-loop-half
invariant-loop-half l = l.out.items ≡ l.initial.out.items ++ flat_map half_bytes (take l.half-index l.halves)
