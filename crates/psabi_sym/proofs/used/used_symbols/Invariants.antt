use Rattle.std.proofs.Common.{◌≡◌, map, take}
use Rattle.elf32_read.specs.Parts.{object_parts}
use Rattle.psabi_sym.specs.Faults.{is_used}
use Rattle.psabi_sym.specs.Indexed.{all_symbols}
use Rattle.psabi_sym.proofs.used.used_symbols.Given as goal

abbrev pub invariant-loop-object : goal.invariant-loop-object
invariant-loop-object l =
    let all = map object_parts l.objects in l.used.items ≡ map (is_used all) (all_symbols (take l.object-index all))
