use Rattle.std.proofs.Common.{◌≡◌, ◌≤◌, ◌*◌, ◌-◌, take}
use Rattle.std.specs.List.{sum_by}
use Rattle.elf32_read.specs.Symbols.{symbol_count}
use Rattle.psabi_sym.proofs.symbols.count_of.Given as goal

abbrev pub invariant-loop-object : goal.invariant-loop-object
invariant-loop-object l = record {
  sum : l.count ≡ sum_by (λ file. symbol_count file - 1) (take l.object-index l.objects);
  few : l.count ≤ 0x4_0000 * l.object-index;
}
