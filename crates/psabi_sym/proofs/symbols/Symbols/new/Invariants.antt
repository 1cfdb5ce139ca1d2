use Rattle.std.proofs.Common.{◌≡◌, ◌≤◌, ◌*◌, length, map, take, vec_len}
use Rattle.std.specs.List.{range_with_len}
use Rattle.elf32_read.specs.Parts.{object_parts}
use Rattle.psabi_sym.specs.Invariants.Keys.{AreNames, names_of}
use Rattle.psabi_sym.specs.Indexed.{all_symbols}
use Rattle.psabi_sym.specs.Invariants.Numbered.{IsNumbered}
use Rattle.psabi_sym.specs.Invariants.Rows.{symbol_starts}
use Rattle.psabi_sym.proofs.symbols.Symbols.new.Given as goal

abbrev pub invariant-loop-i : goal.invariant-loop-i
invariant-loop-i l = let all = map object_parts l.objects in record {
  are : AreNames l.names;
  room : length l.names.tails.texts.items ≤ 0x40_0000 * l.i;
  rows : IsNumbered (names_of l.names) (all_symbols (take l.i all)) l.rows.items;
  starts : l.starts.items ≡ map (symbol_starts all) (range_with_len 0 l.i);
  few : vec_len l.rows ≤ 0x4_0000 * l.i;
}
