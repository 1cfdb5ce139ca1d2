use Rattle.std.proofs.Common.{◌≡◌, ◌++◌, ◌+◌, ◌-◌, ◌≤◌, List, take, length, vec_len, max}
use Rattle.elf32_read.specs.Parts.{object_parts}
use Rattle.psabi_sym.specs.Invariants.Keys.{AreLongEnds, AreNames, names_of}
use Rattle.psabi_sym.specs.Indexed.{IndexedSymbol, symbols_in}
use Rattle.psabi_sym.specs.Invariants.Numbered.{IsNumbered}
use Rattle.psabi_sym.proofs.read_symbols.add_symbols.Given as goal

abbrev pub invariant-loop-i : goal.invariant-loop-i
invariant-loop-i l = record {
  are : AreNames l.names;
  room : length l.names.tails.texts.items ≤ length l.fn.names.tails.texts.items + 0x40_0000;
  ends : AreLongEnds l.names.tails.texts.items l.table l.ends.items;
  numbered : (listed : List IndexedSymbol) → IsNumbered (names_of l.fn.names) listed l.fn.rows.items
      → IsNumbered (names_of l.names) (listed ++ take (l.i - 1) (symbols_in (l.fn.object.index, object_parts l.fn.object.loaded.now))) l.rows.items;
  within : l.i ≤ max 1 l.i-end;
  few : length (names_of l.names) ≤ length (names_of l.fn.names) + (l.i - 1);
  rows : vec_len l.rows ≡ vec_len l.fn.rows + (l.i - 1);
}
