-- The names before the one at hand have what they are, and the others their weak definitions.
use Rattle.std.proofs.Common.{◌≡◌, ◌<◌, ◌≤◌, ℕ, List, Option, length, get_or, map}
use Rattle.psabi_sym.specs.Invariants.Meanings.{meaning_at, row_meaning}
use Rattle.psabi_sym.specs.declared.meaning.Meaning.TheVariants.{Nothing}
use Rattle.psabi_sym.specs.declared.symbol_row.SymbolRow.{SymbolRow}
use Rattle.psabi_sym.proofs.meaning.meanings.Given as goal

abbrev pub invariant-loop-k : goal.invariant-loop-k
invariant-loop-k l = record {
  count : length l.meanings.items ≡ length l.names;
  done : (found : List (Option SymbolRow)) → l.fn.weak.items ≡ map row_meaning found → (j : ℕ) → j < l.k
      → get_or l.meanings.items j Nothing ≡ meaning_at (map (λ name. name.now) l.names) l.tables.strong.now l.tables.commons.now found l.numbers j;
  left : (j : ℕ) → l.k ≤ j → get_or l.meanings.items j Nothing ≡ get_or l.fn.weak.items j Nothing;
}
