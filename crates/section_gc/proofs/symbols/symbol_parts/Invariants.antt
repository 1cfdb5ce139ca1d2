use Rattle.std.proofs.Common.{◌≡◌, ◌-◌, ℕ, Bool, map, take, drop}
use Rattle.elf32_read.specs.Parts.{object_parts}
use Rattle.section_gc.specs.Cleaned.{cleaned_symbol}
use Rattle.section_gc.specs.Remains.{remains_in}
use Rattle.section_gc.proofs.symbols.symbol_parts.Given as goal

abbrev pub invariant-loop-i : goal.invariant-loop-i
invariant-loop-i l =
    (needed : ℕ → Bool) → l.table ≡ remains_in needed (object_parts l.object)
    → l.symbols.items ≡ map (cleaned_symbol needed (object_parts l.object)) (take (l.i - 1) (drop 1 (object_parts l.object).symbols))
