-- Objects without a fault are orderly.
use Rattle.std.proofs.Common.{◌≡◌, ℕ, suc, ◌<◌, ◌≤◌, ◌⊎◌, inl, inr, List, [], ◌∷◌, length, drop, refl, sym, ◌∙◌, arith, Bool, true, false, eqb, None, subst}
use Rattle.std.specs.Prelude.{◌&&◌, All}
use Rattle.std.proofs.lemmas.Bool.{eqb-true, eqb-false, ltb-false}
use Rattle.std.proofs.lemmas.List.Elements.{All-from_get_or, All-nil}
use Rattle.std.proofs.lemmas.Option.{get_or_from_slice_get}
use Rattle.elf32_read.specs.Header.{section_count}
use Rattle.elf32_read.specs.Object.{object_fault}
use Rattle.elf32_read.specs.Parts.{SymbolParts, object_parts, symbol_parts}
use Rattle.elf32_read.specs.Symbols.{symbol_count, symbol_entry_of}
use Rattle.elf32_read.proofs.Faultless.{IsSymbolOf, no_fault, other_symbol}
use Rattle.elf32_read.proofs.PartsLaws.{length-sections, length-symbols, symbol_at}
use Rattle.moved_runs.specs.Passes.{IsHomed, IsOrderly}
use Rattle.object_passes.proofs.ListLaws.{length-second, second}

module _ (file : List ℕ) (fine : object_fault file ≡ None) where
  homed : (k : ℕ) → 1 ≤ k → k < symbol_count file → IsHomed (object_parts file) (symbol_parts file (symbol_entry_of file k))
  homed k some lt = record { home = home (eqb (symbol_entry_of file k).home 0xFFF1) (eqb (symbol_entry_of file k).home 0xFFF2) refl refl; somewhere = somewhere (eqb (symbol_entry_of file k).bind 0) (eqb (symbol_entry_of file k).home 0) refl refl }
    where
      good : IsSymbolOf file fine (symbol_entry_of file k)
      good = other_symbol file fine k some lt

      home : (a b : Bool) → eqb (symbol_entry_of file k).home 0xFFF1 ≡ a → eqb (symbol_entry_of file k).home 0xFFF2 ≡ b → ((symbol_entry_of file k).home < length (object_parts file).sections) ⊎ (((symbol_entry_of file k).home ≡ 0xFFF1) ⊎ ((symbol_entry_of file k).home ≡ 0xFFF2))
      home true b is also = inr (inl (eqb-true (symbol_entry_of file k).home 0xFFF1 is))
      home false true is also = inr (inr (eqb-true (symbol_entry_of file k).home 0xFFF2 also))
      home false false is also = inl (omega (arith, good.home (eqb-false (symbol_entry_of file k).home 0xFFF1 is) (eqb-false (symbol_entry_of file k).home 0xFFF2 also), length-sections file))

      somewhere : (a b : Bool) → eqb (symbol_entry_of file k).bind 0 ≡ a → eqb (symbol_entry_of file k).home 0 ≡ b → (a && b) ≡ false
      somewhere true true local none = absurd (good.defined (eqb-true (symbol_entry_of file k).bind 0 local) (eqb-true (symbol_entry_of file k).home 0 none))
      somewhere true false local none = refl
      somewhere false b local none = refl

  homes : All (IsHomed (object_parts file)) (drop 1 (object_parts file).symbols)
  homes = by (drop 1 (object_parts file).symbols) refl
    where
      by : (rest : List SymbolParts) → drop 1 (object_parts file).symbols ≡ rest → All (IsHomed (object_parts file)) (drop 1 (object_parts file).symbols)
      by [] is = subst (All (IsHomed (object_parts file))) (sym is) (All-nil (IsHomed (object_parts file)))
      by (d ∷ rest) is =
          All-from_get_or (IsHomed (object_parts file)) (drop 1 (object_parts file).symbols) d
          (λ k lt.
          let inside = length-second (object_parts file).symbols k lt in
          let within : suc k < symbol_count file = omega (arith, inside, length-symbols file) in
          let here = sym (second (object_parts file).symbols k) ∙ symbol_at file (suc k) within in
          subst (IsHomed (object_parts file)) (sym (get_or_from_slice_get (drop 1 (object_parts file).symbols) k (symbol_parts file (symbol_entry_of file (suc k))) d here)) (homed (suc k) (omega arith) within))

  pub orderly : IsOrderly (object_parts file)
  orderly = record {
    few = omega (arith, ltb-false 4096 (section_count file) (no_fault file fine).few, length-sections file);
    homes = homes;
  }
