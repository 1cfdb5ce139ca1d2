-- The symbols of a pass's result are those of the given objects, one by one.
use Rattle.std.proofs.Common.{◌≡◌, ℕ, suc, ◌+◌, List, [], ◌∷◌, drop, refl, sym, ap, ◌∙◌, arith, map, true, eqb, Some, slice_get, subst}
use Rattle.std.specs.Prelude.{All}
use Rattle.std.specs.List.{AllZip, enumerate_from, flat_map}
use Rattle.std.proofs.lemmas.List.Elements.{All-head, All-tail}
use Rattle.elf32_read.specs.Parts.{ObjectParts, SymbolParts}
use Rattle.psabi_sym.specs.Indexed.{IndexedSymbol, all_symbols, symbols_in}
use Rattle.moved_runs.specs.Passes.{ArePassesFrom, IsHomed, IsOrderly, IsPassOf, KeepsSymbol, Pass}
use Rattle.moved_runs.proofs.PassZips.{zip-append}

-- a listed symbol of the given objects, and of the result
pub record IsPassedSymbol (pass : Pass) (objects : List ObjectParts) (l m : IndexedSymbol) : Type 0 where
  pub object : m.object ≡ l.object
  pub index : m.index ≡ l.index
  pub given : ObjectParts
  pub given_is : slice_get objects l.object ≡ Some given
  pub orderly : IsOrderly given
  pub homed : IsHomed given l.symbol
  pub symbol : m.symbol ≡ pass.symbol l.object given l.symbol

module _ (pass : Pass) (objects : List ObjectParts) where
  abbrev listed_as : ℕ → ℕ × SymbolParts → IndexedSymbol
  listed_as n e = record { object = n; index = e.0; symbol = e.1 }

  pub symbol-kept : (l m : IndexedSymbol) → IsPassedSymbol pass objects l m → KeepsSymbol l.symbol m.symbol
  symbol-kept l m c = subst (KeepsSymbol l.symbol) (sym c.symbol) (pass.keeps_symbols l.object c.given l.symbol c.orderly)

  pub common-same : (l m : IndexedSymbol) → IsPassedSymbol pass objects l m → eqb l.symbol.home 0xFFF2 ≡ true → m ≡ l
  common-same l m c common =
      let whole = (symbol-kept l m c).whole common in
      λ i. record { object = c.object i; index = c.index i; symbol = whole i }

  passed-symbols : (n j : ℕ) (g : ObjectParts) → slice_get objects n ≡ Some g → IsOrderly g → (ss : List SymbolParts) → All (IsHomed g) ss
      → AllZip (IsPassedSymbol pass objects) (map (listed_as n) (enumerate_from j ss)) (map (listed_as n) (enumerate_from j (map (pass.symbol n g) ss)))
  passed-symbols n j g at orderly [] homed = tt
  passed-symbols n j g at orderly (s ∷ ss) homed = (
    record { object = refl; index = refl; given = g; given_is = at; orderly = orderly; homed = All-head (IsHomed g) s ss homed; symbol = refl },
    passed-symbols n (j + 1) g at orderly ss (All-tail (IsHomed g) s ss homed),
  )

  numbered : (s : SymbolParts) (ss : List SymbolParts) → drop 1 (enumerate_from 0 (s ∷ ss)) ≡ enumerate_from 1 ss
  numbered s ss = refl

  symbols-passed : (n : ℕ) (g r : ObjectParts) → slice_get objects n ≡ Some g → IsPassOf pass n g r → AllZip (IsPassedSymbol pass objects) (symbols_in (n, g)) (symbols_in (n, r))
  symbols-passed n g r at c =
      subst (λ ss. AllZip (IsPassedSymbol pass objects) (map (listed_as n) (drop 1 (enumerate_from 0 g.symbols))) (map (listed_as n) (drop 1 (enumerate_from 0 ss)))) (sym c.symbols)
      (by g.symbols c.orderly.homes)
    where
      by : (ss : List SymbolParts) → All (IsHomed g) (drop 1 ss) → AllZip (IsPassedSymbol pass objects) (map (listed_as n) (drop 1 (enumerate_from 0 ss))) (map (listed_as n) (enumerate_from 1 (map (pass.symbol n g) (drop 1 ss))))
      by [] homed = tt
      by (s ∷ ss) homed = passed-symbols n 1 g at c.orderly ss homed

  all-passed : (n : ℕ) (gs rs : List ObjectParts) → ((k : ℕ) → slice_get objects (n + k) ≡ slice_get gs k) → ArePassesFrom pass n gs rs
      → AllZip (IsPassedSymbol pass objects) (flat_map symbols_in (enumerate_from n gs)) (flat_map symbols_in (enumerate_from n rs))
  all-passed n [] [] at clean = tt
  all-passed n [] (r ∷ rs) at clean = absurd clean
  all-passed n (g ∷ gs) [] at clean = absurd clean
  all-passed n (g ∷ gs) (r ∷ rs) at clean =
      let none : n ≡ n + 0 = omega arith in
      zip-append (IsPassedSymbol pass objects) (symbols_in (n, g)) (flat_map symbols_in (enumerate_from (n + 1) gs)) (symbols_in (n, r)) (flat_map symbols_in (enumerate_from (n + 1) rs))
      (symbols-passed n g r (ap (slice_get objects) none ∙ at 0) clean.0)
      (all-passed (n + 1) gs rs (λ k. let next : n + 1 + k ≡ n + suc k = omega arith in ap (slice_get objects) next ∙ at (suc k)) clean.1)

  pub symbols-all : (rs : List ObjectParts) → ArePassesFrom pass 0 objects rs → AllZip (IsPassedSymbol pass objects) (all_symbols objects) (all_symbols rs)
  unfolding all_symbols
  symbols-all rs clean = all-passed 0 objects rs (λ k. let none : 0 + k ≡ k = omega arith in ap (slice_get objects) none) clean
