-- What holds of each section and symbol by its place holds of all in order, and the other way round.
use Rattle.std.proofs.Common.{◌≡◌, ℕ, zero, suc, ◌+◌, List, [], ◌∷◌, map, drop, Option, Some, None, slice_get, refl, sym, ap, subst, ◌∙◌, arith}
use Rattle.std.specs.Prelude.{All}
use Rattle.std.specs.List.{enumerate_from, flat_map}
use Rattle.std.specs.Option.{option_and_then}
use Rattle.std.proofs.lemmas.List.Elements.{All-append, All-cons, All-get_or, All-nil}
use Rattle.elf32_read.specs.Parts.{ObjectParts, SymbolParts}
use Rattle.psabi_sym.specs.Indexed.{IndexedSection, IndexedSymbol, all_sections, all_symbols, symbol_at, symbols_in}
use Rattle.psabi_sym.specs.Invariants.Rows.{symbol_starts}
use Rattle.psabi_sym.proofs.PlaceLaws.{symbol_there}
use Rattle.psabi_sym.proofs.SectionNumbers.{listed_at, number_of_section}
use Rattle.sound_objects.specs.WellFormed.{HasSection, HasSymbol}
use Rattle.sound_objects.proofs.ListLaws.{all_at, from_each}

module _ (objects : List ObjectParts) (P : IndexedSection → Type 0) where
  pub all_by_section : ((l : IndexedSection) → HasSection objects l → P l) → All P (all_sections objects)
  all_by_section each = from_each P (all_sections objects) (λ k l at. each l (listed_at objects k l at))

  pub section_by_all : All P (all_sections objects) → (l : IndexedSection) → HasSection objects l → P l
  section_by_all all l has =
      let there = number_of_section objects l.object l.index l.section has in
      all_at P (all_sections objects) there.0 l all there.1

-- a symbol with its object's index and its own
abbrev pub indexed : ℕ → ℕ → SymbolParts → IndexedSymbol
indexed o i s = record { object = o; index = i; symbol = s }

module _ (objects : List ObjectParts) (P : IndexedSymbol → Type 0) where
  module _ (each : (l : IndexedSymbol) → HasSymbol objects l → P l) where
    of_symbols : (o n : ℕ) (ss : List SymbolParts) → ((i : ℕ) (s : SymbolParts) → slice_get ss i ≡ Some s → symbol_at objects o (suc n + i) ≡ Some s)
        → All P (map (λ s. indexed o s.0 s.1) (enumerate_from (suc n) ss))
    of_symbols o n [] at = All-nil P
    of_symbols o n (s ∷ ss) at =
        let next : suc n + 1 ≡ suc (suc n) = omega arith in
        All-cons P (indexed o (suc n) s) (map (λ s. indexed o s.0 s.1) (enumerate_from (suc n + 1) ss))
        (each (indexed o (suc n) s) (record { some = omega arith; there = ap (symbol_at objects o) (omega arith) ∙ at 0 s refl }))
        (subst (λ m. All P (map (λ s. indexed o s.0 s.1) (enumerate_from m ss))) (sym next)
        (of_symbols o (suc n) ss (λ i t is. ap (symbol_at objects o) (omega arith) ∙ at (suc i) t is)))

    of_object : (o : ℕ) (object : ObjectParts) → slice_get objects o ≡ Some object → All P (symbols_in (o, object))
    of_object o object at = by object.symbols refl
      where
        by : (ss : List SymbolParts) → object.symbols ≡ ss → All P (map (λ s. indexed o s.0 s.1) (drop 1 (enumerate_from 0 ss)))
        by [] are = All-nil P
        by (s ∷ ss) are = of_symbols o 0 ss (λ i t is.
            let later : 1 + i ≡ suc i = omega arith in
            ap (option_and_then (λ (x : ObjectParts). slice_get x.symbols (1 + i))) at ∙ ap (λ (l : List SymbolParts). slice_get l (1 + i)) are
            ∙ ap (slice_get (s ∷ ss)) later ∙ is)

    of_objects : (n : ℕ) (os : List ObjectParts) → ((i : ℕ) (o : ObjectParts) → slice_get os i ≡ Some o → slice_get objects (n + i) ≡ Some o)
        → All P (flat_map symbols_in (enumerate_from n os))
    of_objects n [] at = All-nil P
    of_objects n (o ∷ os) at =
        All-append P (symbols_in (n, o)) (flat_map symbols_in (enumerate_from (n + 1) os))
        (of_object n o (ap (slice_get objects) (omega arith) ∙ at 0 o refl))
        (of_objects (n + 1) os (λ i t is. ap (slice_get objects) (omega arith) ∙ at (suc i) t is))

    pub all_by_symbol : All P (all_symbols objects)
    unfolding all_symbols
    all_by_symbol = of_objects 0 objects (λ i o is. ap (slice_get objects) (omega arith) ∙ is)

  pub symbol_by_all : All P (all_symbols objects) → (l : IndexedSymbol) → HasSymbol objects l → P l
  symbol_by_all all l has = by l.index refl (slice_get objects l.object) refl
    where
      by : (i : ℕ) → l.index ≡ i → (o : Option ObjectParts) → slice_get objects l.object ≡ o → P l
      by zero first o at = absurd (omega (arith, has.some, first))
      by (suc s) index None at = absurd (cc (has.there, ap (option_and_then (λ (x : ObjectParts). slice_get x.symbols l.index)) at))
      by (suc s) index (Some object) at =
          let here : slice_get object.symbols l.index ≡ Some l.symbol = ap (option_and_then (λ (x : ObjectParts). slice_get x.symbols l.index)) (sym at) ∙ has.there in
          let own : l.index ≡ s + 1 = index ∙ omega arith in
          let there = symbol_there objects l.object s object l.symbol l at (ap (slice_get object.symbols) (sym own) ∙ here) in
          subst P (there.1 ∙ (λ j. indexed l.object (sym own j) l.symbol)) (All-get_or P (all_symbols objects) (symbol_starts objects l.object + s) l there.0 all)
