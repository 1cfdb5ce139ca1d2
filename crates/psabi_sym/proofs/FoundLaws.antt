-- Sections and symbols that were found by their places.
use Rattle.std.proofs.Common.{◌≡◌, ℕ, ◌+◌, ◌≤◌, List, [], length, get_or, map, refl, sym, ap, ◌∙◌, arith, false, Option, Some, None, slice_get, inl, inr}
use Rattle.std.specs.List.{range_with_len}
use Rattle.std.specs.Option.{option_and_then}
use Rattle.std.proofs.lemmas.Option.{slice_get-get_or, slice_get_past}
use Rattle.elf32_read.specs.Parts.{ObjectParts, SectionParts, SymbolParts}
use Rattle.psabi_sym.specs.Indexed.{section_at, sections_in, symbol_at, symbols_in}
use Rattle.psabi_sym.specs.Places.{place_in}
use Rattle.psabi_sym.specs.Invariants.Rows.{section_starts, symbol_starts}
use Rattle.psabi_sym.proofs.PartLaws.{length-sections_in, length-symbols_in}
use Rattle.psabi_sym.proofs.PlaceLaws.{place_cases, section_starts_are, symbol_starts_are}

-- a section at a place
pub record IsFoundSection (objects : List ObjectParts) (o i k : ℕ) : Type 0 where
  pub object : ObjectParts
  pub section : SectionParts
  pub at : slice_get objects o ≡ Some object
  pub is : slice_get object.sections i ≡ Some section
  pub place : k ≡ section_starts objects o + i
  pub found : section_at objects o i ≡ Some section

-- a symbol at a place
pub record IsFoundSymbol (objects : List ObjectParts) (o s k : ℕ) : Type 0 where
  pub object : ObjectParts
  pub symbol : SymbolParts
  pub at : slice_get objects o ≡ Some object
  pub is : slice_get object.symbols (s + 1) ≡ Some symbol
  pub place : k ≡ symbol_starts objects o + s
  pub found : symbol_at objects o (s + 1) ≡ Some symbol

no_section : SectionParts
no_section = record { name = []; kind = 0; flags = 0; align = 0; size = 0; bytes = []; relocs = []; compressed = false }

no_symbol : SymbolParts
no_symbol = record { name = []; value = 0; size = 0; bind = 0; kind = 0; home = 0 }

module _ (objects : List ObjectParts) (starts : List ℕ) (o i : ℕ) where
  -- none is there, if there is no place
  pub section_none : starts ≡ map (section_starts objects) (range_with_len 0 (length objects + 1)) → place_in starts o i ≡ None → section_at objects o i ≡ None
  section_none begin none =
      elim (place_cases sections_in objects starts o i (begin ∙ ap (λ f. map f (range_with_len 0 (length objects + 1))) (section_starts_are objects))) [
        | inl there ↦ absurd (cc (none, there.3))
        | inr past ↦ by (slice_get objects o) refl past.0
      ]
    where
      by : (found : Option ObjectParts) → slice_get objects o ≡ found → ((object : ObjectParts) → slice_get objects o ≡ Some object → length (sections_in (o, object)) ≤ i)
          → option_and_then (λ object. slice_get object.sections i) (slice_get objects o) ≡ None
      by None is past = ap (option_and_then (λ (object : ObjectParts). slice_get object.sections i)) is
      by (Some object) is past =
          ap (option_and_then (λ (object : ObjectParts). slice_get object.sections i)) is
          ∙ slice_get_past object.sections i (omega (arith, past object is, length-sections_in o object))

  -- the section at a place
  pub section_found : (k : ℕ) → starts ≡ map (section_starts objects) (range_with_len 0 (length objects + 1)) → place_in starts o i ≡ Some k → IsFoundSection objects o i k
  section_found k begin some =
      elim (place_cases sections_in objects starts o i (begin ∙ ap (λ f. map f (range_with_len 0 (length objects + 1))) (section_starts_are objects))) [
        | inl there ↦
            let object = there.0 in
            let is : slice_get object.sections i ≡ Some (get_or object.sections i no_section) =
            slice_get-get_or object.sections i no_section (omega (arith, there.2, length-sections_in o object)) in
            let place : k ≡ section_starts objects o + i = same_number (sym some ∙ there.3) ∙ ap (λ f. f o + i) (sym (section_starts_are objects)) in
            record {
              object = object;
              section = get_or object.sections i no_section;
              at = there.1;
              is = is;
              place = place;
              found = ap (option_and_then (λ (x : ObjectParts). slice_get x.sections i)) there.1 ∙ is;
            }
        | inr past ↦ absurd (cc (some, past.1))
      ]
    where
      same_number : {a b : ℕ} → Some a ≡ Some b → a ≡ b
      same_number h = cc

  -- where no place is found there is no symbol; the places of an object's symbols begin with that of symbol 1
  pub symbol_none : starts ≡ map (symbol_starts objects) (range_with_len 0 (length objects + 1)) → place_in starts o i ≡ None → symbol_at objects o (i + 1) ≡ None
  symbol_none begin none =
      elim (place_cases symbols_in objects starts o i (begin ∙ ap (λ f. map f (range_with_len 0 (length objects + 1))) (symbol_starts_are objects))) [
        | inl there ↦ absurd (cc (none, there.3))
        | inr past ↦ by (slice_get objects o) refl past.0
      ]
    where
      by : (found : Option ObjectParts) → slice_get objects o ≡ found → ((object : ObjectParts) → slice_get objects o ≡ Some object → length (symbols_in (o, object)) ≤ i)
          → option_and_then (λ object. slice_get object.symbols (i + 1)) (slice_get objects o) ≡ None
      by None is past = ap (option_and_then (λ (object : ObjectParts). slice_get object.symbols (i + 1))) is
      by (Some object) is past =
          ap (option_and_then (λ (object : ObjectParts). slice_get object.symbols (i + 1))) is
          ∙ slice_get_past object.symbols (i + 1) (omega (arith, past object is, length-symbols_in o object))

  pub symbol_found : (k : ℕ) → starts ≡ map (symbol_starts objects) (range_with_len 0 (length objects + 1)) → place_in starts o i ≡ Some k → IsFoundSymbol objects o i k
  symbol_found k begin some =
      elim (place_cases symbols_in objects starts o i (begin ∙ ap (λ f. map f (range_with_len 0 (length objects + 1))) (symbol_starts_are objects))) [
        | inl there ↦
            let object = there.0 in
            let is : slice_get object.symbols (i + 1) ≡ Some (get_or object.symbols (i + 1) no_symbol) =
            slice_get-get_or object.symbols (i + 1) no_symbol (omega (arith, there.2, length-symbols_in o object)) in
            let place : k ≡ symbol_starts objects o + i = same_number (sym some ∙ there.3) ∙ ap (λ f. f o + i) (sym (symbol_starts_are objects)) in
            record {
              object = object;
              symbol = get_or object.symbols (i + 1) no_symbol;
              at = there.1;
              is = is;
              place = place;
              found = ap (option_and_then (λ (x : ObjectParts). slice_get x.symbols (i + 1))) there.1 ∙ is;
            }
        | inr past ↦ absurd (cc (some, past.1))
      ]
    where
      same_number : {a b : ℕ} → Some a ≡ Some b → a ≡ b
      same_number h = cc
