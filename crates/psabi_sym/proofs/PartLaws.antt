-- What an object's parts have at an index.
use Rattle.std.proofs.Common.{◌≡◌, ℕ, ◌+◌, ◌-◌, ◌/◌, ◌<◌, List, length, get_or, drop, ap, ◌∙◌, arith, Some, slice_get}
use Rattle.std.specs.List.{enumerate_from}
use Rattle.std.proofs.lemmas.List.{get_or-map, length-map, get_or-drop, length-drop}
use Rattle.std.proofs.lemmas.List.FromFn.{get_or-enumerate_from, get_or-map-range_with_len, length-enumerate_from, length-map-range_with_len}
use Rattle.std.proofs.lemmas.Option.{slice_get-get_or}
use Rattle.elf32_read.specs.Header.{section_count}
use Rattle.elf32_read.specs.Parts.{ObjectParts, SectionParts, SymbolParts, object_parts, section_parts, symbol_parts}
use Rattle.elf32_read.specs.Symbols.{symbol_content, symbol_count, symbol_entries, symbol_entry_at, symbol_entry_of}
use Rattle.psabi_sym.specs.Indexed.{IndexedSection, IndexedSymbol, sections_in, symbols_in}

module _ (file : List ℕ) where
  pub section_count_is : length (object_parts file).sections ≡ section_count file
  unfolding object_parts
  section_count_is = length-map-range_with_len (section_parts file) 0 (section_count file)

  pub section_is : (i : ℕ) (d : SectionParts) → i < section_count file → get_or (object_parts file).sections i d ≡ section_parts file i
  unfolding object_parts
  section_is i d within = get_or-map-range_with_len (section_parts file) 0 (section_count file) i i d within (omega arith)

  pub symbol_count_is : length (object_parts file).symbols ≡ symbol_count file
  unfolding object_parts
  symbol_count_is =
      length-map (symbol_entries file) (symbol_parts file) ∙ length-map-range_with_len (symbol_entry_at (symbol_content file)) 0 (length (symbol_content file) / 16)

  pub symbol_is : (i : ℕ) (d : SymbolParts) → i < symbol_count file → get_or (object_parts file).symbols i d ≡ symbol_parts file (symbol_entry_of file i)
  unfolding object_parts
  symbol_is i d within =
      let all = symbol_entry_at (symbol_content file) in
      let long : length (symbol_entries file) ≡ symbol_count file = length-map-range_with_len all 0 (length (symbol_content file) / 16) in
      get_or-map (symbol_parts file) (symbol_entries file) i (all 0) d (omega (arith, within, long))
      ∙ ap (symbol_parts file) (get_or-map-range_with_len all 0 (length (symbol_content file) / 16) i i (all 0) within (omega arith))

  pub section_got : (i : ℕ) → i < section_count file → slice_get (object_parts file).sections i ≡ Some (section_parts file i)
  section_got i within =
      slice_get-get_or (object_parts file).sections i (section_parts file i) (omega (arith, within, section_count_is))
      ∙ ap Some (section_is i (section_parts file i) within)

  pub symbol_got : (i : ℕ) → i < symbol_count file → slice_get (object_parts file).symbols i ≡ Some (symbol_parts file (symbol_entry_of file i))
  symbol_got i within =
      slice_get-get_or (object_parts file).symbols i (symbol_parts file (symbol_entry_of file i)) (omega (arith, within, symbol_count_is))
      ∙ ap Some (symbol_is i (symbol_parts file (symbol_entry_of file i)) within)

module _ (o : ℕ) (object : ObjectParts) where
  pub length-sections_in : length (sections_in (o, object)) ≡ length object.sections
  length-sections_in = length-map (enumerate_from 0 object.sections) _ ∙ length-enumerate_from 0 object.sections

  pub length-symbols_in : length (symbols_in (o, object)) ≡ length object.symbols - 1
  length-symbols_in = length-map (drop 1 (enumerate_from 0 object.symbols)) _ ∙ length-drop 1 (enumerate_from 0 object.symbols) ∙ ap (λ n. n - 1) (length-enumerate_from 0 object.symbols)

  pub section_listed : (i : ℕ) (d : SectionParts) (e : IndexedSection) → i < length object.sections
      → get_or (sections_in (o, object)) i e ≡ record { object = o; index = i; section = get_or object.sections i d }
  section_listed i d e within =
      let f : ℕ × SectionParts → IndexedSection = λ s. record { object = o; index = s.0; section = s.1 } in
      get_or-map f (enumerate_from 0 object.sections) i (0, d) e (omega (arith, within, length-enumerate_from 0 object.sections))
      ∙ ap f (get_or-enumerate_from 0 object.sections i (0, d) within)
      ∙ ap (λ n. record { object = o; index = n; section = get_or object.sections i d }) (omega arith)

  pub symbol_listed : (i : ℕ) (d : SymbolParts) (e : IndexedSymbol) → i + 1 < length object.symbols
      → get_or (symbols_in (o, object)) i e ≡ record { object = o; index = i + 1; symbol = get_or object.symbols (i + 1) d }
  symbol_listed i d e within =
      let f : ℕ × SymbolParts → IndexedSymbol = λ s. record { object = o; index = s.0; symbol = s.1 } in
      let all = enumerate_from 0 object.symbols in
      get_or-map f (drop 1 all) i (0, d) e (omega (arith, within, length-drop 1 all, length-enumerate_from 0 object.symbols))
      ∙ ap f (get_or-drop 1 all i (0, d) ∙ ap (λ n. get_or all n (0, d)) (omega arith) ∙ get_or-enumerate_from 0 object.symbols (i + 1) (0, d) within)
      ∙ ap (λ n. record { object = o; index = n; symbol = get_or object.symbols (i + 1) d }) (omega arith)
