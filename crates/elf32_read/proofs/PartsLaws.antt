-- The parts of an object, by their index.
use Rattle.std.proofs.Common.{◌≡◌, ℕ, ◌<◌, List, length, Some, ap, ◌∙◌}
use Rattle.std.specs.Prelude.{slice_get, option_map}
use Rattle.std.proofs.lemmas.List.{length-map}
use Rattle.std.proofs.lemmas.List.FromFn.{length-map-range_with_len}
use Rattle.std.proofs.lemmas.Option.{slice_get-map}
use Rattle.elf32_read.specs.Header.{section_count}
use Rattle.elf32_read.specs.Parts.{object_parts, section_parts, symbol_parts}
use Rattle.elf32_read.specs.Symbols.{symbol_count, symbol_entries, symbol_entry_of}
use Rattle.elf32_read.proofs.Listed.{slice_get-listed}

module _ (bytes : List ℕ) where
  pub length-sections : length (object_parts bytes).sections ≡ section_count bytes
  unfolding object_parts
  length-sections = length-map-range_with_len (section_parts bytes) 0 (section_count bytes)

  pub section_at : (i : ℕ) → i < section_count bytes → slice_get (object_parts bytes).sections i ≡ Some (section_parts bytes i)
  unfolding object_parts
  section_at i lt = slice_get-listed (section_parts bytes) (section_count bytes) i lt

  pub length-symbols : length (object_parts bytes).symbols ≡ symbol_count bytes
  unfolding object_parts
  length-symbols =
      length-map (symbol_entries bytes) (symbol_parts bytes) ∙ length-map-range_with_len (symbol_entry_of bytes) 0 (symbol_count bytes)

  pub symbol_at : (k : ℕ) → k < symbol_count bytes → slice_get (object_parts bytes).symbols k ≡ Some (symbol_parts bytes (symbol_entry_of bytes k))
  unfolding object_parts
  symbol_at k lt =
      slice_get-map (symbol_parts bytes) (symbol_entries bytes) k
      ∙ ap (option_map (symbol_parts bytes)) (slice_get-listed (symbol_entry_of bytes) (symbol_count bytes) k lt)
