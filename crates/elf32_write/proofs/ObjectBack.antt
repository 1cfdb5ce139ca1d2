-- An object reads back. From the section headers, which show the sections that they were made of, what is read of each section
-- and symbol computes, and is what was given.
use Rattle.std.proofs.Common.{◌≡◌, ℕ, zero, suc, ◌+◌, ◌-◌, ◌^◌, ◌<◌, ◌≤◌, List, [], ◌∷◌, ◌++◌, length, get_or, map, Bool, true, false, refl, sym, ap, ◌∙◌, arith, inl, inr, subst, length-append, if◌then◌else◌}
use Rattle.std.specs.Prelude.{All, nat_eq}
use Rattle.std.specs.List.{AllZip, flat_map, list_any}
use Rattle.std.proofs.lemmas.Bool.{ltb-false, cases_lt, or_from}
use Rattle.std.proofs.lemmas.List.{get_or-append_right, get_or-map, get_or_append_left, length-map}
use Rattle.std.proofs.lemmas.List.Elements.{All-map, All-weaker}
use Rattle.std.proofs.lemmas.List.Folds.{list_any_none}
use Rattle.std.proofs.lemmas.List.FromFn.{fill_by_all, length-map-range_with_len}
use Rattle.elf32_read.specs.Compressed.{has_rvc}
use Rattle.elf32_read.specs.Header.{file_flags, header_of, headers_of, section_count}
use Rattle.elf32_read.specs.Kept.{is_kept}
use Rattle.elf32_read.specs.Names.{name_at}
use Rattle.elf32_read.specs.Object.{lacks_symbol_names}
use Rattle.elf32_read.specs.Parts.{ObjectParts, SectionParts, is_kept_section, object_parts, relocs_held, relocs_of, section_parts, symbol_parts}
use Rattle.elf32_read.specs.Relocs.{relas_for}
use Rattle.elf32_read.specs.Symbols.{entries_in, symbol_count, symbol_entries as entries_of, symbol_names as symbol_names_in, symbol_tables}
use Rattle.elf32_read.specs.declared.reloc.Reloc.{Reloc}
use Rattle.elf32_read.proofs.Faultless.{linked as linked_sections}
use Rattle.elf32_write.specs.NameTable.{name_table}
use Rattle.elf32_write.specs.EachAfter.{each_after}
use Rattle.elf32_write.specs.Entries.{HasInfo, null_symbol, strtab_names, written_entries, written_entry}
use Rattle.elf32_write.specs.FileSections.{FileSection, added_sections, given_section}
use Rattle.elf32_write.specs.ObjectFile.{headers_for, object_bytes, object_size, section_total}
use Rattle.elf32_write.specs.Ranges.{IsPartsSized}
use Rattle.elf32_write.specs.Writable.{IsObjectOf, is_name, in_object, IsWritable, IsWritableSection, IsWritableSymbol, added_part, added_parts, null_part, null_symbol_part}
use Rattle.elf32_write.specs.SectionTable.{with_relas}
use Rattle.elf32_write.proofs.AllSections.{added_at, added_dropped, given_at, length-added, sections_whole, sections_words, shows_at}
use Rattle.elf32_write.proofs.FileHeaderBack.{IsSmall, all_of, count_back, flags_back, listed_back}
use Rattle.elf32_write.proofs.RelocsBack.{IsReloc, relocs_of_given}
use Rattle.elf32_write.proofs.SectionsBack.{Shows, kept_back, null_shown, shows_all}
use Rattle.elf32_write.proofs.Stages.{length-file_sections, length-symbols, room_strtab_names}
use Rattle.elf32_write.proofs.SymbolsBack.{ShowsSymbol, single_table, symbol_tables_back, entries_back, links_back, symbol_content_back, symbol_names_back, symbol_read, symbol_tables_back, symbols_shown}
use Rattle.elf32_write.proofs.WritableRoom.{sized_room, writable_size}
use Rattle.elf32_write.proofs.Zipped.{zip_map}

-- parts that can be read, once they are written
pub record IsReadable (parts : ObjectParts) : Type 0 where
  pub flags : parts.flags < 2 ^ 32
  pub count : section_total parts < 2 ^ 16
  pub size : object_size parts ≤ 0x40_0000
  pub sized : IsPartsSized parts.sections parts.symbols
  pub sections : All IsWritableSection parts.sections
  pub symbols : All IsWritableSymbol parts.symbols

pub writable_readable : (parts : ObjectParts) → IsWritable parts → parts.flags < 2 ^ 32 → IsPartsSized parts.sections parts.symbols → IsReadable parts
writable_readable parts w flags sized =
    record { flags = flags; count = w.count; size = writable_size parts w; sized = sized; sections = w.sections; symbols = w.symbols }

pub readable_small : (parts : ObjectParts) → IsReadable parts → IsSmall parts
readable_small parts w = record { table = omega (arith, w.size); flags = w.flags; count = w.count }

pub readable_listed : (parts : ObjectParts) → IsReadable parts → headers_of (object_bytes parts) ≡ headers_for (all_of parts)
readable_listed parts w =
    let room = sized_room parts w.size in
    listed_back parts (readable_small parts w) room (sections_words parts room (omega (arith, w.count)) w.sized.sections_sized)

-- what is read first: the headers, the table of symbols, and their names
pub record IsBack (parts : ObjectParts) : Type 0 where
  pub readable : IsReadable parts
  pub small : IsSmall parts
  pub count : section_count (object_bytes parts) ≡ section_total parts
  pub many : length (headers_of (object_bytes parts)) ≡ section_count (object_bytes parts)
  pub listed : headers_of (object_bytes parts) ≡ headers_for (all_of parts)
  pub shown : AllZip (Shows (object_bytes parts)) (headers_of (object_bytes parts)) (null_shown ∷ all_of parts)
  pub tables : length (symbol_tables (object_bytes parts)) ≡ 1
  pub linked : list_any (lacks_symbol_names (object_bytes parts)) (symbol_tables (object_bytes parts)) ≡ false
  pub symbols : symbol_count (object_bytes parts) ≡ 1 + length parts.symbols
  pub entries : entries_of (object_bytes parts) ≡ written_entries parts.symbols
  pub shown_symbols : AllZip (ShowsSymbol (symbol_names_in (object_bytes parts))) (each_after written_entry [] parts.symbols) parts.symbols
  pub names : symbol_names_in (object_bytes parts) ≡ name_table (strtab_names parts.symbols)
  pub relocs : All (λ s. All IsReloc s.relocs) parts.sections

-- the file has one table of symbols, its own
pub back : (parts : ObjectParts) → IsReadable parts → list_any (λ s. nat_eq s.kind 2) (with_relas parts.sections) ≡ false → IsBack parts
back parts w single =
    let bytes = object_bytes parts in
    let xs = parts.sections in
    let ys = parts.symbols in
    let is = readable_listed parts w in
    let few = readable_small parts w in
    let shown : AllZip (Shows bytes) (headers_of bytes) (null_shown ∷ all_of parts) = subst (λ l. AllZip (Shows bytes) l (null_shown ∷ all_of parts)) (sym is) (shows_all parts few is (sections_whole xs ys w.sections)) in
    let content = symbol_content_back parts is single in
    let names = symbol_names_back parts few is single in
    let info = All-weaker IsWritableSymbol HasInfo (λ s h. h.info) ys w.symbols in
    let named = All-weaker IsWritableSymbol (λ s. is_name s.name ≡ true) (λ s h. h.name) ys w.symbols in
    record {
      readable = w;
      small = few;
      count = count_back parts w.count;
      many = length-map-range_with_len (header_of bytes) 0 (section_count bytes);
      listed = is;
      shown = shown;
      tables = ap length (symbol_tables_back parts is single);
      linked = ap (list_any (lacks_symbol_names bytes)) (symbol_tables_back parts is single) ∙ or_from _ _ (links_back parts few is) refl;
      symbols = omega (arith, ap length content, length-symbols ys);
      entries = ap entries_in content ∙ entries_back ys (room_strtab_names xs ys (sized_room parts w.size)) w.sized.symbols_sized info;
      shown_symbols = symbols_shown (symbol_names_in bytes) [] ys names named;
      names = names;
      relocs = λ k d lt. λ j e inside. record { sized = w.sized.relocs_sized k d lt j e inside; symbol = (w.sections k d lt).relocs j e inside };
    }

-- ---- the sections by their index

pub null_dropped : (parts : ObjectParts) → IsBack parts → is_kept (object_bytes parts) (header_of (object_bytes parts) 0) ≡ false
null_dropped parts b = let bytes = object_bytes parts in kept_back bytes (header_of bytes 0) null_shown (shows_at parts 0 (omega (arith, b.count)) b.shown b.many)

pub given_shown : (parts : ObjectParts) → IsBack parts → (j : ℕ) (d : SectionParts) → j < length parts.sections → Shows (object_bytes parts) (header_of (object_bytes parts) (suc j)) (given_section (get_or parts.sections j d))
given_shown parts b j d lt =
    let bytes = object_bytes parts in
    let inside : suc j < section_count bytes = omega (arith, b.count, length-file_sections parts.sections parts.symbols, lt) in
    subst (Shows bytes (header_of bytes (suc j))) (given_at parts.sections parts.symbols j d lt) (shows_at parts (suc j) inside b.shown b.many)

added_shown : (parts : ObjectParts) → IsBack parts → (j : ℕ) → length parts.sections ≤ j → suc j < section_count (object_bytes parts) → Shows (object_bytes parts) (header_of (object_bytes parts) (suc j)) (get_or (added_sections parts.sections parts.symbols) (j - length parts.sections) null_shown)
added_shown parts b j le inside =
    let bytes = object_bytes parts in
    subst (Shows bytes (header_of bytes (suc j))) (added_at parts.sections parts.symbols j le) (shows_at parts (suc j) inside b.shown b.many)

added_index : (parts : ObjectParts) → IsBack parts → (j : ℕ) → length parts.sections ≤ j → suc j < section_count (object_bytes parts) → j - length parts.sections < length (added_sections parts.sections parts.symbols)
added_index parts b j le inside = omega (arith, le, inside, b.count, length-added parts.sections parts.symbols)

pub dropped_at : (parts : ObjectParts) → IsBack parts → (j : ℕ) → length parts.sections ≤ j → suc j < section_count (object_bytes parts) → is_kept (object_bytes parts) (header_of (object_bytes parts) (suc j)) ≡ false
dropped_at parts b j le inside =
    let bytes = object_bytes parts in
    let s = get_or (added_sections parts.sections parts.symbols) (j - length parts.sections) null_shown in
    kept_back bytes (header_of bytes (suc j)) s (added_shown parts b j le inside)
    ∙ added_dropped parts.sections parts.symbols (j - length parts.sections) null_shown (added_index parts b j le inside)

-- ---- what is read

-- a section that is dropped has no relocations
no_relocs : (file : List ℕ) (k : ℕ) → is_kept file (header_of file k) ≡ false → relocs_of file k ≡ []
no_relocs file k dropped = ap (λ b. if b then flat_map (relocs_held file) (relas_for file k) else []) dropped

given_relocs : (parts : ObjectParts) → IsBack parts → (j : ℕ) → j < length parts.sections → relocs_of (object_bytes parts) (suc j) ≡ (get_or parts.sections j null_part).relocs
given_relocs parts b j lt =
    let bytes = object_bytes parts in
    let xs = parts.sections in
    let s = get_or xs j null_part in
    let shown = given_shown parts b j null_part lt in
    let kept = kept_back bytes (header_of bytes (suc j)) (given_section s) shown in
    let index : suc j ≡ 1 + j = omega arith in
    let there = ap (λ k. flat_map (relocs_held bytes) (relas_for bytes k)) index ∙ relocs_of_given bytes xs parts.symbols j null_part lt (b.relocs j null_part lt) b.shown in
    let held = flat_map (relocs_held bytes) (relas_for bytes (suc j)) in
    let both : (kept : Bool) → is_kept_section s ≡ kept → (if kept then held else []) ≡ s.relocs =
    λ kept. elim kept as (λ kept. is_kept_section s ≡ kept → (if kept then held else []) ≡ s.relocs) [
      | true ↦ λ h. there
      | false ↦ λ h. sym ((b.readable.sections j null_part lt).dropped h)
    ] in
    ap (λ b. if b then held else []) kept ∙ both (is_kept_section s) refl

-- the section of an object with these e_flags that a header shows, with what is read of its relocations
part_of : ℕ → FileSection → List Reloc → SectionParts
part_of flags s relocs = record { name = s.name; kind = s.kind; flags = s.flags; align = s.align; size = s.size; bytes = s.content; relocs = relocs; compressed = has_rvc flags }

part_read : (file : List ℕ) (flags : ℕ) → file_flags file ≡ flags → (k : ℕ) (s : FileSection) (relocs : List Reloc) → Shows file (header_of file k) s → relocs_of file k ≡ relocs → section_parts file k ≡ part_of flags s relocs
unfolding part_of
part_read file flags is k s relocs r changed =
    λ i. record { name = r.named.read i; kind = r.kind i; flags = r.flags i; align = r.align i; size = r.size i; bytes = r.content i; relocs = changed i; compressed = has_rvc (is i) }

-- the sections of the file, as parts
expected : ObjectParts → List SectionParts
expected parts = map (in_object parts.flags) (null_part ∷ parts.sections ++ added_parts parts)

section_at : (parts : ObjectParts) → IsBack parts → (k : ℕ) → k < section_count (object_bytes parts) → get_or (expected parts) k null_part ≡ section_parts (object_bytes parts) k
unfolding expected part_of
section_at parts b zero lt =
    let bytes = object_bytes parts in
    sym (part_read bytes parts.flags (flags_back parts b.small) 0 null_shown [] (shows_at parts 0 lt b.shown b.many) (no_relocs bytes 0 (null_dropped parts b)))
section_at parts b (suc j) lt =
    let bytes = object_bytes parts in
    let xs = parts.sections in
    let added = added_sections xs parts.symbols in
    let put = in_object parts.flags in
    let inside : j < length (xs ++ added_parts parts) = omega (arith, lt, b.count, length-added xs parts.symbols, length-append xs (added_parts parts), length-map added added_part) in
    get_or-map put (xs ++ added_parts parts) j null_part null_part inside
    ∙ elim (cases_lt j (length xs)) [
      | inl given ↦
          ap put (get_or_append_left xs (added_parts parts) null_part j given)
          ∙ sym (part_read bytes parts.flags (flags_back parts b.small) (suc j) (given_section (get_or xs j null_part)) (get_or xs j null_part).relocs (given_shown parts b j null_part given) (given_relocs parts b j given))
      | inr past ↦
          let index = added_index parts b j past lt in
          ap put (get_or-append_right xs (added_parts parts) (length xs) j null_part refl past ∙ get_or-map added_part added (j - length xs) null_shown null_part index)
          ∙ sym (part_read bytes parts.flags (flags_back parts b.small) (suc j) (get_or added (j - length xs) null_shown) [] (added_shown parts b j past lt) (no_relocs bytes (suc j) (dropped_at parts b j past lt)))
    ]

sections_read : (parts : ObjectParts) → IsBack parts → (object_parts (object_bytes parts)).sections ≡ expected parts
unfolding object_parts expected
sections_read parts b =
    let bytes = object_bytes parts in
    let xs = parts.sections in
    let all = null_part ∷ xs ++ added_parts parts in
    let added : length (added_parts parts) ≡ length (added_sections xs parts.symbols) = length-map (added_sections xs parts.symbols) added_part in
    let many : length (expected parts) ≡ section_count bytes = omega (arith, length-map all (in_object parts.flags), length-append xs (added_parts parts), added, b.count, length-added xs parts.symbols) in
    sym (fill_by_all (section_parts bytes) (expected parts) (section_count bytes) null_part many (section_at parts b))

symbols_read : (parts : ObjectParts) → IsBack parts → (object_parts (object_bytes parts)).symbols ≡ null_symbol_part ∷ parts.symbols
unfolding object_parts
symbols_read parts b =
    let bytes = object_bytes parts in
    let null : symbol_parts bytes null_symbol ≡ null_symbol_part = ap (λ l. record { name = name_at l 0; value = 0; size = 0; bind = 0; kind = 0; home = 0 }) b.names in
    let rest = zip_map (ShowsSymbol (symbol_names_in bytes)) (symbol_parts bytes) (symbol_read bytes) (each_after written_entry [] parts.symbols) parts.symbols b.shown_symbols in
    ap (map (symbol_parts bytes)) b.entries ∙ (λ i. null i ∷ rest i)

flags_read : (parts : ObjectParts) → IsBack parts → (object_parts (object_bytes parts)).flags ≡ parts.flags
unfolding object_parts
flags_read parts b = flags_back parts b.small

all_dropped : (parts : ObjectParts) → list_any is_kept_section (added_parts parts) ≡ false
all_dropped parts =
    list_any_none is_kept_section (added_parts parts)
    (All-map (λ s. is_kept_section s ≡ false) added_part (added_sections parts.sections parts.symbols) (added_dropped parts.sections parts.symbols))

-- The file reads back.
pub object_back : (parts : ObjectParts) → IsWritable parts → parts.flags < 2 ^ 32 → IsPartsSized parts.sections parts.symbols → IsObjectOf parts (object_bytes parts)
unfolding expected
object_back parts w flags sized =
    let readable = writable_readable parts w flags sized in
    let is = readable_listed parts readable in
    let one = ltb-false 1 (length (symbol_tables (object_bytes parts))) (linked_sections (object_bytes parts) w.faultless).one_table in
    let b = back parts readable (single_table parts is one) in
    record {
      faultless = w.faultless;
      flags = flags_read parts b;
      sections = sections_read parts b;
      dropped = all_dropped parts;
      symbols = symbols_read parts b;
    }
