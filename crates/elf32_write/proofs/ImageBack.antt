-- An image reads back. The file is cut into what stands before the section headers and these; from
-- there the headers read back as they were written, and with them each test of the reader computes.
use Rattle.std.proofs.Common.{◌≡◌, ℕ, ◌+◌, ◌*◌, ◌/◌, ◌%◌, ◌^◌, ◌<◌, ◌≤◌, List, [], ◌∷◌, ◌++◌, length, get_or, map, take, drop, lit<, refl, sym, ap, ◌∙◌, arith, append_assoc, length-append, inl, inr, true, false, not}
use Rattle.std.specs.Prelude.{All, Bool, codes, cond, replicate, filter, ◌==◌, ◌&&◌, nat_lt, nat_le, min, max, None}
use Rattle.std.specs.List.{flat_map, range_with_len, list_any}
use Rattle.std.proofs.lemmas.List.{length-replicate, append-nil}
use Rattle.std.proofs.lemmas.Bool.{cases_lt, le-ltb, le-leb, lt-leb, ne_eqb, or_from, or_left, and_from, and_right}
use Rattle.std.proofs.lemmas.List.Elements.{All-from_recursion}
use Rattle.zc_base.specs.MemMap.{data_limit}
use Rattle.zc_base.specs.Fields.{half_in, word_in}
use Rattle.zc_base.specs.declared.mem_map.MemMap.{MemMap}
use Rattle.zc_base.specs.declared.place.Place.{Place}
use Rattle.elf32_read.specs.Header.{are_known_flags, begins_as, content_of, entry_address, file_flags, has_other_section_headers, header_of, headers_of, name_section, program_count, program_header_of, program_table, section_count, section_table}
use Rattle.elf32_read.specs.Image.{bad_places, bad_segments, image_fault, image_truncated, is_bad_load, is_bad_section, not_image, some_overlap}
use Rattle.elf32_read.specs.Names.{has_end, is_name_at, is_unnamed_section, lacks_strings, section_names}
use Rattle.elf32_read.specs.Object.{passes_end}
use Rattle.elf32_read.specs.Places.{places_sections, place_entry_at, entries_of, place_list, is_ascending, is_outside}
use Rattle.elf32_read.specs.Segments.{is_entry_of, loads_of, overlap_in_memory, segment_of}
use Rattle.elf32_read.specs.Rows.{first_of}
use Rattle.elf32_read.specs.declared.header.SectionHeader.{SectionHeader}
use Rattle.elf32_read.specs.declared.image_fault.ImageFault.TheVariants.{NotElf, Truncated, BadSegment, BadPlaces, TooLarge}
use Rattle.elf32_read.proofs.Tests.{load_passes_end}
use Rattle.elf32_write.specs.Image.{pad, padded, padded_length, file_header, program_headers, place_bytes, shstrtab_content, section_headers, sections_of, places_section, shstrtab_header, text_segment, data_segment, data_offset, places_offset, names_offset, sections_offset, image_bytes, NumbersFit}
use Rattle.elf32_write.specs.Loadable.{IsPlaceEntry, IsLoadable, ReadsBack}
use Rattle.elf32_write.specs.Parts.{Parts}
use Rattle.elf32_write.proofs.After.{part_between, word_of_bytes}
use Rattle.elf32_write.proofs.HeadersBack.{IsHeader, IsProgramHeader, headers_back, program_headers_back, entries_back}

-- ---- what stands before each part

before_text : Parts → List ℕ
before_text parts = file_header parts ++ program_headers parts

before_data : Parts → List ℕ
before_data parts = before_text parts ++ padded parts.text

before_places : Parts → List ℕ
before_places parts = before_data parts ++ padded parts.data_bytes

before_names : Parts → List ℕ
before_names parts = before_places parts ++ flat_map place_bytes parts.places

before_sections : Parts → List ℕ
before_sections parts = before_names parts ++ padded shstrtab_content

split_sections : (parts : Parts) → image_bytes parts ≡ before_sections parts ++ section_headers parts
unfolding image_bytes before_sections before_names before_places before_data before_text
split_sections parts = refl

length-padded : (bytes : List ℕ) → length (padded bytes) ≡ padded_length (length bytes)
length-padded bytes = length-append bytes _ ∙ ap (λ n. length bytes + n) (length-replicate (pad (length bytes)) 0)

length-places : (entries : List (Place × ℕ)) → length (flat_map place_bytes entries) ≡ 12 * length entries
length-places [] = refl
length-places (entry ∷ entries) = let rest = length-places entries in omega (arith, rest)

length-file_header : (parts : Parts) → length (file_header parts) ≡ 52
unfolding file_header
length-file_header parts = refl

length-before_text : (parts : Parts) → length (before_text parts) ≡ 116
unfolding before_text file_header program_headers
length-before_text parts = refl

length-before_data : (parts : Parts) → length (before_data parts) ≡ data_offset parts
unfolding before_data
length-before_data parts = omega (arith, length-append (before_text parts) (padded parts.text), length-before_text parts, length-padded parts.text)

length-before_places : (parts : Parts) → length (before_places parts) ≡ places_offset parts
unfolding before_places
length-before_places parts = omega (arith, length-append (before_data parts) (padded parts.data_bytes), length-before_data parts, length-padded parts.data_bytes)

length-before_names : (parts : Parts) → length (before_names parts) ≡ names_offset parts
unfolding before_names
length-before_names parts = omega (arith, length-append (before_places parts) (flat_map place_bytes parts.places), length-before_places parts, length-places parts.places)

length-before_sections : (parts : Parts) → length (before_sections parts) ≡ sections_offset parts
unfolding before_sections
length-before_sections parts = omega (arith, length-append (before_names parts) (padded shstrtab_content), length-before_names parts)

pub length-image_bytes : (parts : Parts) → length (image_bytes parts) ≡ sections_offset parts + 240
unfolding section_headers
length-image_bytes parts =
    ap length (split_sections parts) ∙ length-append (before_sections parts) (section_headers parts) ∙ ap (λ n. n + 240) (length-before_sections parts)

-- ---- the file's header

entry_back : (parts : Parts) → parts.entry < 2 ^ 32 → entry_address (image_bytes parts) ≡ parts.entry
unfolding image_bytes file_header word_in
entry_back parts small = word_of_bytes parts.entry small

flags_back : (parts : Parts) → parts.flags < 2 ^ 32 → file_flags (image_bytes parts) ≡ parts.flags
unfolding image_bytes file_header word_in
flags_back parts small = word_of_bytes parts.flags small

section_table_back : (parts : Parts) → sections_offset parts < 2 ^ 32 → section_table (image_bytes parts) ≡ sections_offset parts
unfolding image_bytes file_header word_in
section_table_back parts small = word_of_bytes (sections_offset parts) small

program_table_back : (parts : Parts) → program_table (image_bytes parts) ≡ 52
unfolding image_bytes file_header word_in
program_table_back parts = refl

program_count_back : (parts : Parts) → program_count (image_bytes parts) ≡ 2
unfolding image_bytes file_header half_in
program_count_back parts = refl

section_count_back : (parts : Parts) → section_count (image_bytes parts) ≡ 6
unfolding image_bytes file_header half_in
section_count_back parts = refl

name_section_back : (parts : Parts) → name_section (image_bytes parts) ≡ 5
unfolding image_bytes file_header half_in
name_section_back parts = refl

magic_back : (parts : Parts) → begins_as 2 (image_bytes parts) ≡ true
unfolding image_bytes file_header half_in word_in
magic_back parts = refl

-- ---- the numbers have room in words

record Words (parts : Parts) : Type 0 where
  pub text_at : parts.text_at < 2 ^ 32
  pub text : length parts.text < 2 ^ 32
  pub data_at : parts.data_at < 2 ^ 32
  pub data_bytes : length parts.data_bytes < 2 ^ 32
  pub data_memory : length parts.data_bytes + parts.zero < 2 ^ 32
  pub zero : parts.zero < 2 ^ 32
  pub data_end : parts.data_at + length parts.data_bytes < 2 ^ 32
  pub data_start : data_offset parts < 2 ^ 32
  pub bss_start : data_offset parts + length parts.data_bytes < 2 ^ 32
  pub places_start : places_offset parts < 2 ^ 32
  pub places : 12 * length parts.places < 2 ^ 32
  pub names_start : names_offset parts < 2 ^ 32
  pub sections_start : sections_offset parts < 2 ^ 32

words : (parts : Parts) (memory : MemMap) → NumbersFit parts → IsLoadable parts memory → Words parts
words parts memory fits loadable = record {
  text_at = omega (arith, loadable.words, loadable.text);
  text = omega (arith, fits.file);
  data_at = loadable.words;
  data_bytes = omega (arith, fits.data_memory);
  data_memory = fits.data_memory;
  zero = omega (arith, fits.data_memory);
  data_end = fits.data_end;
  data_start = omega (arith, fits.file);
  bss_start = omega (arith, fits.file);
  places_start = omega (arith, fits.file);
  places = omega (arith, fits.file);
  names_start = omega (arith, fits.file);
  sections_start = fits.file;
}

section_words : (parts : Parts) → Words parts → All IsHeader (sections_of parts)
section_words parts w =
    All-from_recursion IsHeader (sections_of parts) (
      record { name = lit< tt; kind = lit< tt; flags = lit< tt; address = lit< tt; offset = lit< tt; size = lit< tt; link = lit< tt; info = lit< tt; align = lit< tt; entry_size = lit< tt },
      (
        record { name = lit< tt; kind = lit< tt; flags = lit< tt; address = w.text_at; offset = lit< tt; size = w.text; link = lit< tt; info = lit< tt; align = lit< tt; entry_size = lit< tt },
        (
          record { name = lit< tt; kind = lit< tt; flags = lit< tt; address = w.data_at; offset = w.data_start; size = w.data_bytes; link = lit< tt; info = lit< tt; align = lit< tt; entry_size = lit< tt },
          (
            record { name = lit< tt; kind = lit< tt; flags = lit< tt; address = w.data_end; offset = w.bss_start; size = w.zero; link = lit< tt; info = lit< tt; align = lit< tt; entry_size = lit< tt },
            (
              record { name = lit< tt; kind = lit< tt; flags = lit< tt; address = lit< tt; offset = w.places_start; size = w.places; link = lit< tt; info = lit< tt; align = lit< tt; entry_size = lit< tt },
              (
                record { name = lit< tt; kind = lit< tt; flags = lit< tt; address = lit< tt; offset = w.names_start; size = lit< tt; link = lit< tt; info = lit< tt; align = lit< tt; entry_size = lit< tt },
                tt,
              ),
            ),
          ),
        ),
      ),
    )

segment_words : (parts : Parts) → Words parts → All IsProgramHeader (text_segment parts ∷ data_segment parts ∷ [])
segment_words parts w =
    All-from_recursion IsProgramHeader (text_segment parts ∷ data_segment parts ∷ []) (
      record { kind = lit< tt; offset = lit< tt; address = w.text_at; physical = w.text_at; file_size = w.text; memory_size = w.text; flags = lit< tt; align = lit< tt },
      (
        record { kind = lit< tt; offset = w.data_start; address = w.data_at; physical = w.data_at; file_size = w.data_bytes; memory_size = w.data_memory; flags = lit< tt; align = lit< tt },
        tt,
      ),
    )

-- ---- the headers

sections_back : (parts : Parts) → Words parts → headers_of (image_bytes parts) ≡ sections_of parts
unfolding section_headers
sections_back parts w =
    let bytes = image_bytes parts in
    let split : bytes ≡ before_sections parts ++ (section_headers parts ++ []) = split_sections parts ∙ ap (λ l. before_sections parts ++ l) (sym (append-nil (section_headers parts))) in
    let start = section_table_back parts w.sections_start ∙ sym (length-before_sections parts) in
    ap (λ n. map (header_of bytes) (range_with_len 0 n)) (section_count_back parts)
    ∙ headers_back bytes (before_sections parts) (sections_of parts) [] split start (section_words parts w)

rest_of_file : Parts → List ℕ
rest_of_file parts =
    padded parts.text ++ (padded parts.data_bytes ++ (flat_map place_bytes parts.places ++ (padded shstrtab_content ++ section_headers parts)))

split_segments : (parts : Parts) → image_bytes parts ≡ file_header parts ++ (program_headers parts ++ rest_of_file parts)
unfolding image_bytes rest_of_file
split_segments parts = simp append_assoc

segments_headers_back : (parts : Parts) → Words parts → map (program_header_of (image_bytes parts)) (range_with_len 0 (program_count (image_bytes parts))) ≡ text_segment parts ∷ data_segment parts ∷ []
unfolding program_headers
segments_headers_back parts w =
    let bytes = image_bytes parts in
    let start : program_table bytes ≡ length (file_header parts) = program_table_back parts ∙ sym (length-file_header parts) in
    ap (λ n. map (program_header_of bytes) (range_with_len 0 n)) (program_count_back parts)
    ∙ program_headers_back bytes (file_header parts) (text_segment parts ∷ data_segment parts ∷ []) (rest_of_file parts) (split_segments parts) start (segment_words parts w)

loads_back : (parts : Parts) → Words parts → loads_of (image_bytes parts) ≡ text_segment parts ∷ data_segment parts ∷ []
unfolding loads_of
loads_back parts w = ap (λ headers. filter (λ header. header.kind == 1) headers) (segments_headers_back parts w)

-- ---- the contents

zeros_after : List ℕ → List ℕ
zeros_after bytes = replicate (pad (length bytes)) 0

split_text : (parts : Parts) → image_bytes parts ≡ before_text parts ++ (parts.text ++ (zeros_after parts.text ++ (padded parts.data_bytes ++ (flat_map place_bytes parts.places ++ (padded shstrtab_content ++ section_headers parts)))))
unfolding image_bytes before_text zeros_after
split_text parts = simp append_assoc

split_data : (parts : Parts) → image_bytes parts ≡ before_data parts ++ (parts.data_bytes ++ (zeros_after parts.data_bytes ++ (flat_map place_bytes parts.places ++ (padded shstrtab_content ++ section_headers parts))))
unfolding image_bytes before_data before_text zeros_after
split_data parts = simp append_assoc

split_places : (parts : Parts) → image_bytes parts ≡ before_places parts ++ (flat_map place_bytes parts.places ++ (padded shstrtab_content ++ section_headers parts))
unfolding image_bytes before_places before_data before_text
split_places parts = simp append_assoc

split_names : (parts : Parts) → image_bytes parts ≡ before_names parts ++ (shstrtab_content ++ (0 ∷ 0 ∷ 0 ∷ [] ++ section_headers parts))
unfolding image_bytes before_names before_places before_data before_text
split_names parts = simp append_assoc

text_back : (parts : Parts) → take (length parts.text) (drop 116 (image_bytes parts)) ≡ parts.text
text_back parts = part_between (image_bytes parts) (before_text parts) parts.text _ 116 (length parts.text) (split_text parts) (sym (length-before_text parts)) refl

data_back : (parts : Parts) → take (length parts.data_bytes) (drop (data_offset parts) (image_bytes parts)) ≡ parts.data_bytes
data_back parts = part_between (image_bytes parts) (before_data parts) parts.data_bytes _ (data_offset parts) (length parts.data_bytes) (split_data parts) (sym (length-before_data parts)) refl

places_bytes_back : (parts : Parts) → content_of (image_bytes parts) (places_section parts) ≡ flat_map place_bytes parts.places
places_bytes_back parts = part_between (image_bytes parts) (before_places parts) (flat_map place_bytes parts.places) _ (places_offset parts) (12 * length parts.places) (split_places parts) (sym (length-before_places parts)) (sym (length-places parts.places))

names_back : (parts : Parts) → content_of (image_bytes parts) (shstrtab_header parts) ≡ shstrtab_content
names_back parts = part_between (image_bytes parts) (before_names parts) shstrtab_content _ (names_offset parts) 41 (split_names parts) (sym (length-before_names parts)) refl

-- ---- no fault

not_too_large : (parts : Parts) → sections_offset parts + 240 ≤ 0x80_0000 → nat_lt 0x80_0000 (length (image_bytes parts)) ≡ false
not_too_large parts small = le-ltb 0x80_0000 (length (image_bytes parts)) (omega (arith, small, length-image_bytes parts))

segments_sized : (parts : Parts) → (not (program_count (image_bytes parts) == 0) && not (half_in (image_bytes parts) 42 == 32)) ≡ false
unfolding image_bytes file_header half_in
segments_sized parts = refl

sections_sized : (parts : Parts) → has_other_section_headers (image_bytes parts) ≡ false
unfolding image_bytes file_header half_in
sections_sized parts = refl

is_image : (parts : Parts) → parts.flags < 2 ^ 32 → are_known_flags parts.flags ≡ true → not_image (image_bytes parts) ≡ false
is_image parts small known =
    let bytes = image_bytes parts in
    let long = le-ltb (length bytes) 52 (omega (arith, length-image_bytes parts)) in
    let begins = ap not (magic_back parts) in
    let flags = ap (λ f. not (are_known_flags f)) (flags_back parts small) ∙ ap not known in
    or_from _ _ (or_from _ _ (or_from _ _ (or_from _ _ long begins) flags) (segments_sized parts)) (sections_sized parts)

is_whole : (parts : Parts) → Words parts → image_truncated (image_bytes parts) ≡ false
is_whole parts w =
    let bytes = image_bytes parts in
    let long = length-image_bytes parts in
    let programs = le-ltb (length bytes) (program_table bytes + 32 * program_count bytes) (omega (arith, long, program_table_back parts, program_count_back parts)) in
    let headers = le-ltb (length bytes) (section_table bytes + 40 * section_count bytes) (omega (arith, long, section_table_back parts w.sections_start, section_count_back parts)) in
    let text : load_passes_end bytes (text_segment parts) ≡ false = le-ltb (length bytes) (116 + length parts.text) (omega (arith, long)) in
    let data_part : load_passes_end bytes (data_segment parts) ≡ false = le-ltb (length bytes) (data_offset parts + length parts.data_bytes) (omega (arith, long)) in
    let loads : list_any (load_passes_end bytes) (loads_of bytes) ≡ false =
    ap (list_any (load_passes_end bytes)) (loads_back parts w) ∙ or_from _ _ text (or_from _ _ data_part refl) in
    let places : passes_end bytes (places_section parts) ≡ false = le-ltb (length bytes) (places_offset parts + 12 * length parts.places) (omega (arith, long)) in
    let named : passes_end bytes (shstrtab_header parts) ≡ false = le-ltb (length bytes) (names_offset parts + 41) (omega (arith, long)) in
    let sections : list_any (passes_end bytes) (headers_of bytes) ≡ false =
    ap (list_any (passes_end bytes)) (sections_back parts w) ∙ or_from _ _ text (or_from _ _ data_part (or_from _ _ places (or_from _ _ named refl))) in
    or_from _ _ (or_from _ _ programs (or_from _ _ headers sections)) loads

has_good_segments : (parts : Parts) (memory : MemMap) → Words parts → IsLoadable parts memory → bad_segments (image_bytes parts) memory ≡ false
has_good_segments parts memory w loadable =
    let bytes = image_bytes parts in
    let loads = text_segment parts ∷ data_segment parts ∷ [] in
    let entry = entry_back parts (omega (arith, loadable.entry_high, loadable.text, loadable.words)) in
    let some : nat_lt 16 (length (loads_of bytes)) ≡ false = ap (λ l. nat_lt 16 (length l)) (loads_back parts w) in
    let text_size : nat_lt (length parts.text) (length parts.text) ≡ false = le-ltb (length parts.text) (length parts.text) (omega arith) in
    let text_low : nat_le memory.text parts.text_at ≡ true = le-leb memory.text parts.text_at (omega (arith, loadable.text_at)) in
    let text_high : nat_le (parts.text_at + length parts.text) memory.data_low ≡ true = le-leb (parts.text_at + length parts.text) memory.data_low (omega (arith, loadable.text, loadable.data_at)) in
    let text : is_bad_load memory (text_segment parts) ≡ false = or_from _ _ (or_from _ _ text_size refl) (ap not (and_from _ _ text_low text_high)) in
    let data_size : nat_lt (length parts.data_bytes + parts.zero) (length parts.data_bytes) ≡ false = le-ltb (length parts.data_bytes + parts.zero) (length parts.data_bytes) (omega arith) in
    let data_start : nat_le memory.data_low parts.data_at ≡ true = le-leb memory.data_low parts.data_at (omega (arith, loadable.data_at)) in
    let data_high : nat_le (parts.data_at + (length parts.data_bytes + parts.zero)) (memory.data_low + data_limit memory) ≡ true = le-leb (parts.data_at + (length parts.data_bytes + parts.zero)) (memory.data_low + data_limit memory) (omega (arith, loadable.data_memory, loadable.data_at)) in
    let data_part : is_bad_load memory (data_segment parts) ≡ false = or_from _ _ (or_from _ _ data_size refl) (ap not (and_from _ _ data_start data_high)) in
    let good : list_any (is_bad_load memory) (loads_of bytes) ≡ false = ap (list_any (is_bad_load memory)) (loads_back parts w) ∙ or_from _ _ text (or_from _ _ data_part refl) in
    let apart : overlap_in_memory (text_segment parts) (data_segment parts) ≡ false =
    le-ltb (max parts.text_at parts.data_at) (min (parts.text_at + length parts.text) (parts.data_at + (length parts.data_bytes + parts.zero))) (omega (arith, loadable.text)) in
    let separate : some_overlap (loads_of bytes) ≡ false = ap some_overlap (loads_back parts w) ∙ or_from _ _ (or_from _ _ apart refl) refl in
    let even : (entry_address bytes % 2 == 1) ≡ false = ne_eqb (entry_address bytes % 2) 1 (λ odd. omega (arith, odd, entry, loadable.entry_even)) in
    let entry_low : nat_le parts.text_at (entry_address bytes) ≡ true = le-leb parts.text_at (entry_address bytes) (omega (arith, entry, loadable.entry_low)) in
    let entry_high : nat_le (entry_address bytes) (parts.text_at + length parts.text) ≡ true = le-leb (entry_address bytes) (parts.text_at + length parts.text) (omega (arith, entry, loadable.entry_high)) in
    let entered : not (list_any (is_entry_of (entry_address bytes)) (loads_of bytes)) ≡ false =
    ap (λ l. not (list_any (is_entry_of (entry_address bytes)) l)) (loads_back parts w) ∙ ap not (or_left _ _ (and_from _ _ (and_from true _ refl entry_low) entry_high)) in
    or_from _ _ (or_from _ _ (or_from _ _ (or_from _ _ some good) separate) even) entered

-- section 5 holds the names
names_header_back : (parts : Parts) → Words parts → header_of (image_bytes parts) (name_section (image_bytes parts)) ≡ shstrtab_header parts
names_header_back parts w =
    let bytes = image_bytes parts in
    let listed : map (header_of bytes) (range_with_len 0 6) ≡ sections_of parts =
    sym (ap (λ n. map (header_of bytes) (range_with_len 0 n)) (section_count_back parts)) ∙ sections_back parts w in
    ap (header_of bytes) (name_section_back parts) ∙ ap (λ l. get_or l 5 (header_of bytes 5)) listed

has_strings : (parts : Parts) → Words parts → lacks_strings (image_bytes parts) (name_section (image_bytes parts)) ≡ false
has_strings parts w =
    let bytes = image_bytes parts in
    let index : nat_le (section_count bytes) (name_section bytes) ≡ false = lt-leb (section_count bytes) (name_section bytes) (omega (arith, section_count_back parts, name_section_back parts)) in
    or_from _ _ index (ap (λ header. not (header.kind == 3)) (names_header_back parts w))

section_names_back : (parts : Parts) → Words parts → section_names (image_bytes parts) ≡ shstrtab_content
section_names_back parts w =
    let bytes = image_bytes parts in
    ap (λ b. cond b [] (content_of bytes (header_of bytes (name_section bytes)))) (has_strings parts w)
    ∙ ap (content_of bytes) (names_header_back parts w) ∙ names_back parts

places_sections_back : (parts : Parts) → Words parts → places_sections (image_bytes parts) ≡ places_section parts ∷ []
unfolding places_sections
places_sections_back parts w =
    let named : List ℕ → SectionHeader → Bool = λ table header. is_name_at (codes ".zcld.places") table header.name in
    ap (λ l. filter (named l) (headers_of (image_bytes parts))) (section_names_back parts w)
    ∙ ap (filter (named shstrtab_content)) (sections_back parts w)

entries_of_back : (parts : Parts) → All IsPlaceEntry parts.places → entries_of (content_of (image_bytes parts) (places_section parts)) ≡ parts.places
entries_of_back parts small =
    let content = flat_map place_bytes parts.places in
    let count : length content / 12 ≡ length parts.places = omega (arith, length-places parts.places) in
    ap entries_of (places_bytes_back parts)
    ∙ ap (λ n. map (place_entry_at content) (range_with_len 0 n)) count
    ∙ entries_back parts.places small

places_back : (parts : Parts) → Words parts → All IsPlaceEntry parts.places → place_list (image_bytes parts) ≡ parts.places
places_back parts w small =
    let bytes = image_bytes parts in
    ap (flat_map (λ header. entries_of (content_of bytes header))) (places_sections_back parts w)
    ∙ append-nil (entries_of (content_of bytes (places_section parts)))
    ∙ entries_of_back parts small

has_good_places : (parts : Parts) (memory : MemMap) → Words parts → IsLoadable parts memory → bad_places (image_bytes parts) memory ≡ false
has_good_places parts memory w loadable =
    let bytes = image_bytes parts in
    let unnamed : List ℕ → SectionHeader → Bool = λ table header. not (has_end table header.name) in
    let named : list_any (is_unnamed_section bytes) (headers_of bytes) ≡ false =
    ap (λ l. list_any (unnamed l) (headers_of bytes)) (section_names_back parts w) ∙ ap (list_any (unnamed shstrtab_content)) (sections_back parts w) in
    let once : nat_lt 1 (length (places_sections bytes)) ≡ false = ap (λ l. nat_lt 1 (length l)) (places_sections_back parts w) in
    let content = content_of bytes (places_section parts) in
    let listed : entries_of content ≡ parts.places = entries_of_back parts loadable.entries in
    let rest : (12 * length parts.places) % 12 ≡ 0 = omega arith in
    let whole = ap (λ n. not (n == 0)) rest in
    let ascending : not (is_ascending (entries_of content)) ≡ false = ap (λ l. not (is_ascending l)) listed ∙ ap not loadable.ascending in
    let inside : list_any (is_outside memory) (entries_of content) ≡ false = ap (list_any (is_outside memory)) listed ∙ loadable.inside in
    let good : list_any (is_bad_section bytes memory) (places_sections bytes) ≡ false =
    ap (list_any (is_bad_section bytes memory)) (places_sections_back parts w) ∙ or_from _ _ (or_from _ _ (or_from _ _ whole ascending) inside) refl in
    and_right (not (section_count bytes == 0)) _ (or_from _ _ (or_from _ _ (or_from _ _ (has_strings parts w) named) once) good)

-- flags that are known are small
known_small : (flags : ℕ) → are_known_flags flags ≡ true → flags < 2 ^ 32
known_small flags known =
    elim (cases_lt flags (2 ^ 32)) [
      | inl small ↦ small
      | inr large ↦
          let unknown : are_known_flags flags ≡ false = or_from _ _ (or_from _ _ (or_from _ _
          (ne_eqb flags 0 (λ e. omega arith)) (ne_eqb flags 0x1 (λ e. omega arith))) (ne_eqb flags 0x10 (λ e. omega arith))) (ne_eqb flags 0x11 (λ e. omega arith)) in
          absurd (cc (known, unknown))
    ]

faultless : (parts : Parts) (memory : MemMap) → Words parts → IsLoadable parts memory → image_fault (image_bytes parts) memory ≡ None
unfolding image_fault
faultless parts memory w loadable =
    let large = not_too_large parts loadable.file in
    let image = is_image parts (known_small parts.flags loadable.flags) loadable.flags in
    let whole = is_whole parts w in
    let segments_good = has_good_segments parts memory w loadable in
    let places_good = has_good_places parts memory w loadable in
    λ i. first_of ((large i, TooLarge) ∷ (image i, NotElf) ∷ (whole i, Truncated) ∷ (segments_good i, BadSegment) ∷ (places_good i, BadPlaces) ∷ [])

-- The file reads back.
pub image_back : (parts : Parts) (memory : MemMap) → NumbersFit parts → IsLoadable parts memory → ReadsBack parts memory (image_bytes parts)
image_back parts memory fits loadable =
    let w = words parts memory fits loadable in
    let bytes = image_bytes parts in
    record {
      faultless = faultless parts memory w loadable;
      entry = entry_back parts (omega (arith, loadable.entry_high, loadable.text, loadable.words));
      flags = flags_back parts (known_small parts.flags loadable.flags);
      segments_back = ap (map (segment_of bytes)) (loads_back parts w)
          ∙ (λ i. record { at = parts.text_at; size = length parts.text; code = true; bytes = text_back parts i }
          ∷ record { at = parts.data_at; size = length parts.data_bytes + parts.zero; code = false; bytes = data_back parts i } ∷ []);
      places = places_back parts w loadable.entries;
    }
