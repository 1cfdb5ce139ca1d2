-- The file's header and the section headers of an object read back.
use Rattle.std.proofs.Common.{◌≡◌, ℕ, ◌+◌, ◌-◌, ◌*◌, ◌^◌, ◌<◌, ◌≤◌, List, [], ◌∷◌, ◌++◌, length, get_or, map, true, refl, sym, ap, ◌∙◌, arith, append_assoc, append-nil, length-append}
use Rattle.std.specs.Prelude.{All}
use Rattle.std.specs.List.{flat_map, range_with_len}
use Rattle.std.proofs.lemmas.List.{get_or_at}
use Rattle.std.proofs.lemmas.List.Elements.{All-cons, All-head, All-nil, All-tail}
use Rattle.std.proofs.lemmas.List.FromFn.{get_or-map-range_with_len}
use Rattle.zc_base.specs.Fields.{half_in, word_in}
use Rattle.elf32_read.specs.Header.{begins_as, file_flags, header_of, headers_of, name_section, section_count, section_table}
use Rattle.elf32_read.specs.Parts.{ObjectParts}
use Rattle.elf32_read.specs.declared.header.SectionHeader.{SectionHeader}
use Rattle.elf32_write.specs.Image.{null_section, section_bytes}
use Rattle.elf32_write.specs.NameTable.{name_start, name_table}
use Rattle.elf32_write.specs.EachAfter.{each_after}
use Rattle.elf32_write.specs.FileSections.{FileSection, file_sections, names_of_sections}
use Rattle.elf32_write.specs.ObjectFile.{contents, headers_for, headers_offset, object_bytes, object_header, section_total, written_header}
use Rattle.elf32_write.specs.SectionTable.{ContentsFit}
use Rattle.elf32_write.proofs.After.{half_of_bytes, word_of_bytes}
use Rattle.elf32_write.proofs.EachAfter.{each_after-append}
use Rattle.elf32_write.proofs.HeadersBack.{IsHeader, headers_back}
use Rattle.elf32_write.proofs.Room.{room_within}
use Rattle.elf32_write.proofs.Stages.{length-each_after}

-- all sections but section 0
abbrev pub all_of : ObjectParts → List FileSection
all_of parts = file_sections parts.sections parts.symbols

-- the numbers of the file's header have room in their fields
pub record IsSmall (parts : ObjectParts) : Type 0 where
  pub table : headers_offset parts < 2 ^ 32
  pub flags : parts.flags < 2 ^ 32
  pub count : section_total parts < 2 ^ 16

pub table_back : (parts : ObjectParts) → IsSmall parts → section_table (object_bytes parts) ≡ headers_offset parts
unfolding object_bytes object_header word_in
table_back parts small = word_of_bytes (headers_offset parts) small.table

pub flags_back : (parts : ObjectParts) → IsSmall parts → file_flags (object_bytes parts) ≡ parts.flags
unfolding object_bytes object_header word_in
flags_back parts small = word_of_bytes parts.flags small.flags

pub count_back : (parts : ObjectParts) → section_total parts < 2 ^ 16 → section_count (object_bytes parts) ≡ section_total parts
unfolding object_bytes object_header half_in
count_back parts few = half_of_bytes (section_total parts) few

pub name_section_back : (parts : ObjectParts) → IsSmall parts → name_section (object_bytes parts) ≡ section_total parts - 1
unfolding object_bytes object_header half_in
name_section_back parts small = let less : section_total parts - 1 < 2 ^ 16 = omega (arith, small.count) in half_of_bytes (section_total parts - 1) less

pub magic_back : (parts : ObjectParts) → begins_as 1 (object_bytes parts) ≡ true
unfolding object_bytes object_header half_in word_in
magic_back parts = refl

pub header_size_back : (parts : ObjectParts) → half_in (object_bytes parts) 46 ≡ 40
unfolding object_bytes object_header half_in
header_size_back parts = refl

-- ---- what stands before the section headers

pub length-object_header : (table flags count : ℕ) → length (object_header table flags count) ≡ 52
unfolding object_header
length-object_header table flags count = refl

front : ObjectParts → List ℕ
front parts = object_header (headers_offset parts) parts.flags (section_total parts) ++ contents (all_of parts)

length-front : (parts : ObjectParts) → length (front parts) ≡ headers_offset parts
unfolding front
length-front parts =
    let header = object_header (headers_offset parts) parts.flags (section_total parts) in
    omega (arith, length-append header (contents (all_of parts)), length-object_header (headers_offset parts) parts.flags (section_total parts))

split_front : (parts : ObjectParts) → object_bytes parts ≡ front parts ++ (flat_map section_bytes (headers_for (all_of parts)) ++ [])
unfolding object_bytes front
split_front parts =
    let header = object_header (headers_offset parts) parts.flags (section_total parts) in
    let headers = flat_map section_bytes (headers_for (all_of parts)) in
    sym (append_assoc header (contents (all_of parts)) headers) ∙ ap (λ l. (header ++ contents (all_of parts)) ++ l) (sym (append-nil headers))

length-section_bytes : (headers : List SectionHeader) → length (flat_map section_bytes headers) ≡ 40 * length headers
length-section_bytes [] = refl
length-section_bytes (h ∷ headers) = let rest = length-section_bytes headers in omega (arith, rest)

pub length-headers_for : (sections : List FileSection) → length (headers_for sections) ≡ 1 + length sections
length-headers_for sections = omega (arith, length-each_after written_header [] sections)

pub length-object_bytes : (parts : ObjectParts) → length (object_bytes parts) ≡ headers_offset parts + 40 * section_total parts
length-object_bytes parts =
    let headers = flat_map section_bytes (headers_for (all_of parts)) in
    let whole = ap length (split_front parts) ∙ length-append (front parts) (headers ++ []) ∙ ap (λ l. length (front parts) + length l) (append-nil headers) in
    omega (arith, whole, length-front parts, length-section_bytes (headers_for (all_of parts)), length-headers_for (all_of parts))

-- ---- the section headers

-- the numbers of a section have room in words
pub record HasWords (s : FileSection) : Type 0 where
  pub kind : s.kind < 2 ^ 32
  pub flags : s.flags < 2 ^ 32
  pub size : s.size < 2 ^ 32
  pub link : s.link < 2 ^ 32
  pub info : s.info < 2 ^ 32
  pub align : s.align < 2 ^ 32
  pub entry_size : s.entry_size < 2 ^ 32

pub start_within : (end : ℕ) (name : List ℕ) → name_start end name ≤ end
start_within end [] = omega arith
start_within end (byte ∷ bytes) = omega arith

words_after : (all before rest : List FileSection) → ContentsFit all → all ≡ before ++ rest → All HasWords rest → All IsHeader (each_after written_header before rest)
words_after all before [] room e words = All-nil IsHeader
words_after all before (s ∷ rest) room e words =
    let here = room_within before (s ∷ rest) all e room in
    let w = All-head HasWords s rest words in
    let start = start_within (length (name_table (names_of_sections before))) s.name in
    let next : all ≡ (before ++ s ∷ []) ++ rest = e ∙ sym (append_assoc before (s ∷ []) rest) in
    let more = words_after all (before ++ s ∷ []) rest room next (All-tail HasWords s rest words) in
    All-cons IsHeader (written_header before s) (each_after written_header (before ++ s ∷ []) rest)
    (record {
      name = omega (arith, start, here.names_fit);
      kind = w.kind;
      flags = w.flags;
      address = omega arith;
      offset = here.contents_fit;
      size = w.size;
      link = w.link;
      info = w.info;
      align = w.align;
      entry_size = w.entry_size;
    })
    more

header_words : (all : List FileSection) → ContentsFit all → All HasWords all → All IsHeader (headers_for all)
header_words all room words =
    All-cons IsHeader null_section (each_after written_header [] all)
    (record { name = omega arith; kind = omega arith; flags = omega arith; address = omega arith; offset = omega arith; size = omega arith; link = omega arith; info = omega arith; align = omega arith; entry_size = omega arith })
    (words_after all [] all room refl words)

pub listed_back : (parts : ObjectParts) → IsSmall parts → ContentsFit (all_of parts) → All HasWords (all_of parts) → headers_of (object_bytes parts) ≡ headers_for (all_of parts)
listed_back parts small room words =
    let bytes = object_bytes parts in
    let all = all_of parts in
    let start = table_back parts small ∙ sym (length-front parts) in
    let count = count_back parts small.count ∙ sym (length-headers_for all) in
    ap (λ n. map (header_of bytes) (range_with_len 0 n)) count
    ∙ headers_back bytes (front parts) (headers_for all) [] (split_front parts) start (header_words all room words)

-- a header by its index is one of the list
pub header_listed : (bytes : List ℕ) (i : ℕ) (d : SectionHeader) → i < section_count bytes → header_of bytes i ≡ get_or (headers_of bytes) i d
header_listed bytes i d lt = sym (get_or-map-range_with_len (header_of bytes) 0 (section_count bytes) i i d lt (omega arith))

-- the header of a section, by those before it
pub header_back : (parts : ObjectParts) → IsSmall parts → headers_of (object_bytes parts) ≡ headers_for (all_of parts) → (before : List FileSection) (s : FileSection) (rest : List FileSection) → all_of parts ≡ before ++ s ∷ rest → header_of (object_bytes parts) (1 + length before) ≡ written_header before s
header_back parts small listed before s rest e =
    let d = written_header before s in
    let many = ap length e ∙ length-append before (s ∷ rest) in
    let lt : 1 + length before < section_count (object_bytes parts) = omega (arith, count_back parts small.count, many) in
    let cut : headers_for (all_of parts) ≡ headers_for before ++ d ∷ each_after written_header (before ++ s ∷ []) rest =
    ap headers_for e ∙ ap (λ l. null_section ∷ l) (each_after-append written_header [] before (s ∷ rest)) in
    let place = length-headers_for before in
    header_listed (object_bytes parts) (1 + length before) d lt
    ∙ ap (λ l. get_or l (1 + length before) d) (listed ∙ cut)
    ∙ get_or_at (headers_for before) d (each_after written_header (before ++ s ∷ []) rest) d (1 + length before) place
