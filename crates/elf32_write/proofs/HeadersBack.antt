-- Headers and places read back.
use Rattle.std.proofs.Common.{◌≡◌, ℕ, ◌+◌, ◌*◌, ◌^◌, ◌<◌, List, [], ◌++◌, length, map, refl, sym, ap, ◌∙◌, arith}
use Rattle.std.specs.Prelude.{All}
use Rattle.std.specs.List.{flat_map, range_with_len}
use Rattle.std.proofs.lemmas.List.{append-nil}
use Rattle.zc_base.specs.Fields.{half_in, word_in, word_bytes}
use Rattle.zc_base.specs.declared.place.Place.{Place}
use Rattle.elf32_read.specs.Header.{section_table, program_table, header_of, program_header_of}
use Rattle.elf32_read.specs.declared.header.ProgramHeader.{ProgramHeader}
use Rattle.elf32_read.specs.Places.{place_entry_at}
use Rattle.elf32_read.specs.declared.header.SectionHeader.{SectionHeader}
use Rattle.elf32_write.specs.Image.{section_bytes, segment_bytes, place_bytes}
use Rattle.elf32_write.specs.Loadable.{IsPlaceEntry}
use Rattle.elf32_write.proofs.After.{word_of_bytes, half_of_bytes, word_in-append, half_in-append, rows_back}

-- a word of a row that stands after other bytes
pub word_back : (front row : List ℕ) (k v : ℕ) → v < 2 ^ 32 → word_in row k ≡ word_in (word_bytes v) 0 → word_in (front ++ row) (length front + k) ≡ v
unfolding word_in
word_back front row k v small e = word_in-append front row (length front + k) k refl ∙ e ∙ word_of_bytes v small

-- the first word of a row
pub first_word_back : (front row : List ℕ) (v : ℕ) → v < 2 ^ 32 → word_in row 0 ≡ word_in (word_bytes v) 0 → word_in (front ++ row) (length front) ≡ v
first_word_back front row v small e =
    let z : length front ≡ length front + 0 = omega arith in
    ap (word_in (front ++ row)) z ∙ word_back front row 0 v small e

-- each of a section header's numbers has room in a word
pub record IsHeader (header : SectionHeader) : Type 0 where
  pub name : header.name < 2 ^ 32
  pub kind : header.kind < 2 ^ 32
  pub flags : header.flags < 2 ^ 32
  pub address : header.address < 2 ^ 32
  pub offset : header.offset < 2 ^ 32
  pub size : header.size < 2 ^ 32
  pub link : header.link < 2 ^ 32
  pub info : header.info < 2 ^ 32
  pub align : header.align < 2 ^ 32
  pub entry_size : header.entry_size < 2 ^ 32

-- the section header that ten words give
header_at : List ℕ → ℕ → SectionHeader
header_at bytes at = record {
  name = word_in bytes at;
  kind = word_in bytes (at + 4);
  flags = word_in bytes (at + 8);
  address = word_in bytes (at + 12);
  offset = word_in bytes (at + 16);
  size = word_in bytes (at + 20);
  link = word_in bytes (at + 24);
  info = word_in bytes (at + 28);
  align = word_in bytes (at + 32);
  entry_size = word_in bytes (at + 36);
}

header_back : (front rest : List ℕ) (header : SectionHeader) → IsHeader header → header_at (front ++ (section_bytes header ++ rest)) (length front) ≡ header
unfolding header_at word_in
header_back front rest header h =
    let row = section_bytes header ++ rest in
    let name = first_word_back front row header.name h.name refl in
    let kind = word_back front row 4 header.kind h.kind refl in
    let flags = word_back front row 8 header.flags h.flags refl in
    let address = word_back front row 12 header.address h.address refl in
    let offset = word_back front row 16 header.offset h.offset refl in
    let size = word_back front row 20 header.size h.size refl in
    let link = word_back front row 24 header.link h.link refl in
    let info = word_back front row 28 header.info h.info refl in
    let align = word_back front row 32 header.align h.align refl in
    let entry_size = word_back front row 36 header.entry_size h.entry_size refl in
    λ i. record {
      name = name i;
      kind = kind i;
      flags = flags i;
      address = address i;
      offset = offset i;
      size = size i;
      link = link i;
      info = info i;
      align = align i;
      entry_size = entry_size i;
    }

-- section headers read back
pub headers_back : (bytes front : List ℕ) (headers : List SectionHeader) (rest : List ℕ) → bytes ≡ front ++ (flat_map section_bytes headers ++ rest) → section_table bytes ≡ length front → All IsHeader headers → map (header_of bytes) (range_with_len 0 (length headers)) ≡ headers
unfolding header_of header_at
headers_back bytes front headers rest e start small =
    let at : ℕ → ℕ = λ i. section_table bytes + 40 * i in
    let first : at 0 ≡ length front = omega (arith, start) in
    rows_back header_at section_bytes 40 IsHeader at header_back (λ _. refl) (λ k. omega arith) bytes front headers rest 0 e first small

-- each of a program header's numbers has room in a word
pub record IsProgramHeader (header : ProgramHeader) : Type 0 where
  pub kind : header.kind < 2 ^ 32
  pub offset : header.offset < 2 ^ 32
  pub address : header.address < 2 ^ 32
  pub physical : header.physical < 2 ^ 32
  pub file_size : header.file_size < 2 ^ 32
  pub memory_size : header.memory_size < 2 ^ 32
  pub flags : header.flags < 2 ^ 32
  pub align : header.align < 2 ^ 32

-- the program header that eight words give
program_header_at : List ℕ → ℕ → ProgramHeader
program_header_at bytes at = record {
  kind = word_in bytes at;
  offset = word_in bytes (at + 4);
  address = word_in bytes (at + 8);
  physical = word_in bytes (at + 12);
  file_size = word_in bytes (at + 16);
  memory_size = word_in bytes (at + 20);
  flags = word_in bytes (at + 24);
  align = word_in bytes (at + 28);
}

program_header_back : (front rest : List ℕ) (header : ProgramHeader) → IsProgramHeader header → program_header_at (front ++ (segment_bytes header ++ rest)) (length front) ≡ header
unfolding program_header_at word_in
program_header_back front rest header h =
    let row = segment_bytes header ++ rest in
    let kind = first_word_back front row header.kind h.kind refl in
    let offset = word_back front row 4 header.offset h.offset refl in
    let address = word_back front row 8 header.address h.address refl in
    let physical = word_back front row 12 header.physical h.physical refl in
    let file_size = word_back front row 16 header.file_size h.file_size refl in
    let memory_size = word_back front row 20 header.memory_size h.memory_size refl in
    let flags = word_back front row 24 header.flags h.flags refl in
    let align = word_back front row 28 header.align h.align refl in
    λ i. record {
      kind = kind i;
      offset = offset i;
      address = address i;
      physical = physical i;
      file_size = file_size i;
      memory_size = memory_size i;
      flags = flags i;
      align = align i;
    }

-- program headers read back
pub program_headers_back : (bytes front : List ℕ) (headers : List ProgramHeader) (rest : List ℕ) → bytes ≡ front ++ (flat_map segment_bytes headers ++ rest) → program_table bytes ≡ length front → All IsProgramHeader headers → map (program_header_of bytes) (range_with_len 0 (length headers)) ≡ headers
unfolding program_header_of program_header_at
program_headers_back bytes front headers rest e start small =
    let at : ℕ → ℕ = λ i. program_table bytes + 32 * i in
    let first : at 0 ≡ length front = omega (arith, start) in
    rows_back program_header_at segment_bytes 32 IsProgramHeader at program_header_back (λ _. refl) (λ k. omega arith) bytes front headers rest 0 e first small

-- the entry that two halves and two words give
entry_in : List ℕ → ℕ → Place × ℕ
entry_in bytes at =
    (record { object = half_in bytes at; section = half_in bytes (at + 2); offset = word_in bytes (at + 4) }, word_in bytes (at + 8))

entry_back : (front rest : List ℕ) (entry : Place × ℕ) → IsPlaceEntry entry → entry_in (front ++ (place_bytes entry ++ rest)) (length front) ≡ entry
unfolding entry_in half_in word_in
entry_back front rest entry h =
    let row = place_bytes entry ++ rest in
    let start : length front ≡ length front + 0 = omega arith in
    let object = half_in-append front row (length front) 0 start ∙ half_of_bytes entry.0.object h.object in
    let section = half_in-append front row (length front + 2) 2 refl ∙ half_of_bytes entry.0.section h.section in
    let offset = word_back front row 4 entry.0.offset h.offset refl in
    let address = word_back front row 8 entry.1 h.address refl in
    λ i. (record { object = object i; section = section i; offset = offset i }, address i)

-- entries of places read back
pub entries_back : (entries : List (Place × ℕ)) → All IsPlaceEntry entries → map (place_entry_at (flat_map place_bytes entries)) (range_with_len 0 (length entries)) ≡ entries
unfolding place_entry_at entry_in
entries_back entries small =
    let bytes = flat_map place_bytes entries in
    let at : ℕ → ℕ = λ i. 12 * i in
    rows_back entry_in place_bytes 12 IsPlaceEntry at entry_back (λ _. refl) (λ k. omega arith) bytes [] entries [] 0 (sym (append-nil bytes)) refl small
