-- The sections of an object read back: each header shows the section that it was made of.
use Rattle.std.proofs.Common.{◌≡◌, ℕ, ◌+◌, List, [], ◌∷◌, ◌++◌, length, take, drop, replicate, Bool, true, false, not, ◌&&◌, codes, refl, sym, ap, ◌∙◌, arith, append_assoc, length-append, if◌then◌else◌}
use Rattle.std.specs.Prelude.{All, nat_eq, nat_lt, nat_le}
use Rattle.std.specs.List.{AllZip, flat_map}
use Rattle.std.specs.Cmp.Lexicographic.{pointwise}
use Rattle.std.proofs.lemmas.Bool.{le-ltb, lt-leb, or_from}
use Rattle.std.proofs.lemmas.List.{map-append}
use Rattle.std.proofs.lemmas.List.Concat.{flat_map-append}
use Rattle.std.proofs.lemmas.List.Elements.{All-head, All-tail}
use Rattle.elf32_read.specs.Header.{content_of, header_of, headers_of, is_empty_kind, name_section, section_count}
use Rattle.elf32_read.specs.Kept.{has_flags, is_kept}
use Rattle.elf32_read.specs.Names.{lacks_strings, section_names as names_in}
use Rattle.elf32_read.specs.Object.{passes_end}
use Rattle.elf32_read.specs.Parts.{ObjectParts}
use Rattle.elf32_read.specs.declared.header.SectionHeader.{SectionHeader}
use Rattle.elf32_write.specs.Image.{pad, padded, section_bytes}
use Rattle.elf32_write.specs.NameTable.{name_table}
use Rattle.elf32_write.specs.EachAfter.{each_after}
use Rattle.elf32_write.specs.FileSections.{FileSection, names_of_sections, shstrtab_names, strtab_section}
use Rattle.elf32_write.specs.ObjectFile.{contents, headers_for, headers_offset, object_bytes, object_header, section_total, written_header}
use Rattle.elf32_write.specs.Writable.{is_name}
use Rattle.elf32_write.specs.SectionTable.{with_names}
use Rattle.elf32_write.proofs.After.{part_between}
use Rattle.elf32_write.proofs.FileHeaderBack.{IsSmall, all_of, count_back, header_back, length-object_bytes, length-object_header, name_section_back}
use Rattle.elf32_write.proofs.NamesBack.{Stands, name_back}
use Rattle.elf32_write.proofs.Room.{contents_within}
use Rattle.elf32_write.proofs.Stages.{stages}
use Rattle.elf32_write.proofs.WritableRoom.{names_of_all}

-- ---- contents

-- a section whose content is as long as its size, or empty if it is NULL or NOBITS
pub record IsSized (s : FileSection) : Type 0 where
  pub full : is_empty_kind s.kind ≡ false → s.size ≡ length s.content
  pub empty : is_empty_kind s.kind ≡ true → s.content ≡ []

zeros_after : List ℕ → List ℕ
zeros_after bytes = replicate (pad (length bytes)) 0

split_content : (parts : ObjectParts) (before : List FileSection) (s : FileSection) (rest : List FileSection) → all_of parts ≡ before ++ s ∷ rest → object_bytes parts ≡ (object_header (headers_offset parts) parts.flags (section_total parts) ++ contents before) ++ (s.content ++ (zeros_after s.content ++ (contents rest ++ flat_map section_bytes (headers_for (all_of parts)))))
unfolding object_bytes zeros_after
split_content parts before s rest e =
    let header = object_header (headers_offset parts) parts.flags (section_total parts) in
    let headers = flat_map section_bytes (headers_for (all_of parts)) in
    let zeros = replicate (pad (length s.content)) 0 in
    let cut : contents (all_of parts) ≡ contents before ++ (padded s.content ++ contents rest) = ap contents e ∙ flat_map-append (λ b. padded b.content) before (s ∷ rest) in
    let tail : (padded s.content ++ contents rest) ++ headers ≡ s.content ++ (zeros ++ (contents rest ++ headers)) =
    append_assoc (padded s.content) (contents rest) headers ∙ append_assoc s.content zeros (contents rest ++ headers) in
    ap (λ l. header ++ (l ++ headers)) cut
    ∙ ap (λ l. header ++ l) (append_assoc (contents before) (padded s.content ++ contents rest) headers ∙ ap (λ l. contents before ++ l) tail)
    ∙ sym (append_assoc header (contents before) (s.content ++ (zeros ++ (contents rest ++ headers))))

-- the content of a section is what its header says
pub content_back : (parts : ObjectParts) (before : List FileSection) (s : FileSection) (rest : List FileSection) → all_of parts ≡ before ++ s ∷ rest → IsSized s → content_of (object_bytes parts) (written_header before s) ≡ s.content
content_back parts before s rest e sized =
    let header = object_header (headers_offset parts) parts.flags (section_total parts) in
    let start : 52 + length (contents before) ≡ length (header ++ contents before) = omega (arith, length-append header (contents before), length-object_header (headers_offset parts) parts.flags (section_total parts)) in
    let cut = take s.size (drop (52 + length (contents before)) (object_bytes parts)) in
    let both : (b : Bool) → is_empty_kind s.kind ≡ b → (if b then [] else cut) ≡ s.content =
    λ b. elim b as (λ b. is_empty_kind s.kind ≡ b → (if b then [] else cut) ≡ s.content) [
      | true ↦ λ h. sym (sized.empty h)
      | false ↦ λ h. part_between (object_bytes parts) (header ++ contents before) s.content _ (52 + length (contents before)) s.size (split_content parts before s rest e) start (sized.full h)
    ] in
    both (is_empty_kind s.kind) refl

-- which lies in the file
content_within : (parts : ObjectParts) (before : List FileSection) (s : FileSection) (rest : List FileSection) → all_of parts ≡ before ++ s ∷ rest → IsSized s → passes_end (object_bytes parts) (written_header before s) ≡ false
content_within parts before s rest e sized =
    let offset = 52 + length (contents before) in
    let test = nat_lt (length (object_bytes parts)) (offset + s.size) in
    let both : (b : Bool) → is_empty_kind s.kind ≡ b → (not b && test) ≡ false =
    λ b. elim b as (λ b. is_empty_kind s.kind ≡ b → (not b && test) ≡ false) [
      | true ↦ λ h. refl
      | false ↦ λ h.
          let cut = ap (λ l. length (contents l)) e ∙ contents_within before (s ∷ rest) in
          let here = length-append (padded s.content) (contents rest) in
          let long = length-append s.content (replicate (pad (length s.content)) 0) in
          le-ltb (length (object_bytes parts)) (offset + s.size) (omega (arith, sized.full h, cut, here, long, length-object_bytes parts))
    ] in
    both (is_empty_kind s.kind) refl

-- ---- names

-- e_shstrndx is the index of the last section
last_header : (parts : ObjectParts) → IsSmall parts → headers_of (object_bytes parts) ≡ headers_for (all_of parts) → header_of (object_bytes parts) (name_section (object_bytes parts)) ≡ written_header (with_names parts.sections parts.symbols) (strtab_section (codes ".shstrtab") (shstrtab_names parts.sections))
last_header parts small listed =
    let bytes = object_bytes parts in
    let xs = parts.sections in
    let ys = parts.symbols in
    let own : FileSection = strtab_section (codes ".shstrtab") (shstrtab_names xs) in
    let split = sym (stages xs ys) in
    let many = ap length split ∙ length-append (with_names xs ys) (own ∷ []) in
    let index : name_section bytes ≡ 1 + length (with_names xs ys) = omega (arith, name_section_back parts small, many) in
    ap (header_of bytes) index ∙ header_back parts small listed (with_names xs ys) own [] split

-- which has strings
pub names_found : (parts : ObjectParts) → IsSmall parts → headers_of (object_bytes parts) ≡ headers_for (all_of parts) → lacks_strings (object_bytes parts) (name_section (object_bytes parts)) ≡ false
names_found parts small listed =
    let bytes = object_bytes parts in
    let there : nat_le (section_count bytes) (name_section bytes) ≡ false = lt-leb (section_count bytes) (name_section bytes) (omega (arith, name_section_back parts small, count_back parts small.count)) in
    or_from _ _ there (ap (λ h. not (nat_eq h.kind 3)) (last_header parts small listed))

-- the names of all sections
pub names_back : (parts : ObjectParts) → IsSmall parts → headers_of (object_bytes parts) ≡ headers_for (all_of parts) → names_in (object_bytes parts) ≡ name_table (names_of_sections (all_of parts))
names_back parts small listed =
    let bytes = object_bytes parts in
    let xs = parts.sections in
    let ys = parts.symbols in
    let own : FileSection = strtab_section (codes ".shstrtab") (shstrtab_names xs) in
    let sized : IsSized own = record { full = λ _. refl; empty = λ h. absurd cc } in
    ap (λ b. if b then [] else content_of bytes (header_of bytes (name_section bytes))) (names_found parts small listed)
    ∙ ap (content_of bytes) (last_header parts small listed)
    ∙ content_back parts (with_names xs ys) own [] (sym (stages xs ys)) sized
    ∙ sym (ap name_table (names_of_all xs ys))

-- ---- what headers show

-- the section that a header reads as
pub record Shows (file : List ℕ) (h : SectionHeader) (s : FileSection) : Type 0 where
  pub kind : h.kind ≡ s.kind
  pub flags : h.flags ≡ s.flags
  pub size : h.size ≡ s.size
  pub link : h.link ≡ s.link
  pub info : h.info ≡ s.info
  pub align : h.align ≡ s.align
  pub entry_size : h.entry_size ≡ s.entry_size
  pub content : content_of file h ≡ s.content
  pub named : Stands s.name (names_in file) h.name
  pub within : passes_end file h ≡ false

-- a section with a name and a size
pub record IsComplete (s : FileSection) : Type 0 where
  pub name : is_name s.name ≡ true
  pub sized : IsSized s

-- section 0
abbrev pub null_shown : FileSection
null_shown = record { name = []; kind = 0; flags = 0; size = 0; link = 0; info = 0; align = 0; entry_size = 0; content = [] }

-- a header that is made of a section, with a name and an offset
made : ℕ → ℕ → FileSection → SectionHeader
made name offset s = record { name = name; kind = s.kind; flags = s.flags; address = 0; offset = offset; size = s.size; link = s.link; info = s.info; align = s.align; entry_size = s.entry_size }

made_shows : (file : List ℕ) (name offset : ℕ) (s : FileSection) → content_of file (made name offset s) ≡ s.content → Stands s.name (names_in file) name → passes_end file (made name offset s) ≡ false → Shows file (made name offset s) s
unfolding made
made_shows file name offset s content named within = record { kind = refl; flags = refl; size = refl; link = refl; info = refl; align = refl; entry_size = refl; content = content; named = named; within = within }

shows_after : (parts : ObjectParts) → names_in (object_bytes parts) ≡ name_table (names_of_sections (all_of parts)) → (before rest : List FileSection) → all_of parts ≡ before ++ rest → All IsComplete rest → AllZip (Shows (object_bytes parts)) (each_after written_header before rest) rest
unfolding made
shows_after parts named before [] e whole = tt
shows_after parts named before (s ∷ rest) e whole =
    let bytes = object_bytes parts in
    let w = All-head IsComplete s rest whole in
    let names : names_in bytes ≡ name_table (names_of_sections before ++ s.name ∷ names_of_sections rest) = named ∙ ap (λ l. name_table (names_of_sections l)) e ∙ ap name_table (map-append (λ (b : FileSection). b.name) before (s ∷ rest)) in
    let next : all_of parts ≡ (before ++ s ∷ []) ++ rest = e ∙ sym (append_assoc before (s ∷ []) rest) in (
      made_shows bytes (written_header before s).name (written_header before s).offset s (content_back parts before s rest e w.sized)
          (name_back (names_of_sections before) s.name (names_of_sections rest) (names_in bytes) names w.name) (content_within parts before s rest e w.sized),
      shows_after parts named (before ++ s ∷ []) rest next (All-tail IsComplete s rest whole),
    )

pub shows_all : (parts : ObjectParts) → IsSmall parts → headers_of (object_bytes parts) ≡ headers_for (all_of parts) → All IsComplete (all_of parts) → AllZip (Shows (object_bytes parts)) (headers_for (all_of parts)) (null_shown ∷ all_of parts)
unfolding made
shows_all parts small listed whole =
    let named = names_back parts small listed in (
      made_shows (object_bytes parts) 0 0 null_shown refl (name_back [] [] (names_of_sections (all_of parts)) (names_in (object_bytes parts)) named refl) refl,
      shows_after parts named [] (all_of parts) refl whole,
    )

-- ---- sections that are kept

-- a section of the file that is kept
abbrev pub is_kept_file : FileSection → Bool
is_kept_file s = has_flags 2 s.flags && not (pointwise nat_eq s.name (codes ".eh_frame"))

pub kept_back : (file : List ℕ) (h : SectionHeader) (s : FileSection) → Shows file h s → is_kept file h ≡ is_kept_file s
kept_back file h s shown =
    let known = shown.named.known (codes ".eh_frame") refl in
    λ i. has_flags 2 (shown.flags i) && not (known i)
