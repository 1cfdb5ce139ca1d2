-- What holds of each section of a file, and where the given and the added sections stand.
use Rattle.std.proofs.Common.{◌≡◌, ℕ, ◌+◌, ◌-◌, ◌^◌, ◌<◌, ◌≤◌, List, [], ◌∷◌, length, get_or, false, codes, refl, sym, ap, ◌∙◌, arith, length-append, subst, inl, inr, ◌⊎◌, replicate, if◌then◌else◌}
use Rattle.std.specs.Prelude.{All, nat_lt}
use Rattle.std.specs.List.{AllZip, enumerate_from}
use Rattle.std.proofs.lemmas.List.{get_or-append_right, get_or-map, get_or_append_left, length-map, nil_from_length}
use Rattle.std.proofs.lemmas.List.Elements.{All-append, All-cons, All-filter, All-head, All-map, All-nil, All-tail, All-weaker}
use Rattle.elf32_read.specs.Header.{header_of, headers_of, section_count}
use Rattle.elf32_read.specs.Parts.{ObjectParts, SectionParts, SymbolParts}
use Rattle.elf32_write.specs.Image.{pad, padded}
use Rattle.elf32_write.specs.Entries.{strtab_names}
use Rattle.elf32_write.specs.FileSections.{FileSection, added_sections, file_sections, given_section, given_sections, rela_section, rela_sections, relocated, shstrtab_names, strtab_section, symtab_index, symtab_section}
use Rattle.elf32_write.specs.ObjectFile.{contents, object_bytes}
use Rattle.elf32_write.specs.Ranges.{IsSectionSized}
use Rattle.elf32_write.specs.SectionTable.{ContentsFit}
use Rattle.elf32_write.specs.Writable.{IsWritableSection}
use Rattle.elf32_write.proofs.FileHeaderBack.{HasWords, all_of, header_listed}
use Rattle.elf32_write.proofs.SectionsBack.{IsComplete, Shows, is_kept_file, null_shown}
use Rattle.elf32_write.proofs.Stages.{length-file_sections}
use Rattle.elf32_write.proofs.WritableRoom.{symbols_within}
use Rattle.elf32_write.proofs.Zipped.{zip_get}

-- ---- sections by their kinds

-- what holds of each kind of section that is added holds of each
pub all_added : (P : FileSection → Type 0) (xs : List SectionParts) (ys : List SymbolParts) → All (λ e. P (rela_section (symtab_index xs) e)) (relocated xs) → P (symtab_section (symtab_index xs) ys) → ((name : List ℕ) (names : List (List ℕ)) → (name ≡ codes ".strtab") ⊎ (name ≡ codes ".shstrtab") → P (strtab_section name names)) → All P (added_sections xs ys)
unfolding added_sections
all_added P xs ys relas symtab names =
    let last = symtab_section (symtab_index xs) ys ∷ strtab_section (codes ".strtab") (strtab_names ys) ∷ strtab_section (codes ".shstrtab") (shstrtab_names xs) ∷ [] in
    All-append P (rela_sections xs) last (All-map P (rela_section (symtab_index xs)) (relocated xs) relas)
    (All-cons P (symtab_section (symtab_index xs) ys) (strtab_section (codes ".strtab") (strtab_names ys) ∷ strtab_section (codes ".shstrtab") (shstrtab_names xs) ∷ []) symtab
    (All-cons P (strtab_section (codes ".strtab") (strtab_names ys)) (strtab_section (codes ".shstrtab") (shstrtab_names xs) ∷ []) (names (codes ".strtab") (strtab_names ys) (inl refl))
    (All-cons P (strtab_section (codes ".shstrtab") (shstrtab_names xs)) [] (names (codes ".shstrtab") (shstrtab_names xs) (inr refl)) (All-nil P))))

pub all_sections : (P : FileSection → Type 0) (xs : List SectionParts) (ys : List SymbolParts) → All (λ s. P (given_section s)) xs → All P (added_sections xs ys) → All P (file_sections xs ys)
unfolding file_sections
all_sections P xs ys given added = All-append P (given_sections xs) (added_sections xs ys) (All-map P given_section xs given) added

-- a section and its index, which is below a bound
pub record IsNumbered (Q : SectionParts → Type 0) (bound : ℕ) (e : ℕ × SectionParts) : Type 0 where
  pub index : e.0 < bound
  pub held : Q e.1

numbered : (Q : SectionParts → Type 0) (bound n : ℕ) (xs : List SectionParts) → n + length xs ≤ bound → All Q xs → All (IsNumbered Q bound) (enumerate_from n xs)
numbered Q bound n [] within held = All-nil (IsNumbered Q bound)
numbered Q bound n (x ∷ xs) within held =
    All-cons (IsNumbered Q bound) (n, x) (enumerate_from (n + 1) xs) (record { index = omega arith; held = All-head Q x xs held })
    (numbered Q bound (n + 1) xs (omega arith) (All-tail Q x xs held))

pub all_relocated : (Q : SectionParts → Type 0) (xs : List SectionParts) → All Q xs → All (IsNumbered Q (1 + length xs)) (relocated xs)
all_relocated Q xs held =
    All-filter (λ (e : ℕ × SectionParts). nat_lt 0 (length e.1.relocs)) (IsNumbered Q (1 + length xs)) (enumerate_from 1 xs) (numbered Q (1 + length xs) 1 xs (omega arith) held)

-- ---- each section has a name and a size

given_whole : (s : SectionParts) → IsWritableSection s → IsComplete (given_section s)
given_whole s w = record {
  name = w.name;
  sized = record {
    full = λ h. sym (w.bytes ∙ ap (λ b. if b then 0 else s.size) h);
    empty = λ h. nil_from_length s.bytes (w.bytes ∙ ap (λ b. if b then 0 else s.size) h);
  };
}

pub sections_whole : (xs : List SectionParts) (ys : List SymbolParts) → All IsWritableSection xs → All IsComplete (file_sections xs ys)
sections_whole xs ys w =
    all_sections IsComplete xs ys (All-weaker IsWritableSection (λ s. IsComplete (given_section s)) given_whole xs w)
    (all_added IsComplete xs ys
    (All-weaker (IsNumbered IsWritableSection (1 + length xs)) (λ e. IsComplete (rela_section (symtab_index xs) e))
    (λ e n. record { name = n.held.name; sized = record { full = λ _. refl; empty = λ h. absurd cc } })
    (relocated xs) (all_relocated IsWritableSection xs w))
    (record { name = refl; sized = record { full = λ _. refl; empty = λ h. absurd cc } })
    (λ name names which. record {
      name = elim which [
        | inl e ↦ rw e refl
        | inr e ↦ rw e refl
      ];
      sized = record { full = λ _. refl; empty = λ h. absurd cc };
    }))

-- ---- the numbers of each have room in words

-- all but the size
record HasOther (s : FileSection) : Type 0 where
  pub kind : s.kind < 2 ^ 32
  pub flags : s.flags < 2 ^ 32
  pub link : s.link < 2 ^ 32
  pub info : s.info < 2 ^ 32
  pub align : s.align < 2 ^ 32
  pub entry_size : s.entry_size < 2 ^ 32
  pub size : length s.content < 2 ^ 32 → s.size < 2 ^ 32

content_small : (bound : ℕ) (all : List FileSection) → length (contents all) < bound → All (λ s. length s.content < bound) all
content_small bound [] small = All-nil (λ s. length s.content < bound)
content_small bound (s ∷ rest) small =
    let both = length-append (padded s.content) (contents rest) in
    let here = length-append s.content (replicate (pad (length s.content)) 0) in
    All-cons (λ s. length s.content < bound) s rest (omega (arith, small, both, here)) (content_small bound rest (omega (arith, small, both)))

pub sections_words : (parts : ObjectParts) → ContentsFit (all_of parts) → length (all_of parts) < 2 ^ 16 → All IsSectionSized parts.sections → All HasWords (all_of parts)
sections_words parts room few sized =
    let xs = parts.sections in
    let ys = parts.symbols in
    let many = length-file_sections xs ys in
    let symbols = symbols_within xs ys in
    let other = all_sections HasOther xs ys
    (All-weaker IsSectionSized (λ s. HasOther (given_section s))
    (λ s z. record { kind = z.kind; flags = z.flags; link = omega arith; info = omega arith; align = z.align; entry_size = omega arith; size = λ _. z.size }) xs sized)
    (all_added HasOther xs ys
    (All-weaker (IsNumbered IsSectionSized (1 + length xs)) (λ e. HasOther (rela_section (symtab_index xs) e))
    (λ e n. let lt = n.index in record { kind = omega arith; flags = omega arith; link = omega (arith, many, few); info = omega (arith, many, few, lt); align = omega arith; entry_size = omega arith; size = λ h. h })
    (relocated xs) (all_relocated IsSectionSized xs sized))
    (record { kind = omega arith; flags = omega arith; link = omega (arith, many, few); info = omega (arith, symbols, room.contents_fit); align = omega arith; entry_size = omega arith; size = λ h. h })
    (λ name names which. record { kind = omega arith; flags = omega arith; link = omega arith; info = omega arith; align = omega arith; entry_size = omega arith; size = λ h. h })) in
    let small = content_small (2 ^ 32) (all_of parts) (omega (arith, room.contents_fit)) in
    λ k d lt. let o = other k d lt in record { kind = o.kind; flags = o.flags; size = o.size (small k d lt); link = o.link; info = o.info; align = o.align; entry_size = o.entry_size }

-- ---- where sections stand

-- the header with an index shows the section with it
pub shows_at : (parts : ObjectParts) (k : ℕ) → k < section_count (object_bytes parts) → AllZip (Shows (object_bytes parts)) (headers_of (object_bytes parts)) (null_shown ∷ all_of parts) → length (headers_of (object_bytes parts)) ≡ section_count (object_bytes parts) → Shows (object_bytes parts) (header_of (object_bytes parts) k) (get_or (null_shown ∷ all_of parts) k null_shown)
shows_at parts k lt shown many =
    let bytes = object_bytes parts in
    let h = header_of bytes 0 in
    let inside : k < length (headers_of bytes) = omega (arith, lt, many) in
    subst (λ g. Shows bytes g (get_or (null_shown ∷ all_of parts) k null_shown)) (sym (header_listed bytes k h lt))
    (zip_get (Shows bytes) (headers_of bytes) (null_shown ∷ all_of parts) k h null_shown shown inside)

pub given_at : (xs : List SectionParts) (ys : List SymbolParts) (j : ℕ) (d : SectionParts) → j < length xs → get_or (file_sections xs ys) j null_shown ≡ given_section (get_or xs j d)
unfolding file_sections
given_at xs ys j d lt =
    let inside : j < length (given_sections xs) = omega (arith, lt, length-map xs given_section) in
    get_or_append_left (given_sections xs) (added_sections xs ys) null_shown j inside
    ∙ get_or-map given_section xs j d null_shown lt

pub added_at : (xs : List SectionParts) (ys : List SymbolParts) (j : ℕ) → length xs ≤ j → get_or (file_sections xs ys) j null_shown ≡ get_or (added_sections xs ys) (j - length xs) null_shown
unfolding file_sections
added_at xs ys j le = get_or-append_right (given_sections xs) (added_sections xs ys) (length xs) j null_shown (length-map xs given_section) le

pub length-added : (xs : List SectionParts) (ys : List SymbolParts) → length (file_sections xs ys) ≡ length xs + length (added_sections xs ys)
unfolding file_sections
length-added xs ys = length-append (given_sections xs) (added_sections xs ys) ∙ ap (λ n. n + length (added_sections xs ys)) (length-map xs given_section)

-- no added section is kept
pub added_dropped : (xs : List SectionParts) (ys : List SymbolParts) → All (λ s. is_kept_file s ≡ false) (added_sections xs ys)
added_dropped xs ys = all_added (λ s. is_kept_file s ≡ false) xs ys (λ k d lt. refl) refl (λ name names which. refl)
