-- Sections of a written object pass each test of a reader.
use Rattle.std.proofs.Common.{◌≡◌, ℕ, ◌%◌, ◌<◌, List, length, Bool, true, false, not, ◌&&◌, ◌||◌, ◌==◌, refl, ap, ◌∙◌, arith, if◌then◌else◌}
use Rattle.std.specs.Prelude.{All, nat_eq, nat_lt, nat_le}
use Rattle.std.specs.List.{flat_map, list_any}
use Rattle.std.proofs.lemmas.Bool.{and_left, and_parts, and_right, eq-eqb, lt-leb, not-true, or_from, or_parts}
use Rattle.std.proofs.lemmas.List.Elements.{All-weaker}
use Rattle.std.proofs.lemmas.List.Folds.{list_any_none}
use Rattle.elf32_read.specs.Compressed.{code_step, has_rvc}
use Rattle.elf32_read.specs.Header.{file_flags, header_of, section_count}
use Rattle.elf32_read.specs.Kept.{has_flags, is_kept}
use Rattle.elf32_read.specs.Object.{is_bad_alignment, is_badly_aligned, is_cut_code, is_of_no_symbol, is_unlinked, lacks_symbols, names_no_symbol}
use Rattle.elf32_read.specs.Parts.{SectionParts, SymbolParts, is_code_section, is_kept_section}
use Rattle.elf32_read.specs.Relocs.{relocs_in}
use Rattle.elf32_read.specs.Symbols.{symbol_count}
use Rattle.elf32_read.specs.declared.header.SectionHeader.{SectionHeader}
use Rattle.elf32_write.specs.Entries.{reloc_bytes, symbol_bytes, written_entries}
use Rattle.elf32_write.specs.FileSections.{FileSection, given_section, rela_section, strtab_section, symtab_section}
use Rattle.elf32_write.proofs.RelocsBack.{IsReloc, length-reloc_bytes, relocs_back}
use Rattle.elf32_write.proofs.SoundParts.{IsSoundSection, can_be_kept}
use Rattle.elf32_write.proofs.SectionsBack.{Shows, is_kept_file, kept_back}
use Rattle.elf32_write.proofs.Stages.{length-symbols}

-- if the first test makes the second fail, not both pass
pub implied : (a b : Bool) → (a ≡ true → b ≡ false) → (a && b) ≡ false
implied true b fails = fails refl
implied false b fails = refl

-- a section of relocations that count, as the reader sees it
abbrev pub is_counted : List ℕ → FileSection → Bool
is_counted file s = nat_eq s.kind 4 && nat_lt s.info (section_count file) && is_kept file (header_of file s.info)

-- a section that passes the tests, in an object with these e_flags
pub record IsLinkable (file : List ℕ) (flags : ℕ) (s : FileSection) : Type 0 where
  pub foreign : (s.kind == 9 || s.kind == 17 || s.kind == 18) ≡ false
  pub plain : has_flags 0x800 s.flags ≡ false
  pub table : (s.kind == 2 && (not (s.entry_size == 16) || not (s.size % 16 == 0))) ≡ false
  pub shared : (is_kept_file s && has_flags 0x400 s.flags) ≡ false
  pub known : (is_kept_file s && not (can_be_kept s.kind)) ≡ false
  pub code : (is_kept_file s && has_flags 4 s.flags && (has_flags 1 s.flags || not (s.kind == 1))) ≡ false
  pub aligned : (is_kept_file s && is_bad_alignment (if has_flags 4 s.flags then 256 else 4096) s.align) ≡ false
  pub cut : (is_kept_file s && has_flags 4 s.flags && not (s.size % code_step (has_rvc flags) == 0)) ≡ false
  pub odd : (is_counted file s && (not (s.entry_size == 12) || not (s.size % 12 == 0))) ≡ false
  pub linked : (is_counted file s && lacks_symbols file s.link) ≡ false
  pub listed : (s.kind == 4 && nat_le (section_count file) s.info) ≡ false
  pub symbols : (is_counted file s && list_any (names_no_symbol file) (relocs_in s.content)) ≡ false

-- ---- the tests

counted_back : (file : List ℕ) (h : SectionHeader) (s : FileSection) → Shows file h s → (h.kind == 4 && nat_lt h.info (section_count file) && is_kept file (header_of file h.info)) ≡ is_counted file s
counted_back file h s r = λ i. r.kind i == 4 && nat_lt (r.info i) (section_count file) && is_kept file (header_of file (r.info i))

pub not_unlinked : (file : List ℕ) (flags : ℕ) (h : SectionHeader) (s : FileSection) → Shows file h s → IsLinkable file flags s → is_unlinked file h ≡ false
not_unlinked file flags h s r g =
    let kept = kept_back file h s r in
    let counted = counted_back file h s r in
    let foreign = ap (λ k. k == 9 || k == 17 || k == 18) r.kind ∙ g.foreign in
    let plain = ap (has_flags 0x800) r.flags ∙ g.plain in
    let table = (λ i. r.kind i == 2 && (not (r.entry_size i == 16) || not (r.size i % 16 == 0))) ∙ g.table in
    let shared = (λ i. kept i && has_flags 0x400 (r.flags i)) ∙ g.shared in
    let known = (λ i. kept i && not (can_be_kept (r.kind i))) ∙ g.known in
    let code = (λ i. kept i && has_flags 4 (r.flags i) && (has_flags 1 (r.flags i) || not (r.kind i == 1))) ∙ g.code in
    let odd = (λ i. counted i && (not (r.entry_size i == 12) || not (r.size i % 12 == 0))) ∙ g.odd in
    let linked = (λ i. counted i && lacks_symbols file (r.link i)) ∙ g.linked in
    let listed = (λ i. r.kind i == 4 && nat_le (section_count file) (r.info i)) ∙ g.listed in
    or_from _ _ (or_from _ _ (or_from _ _ (or_from _ _ (or_from _ _ (or_from _ _ (or_from _ _ (or_from _ _ foreign plain) table) shared) known) code) odd) linked) listed

pub not_badly_aligned : (file : List ℕ) (flags : ℕ) (h : SectionHeader) (s : FileSection) → Shows file h s → IsLinkable file flags s → is_badly_aligned file h ≡ false
not_badly_aligned file flags h s r g =
    let kept = kept_back file h s r in
    (λ i. kept i && is_bad_alignment (if has_flags 4 (r.flags i) then 256 else 4096) (r.align i)) ∙ g.aligned

pub not_cut : (file : List ℕ) (flags : ℕ) → file_flags file ≡ flags → (h : SectionHeader) (s : FileSection) → Shows file h s → IsLinkable file flags s → is_cut_code file h ≡ false
not_cut file flags is h s r g =
    let kept = kept_back file h s r in
    (λ i. kept i && has_flags 4 (r.flags i) && not (r.size i % code_step (has_rvc (is i)) == 0)) ∙ g.cut

pub not_of_no_symbol : (file : List ℕ) (flags : ℕ) (h : SectionHeader) (s : FileSection) → Shows file h s → IsLinkable file flags s → is_of_no_symbol file h ≡ false
not_of_no_symbol file flags h s r g =
    let counted = counted_back file h s r in
    (λ i. counted i && list_any (names_no_symbol file) (relocs_in (r.content i))) ∙ g.symbols

-- ---- sections that pass

-- a given section of the type RELA is for section 0, which isn't kept
pub given_linkable : (file : List ℕ) (flags count : ℕ) (s : SectionParts) → 0 < section_count file → is_kept file (header_of file 0) ≡ false → IsSoundSection flags count s → IsLinkable file flags (given_section s)
given_linkable file flags count s some dropped w =
    let kinds = or_parts (s.kind == 2 || s.kind == 9 || s.kind == 17) (s.kind == 18) (not-true (s.kind == 2 || s.kind == 9 || s.kind == 17 || s.kind == 18) w.kind) in
    let three = or_parts (s.kind == 2 || s.kind == 9) (s.kind == 17) kinds.0 in
    let two = or_parts (s.kind == 2) (s.kind == 9) three.0 in
    let counted : is_counted file (given_section s) ≡ false = and_right (nat_eq s.kind 4 && nat_lt 0 (section_count file)) (is_kept file (header_of file 0)) dropped in
    let kept = is_kept_section s in
    record {
      foreign = or_from _ _ (or_from _ _ two.1 three.1) kinds.1;
      plain = w.plain;
      table = and_left (s.kind == 2) _ two.0;
      shared = implied kept (has_flags 0x400 s.flags) (λ k. (w.kept k).shared);
      known = implied kept (not (can_be_kept s.kind)) (λ k. ap not (w.kept k).kind);
      code = implied (is_code_section s) (has_flags 1 s.flags || not (s.kind == 1)) (λ c.
          let code = (w.kept (and_parts kept (has_flags 4 s.flags) c).0).code c in
          or_from _ _ code.read_only (ap not (eq-eqb s.kind 1 code.kind)));
      aligned = implied kept (is_bad_alignment (if has_flags 4 s.flags then 256 else 4096) s.align) (λ k. (w.kept k).align);
      cut = implied (is_code_section s) (not (s.size % code_step (has_rvc flags) == 0)) (λ c.
          let code = (w.kept (and_parts kept (has_flags 4 s.flags) c).0).code c in
          ap not (eq-eqb (s.size % code_step (has_rvc flags)) 0 code.size));
      odd = and_left (is_counted file (given_section s)) _ counted;
      linked = and_left (is_counted file (given_section s)) _ counted;
      listed = and_right (s.kind == 4) (nat_le (section_count file) 0) (lt-leb (section_count file) 0 some);
      symbols = and_left (is_counted file (given_section s)) _ counted;
    }

-- relocations are those of a section that is there, over symbols that are there
pub rela_linkable : (file : List ℕ) (flags count symtab : ℕ) (e : ℕ × SectionParts) → symbol_count file ≡ count → lacks_symbols file symtab ≡ false → e.0 < section_count file → IsSoundSection flags count e.1 → All IsReloc e.1.relocs → IsLinkable file flags (rela_section symtab e)
rela_linkable file flags count symtab e counted found inside w rows =
    let content : List ℕ = flat_map reloc_bytes e.1.relocs in
    let whole : length content % 12 ≡ 0 = omega (arith, length-reloc_bytes e.1.relocs) in
    let test = is_counted file (rela_section symtab e) in
    let named : list_any (names_no_symbol file) (relocs_in content) ≡ false =
    ap (list_any (names_no_symbol file)) (relocs_back e.1.relocs rows)
    ∙ list_any_none (names_no_symbol file) e.1.relocs (All-weaker (λ r. r.symbol < count) (λ r. names_no_symbol file r ≡ false) (λ r lt. lt-leb (symbol_count file) r.symbol (omega (arith, lt, counted))) e.1.relocs w.relocs) in
    record {
      foreign = refl;
      plain = refl;
      table = refl;
      shared = refl;
      known = refl;
      code = refl;
      aligned = refl;
      cut = refl;
      odd = and_right test _ (ap not (eq-eqb (length content % 12) 0 whole));
      linked = and_right test (lacks_symbols file symtab) found;
      listed = lt-leb (section_count file) e.0 inside;
      symbols = and_right test _ named;
    }

pub symtab_linkable : (file : List ℕ) (flags symtab : ℕ) (ys : List SymbolParts) → IsLinkable file flags (symtab_section symtab ys)
symtab_linkable file flags symtab ys =
    let content : List ℕ = flat_map symbol_bytes (written_entries ys) in
    let whole : length content % 16 ≡ 0 = omega (arith, length-symbols ys) in
    record {
      foreign = refl;
      plain = refl;
      table = ap not (eq-eqb (length content % 16) 0 whole);
      shared = refl;
      known = refl;
      code = refl;
      aligned = refl;
      cut = refl;
      odd = refl;
      linked = refl;
      listed = refl;
      symbols = refl;
    }

pub names_linkable : (file : List ℕ) (flags : ℕ) (name : List ℕ) (names : List (List ℕ)) → IsLinkable file flags (strtab_section name names)
names_linkable file flags name names = record { foreign = refl; plain = refl; table = refl; shared = refl; known = refl; code = refl; aligned = refl; cut = refl; odd = refl; linked = refl; listed = refl; symbols = refl }
