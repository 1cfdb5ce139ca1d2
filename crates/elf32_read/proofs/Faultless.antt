-- What holds of an object without a fault: of the file, of its sections, of names, of symbols and of relocations.
use Rattle.std.proofs.Common.{◌≡◌, ◌≢◌, ℕ, ◌+◌, ◌*◌, ◌%◌, ◌<◌, ◌≤◌, List, [], ◌∷◌, length, take, drop, Bool, true, false, not, cond, arith, refl, sym, ap, ◌∙◌, eqb, ltb, leb, eq-eqb, Option, Some, None}
use Rattle.std.specs.Prelude.{◌||◌, ◌&&◌, ◌==◌, codes, filter, nat_eq, slice_get}
use Rattle.std.specs.Cmp.Lexicographic.{pointwise}
use Rattle.std.specs.Int.{is_power_of_two}
use Rattle.std.specs.List.{flat_map, list_any}
use Rattle.std.specs.Option.{option_map_or}
use Rattle.std.proofs.lemmas.Bool.{eqb-true, leb-false, lt-ltb, ltb-false, ne_eqb, not-false, or_from, or_parts, and_parts}
use Rattle.std.proofs.lemmas.List.{length-drop, length-take}
use Rattle.std.proofs.lemmas.List.Folds.{list_any-append}
use Rattle.std.proofs.lemmas.Option.{get_or_from_slice_get, slice_get_within}
use Rattle.elf32_read.specs.Compressed.{code_step, has_rvc}
use Rattle.elf32_read.specs.Header.{begins_as, content_of, file_flags, header_of, headers_of, is_empty_kind, section_count, section_table}
use Rattle.elf32_read.specs.Kept.{has_flags, is_kept, is_kept_code}
use Rattle.elf32_read.specs.Names.{has_end, is_name_at, is_unnamed_section, lacks_strings, section_names, strings_of}
use Rattle.elf32_read.specs.Object.{IsWholeFile, counts_elsewhere, has_bad_alignment, has_bad_name, has_bad_symbol, has_cut_code, has_other_binding, has_other_flags, has_other_kind, has_other_symbols, has_second_symbol_table, has_too_many_sections, has_two_relas, has_unlinked_sections, is_bad_alignment, is_bad_common, is_bad_symbol, is_badly_aligned, is_compressed, is_cut_code, is_foreign_kind, is_homeless, is_kept_by_thread, is_kept_rela, is_kept_unknown, is_odd_code, is_odd_rela, is_odd_symbol_table, is_of_no_symbol, is_rela_of_none, is_too_long, is_undefined_local, is_unlinked, is_unnamed_symbol, lacks_section_names, lacks_symbol_names, names_no_symbol, not_elf, object_fault, passes_end, passes_section, truncated}
use Rattle.elf32_read.specs.Parts.{is_kept_section, relocs_held, relocs_of, section_parts}
use Rattle.elf32_read.specs.Relocs.{relas_for}
use Rattle.elf32_read.specs.Symbols.{symbol_content, symbol_count, symbol_entries, symbol_entry_of, symbol_names, symbol_table, symbol_tables}
use Rattle.elf32_read.specs.declared.fault.Fault.TheVariants.{NotElf, Truncated, Flags, SectionKind, Alignment, CodeSize, BadName, BadSymbol, TooLarge}
use Rattle.elf32_read.specs.declared.header.SectionHeader.{SectionHeader}
use Rattle.elf32_read.specs.declared.reloc.Reloc.{Reloc}
use Rattle.elf32_read.specs.declared.symbol_entry.SymbolEntry.{SymbolEntry}
use Rattle.elf32_read.proofs.Decided.{first_no}
use Rattle.elf32_read.proofs.Dropped.{none_dropped_at}
use Rattle.elf32_read.proofs.Listed.{none_at, none_listed}
use Rattle.elf32_read.proofs.Marks.{for_is_rela}
use Rattle.elf32_read.proofs.Strings.{is_named}
use Rattle.elf32_read.proofs.Tests.{changes}

-- an object has none of the faults
pub record NoFault (bytes : List ℕ) : Type 0 where
  pub short : is_too_long bytes ≡ false
  pub elf : not_elf bytes ≡ false
  pub few : has_too_many_sections bytes ≡ false
  pub whole : truncated bytes ≡ false
  pub flags : has_other_flags bytes ≡ false
  pub linked : has_unlinked_sections bytes ≡ false
  pub aligned : has_bad_alignment bytes ≡ false
  pub words : has_cut_code bytes ≡ false
  pub named : has_bad_name bytes ≡ false
  pub symbols : has_bad_symbol bytes ≡ false

pub no_fault : (bytes : List ℕ) → object_fault bytes ≡ None → NoFault bytes
unfolding object_fault
no_fault bytes h =
    let short = first_no (is_too_long bytes) TooLarge _ h in
    let elf = first_no (not_elf bytes) NotElf _ short.1 in
    let few = first_no (has_too_many_sections bytes) TooLarge _ elf.1 in
    let whole = first_no (truncated bytes) Truncated _ few.1 in
    let flags = first_no (has_other_flags bytes) Flags _ whole.1 in
    let linked = first_no (has_unlinked_sections bytes) SectionKind _ flags.1 in
    let aligned = first_no (has_bad_alignment bytes) Alignment _ linked.1 in
    let words = first_no (has_cut_code bytes) CodeSize _ aligned.1 in
    let named = first_no (has_bad_name bytes) BadName _ words.1 in
    let symbols = first_no (has_bad_symbol bytes) BadSymbol _ named.1 in
    record {
      short = short.0;
      elf = elf.0;
      few = few.0;
      whole = whole.0;
      flags = flags.0;
      linked = linked.0;
      aligned = aligned.0;
      words = words.0;
      named = named.0;
      symbols = symbols.0;
    }

-- the headers and the contents of a file that isn't truncated lie in it
pub whole : (bytes : List ℕ) → 52 ≤ length bytes → truncated bytes ≡ false → IsWholeFile bytes
whole bytes long h =
    let parts = or_parts (ltb (length bytes) (section_table bytes + 40 * section_count bytes)) (list_any (passes_end bytes) (headers_of bytes)) h in
    record {
      long = long;
      headers = ltb-false (length bytes) (section_table bytes + 40 * section_count bytes) parts.0;
      contents = λ i lt. none_listed (passes_end bytes) (header_of bytes) (section_count bytes) i parts.1 lt;
    }

-- a file that isn't too short to be an object has a header
pub long : (bytes : List ℕ) → not_elf bytes ≡ false → 52 ≤ length bytes
long bytes h = ltb-false (length bytes) 52 (or_parts (ltb (length bytes) 52) _ (or_parts (ltb (length bytes) 52 || not (begins_as 1 bytes)) _ h).0).0

pub faultless_whole : (bytes : List ℕ) → object_fault bytes ≡ None → IsWholeFile bytes
faultless_whole bytes h = let none = no_fault bytes h in whole bytes (long bytes none.elf) none.whole

-- no section is of a kind that is never linked
pub record AreLinked (bytes : List ℕ) : Type 0 where
  pub counted : counts_elsewhere bytes ≡ false
  pub one_table : has_second_symbol_table bytes ≡ false
  pub each : (i : ℕ) → i < section_count bytes → is_unlinked bytes (header_of bytes i) ≡ false
  pub one_rela : has_two_relas bytes ≡ false

pub linked : (bytes : List ℕ) → object_fault bytes ≡ None → AreLinked bytes
linked bytes h =
    let three = or_parts (counts_elsewhere bytes || has_second_symbol_table bytes || list_any (is_unlinked bytes) (headers_of bytes)) (has_two_relas bytes) (no_fault bytes h).linked in
    let two = or_parts (counts_elsewhere bytes || has_second_symbol_table bytes) (list_any (is_unlinked bytes) (headers_of bytes)) three.0 in
    let one = or_parts (counts_elsewhere bytes) (has_second_symbol_table bytes) two.0 in
    record {
      counted = one.0;
      one_table = one.1;
      each = λ i lt. none_listed (is_unlinked bytes) (header_of bytes) (section_count bytes) i two.1 lt;
      one_rela = three.1;
    }

-- a section's content is no longer than the file
pub content_short : (bytes : List ℕ) (header : SectionHeader) → length (content_of bytes header) ≤ length bytes
content_short bytes header = by (is_empty_kind header.kind)
  where
    by : (b : Bool) → length (cond b [] (take header.size (drop header.offset bytes))) ≤ length bytes
    by true = omega arith
    by false = omega (arith, length-take header.size (drop header.offset bytes), length-drop header.offset bytes)

-- the symbol table is no longer than the file
pub few_symbols : (bytes : List ℕ) → object_fault bytes ≡ None → length (symbol_content bytes) ≤ 0x40_0000
few_symbols bytes h =
    let short = ltb-false 0x40_0000 (length bytes) (no_fault bytes h).short in
    omega (arith, short, by (symbol_table bytes))
  where
    by : (table : Option SectionHeader) → length (option_map_or (content_of bytes) table []) ≤ length bytes
    by None = omega arith
    by (Some header) = content_short bytes header

-- the string table of the symbols is no longer than the file
pub few_names : (bytes : List ℕ) → object_fault bytes ≡ None → length (symbol_names bytes) ≤ 0x40_0000
few_names bytes h =
    let short = ltb-false 0x40_0000 (length bytes) (no_fault bytes h).short in
    omega (arith, short, by (symbol_table bytes))
  where
    strings_short : (i : ℕ) (b : Bool) → length (cond b [] (content_of bytes (header_of bytes i))) ≤ length bytes
    strings_short i true = omega arith
    strings_short i false = content_short bytes (header_of bytes i)

    by : (table : Option SectionHeader) → length (option_map_or (λ header. strings_of bytes header.link) table []) ≤ length bytes
    by None = omega arith
    by (Some header) = strings_short header.link (lacks_strings bytes header.link)

-- a section's content lies within the file
pub content_within : (bytes : List ℕ) (header : SectionHeader) → passes_end bytes header ≡ false → header.kind ≢ 0 → header.kind ≢ 8 → header.offset + header.size ≤ length bytes
content_within bytes header e not_null not_nobits =
    ltb-false (length bytes) (header.offset + header.size) (rw (ne_eqb header.kind 0 not_null, ne_eqb header.kind 8 not_nobits) at e)

-- a section's content has the size that its header says
pub content_whole : (bytes : List ℕ) (header : SectionHeader) → passes_end bytes header ≡ false → header.kind ≢ 0 → header.kind ≢ 8 → length (content_of bytes header) ≡ header.size
content_whole bytes header e not_null not_nobits =
    let within = content_within bytes header e not_null not_nobits in
    let some : is_empty_kind header.kind ≡ false = or_from (eqb header.kind 0) (eqb header.kind 8) (ne_eqb header.kind 0 not_null) (ne_eqb header.kind 8 not_nobits) in
    ap (λ b. length (cond b [] (take header.size (drop header.offset bytes)))) some
    ∙ omega (arith, length-take header.size (drop header.offset bytes), length-drop header.offset bytes, within)

-- ---- kept sections

-- the kind of a section that a program keeps in memory: PROGBITS, NOBITS, INIT_ARRAY, FINI_ARRAY or PREINIT_ARRAY
abbrev pub is_memory_kind : ℕ → Bool
is_memory_kind kind = kind == 1 || kind == 8 || kind == 14 || kind == 15 || kind == 16

-- an alignment up to a maximum: 0 or a power of two
pub record IsAlignment (most align : ℕ) : Type 0 where
  pub low : align ≤ most
  pub power : align ≢ 0 → is_power_of_two align ≡ true

is_alignment : (most align : ℕ) → is_bad_alignment most align ≡ false → IsAlignment most align
is_alignment most align good = by (eqb align 0) refl good
  where
    by : (b : Bool) → eqb align 0 ≡ b → (not b && (not (is_power_of_two align) || ltb most align)) ≡ false → IsAlignment most align
    by true e good = let none = eqb-true align 0 e in record { low = omega (arith, none); power = λ some. absurd (some none) }
    by false e good =
        let parts = or_parts (not (is_power_of_two align)) (ltb most align) good in
        record { low = ltb-false most align parts.1; power = λ some. not-false (is_power_of_two align) parts.0 }

-- a kept section has a type that lies in memory, is neither thread-local nor compressed, and has an alignment
pub record IsKept (header : SectionHeader) : Type 0 where
  pub kind : is_memory_kind header.kind ≡ true
  pub shared : has_flags 0x400 header.flags ≡ false
  pub plain : has_flags 0x800 header.flags ≡ false
  pub aligned : IsAlignment 4096 header.align

-- kept code is PROGBITS that the program can't write to, its size is a multiple of its step, and its alignment is at most 256
pub record IsKeptCode (compressed : Bool) (header : SectionHeader) : Type 0 where
  pub kind : header.kind ≡ 1
  pub constant : has_flags 1 header.flags ≡ false
  pub words : header.size % code_step compressed ≡ 0
  pub aligned : IsAlignment 256 header.align

-- the causes for which a section is never linked, one by one
record NoCause (bytes : List ℕ) (h : SectionHeader) : Type 0 where
  pub foreign : is_foreign_kind h ≡ false
  pub compressed : is_compressed h ≡ false
  pub symbols : is_odd_symbol_table h ≡ false
  pub thread : is_kept_by_thread bytes h ≡ false
  pub unknown : is_kept_unknown bytes h ≡ false
  pub code : is_odd_code bytes h ≡ false
  pub rela : is_odd_rela bytes h ≡ false
  pub other : has_other_symbols bytes h ≡ false
  pub none : is_rela_of_none bytes h ≡ false

no_cause : (bytes : List ℕ) (h : SectionHeader) → is_unlinked bytes h ≡ false → NoCause bytes h
no_cause bytes h good =
    let two = is_foreign_kind h || is_compressed h in
    let four = two || is_odd_symbol_table h || is_kept_by_thread bytes h in
    let six = four || is_kept_unknown bytes h || is_odd_code bytes h in
    let eight = six || is_odd_rela bytes h || has_other_symbols bytes h in
    let a = or_parts eight (is_rela_of_none bytes h) good in
    let b = or_parts (six || is_odd_rela bytes h) (has_other_symbols bytes h) a.0 in
    let c = or_parts six (is_odd_rela bytes h) b.0 in
    let d = or_parts (four || is_kept_unknown bytes h) (is_odd_code bytes h) c.0 in
    let e = or_parts four (is_kept_unknown bytes h) d.0 in
    let f = or_parts (two || is_odd_symbol_table h) (is_kept_by_thread bytes h) e.0 in
    let g = or_parts two (is_odd_symbol_table h) f.0 in
    let i = or_parts (is_foreign_kind h) (is_compressed h) g.0 in
    record {
      foreign = i.0;
      compressed = i.1;
      symbols = g.1;
      thread = f.1;
      unknown = e.1;
      code = d.1;
      rela = c.1;
      other = b.1;
      none = a.1;
    }

-- if not both of two tests hold, and the first does, the second doesn't
second_no : (a b : Bool) → (a && b) ≡ false → a ≡ true → b ≡ false
second_no true b none is = none
second_no false b none is = absurd cc

module _ (bytes : List ℕ) (read : object_fault bytes ≡ None) where
  aligned_parts : (list_any (is_badly_aligned bytes) (headers_of bytes) ≡ false) × (list_any is_bad_common (drop 1 (symbol_entries bytes)) ≡ false)
  aligned_parts = or_parts (list_any (is_badly_aligned bytes) (headers_of bytes)) (list_any is_bad_common (drop 1 (symbol_entries bytes))) (no_fault bytes read).aligned

  section_aligned : (i : ℕ) → i < section_count bytes → is_kept bytes (header_of bytes i) ≡ true → is_bad_alignment (cond (has_flags 4 (header_of bytes i).flags) 256 4096) (header_of bytes i).align ≡ false
  section_aligned i lt kept =
      let h = header_of bytes i in
      second_no (is_kept bytes h) (is_bad_alignment (cond (has_flags 4 h.flags) 256 4096) h.align) (none_listed (is_badly_aligned bytes) (header_of bytes) (section_count bytes) i aligned_parts.0 lt) kept

  pub kept_section : (i : ℕ) → i < section_count bytes → is_kept bytes (header_of bytes i) ≡ true → IsKept (header_of bytes i)
  kept_section i lt kept =
      let h = header_of bytes i in
      let causes = no_cause bytes h ((linked bytes read).each i lt) in
      record {
        kind = not-false (is_memory_kind h.kind) (second_no (is_kept bytes h) (not (is_memory_kind h.kind)) causes.unknown kept);
        shared = second_no (is_kept bytes h) (has_flags 0x400 h.flags) causes.thread kept;
        plain = causes.compressed;
        aligned = by (has_flags 4 h.flags) (section_aligned i lt kept);
      }
    where
      by : (b : Bool) → is_bad_alignment (cond b 256 4096) (header_of bytes i).align ≡ false → IsAlignment 4096 (header_of bytes i).align
      by true good = let is = is_alignment 256 (header_of bytes i).align good in record { low = omega (arith, is.low); power = is.power }
      by false good = is_alignment 4096 (header_of bytes i).align good

  pub kept_code : (i : ℕ) → i < section_count bytes → is_kept_code bytes (header_of bytes i) ≡ true → IsKeptCode (has_rvc (file_flags bytes)) (header_of bytes i)
  kept_code i lt code =
      let h = header_of bytes i in
      let causes = no_cause bytes h ((linked bytes read).each i lt) in
      let parts = and_parts (is_kept bytes h) (has_flags 4 h.flags) code in
      let odd = or_parts (has_flags 1 h.flags) (not (h.kind == 1)) (second_no (is_kept_code bytes h) (has_flags 1 h.flags || not (h.kind == 1)) causes.code code) in
      let step = code_step (has_rvc (file_flags bytes)) in
      let cut = second_no (is_kept_code bytes h) (not (h.size % step == 0)) (none_listed (is_cut_code bytes) (header_of bytes) (section_count bytes) i (no_fault bytes read).words lt) code in
      record {
        kind = eqb-true h.kind 1 (not-false (eqb h.kind 1) odd.1);
        constant = odd.0;
        words = eqb-true (h.size % step) 0 (not-false (eqb (h.size % step) 0) cut);
        aligned = is_alignment 256 h.align (sym (ap (λ b. is_bad_alignment (cond b 256 4096) h.align) parts.1) ∙ section_aligned i lt parts.0);
      }

  -- ---- names

  named_parts : (list_any (is_unnamed_section bytes) (headers_of bytes) ≡ false) × (list_any (is_unnamed_symbol bytes) (symbol_entries bytes) ≡ false)
  named_parts =
      let tables = lacks_section_names bytes || list_any (lacks_symbol_names bytes) (symbol_tables bytes) in
      let all = or_parts (tables || list_any (is_unnamed_section bytes) (headers_of bytes)) (list_any (is_unnamed_symbol bytes) (symbol_entries bytes)) (no_fault bytes read).named in
      ((or_parts tables (list_any (is_unnamed_section bytes) (headers_of bytes)) all.0).1, all.1)

  -- each section's name is terminated
  pub section_named : (i : ℕ) → i < section_count bytes → has_end (section_names bytes) (header_of bytes i).name ≡ true
  section_named i lt =
      not-false (has_end (section_names bytes) (header_of bytes i).name) (none_listed (is_unnamed_section bytes) (header_of bytes) (section_count bytes) i named_parts.0 lt)

  -- each symbol's name is terminated, including the name of symbol 0
  pub symbol_named : (k : ℕ) → k < symbol_count bytes → has_end (symbol_names bytes) (symbol_entry_of bytes k).name ≡ true
  symbol_named k lt =
      not-false (has_end (symbol_names bytes) (symbol_entry_of bytes k).name) (none_listed (is_unnamed_symbol bytes) (symbol_entry_of bytes) (symbol_count bytes) k named_parts.1 lt)

  -- a section has a name exactly if the name is where the header says
  pub section_is_named : (name : List ℕ) (i : ℕ) → i < section_count bytes → list_any (λ byte. byte == 0) name ≡ false → pointwise nat_eq (section_parts bytes i).name name ≡ is_name_at name (section_names bytes) (header_of bytes i).name
  section_is_named name i lt whole = is_named (section_names bytes) name (header_of bytes i).name (section_named i lt) whole

  -- the parts of a section say whether it is kept
  pub is_kept_section-parts : (i : ℕ) → i < section_count bytes → is_kept_section (section_parts bytes i) ≡ is_kept bytes (header_of bytes i)
  is_kept_section-parts i lt = ap (λ b. has_flags 2 (header_of bytes i).flags && not b) (section_is_named (codes ".eh_frame") i lt refl)

  -- ---- symbols

  -- a symbol other than 0: global, weak, or local and defined; in a section, undefined, absolute or common; and not past the
  -- end of a kept section
  pub record IsSymbolOf (e : SymbolEntry) : Type 0 where
    pub bind : e.bind ≤ 2
    pub kind : (e.kind ≢ 6) × (e.kind ≢ 10)
    pub defined : e.bind ≡ 0 → e.home ≢ 0
    pub home : e.home ≢ 0xFFF1 → e.home ≢ 0xFFF2 → e.home < section_count bytes
    pub within : e.home ≢ 0 → e.home < section_count bytes → is_kept bytes (header_of bytes e.home) ≡ true → e.value ≤ (header_of bytes e.home).size
    pub common : e.home ≡ 0xFFF2 → IsAlignment 4096 e.value

  symbol_parts_good : (list_any (is_bad_symbol bytes) (drop 1 (symbol_entries bytes)) ≡ false) × (list_any (is_of_no_symbol bytes) (headers_of bytes) ≡ false)
  symbol_parts_good = or_parts (list_any (is_bad_symbol bytes) (drop 1 (symbol_entries bytes))) (list_any (is_of_no_symbol bytes) (headers_of bytes)) (no_fault bytes read).symbols

  -- a symbol that isn't bad, by its causes
  good : (e : SymbolEntry) → is_bad_symbol bytes e ≡ false → is_bad_common e ≡ false → IsSymbolOf e
  good e fine aligned =
      let three = has_other_binding e || has_other_kind e || is_undefined_local e in
      let a = or_parts (three || is_homeless bytes e) (passes_section bytes e) fine in
      let b = or_parts three (is_homeless bytes e) a.0 in
      let c = or_parts (has_other_binding e || has_other_kind e) (is_undefined_local e) b.0 in
      let d = or_parts (has_other_binding e) (has_other_kind e) c.0 in
      let kinds = or_parts (eqb e.kind 6) (eqb e.kind 10) d.1 in
      record {
        bind = ltb-false 2 e.bind d.0;
        kind = (λ is. cc (kinds.0, eq-eqb e.kind 6 is), λ is. cc (kinds.1, eq-eqb e.kind 10 is));
        defined = λ local undefined. cc (c.1, both (eqb e.bind 0) (eqb e.home 0) (eq-eqb e.bind 0 local) (eq-eqb e.home 0 undefined));
        home = λ not_abs not_common. leb-false (section_count bytes) e.home (in_section (leb (section_count bytes) e.home) b.1 not_abs not_common);
        within = λ placed lt kept. ltb-false (header_of bytes e.home).size e.value (second_no (not (eqb e.home 0) && ltb e.home (section_count bytes) && is_kept bytes (header_of bytes e.home)) (ltb (header_of bytes e.home).size e.value) a.1 (both (not (eqb e.home 0) && ltb e.home (section_count bytes)) (is_kept bytes (header_of bytes e.home)) (both (not (eqb e.home 0)) (ltb e.home (section_count bytes)) (ap not (ne_eqb e.home 0 placed)) (lt-ltb e.home (section_count bytes) lt)) kept));
        common = λ is. is_alignment 4096 e.value (second_no (eqb e.home 0xFFF2) (is_bad_alignment 4096 e.value) aligned (eq-eqb e.home 0xFFF2 is));
      }
    where
      both : (a b : Bool) → a ≡ true → b ≡ true → (a && b) ≡ true
      both true b is then = then
      both false b is then = absurd cc

      in_section : (past : Bool) → (past && not (eqb e.home 0xFFF1) && not (eqb e.home 0xFFF2)) ≡ false → e.home ≢ 0xFFF1 → e.home ≢ 0xFFF2 → past ≡ false
      in_section false fine not_abs not_common = refl
      in_section true fine not_abs not_common = absurd (cc (fine, both (not (eqb e.home 0xFFF1)) (not (eqb e.home 0xFFF2)) (ap not (ne_eqb e.home 0xFFF1 not_abs)) (ap not (ne_eqb e.home 0xFFF2 not_common))))

  pub other_symbol : (k : ℕ) → 1 ≤ k → k < symbol_count bytes → IsSymbolOf (symbol_entry_of bytes k)
  other_symbol k some lt =
      good (symbol_entry_of bytes k)
      (none_dropped_at (is_bad_symbol bytes) (symbol_entry_of bytes) (symbol_count bytes) k symbol_parts_good.0 some lt)
      (none_dropped_at is_bad_common (symbol_entry_of bytes) (symbol_count bytes) k aligned_parts.1 some lt)

  -- ---- relocations

  -- every relocation of a kept section names an existing symbol
  none_held : (i : ℕ) → i < section_count bytes → is_kept bytes (header_of bytes i) ≡ true → (hs : List SectionHeader) → list_any (is_of_no_symbol bytes) hs ≡ false → list_any (names_no_symbol bytes) (flat_map (relocs_held bytes) (filter (changes i) hs)) ≡ false
  none_held i lt kept [] none = refl
  none_held i lt kept (h ∷ hs) none =
      let parts = or_parts (is_of_no_symbol bytes h) (list_any (is_of_no_symbol bytes) hs) none in
      by (changes i h) refl parts.0 (none_held i lt kept hs parts.1)
    where
      by : (b : Bool) → changes i h ≡ b → is_of_no_symbol bytes h ≡ false → list_any (names_no_symbol bytes) (flat_map (relocs_held bytes) (filter (changes i) hs)) ≡ false → list_any (names_no_symbol bytes) (flat_map (relocs_held bytes) (cond b (h ∷ filter (changes i) hs) (filter (changes i) hs))) ≡ false
      by false e fine rest = rest
      by true e fine rest =
          let held = second_no (is_kept_rela bytes h) (list_any (names_no_symbol bytes) (relocs_held bytes h)) fine (for_is_rela bytes h i (record { within = lt; kept = kept; changes = e })) in
          list_any-append (names_no_symbol bytes) (relocs_held bytes h) (flat_map (relocs_held bytes) (filter (changes i) hs))
          ∙ or_from (list_any (names_no_symbol bytes) (relocs_held bytes h)) (list_any (names_no_symbol bytes) (flat_map (relocs_held bytes) (filter (changes i) hs))) held rest

  none_of_section : (i : ℕ) → i < section_count bytes → list_any (names_no_symbol bytes) (relocs_of bytes i) ≡ false
  none_of_section i lt = by (is_kept bytes (header_of bytes i)) refl
    where
      by : (b : Bool) → is_kept bytes (header_of bytes i) ≡ b → list_any (names_no_symbol bytes) (cond b (flat_map (relocs_held bytes) (relas_for bytes i)) []) ≡ false
      by true e = none_held i lt e (headers_of bytes) symbol_parts_good.1
      by false e = refl

  -- each relocation names a symbol of the object
  pub reloc_symbol : (i k : ℕ) (r : Reloc) → i < section_count bytes → slice_get (relocs_of bytes i) k ≡ Some r → r.symbol < symbol_count bytes
  reloc_symbol i k r lt is =
      let inside = slice_get_within (relocs_of bytes i) k r is in
      let none = none_at (names_no_symbol bytes) (relocs_of bytes i) k r (none_of_section i lt) inside in
      leb-false (symbol_count bytes) r.symbol (sym (ap (names_no_symbol bytes) (get_or_from_slice_get (relocs_of bytes i) k r r is)) ∙ none)
