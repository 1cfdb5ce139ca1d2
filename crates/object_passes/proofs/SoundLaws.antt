-- What becomes of objects without a fault can be written, if it isn't too large: sections and symbols of the result are sound since those
-- of the given objects are.
use Rattle.std.proofs.Common.{◌≡◌, ℕ, suc, ◌+◌, ◌<◌, ◌≤◌, List, [], ◌∷◌, ◌++◌, length, take, drop, map, filter, refl, sym, ap, ap₂, ◌∙◌, arith, Bool, true, false, cond, eqb, ltb, Option, Some, None, slice_get, get_or, subst}
use Rattle.std.specs.Prelude.{◌&&◌, ◌||◌, not, All, IfSome}
use Rattle.std.specs.Int.{is_power_of_two}
use Rattle.std.specs.List.{enumerate_from, list_any, take_while}
use Rattle.std.proofs.lemmas.Bool.{not-false, eq-eqb, eqb-true, eqb-false, le-ltb, lt-ltb, ne_eqb}
use Rattle.std.proofs.lemmas.List.{append-nil, length-map}
use Rattle.std.proofs.lemmas.List.Elements.{All-cons, All-from_get_or, All-nil}
use Rattle.std.proofs.lemmas.List.Sums.{take_while-cons}
use Rattle.std.proofs.lemmas.Option.{slice_get-get_or, slice_get_past, slice_get_within}
use Rattle.elf32_read.specs.Header.{content_of, are_known_flags, file_flags, header_of, is_empty_kind, section_count}
use Rattle.elf32_read.specs.Kept.{has_flags, is_kept, is_kept_code}
use Rattle.elf32_read.specs.Names.{name_at, section_names}
use Rattle.elf32_read.specs.declared.header.SectionHeader.{SectionHeader}
use Rattle.elf32_read.specs.Compressed.{has_rvc}
use Rattle.elf32_read.specs.Object.{has_bad_alignment, has_bad_name, has_bad_symbol, has_cut_code, has_other_flags, has_too_many_sections, has_unlinked_sections, is_bad_alignment, is_too_long, not_elf, object_fault, truncated}
use Rattle.elf32_read.specs.Rows.{first_of}
use Rattle.elf32_read.specs.Parts.{ObjectParts, SectionParts, SymbolParts, is_code_section, is_kept_section, object_parts, relocs_of, section_parts, symbol_parts}
use Rattle.elf32_read.specs.Symbols.{symbol_content, symbol_count, symbol_entry_of, symbol_names}
use Rattle.elf32_read.specs.declared.fault.Fault.{Fault}
use Rattle.elf32_read.specs.declared.fault.Fault.TheVariants.{NotElf, Truncated, Flags, SectionKind, Alignment, CodeSize, BadName, BadSymbol, TooLarge}
use Rattle.elf32_read.specs.declared.reloc.Reloc.{Reloc}
use Rattle.elf32_read.proofs.Faultless.{IsAlignment, IsKept, IsKeptCode, IsSymbolOf, content_whole, faultless_whole, is_kept_section-parts, is_memory_kind, kept_code, kept_section, no_fault, other_symbol, reloc_symbol}
use Rattle.elf32_read.proofs.PartsLaws.{length-sections, length-symbols, section_at, symbol_at}
use Rattle.elf32_write.specs.FileSections.{file_sections}
use Rattle.elf32_write.specs.ObjectFile.{object_bytes, object_size, section_total}
use Rattle.elf32_write.specs.Writable.{is_name, null_part}
use Rattle.elf32_write.proofs.FileHeaderBack.{length-object_bytes}
use Rattle.elf32_write.proofs.SoundParts.{AreSoundParts, IsSoundSection, IsSoundSymbol, LiesInSection, can_be_given, has_home}
use Rattle.elf32_write.proofs.Stages.{length-file_sections}
use Rattle.moved_runs.specs.Passes.{KeepsSection, KeepsSymbol, Pass, home_of, new_number, passed_from, passed_object}
use Rattle.moved_runs.proofs.PassSections.{count, got-in, kept-same}
use Rattle.object_passes.proofs.FitPass.{IsFitObject, IsFitSection, IsFitSymbol, IsWholeCode}
use Rattle.object_passes.proofs.ListLaws.{length-second, second}
use Rattle.object_passes.proofs.OrderlyLaws.{orderly}

-- what holds of all that becomes of kept sections
pub all-passed : (P : SectionParts → Type 0) (f : ℕ → SectionParts → SectionParts) (j : ℕ) (ss : List SectionParts)
    → ((k : ℕ) (s : SectionParts) → slice_get ss k ≡ Some s → is_kept_section s ≡ true → P (f (j + k) s)) → All P (passed_from f j ss)
all-passed P f j [] each = All-nil P
all-passed P f j (s ∷ ss) each =
    by
    (all-passed P f (j + 1) ss (λ k t at kept.
    let next : j + suc k ≡ j + 1 + k = omega arith in
    subst (λ m. P (f m t)) next (each (suc k) t at kept)))
    (is_kept_section s) refl
  where
    by : All P (passed_from f (j + 1) ss) → (b : Bool) → is_kept_section s ≡ b
        → All P (map (λ e. f e.0 e.1) (cond b ((j, s) ∷ filter (λ e. is_kept_section e.1) (enumerate_from (j + 1) ss)) (filter (λ e. is_kept_section e.1) (enumerate_from (j + 1) ss))))
    by more true is =
        let none : j + 0 ≡ j = omega arith in
        All-cons P (f j s) (passed_from f (j + 1) ss) (subst (λ m. P (f m s)) none (each 0 s refl is)) more
    by more false is = more

-- ---- an object that is too large

first-true : (b : Bool) (f : Fault) (rest : List (Bool × Fault)) → b ≡ true → first_of ((b, f) ∷ rest) ≡ Some f
first-true true f rest e = refl
first-true false f rest e = absurd cc

pub too-large : (parts : ObjectParts) → 0x40_0000 < object_size parts → object_fault (object_bytes parts) ≡ Some TooLarge
unfolding object_fault
too-large parts many =
    let bytes = object_bytes parts in
    first-true (is_too_long bytes) TooLarge
    ((not_elf bytes, NotElf) ∷ (has_too_many_sections bytes, TooLarge) ∷ (truncated bytes, Truncated)
    ∷ (has_other_flags bytes, Flags) ∷ (has_unlinked_sections bytes, SectionKind) ∷ (has_bad_alignment bytes, Alignment)
    ∷ (has_cut_code bytes, CodeSize) ∷ (has_bad_name bytes, BadName) ∷ (has_bad_symbol bytes, BadSymbol) ∷ [])
    (lt-ltb 0x40_0000 (length (object_bytes parts)) (omega (arith, length-object_bytes parts, many)))

-- ---- names

taken-name : (xs : List ℕ) → is_name (take_while (λ byte. not (eqb byte 0)) xs) ≡ true
taken-name [] = refl
taken-name (x ∷ xs) = ap is_name (take_while-cons (λ byte. not (eqb byte 0)) x xs) ∙ by (taken-name xs) (eqb x 0) refl
  where
    by : is_name (take_while (λ byte. not (eqb byte 0)) xs) ≡ true → (b : Bool) → eqb x 0 ≡ b → is_name (cond (not b) (x ∷ take_while (λ byte. not (eqb byte 0)) xs) []) ≡ true
    by rest true is = refl
    by rest false is = ap (λ b. not (b || list_any (λ byte. eqb byte 0) (take_while (λ byte. not (eqb byte 0)) xs))) is ∙ rest

named : (table : List ℕ) (at : ℕ) → is_name (name_at table at) ≡ true
named table at = taken-name (drop at table)

-- ---- alignments and kinds

good-alignment : (most align : ℕ) → IsAlignment most align → is_bad_alignment most align ≡ false
good-alignment most align is = by (eqb align 0) refl
  where
    by : (b : Bool) → eqb align 0 ≡ b → (not b && (not (is_power_of_two align) || ltb most align)) ≡ false
    by true e = refl
    by false e = ap₂ (λ p l. not p || l) (is.power (eqb-false align 0 e)) (le-ltb most align is.low)

kind-given : (k : ℕ) → is_memory_kind k ≡ true → (can_be_given k ≡ true) × (eqb k 0 ≡ false)
kind-given k is = one (eqb k 1) refl
  where
    at : (n : ℕ) → k ≡ n → can_be_given n ≡ true → eqb n 0 ≡ false → (can_be_given k ≡ true) × (eqb k 0 ≡ false)
    at n e a b = (ap can_be_given e ∙ a, ap (λ k. eqb k 0) e ∙ b)

    sixteen : (b : Bool) → eqb k 16 ≡ b → eqb k 1 ≡ false → eqb k 8 ≡ false → eqb k 14 ≡ false → eqb k 15 ≡ false → (can_be_given k ≡ true) × (eqb k 0 ≡ false)
    sixteen true e a b c d = at 16 (eqb-true k 16 e) refl refl
    sixteen false e a b c d = absurd (let all = is in cc)

    fifteen : (b : Bool) → eqb k 15 ≡ b → eqb k 1 ≡ false → eqb k 8 ≡ false → eqb k 14 ≡ false → (can_be_given k ≡ true) × (eqb k 0 ≡ false)
    fifteen true e a b c = at 15 (eqb-true k 15 e) refl refl
    fifteen false e a b c = sixteen (eqb k 16) refl a b c e

    fourteen : (b : Bool) → eqb k 14 ≡ b → eqb k 1 ≡ false → eqb k 8 ≡ false → (can_be_given k ≡ true) × (eqb k 0 ≡ false)
    fourteen true e a b = at 14 (eqb-true k 14 e) refl refl
    fourteen false e a b = fifteen (eqb k 15) refl a b e

    eight : (b : Bool) → eqb k 8 ≡ b → eqb k 1 ≡ false → (can_be_given k ≡ true) × (eqb k 0 ≡ false)
    eight true e a = at 8 (eqb-true k 8 e) refl refl
    eight false e a = fourteen (eqb k 14) refl a e

    one : (b : Bool) → eqb k 1 ≡ b → (can_be_given k ≡ true) × (eqb k 0 ≡ false)
    one true e = at 1 (eqb-true k 1 e) refl refl
    one false e = eight (eqb k 8) refl e

-- ---- sections

module _ (file : List ℕ) (fine : object_fault file ≡ None) where
  abbrev h : ℕ → SectionHeader
  h i = header_of file i

  kept-header : (i : ℕ) → i < section_count file → is_kept_section (section_parts file i) ≡ true → is_kept file (h i) ≡ true
  kept-header i lt kept = sym (is_kept_section-parts file fine i lt) ∙ kept

  code-header : (i : ℕ) → i < section_count file → is_code_section (section_parts file i) ≡ true → is_kept_code file (h i) ≡ true
  code-header i lt code = ap (λ b. b && has_flags 4 (h i).flags) (sym (is_kept_section-parts file fine i lt)) ∙ code

  whole-content : (i : ℕ) → i < section_count file → eqb (h i).kind 0 ≡ false → length (content_of file (h i)) ≡ cond (is_empty_kind (h i).kind) 0 (h i).size
  whole-content i lt some = by (eqb (h i).kind 8) refl
    where
      by : (b : Bool) → eqb (h i).kind 8 ≡ b → length (content_of file (h i)) ≡ cond (is_empty_kind (h i).kind) 0 (h i).size
      by true is =
          let empty : is_empty_kind (h i).kind ≡ true = ap₂ (λ a b. a || b) some is in
          ap (λ b. length (cond b [] (take (h i).size (drop (h i).offset file)))) empty ∙ sym (ap (λ b. cond b 0 (h i).size) empty)
      by false is =
          let full : is_empty_kind (h i).kind ≡ false = ap₂ (λ a b. a || b) some is in
          content_whole file (h i) ((faultless_whole file fine).contents i lt) (eqb-false (h i).kind 0 some) (eqb-false (h i).kind 8 is)
          ∙ sym (ap (λ b. cond b 0 (h i).size) full)

  -- how its code is aligned
  aligned-kept : (i : ℕ) → i < section_count file → is_kept_section (section_parts file i) ≡ true → is_bad_alignment (cond (has_flags 4 (h i).flags) 256 4096) (h i).align ≡ false
  aligned-kept i lt kept = by (has_flags 4 (h i).flags) refl
    where
      by : (b : Bool) → has_flags 4 (h i).flags ≡ b → is_bad_alignment (cond b 256 4096) (h i).align ≡ false
      by true code = good-alignment 256 (h i).align (kept_code file fine i lt (code-header i lt (ap₂ (λ a b. a && b) kept code))).aligned
      by false plain = good-alignment 4096 (h i).align (kept_section file fine i lt (kept-header i lt kept)).aligned

  -- code is whole
  pub given-whole : (i : ℕ) → i < section_count file → is_code_section (section_parts file i) ≡ true → IsWholeCode (file_flags file) (section_parts file i)
  given-whole i lt code =
      let here = kept_code file fine i lt (code-header i lt code) in
      record {
        bytes = whole-content i lt (ap (λ k. eqb k 0) here.kind) ∙ ap (λ k. cond (is_empty_kind k) 0 (h i).size) here.kind;
        align = good-alignment 256 (h i).align here.aligned;
        size = here.words;
      }

  sound-section : (n i : ℕ) → i < section_count file → is_kept_section (section_parts file i) ≡ true → All (λ r. r.symbol < n) (section_parts file i).relocs
      → (t : SectionParts) → KeepsSection (section_parts file i) t → IsFitSection (file_flags file) (section_parts file i) t → IsSoundSection (file_flags file) n t
  sound-section n i lt kept symbols t keeps fit = record {
    name = ap is_name keeps.name ∙ named (section_names file) (h i).name;
    kind = ap can_be_given keeps.kind ∙ (kind-given (h i).kind header.kind).0;
    plain = ap (has_flags 0x800) keeps.flags ∙ header.plain;
    bytes = content (is_code_section (section_parts file i)) refl;
    kept = λ is. record {
      kind = ap is_memory_kind keeps.kind ∙ header.kind;
      shared = ap (has_flags 0x400) keeps.flags ∙ header.shared;
      align = aligned (has_flags 4 (h i).flags) refl;
      code = λ it.
          let code = sym same-code ∙ it in
          let here = code-of code in
          record { kind = keeps.kind ∙ here.kind; read_only = ap (has_flags 1) keeps.flags ∙ here.constant; size = (fit.whole code (given-whole i lt code)).size };
    };
    dropped = λ is. absurd (let k = kept in let same = kept-same (section_parts file i) t keeps in cc);
    relocs = fit.symbols n symbols;
  }
    where
      header : IsKept (h i)
      header = kept_section file fine i lt (kept-header i lt kept)

      code-of : is_code_section (section_parts file i) ≡ true → IsKeptCode (has_rvc (file_flags file)) (h i)
      code-of code = kept_code file fine i lt (code-header i lt code)

      same-code : is_code_section t ≡ is_code_section (section_parts file i)
      same-code = ap₂ (λ k f. k && has_flags 4 f) (kept-same (section_parts file i) t keeps) keeps.flags

      content : (c : Bool) → is_code_section (section_parts file i) ≡ c → length t.bytes ≡ cond (is_empty_kind t.kind) 0 t.size
      content true code =
          let here = code-of code in
          (fit.whole code (given-whole i lt code)).bytes ∙ sym (ap (λ k. cond (is_empty_kind k) 0 t.size) (keeps.kind ∙ here.kind))
      content false plain =
          ap length (keeps.bytes plain) ∙ whole-content i lt (kind-given (h i).kind header.kind).1 ∙ (λ j. cond (is_empty_kind (sym keeps.kind j)) 0 (sym (keeps.size plain) j))

      aligned : (b : Bool) → has_flags 4 (h i).flags ≡ b → is_bad_alignment (cond (has_flags 4 t.flags) 256 4096) t.align ≡ false
      aligned true is =
          let code : is_code_section (section_parts file i) ≡ true = ap₂ (λ a b. a && b) kept is in
          ap (λ b. is_bad_alignment (cond b 256 4096) t.align) (ap (has_flags 4) keeps.flags ∙ is) ∙ (fit.whole code (given-whole i lt code)).align
      aligned false is =
          let plain : is_code_section (section_parts file i) ≡ false = ap₂ (λ a b. a && b) kept is in
          (λ j. is_bad_alignment (cond (has_flags 4 (keeps.flags j)) 256 4096) (keeps.align plain j)) ∙ aligned-kept i lt kept

  -- its relocations name symbols
  relocs-named : (i : ℕ) → i < section_count file → All (λ r. r.symbol < 1 + length (drop 1 (object_parts file).symbols)) (section_parts file i).relocs
  relocs-named i lt = by (section_parts file i).relocs refl
    where
      rest : length (object_parts file).symbols ≤ 1 + length (drop 1 (object_parts file).symbols)
      rest = dropped (object_parts file).symbols
        where
          dropped : (xs : List SymbolParts) → length xs ≤ 1 + length (drop 1 xs)
          dropped [] = omega arith
          dropped (x ∷ xs) = omega arith

      by : (rs : List Reloc) → (section_parts file i).relocs ≡ rs → All (λ r. r.symbol < 1 + length (drop 1 (object_parts file).symbols)) (section_parts file i).relocs
      by [] is = subst (All (λ r. r.symbol < 1 + length (drop 1 (object_parts file).symbols))) (sym is) (All-nil (λ (r : Reloc). r.symbol < 1 + length (drop 1 (object_parts file).symbols)))
      by (d ∷ rs) is =
          All-from_get_or (λ r. r.symbol < 1 + length (drop 1 (object_parts file).symbols)) (section_parts file i).relocs d
          (λ k inside.
          let low = reloc_symbol file fine i k (get_or (relocs_of file i) k d) lt (slice_get-get_or (relocs_of file i) k d inside) in
          omega (arith, low, rest, length-symbols file))

  -- ---- symbols

  kind-low : (k : ℕ) → (symbol_entry_of file k).kind < 16
  unfolding Rattle.elf32_read.specs.Symbols.symbol_entry_at
  kind-low k = omega arith

  both-kinds : (k : ℕ) → 1 ≤ k → k < symbol_count file → (eqb (symbol_entry_of file k).kind 6 || eqb (symbol_entry_of file k).kind 10) ≡ false
  both-kinds k some lt =
      let good = other_symbol file fine k some lt in
      ap₂ (λ a b. a || b) (ne_eqb (symbol_entry_of file k).kind 6 good.kind.0) (ne_eqb (symbol_entry_of file k).kind 10 good.kind.1)

  pub flags-are : (object_parts file).flags ≡ file_flags file
  unfolding object_parts
  flags-are = refl

  -- ---- what becomes of the object

  module _ (pass : Pass) (o : ℕ) (fit : IsFitObject pass o (object_parts file)) where
    abbrev g : ObjectParts
    g = object_parts file

    abbrev parts : ObjectParts
    parts = passed_object pass o g

    sections-sound : All (IsSoundSection (file_flags file) (1 + length parts.symbols)) parts.sections
    sections-sound =
        let many : length parts.symbols ≡ length (drop 1 g.symbols) = length-map (drop 1 g.symbols) (pass.symbol o g) in
        subst (λ m. All (IsSoundSection (file_flags file) (1 + m)) parts.sections) (sym many)
        (all-passed (IsSoundSection (file_flags file) (1 + length (drop 1 g.symbols))) (pass.section o) 0 g.sections
        (λ k s at kept.
        let inside = slice_get_within g.sections k s at in
        let lt : k < section_count file = omega (arith, inside, length-sections file) in
        one k s lt (sym (section_at file k lt) ∙ at) kept))
      where
        one : (k : ℕ) (s : SectionParts) → k < section_count file → Some (section_parts file k) ≡ Some s → is_kept_section s ≡ true → IsSoundSection (file_flags file) (1 + length (drop 1 (object_parts file).symbols)) (pass.section o (0 + k) s)
        one k s lt is kept =
            let same : section_parts file k ≡ s = cc in
            let none : k ≡ 0 + k = omega arith in
            let here = ap is_kept_section same ∙ kept in
            let fits = subst (λ f. IsFitSection f (section_parts file k) (pass.section o k (section_parts file k))) flags-are (fit.sections k (section_parts file k) (section_at file k lt) here) in
            subst (λ m. IsSoundSection (file_flags file) (1 + length (drop 1 (object_parts file).symbols)) (pass.section o m s)) none
            (subst (λ u. IsSoundSection (file_flags file) (1 + length (drop 1 (object_parts file).symbols)) (pass.section o k u)) same
            (sound-section (1 + length (drop 1 (object_parts file).symbols)) k lt here (relocs-named k lt) (pass.section o k (section_parts file k)) (pass.keeps_sections o k (section_parts file k)) fits))

    total : section_total parts ≡ 1 + (length parts.sections + length (Rattle.elf32_write.specs.FileSections.relocated parts.sections) + 3)
    total = ap (λ n. 1 + n) (length-file_sections parts.sections parts.symbols)

    few-sections : length parts.sections ≤ 4096
    few-sections =
        let all = (orderly file fine).few in
        omega (arith, all, shorter 0 g.sections)
      where
        shorter : (j : ℕ) (ss : List SectionParts) → length (passed_from (pass.section o) j ss) ≤ length ss
        shorter j [] = omega arith
        shorter j (s ∷ ss) = by (shorter (j + 1) ss) (is_kept_section s)
          where
            by : length (passed_from (pass.section o) (j + 1) ss) ≤ length ss → (b : Bool) → length (map (λ e. pass.section o e.0 e.1) (cond b ((j, s) ∷ filter (λ e. is_kept_section e.1) (enumerate_from (j + 1) ss)) (filter (λ e. is_kept_section e.1) (enumerate_from (j + 1) ss)))) ≤ suc (length ss)
            by le true = omega arith
            by le false = omega arith

    module _ (k : ℕ) (some : 1 ≤ k) (lt : k < symbol_count file) (fits : IsFitSymbol pass o g (symbol_parts file (symbol_entry_of file k))) where
      abbrev s : SymbolParts
      s = symbol_parts file (symbol_entry_of file k)

      abbrev t : SymbolParts
      t = pass.symbol o g s

      keeps : KeepsSymbol s t
      keeps = pass.keeps_symbols o g s (orderly file fine)

      good : IsSymbolOf file fine (symbol_entry_of file k)
      good = other_symbol file fine k some lt

      defined : (eqb s.bind 0 && eqb s.home 0) ≡ false
      defined = by (eqb s.bind 0) (eqb s.home 0) refl refl
        where
          by : (a b : Bool) → eqb s.bind 0 ≡ a → eqb s.home 0 ≡ b → (a && b) ≡ false
          by true true local none = absurd (good.defined (eqb-true s.bind 0 local) (eqb-true s.home 0 none))
          by true false local none = refl
          by false b local none = refl

      make : (t : SymbolParts) → KeepsSymbol s t → t.kind ≡ s.kind → has_home parts t ≡ true → IfSome (slice_get (null_part ∷ parts.sections) t.home) (LiesInSection t) → IsSoundSymbol parts t
      make t same kind home within = record {
        name = ap is_name same.name ∙ named (symbol_names file) (symbol_entry_of file k).name;
        bind = subst (λ b. b ≤ 2) (sym same.bind) good.bind;
        kind = subst (λ n. n < 16) (sym kind) (kind-low k);
        other_kind = ap (λ n. eqb n 6 || eqb n 10) kind ∙ both-kinds k some lt;
        local = ap₂ (λ a b. a && b) (ap (λ b. eqb b 0) same.bind) same.undefined ∙ defined;
        home = home;
        common = λ is.
            let here = eq-eqb t.home 0xFFF2 is in
            let whole = same.whole (sym same.common ∙ here) in
            ap (λ (u : SymbolParts). is_bad_alignment 4096 u.value) whole ∙ good-alignment 4096 s.value (good.common (sym (ap (λ (u : SymbolParts). u.home) whole) ∙ is));
        within = within;
      }

      -- one that isn't in a section stays as it is
      stays-alike : KeepsSymbol s s
      stays-alike = record { name = refl; bind = refl; common = refl; undefined = refl; whole = λ h. refl }

      past-all : (n : ℕ) → 0xFFF1 ≤ n → IfSome (slice_get (null_part ∷ parts.sections) n) (LiesInSection s)
      past-all n many = subst (λ o. IfSome o (LiesInSection s)) (sym (slice_get_past (null_part ∷ parts.sections) n (omega (arith, few-sections, many)))) tt

      undefined-home : eqb s.home 0 ≡ true → IsSoundSymbol parts s
      undefined-home is =
          let zero : s.home ≡ 0 = eqb-true s.home 0 is in
          make s stays-alike refl
          (ap (λ n. ltb n (section_total parts) || eqb n 0xFFF1 || eqb n 0xFFF2) zero ∙ ap (λ b. b || false || false) (lt-ltb 0 (section_total parts) (omega (arith, total))))
          (subst (λ n. IfSome (slice_get (null_part ∷ parts.sections) n) (LiesInSection s)) (sym zero) (λ h. absurd cc))

      special-home : (n : ℕ) → s.home ≡ n → 0xFFF1 ≤ n → (eqb n 0xFFF1 || eqb n 0xFFF2) ≡ true → IsSoundSymbol parts s
      special-home n is many special =
          make s stays-alike refl
          (ap (λ n. ltb n (section_total parts) || eqb n 0xFFF1 || eqb n 0xFFF2) is ∙ either (ltb n (section_total parts)) (eqb n 0xFFF1) (eqb n 0xFFF2) special)
          (past-all s.home (omega (arith, is, many)))
        where
          either : (a b c : Bool) → (b || c) ≡ true → (a || b || c) ≡ true
          either true b c e = refl
          either false b c e = e

      -- what isn't in a section stays as it is
      at-home : (found : Option SectionParts) → home_of g s ≡ found → IsSoundSymbol parts t
      at-home None is = subst (IsSoundSymbol parts) (sym (fits.homeless is)) (by (eqb s.home 0) refl is)
        where
          nowhere : slice_get g.sections s.home ≡ None → (a b : Bool) → eqb s.home 0xFFF1 ≡ a → eqb s.home 0xFFF2 ≡ b → IsSoundSymbol parts s
          nowhere none true b is also = special-home 0xFFF1 (eqb-true s.home 0xFFF1 is) (omega arith) refl
          nowhere none false true is also = special-home 0xFFF2 (eqb-true s.home 0xFFF2 also) (omega arith) refl
          nowhere none false false is also =
              let low = good.home (eqb-false s.home 0xFFF1 is) (eqb-false s.home 0xFFF2 also) in
              let there = section_at file s.home low in absurd cc

          by : (b : Bool) → eqb s.home 0 ≡ b → cond b None (slice_get g.sections s.home) ≡ None → IsSoundSymbol parts s
          by true is h = undefined-home is
          by false is h = nowhere h (eqb s.home 0xFFF1) (eqb s.home 0xFFF2) refl refl
      at-home (Some home) is = by (is_kept_section home) refl
        where
          split : (b : Bool) → eqb s.home 0 ≡ b → cond b None (slice_get g.sections s.home) ≡ Some home → (eqb s.home 0 ≡ false) × (slice_get g.sections s.home ≡ Some home)
          split true e h = absurd cc
          split false e h = (e, h)

          other : eqb s.home 0 ≡ false
          other = (split (eqb s.home 0) refl is).0

          at : slice_get g.sections s.home ≡ Some home
          at = (split (eqb s.home 0) refl is).1

          inside : s.home < section_count file
          inside = let low = slice_get_within g.sections s.home home at in omega (arith, low, length-sections file)

          here : home ≡ section_parts file s.home
          here = let there = section_at file s.home inside in cc (at, there)

          low-value : is_kept_section home ≡ true → s.value ≤ home.size
          low-value kept =
              let low = good.within (eqb-false s.home 0 other) inside (kept-header s.home inside (ap is_kept_section (sym here) ∙ kept)) in
              subst (λ (x : SectionParts). s.value ≤ x.size) (sym here) low

          place : is_kept_section home ≡ true → slice_get (parts.sections ++ []) (count g.sections s.home) ≡ Some (pass.section o (0 + s.home) home)
          place kept = got-in (pass.section o) 0 s.home g.sections [] home at kept

          got : is_kept_section home ≡ true → slice_get (null_part ∷ parts.sections) t.home ≡ Some (pass.section o s.home home)
          got kept =
              let one : new_number g.sections s.home ≡ suc (count g.sections s.home) = omega arith in
              let none : 0 + s.home ≡ s.home = omega arith in
              ap (slice_get (null_part ∷ parts.sections)) (fits.kept home is kept ∙ one) ∙ ap (λ l. slice_get l (count g.sections s.home)) (sym (append-nil parts.sections)) ∙ place kept ∙ ap (λ n. Some (pass.section o n home)) none

          housed : is_kept_section home ≡ true → has_home parts t ≡ true
          housed kept =
              let low = slice_get_within (parts.sections ++ []) (count g.sections s.home) (pass.section o (0 + s.home) home) (place kept) in
              let short : length (parts.sections ++ []) ≡ length parts.sections = ap length (append-nil parts.sections) in
              ap (λ b. b || eqb t.home 0xFFF1 || eqb t.home 0xFFF2) (lt-ltb t.home (section_total parts) (omega (arith, fits.kept home is kept, low, short, total)))

          by : (a : Bool) → is_kept_section home ≡ a → IsSoundSymbol parts t
          by false dropped =
              let abs = fits.dropped home is dropped in
              make t keeps fits.kind (ap (λ n. ltb n (section_total parts) || eqb n 0xFFF1 || eqb n 0xFFF2) abs ∙ or-true (ltb 0xFFF1 (section_total parts)))
              (subst (λ found. IfSome found (LiesInSection t)) (sym (slice_get_past (null_part ∷ parts.sections) t.home (omega (arith, few-sections, abs)))) tt)
            where
              or-true : (a : Bool) → (a || true || false) ≡ true
              or-true true = refl
              or-true false = refl
          by true kept =
              make t keeps fits.kind (housed kept)
              (subst (λ found. IfSome found (LiesInSection t)) (sym (got kept)) (λ it. fits.within home is kept (low-value kept)))

      symbol-sound : IsSoundSymbol parts t
      symbol-sound = at-home (home_of g s) refl

    symbols-sound : All (IsSoundSymbol parts) parts.symbols
    symbols-sound = from (drop 1 g.symbols) (λ k u at.
        let inside = length-second g.symbols k (slice_get_within (drop 1 g.symbols) k u at) in
        let within : suc k < symbol_count file = omega (arith, inside, length-symbols file) in
        one k u within (sym (symbol_at file (suc k) within) ∙ second g.symbols k ∙ at) (fit.symbols k u at))
      where
        one : (k : ℕ) (u : SymbolParts) → suc k < symbol_count file → Some (symbol_parts file (symbol_entry_of file (suc k))) ≡ Some u → IsFitSymbol pass o g u → IsSoundSymbol parts (pass.symbol o g u)
        one k u within is fits =
            let same : symbol_parts file (symbol_entry_of file (suc k)) ≡ u = cc in
            subst (λ v. IsSoundSymbol parts (pass.symbol o g v)) same (symbol-sound (suc k) (omega arith) within (subst (IsFitSymbol pass o g) (sym same) fits))

        from : (us : List SymbolParts) → ((k : ℕ) (u : SymbolParts) → slice_get us k ≡ Some u → IsSoundSymbol parts (pass.symbol o g u)) → All (IsSoundSymbol parts) (map (pass.symbol o g) us)
        from [] each = All-nil (IsSoundSymbol parts)
        from (u ∷ us) each = All-cons (IsSoundSymbol parts) (pass.symbol o g u) (map (pass.symbol o g) us) (each 0 u refl) (from us (λ k v at. each (suc k) v at))

    -- it can be written, if it isn't too large
    pub sound-parts : section_total parts ≤ 4096 → object_size parts ≤ 0x40_0000 → AreSoundParts parts
    unfolding object_parts
    sound-parts few short = record {
      flags = not-false (are_known_flags (file_flags file)) (no_fault file fine).flags;
      sections = sections-sound;
      symbols = symbols-sound;
      count = few;
      size = short;
    }
