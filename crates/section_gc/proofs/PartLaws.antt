-- The parts of cleaned objects, section after section and symbol after symbol.
use Rattle.std.proofs.Common.{◌≡◌, ℕ, zero, suc, ◌+◌, ◌-◌, ◌<◌, ◌≤◌, List, [], ◌∷◌, ◌++◌, length, map, filter, take, drop, get_or, refl, sym, ap, ◌∙◌, append-nil, subst, arith, length-drop, Bool, true, false, cond, Option, Some, None, slice_get}
use Rattle.std.specs.List.{enumerate_from}
use Rattle.std.specs.Option.{option_and_then, option_map, option_map_or}
use Rattle.std.proofs.lemmas.Bool.{ne_eqb}
use Rattle.std.proofs.lemmas.List.{length-map, take_all}
use Rattle.std.proofs.lemmas.List.FromFn.{length-enumerate_from}
use Rattle.std.proofs.lemmas.Option.{slice_get-get_or, slice_get-map}
use Rattle.elf32_read.specs.Header.{section_count}
use Rattle.elf32_read.specs.Lent.{IsSymbol}
use Rattle.elf32_read.specs.declared.symbol.Symbol.{Symbol}
use Rattle.elf32_read.specs.Parts.{ObjectParts, SectionParts, SymbolParts, is_kept_section, object_parts, section_parts}
use Rattle.elf32_read.proofs.PartsLaws.{section_at}
use Rattle.psabi_sym.specs.Indexed.{IndexedSection, IsSectionNumber, all_sections, section_at as section-of}
use Rattle.psabi_sym.proofs.BridgeLaws.{map-map}
use Rattle.moved_runs.specs.Passes.{new_number}
use Rattle.object_passes.specs.Written.{without_mark}
use Rattle.object_passes.proofs.ListLaws.{entry-at, made-more, picked-more, second}
use Rattle.section_gc.specs.Cleaned.{cleaned_section, cleaned_sections, cleaned_symbol}
use Rattle.section_gc.specs.Remains.{is_something, is_whole, remains_in, remains_of}
use Rattle.section_gc.specs.declared.remains.Remains.{Remains}
use Rattle.section_gc.specs.declared.remains.Remains.TheVariants.{Nothing, Empty, Whole}
use Rattle.section_gc.proofs.RemainsLaws.{in_remains, remains-at, something-kept, symbol-by, whole-section}

-- ---- sections of files

-- the section of a file with an index
pub section-there : (files : List (List ℕ)) (o i : ℕ) → o < length files → i < section_count (get_or files o []) → section-of (map object_parts files) o i ≡ Some (section_parts (get_or files o []) i)
section-there files o i within inside =
    ap (option_and_then (λ (object : ObjectParts). slice_get object.sections i)) (slice_get-map object_parts files o ∙ ap (option_map object_parts) (slice_get-get_or files o [] within))
    ∙ section_at (get_or files o []) i inside

-- its number among all
pub number-there : (files : List (List ℕ)) (o i k : ℕ) → o < length files → i < section_count (get_or files o []) → IsSectionNumber (map object_parts files) o i (Some k)
    → slice_get (all_sections (map object_parts files)) k ≡ Some (record { object = o; index = i; section = section_parts (get_or files o []) i })
number-there files o i k within inside is =
    let there = section-there files o i within inside in
    let same : is.0 ≡ section_parts (get_or files o []) i = cc (is.1, there) in
    is.2 ∙ ap (λ s. Some (record { object = o; index = i; section = s })) same

pub number-missing : (files : List (List ℕ)) (o i : ℕ) → o < length files → i < section_count (get_or files o []) → section-of (map object_parts files) o i ≡ None → ⊥
number-missing files o i within inside none = let there = section-there files o i within inside in absurd (cc (none, there))

-- what stands at a number is one section
pub one-section : (objects : List ObjectParts) (k o i : ℕ) (s : SectionParts) (l : IndexedSection) → slice_get (all_sections objects) k ≡ Some (record { object = o; index = i; section = s }) → slice_get (all_sections objects) k ≡ Some l → s ≡ l.section
one-section objects k o i s l first second =
    let m : IndexedSection = record { object = o; index = i; section = s } in
    let same : m ≡ l = cc (first, second) in
    ap (λ (l : IndexedSection). l.section) same

-- ---- sections

-- a table is as long as the sections
pub length-remains : (needed : ℕ → Bool) (object : ObjectParts) → length (remains_in needed object) ≡ length object.sections
length-remains needed object = length-map (enumerate_from 0 object.sections) _ ∙ length-enumerate_from 0 object.sections

-- what the table has at a section
pub got-remains : (needed : ℕ → Bool) (object : ObjectParts) (table : List Remains) (i : ℕ) (s : SectionParts) (r : Remains) → table ≡ remains_in needed object → slice_get object.sections i ≡ Some s → slice_get table i ≡ Some r
    → r ≡ remains_of (needed i) (new_number object.sections i) s
got-remains needed object table i s r is at got =
    cc (got, ap (λ t. slice_get t i) is, remains-at needed object i, ap (option_map (remains_of (needed i) (new_number object.sections i))) at)

-- the sections that are written, with one more
pub section-turn : (needed : ℕ → Bool) (object : ObjectParts) (i n : ℕ) (s : SectionParts) (old : List SectionParts) → slice_get object.sections i ≡ Some s → is_something (remains_of (needed i) n s) ≡ true
    → old ≡ map (λ e. without_mark (cleaned_section (needed e.0) e.1)) (filter (λ e. is_kept_section e.1) (take i (enumerate_from 0 object.sections)))
    → old ++ without_mark (cleaned_section (is_whole (remains_of (needed i) n s)) s) ∷ [] ≡ map (λ e. without_mark (cleaned_section (needed e.0) e.1)) (filter (λ e. is_kept_section e.1) (take (i + 1) (enumerate_from 0 object.sections)))
section-turn needed object i n s old at some before =
    let kept : is_kept_section s ≡ true = sym (something-kept (needed i) n s) ∙ some in
    ap (λ t. old ++ without_mark t ∷ []) (whole-section (needed i) n s kept)
    ∙ ap (λ b. old ++ cond b (without_mark (cleaned_section (needed i) s) ∷ []) []) (sym kept)
    ∙ picked-more (λ e. without_mark (cleaned_section (needed e.0) e.1)) (λ e. is_kept_section e.1) (enumerate_from 0 object.sections) i (i, s) old (entry-at object.sections i s at) before

-- a section that is dropped adds none to those that are written
pub section-passed : (needed : ℕ → Bool) (object : ObjectParts) (i n : ℕ) (s : SectionParts) (old : List SectionParts) → slice_get object.sections i ≡ Some s → is_something (remains_of (needed i) n s) ≡ false
    → old ≡ map (λ e. without_mark (cleaned_section (needed e.0) e.1)) (filter (λ e. is_kept_section e.1) (take i (enumerate_from 0 object.sections)))
    → old ≡ map (λ e. without_mark (cleaned_section (needed e.0) e.1)) (filter (λ e. is_kept_section e.1) (take (i + 1) (enumerate_from 0 object.sections)))
section-passed needed object i n s old at none before =
    let dropped : is_kept_section s ≡ false = sym (something-kept (needed i) n s) ∙ none in
    sym (append-nil old)
    ∙ ap (λ b. old ++ cond b (without_mark (cleaned_section (needed i) s) ∷ []) []) (sym dropped)
    ∙ picked-more (λ e. without_mark (cleaned_section (needed e.0) e.1)) (λ e. is_kept_section e.1) (enumerate_from 0 object.sections) i (i, s) old (entry-at object.sections i s at) before

-- the parts of all sections
pub sections-all : (needed : ℕ → Bool) (object : ObjectParts) (n : ℕ) (all : List SectionParts) → length object.sections ≤ n
    → all ≡ map (λ e. without_mark (cleaned_section (needed e.0) e.1)) (filter (λ e. is_kept_section e.1) (take n (enumerate_from 0 object.sections)))
    → all ≡ map without_mark (cleaned_sections needed object)
sections-all needed object n all many is =
    is
    ∙ ap (λ es. map (λ e. without_mark (cleaned_section (needed e.0) e.1)) (filter (λ e. is_kept_section e.1) es)) (take_all n (enumerate_from 0 object.sections) (omega (arith, many, length-enumerate_from 0 object.sections)))
    ∙ sym (map-map without_mark (λ e. cleaned_section (needed e.0) e.1) (filter (λ e. is_kept_section e.1) (enumerate_from 0 object.sections)))

-- ---- symbols

-- the symbols that are written, with one more
pub symbol-turn : (needed : ℕ → Bool) (object : ObjectParts) (i : ℕ) (s : SymbolParts) (old : List SymbolParts) → 1 ≤ i → slice_get object.symbols i ≡ Some s
    → old ≡ map (cleaned_symbol needed object) (take (i - 1) (drop 1 object.symbols))
    → old ++ cleaned_symbol needed object s ∷ [] ≡ map (cleaned_symbol needed object) (take (i + 1 - 1) (drop 1 object.symbols))
symbol-turn needed object zero s old some at before = absurd (omega (arith, some))
symbol-turn needed object (suc k) s old some at before =
    let same : suc k - 1 ≡ k = omega arith in
    let next : suc k + 1 - 1 ≡ k + 1 = omega arith in
    made-more (cleaned_symbol needed object) (drop 1 object.symbols) k s old (sym (second object.symbols k) ∙ at) (before ∙ ap (λ n. map (cleaned_symbol needed object) (take n (drop 1 object.symbols))) same)
    ∙ ap (λ n. map (cleaned_symbol needed object) (take n (drop 1 object.symbols))) (sym next)

-- the parts of all symbols
pub symbols-all : (needed : ℕ → Bool) (object : ObjectParts) (n : ℕ) (all : List SymbolParts) → length object.symbols ≤ n
    → all ≡ map (cleaned_symbol needed object) (take (n - 1) (drop 1 object.symbols)) → all ≡ map (cleaned_symbol needed object) (drop 1 object.symbols)
symbols-all needed object n all many is =
    is ∙ ap (map (cleaned_symbol needed object)) (take_all (n - 1) (drop 1 object.symbols) (omega (arith, many, length-drop 1 object.symbols)))

-- what becomes of a symbol that is lent, by what is left of its section
abbrev pub lent_in : Symbol → Remains → Symbol
lent_in symbol Nothing = record symbol { value = 0; home = 0xFFF1 }
lent_in symbol (Empty number) = record symbol { value = 0; size = 0; home = number }
lent_in symbol (Whole number) = record symbol { home = number }

lent-in : (symbol : Symbol) (s : SymbolParts) (r : Remains) → IsSymbol symbol s → IsSymbol (lent_in symbol r) (in_remains s r)
lent-in symbol s Nothing is = record { name = is.name; value = refl; size = is.size; bind = is.bind; kind = is.kind; home = refl }
lent-in symbol s (Empty number) is = record { name = is.name; value = refl; size = refl; bind = is.bind; kind = is.kind; home = refl }
lent-in symbol s (Whole number) is = record { name = is.name; value = is.value; size = is.size; bind = is.bind; kind = is.kind; home = refl }

lent-found : (symbol : Symbol) (s : SymbolParts) (found : Option Remains) → IsSymbol symbol s → IsSymbol (option_map_or (lent_in symbol) found symbol) (option_map_or (in_remains s) found s)
lent-found symbol s None is = is
lent-found symbol s (Some r) is = lent-in symbol s r is

-- a symbol with a home goes by what the table has
pub lent-cleaned : (needed : ℕ → Bool) (object : ObjectParts) (table : List Remains) (symbol : Symbol) (s : SymbolParts) (found : Option Remains) → (symbol.home ≡ 0 → ⊥) → slice_get table symbol.home ≡ found → table ≡ remains_in needed object
    → IsSymbol symbol s → IsSymbol (option_map_or (lent_in symbol) found symbol) (cleaned_symbol needed object s)
lent-cleaned needed object table symbol s found some got made is =
    let at : slice_get (remains_in needed object) s.home ≡ found = (λ i. slice_get (sym made i) (sym is.home i)) ∙ got in
    subst (λ t. IsSymbol (option_map_or (lent_in symbol) found symbol) t) (sym (symbol-by needed object s found (ne_eqb s.home 0 (λ none. some (is.home ∙ none))) at)) (lent-found symbol s found is)

-- a lent symbol is one symbol
pub one-symbol : (symbol : Symbol) (a b : SymbolParts) → IsSymbol symbol a → IsSymbol symbol b → a ≡ b
one-symbol symbol a b first second = λ i. record {
  name = (sym first.name ∙ second.name) i;
  value = (sym first.value ∙ second.value) i;
  size = (sym first.size ∙ second.size) i;
  bind = (sym first.bind ∙ second.bind) i;
  kind = (sym first.kind ∙ second.kind) i;
  home = (sym first.home ∙ second.home) i;
}
