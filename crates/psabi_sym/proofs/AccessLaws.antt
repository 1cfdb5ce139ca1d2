-- What look-ups find in the tables of gathered objects.
use Rattle.std.proofs.Common.{◌≡◌, ℕ, zero, suc, ◌+◌, ◌<◌, ◌≢◌, true, false, List, [], length, slice_get, get_or, map, refl, sym, ap, ◌∙◌, arith, Option, Some, None, subst, IsSome, cond, eqb, ℤ, w32, ◌%◌, ◌/◌, ◌*◌, ◌^◌}
use Rattle.std.proofs.Math.Nat.{add-mul-mod_self_left, mod-add-div}
use Rattle.std.proofs.lemmas.Bool.{false≢true, ne_eqb}
use Rattle.std.proofs.lemmas.List.{get_or-map, length-map}
use Rattle.std.proofs.lemmas.Option.{slice_get-get_or}
use Rattle.std.specs.Int.{cast_unsigned}
use Rattle.elf32_read.specs.Parts.{SectionParts, SymbolParts, object_parts}
use Rattle.psabi_sym.specs.declared.data_class.DataClass.{DataClass}
use Rattle.psabi_sym.specs.declared.definitions.Definitions.{Definitions}
use Rattle.psabi_sym.specs.declared.meaning.Meaning.TheVariants.{Symbol, Number, Nothing}
use Rattle.psabi_sym.specs.declared.section_row.SectionRole.{SectionRole}
use Rattle.psabi_sym.specs.declared.section_row.SectionRole.TheVariants.{Code, InClass, Dropped}
use Rattle.psabi_sym.specs.declared.section_row.SectionRow.{SectionRow}
use Rattle.psabi_sym.specs.declared.sections.SectionRows.{SectionRows}
use Rattle.psabi_sym.specs.declared.symbol_row.SymbolRow.{SymbolRow}
use Rattle.psabi_sym.specs.declared.symbols.Symbols.{Symbols}
use Rattle.psabi_sym.specs.Data.{address_in, role_address, role_of}
use Rattle.psabi_sym.specs.Invariants.Gathered.{IsGathered}
use Rattle.std.specs.Option.{option_map_or}
use Rattle.psabi_sym.specs.Inputs.{Inputs, ParsedInputs, parsed}
use Rattle.psabi_sym.specs.Indexed.{IndexedSection, IndexedSymbol, all_sections, all_symbols, section_at, symbol_at}
use Rattle.psabi_sym.specs.Invariants.Meanings.{meaning_row}
use Rattle.psabi_sym.specs.Names.{goes_by_name}
use Rattle.psabi_sym.specs.Places.{place_in}
use Rattle.psabi_sym.specs.Resolve.{Definition, home_target, name_definition, number_target, resolved, role_target, symbol_target}
use Rattle.psabi_sym.specs.Resolve.Definition.{InObject, AtNumber}
use Rattle.psabi_sym.specs.declared.target.Target.{Target}
use Rattle.psabi_sym.specs.declared.target.Target.TheVariants.{Nowhere, Number as TargetNumber}
use Rattle.psabi_sym.specs.Invariants.Rows.{AreAddressed, name_number, section_row, symbol_number, symbol_row}
use Rattle.psabi_sym.proofs.NumberLaws.{symbol_number_is}
use Rattle.psabi_sym.proofs.FoundLaws.{IsFoundSection, IsFoundSymbol, section_found, section_none, symbol_found, symbol_none}
use Rattle.psabi_sym.proofs.SectionNumbers.{IsOfFile, of_file}
use Rattle.psabi_sym.proofs.PlaceLaws.{address_there, place_within, row_there, symbol_there}

pub some_none : IsSome {T = ℕ} None → ⊥
some_none h = false≢true h

-- the row of the section with a number, and the section's file
pub record IsNumberedRow (names files : List (List ℕ)) (k : ℕ) (row : SectionRow) : Type 0 where
  pub listed : IndexedSection
  pub at : slice_get (all_sections (map object_parts files)) k ≡ Some listed
  pub row_is : row ≡ section_row names listed
  pub of : IsOfFile files listed

-- what a look-up past the end would give
no_listed : IndexedSection
no_listed = record {
  object = 0;
  index = 0;
  section = record { name = []; kind = 0; flags = 0; align = 0; size = 0; bytes = []; relocs = []; compressed = false };
}

module _ {inputs : Inputs} {sections : SectionRows} {symbols : Symbols} {definitions : Definitions} (gathered : IsGathered inputs sections symbols definitions) where
  -- ---- sections

  pub no_section_there : (starts : List ℕ) (o i n : ℕ) (r : Option ℕ) → starts ≡ sections.starts.items → n ≡ i → r ≡ place_in starts o n → r ≡ None → section_at (parsed inputs).objects o i ≡ None
  no_section_there starts o i n r is same place none =
      section_none (parsed inputs).objects starts o i (is ∙ gathered.indexed.sections_begin) (ap (place_in starts o) (sym same) ∙ sym place ∙ none)

  pub section_there : (starts : List ℕ) (o i n k : ℕ) (r : Option ℕ) → starts ≡ sections.starts.items → n ≡ i → r ≡ place_in starts o n → r ≡ Some k → IsFoundSection (parsed inputs).objects o i k
  section_there starts o i n k r is same place some =
      section_found (parsed inputs).objects starts o i k (is ∙ gathered.indexed.sections_begin) (ap (place_in starts o) (sym same) ∙ sym place ∙ some)

  module _ {o i k : ℕ} (found : IsFoundSection (parsed inputs).objects o i k) where
    pub row_inside : k < length sections.rows.items
    row_inside =
        omega (arith, found.place, place_within (parsed inputs) o i found.object found.section found.at found.is, ap length gathered.indexed.sections_are)

    pub row_is : (d : SectionRow) → get_or sections.rows.items k d ≡ section_row inputs.fixed (record { object = o; index = i; section = found.section })
    row_is d =
        ap (λ l. get_or l k d) gathered.indexed.sections_are ∙ ap (λ n. get_or (map (section_row inputs.fixed) (all_sections (parsed inputs).objects)) n d) found.place
        ∙ row_there (parsed inputs) o i found.object found.section found.at found.is d

    pub address_inside : k < length definitions.addresses.items
    address_inside = omega (arith, row_inside, gathered.defined.count)

    pub address_is : (class : DataClass) → role_of found.section ≡ InClass class → get_or definitions.addresses.items k 0 ≡ address_in (parsed inputs) o i found.section class
    address_is class role =
        ap (λ n. get_or definitions.addresses.items n 0) found.place
        ∙ address_there (parsed inputs) o i found.object found.section found.at found.is definitions.addresses.items class
        (subst (λ rows. AreAddressed rows inputs.map.data_low definitions.addresses.items) gathered.indexed.sections_are gathered.defined.placed) role

    -- the address of a section that has one
    pub data_address_is : (role : SectionRole) → role_of found.section ≡ role → IsSome (role_address (parsed inputs) o i found.section role)
        → role_address (parsed inputs) o i found.section role ≡ Some (get_or definitions.addresses.items k 0)
    data_address_is Code is some = absurd (some_none some)
    data_address_is (InClass class) is some = ap Some (sym (address_is class is))
    data_address_is Dropped is some = absurd (some_none some)

  -- ---- sections by number

  -- the row with a number is that of the section with it, which is one of a file
  pub numbered_row : (there : Inputs) (k : ℕ) (row : SectionRow) → inputs ≡ there → k < length (all_sections (parsed there).objects) → row ≡ get_or sections.rows.items k row
      → IsNumberedRow inputs.fixed inputs.files k row
  numbered_row there k row same inside is =
      let all = all_sections (parsed inputs).objects in
      let within : k < length all = omega (arith, inside, ap (λ v. length (all_sections (parsed v).objects)) same) in
      let at = slice_get-get_or all k no_listed within in
      record {
        listed = get_or all k no_listed;
        at = at;
        row_is = is ∙ ap (λ rows. get_or rows k row) gathered.indexed.sections_are ∙ get_or-map (section_row inputs.fixed) all k no_listed row within;
        of = of_file inputs.files k (get_or all k no_listed) at;
      }

  -- ---- symbols

  pub no_symbol_there : (starts : List ℕ) (o s n : ℕ) (r : Option ℕ) → starts ≡ symbols.starts.items → s ≡ n + 1 → r ≡ place_in starts o n → r ≡ None → symbol_at (parsed inputs).objects o s ≡ None
  no_symbol_there starts o s n r is same place none =
      ap (symbol_at (parsed inputs).objects o) same ∙ symbol_none (parsed inputs).objects starts o n (is ∙ gathered.indexed.symbols_begin) (sym place ∙ none)

  pub symbol_found_there : (starts : List ℕ) (o n k : ℕ) (r : Option ℕ) → starts ≡ symbols.starts.items → r ≡ place_in starts o n → r ≡ Some k → IsFoundSymbol (parsed inputs).objects o n k
  symbol_found_there starts o n k r is place some = symbol_found (parsed inputs).objects starts o n k (is ∙ gathered.indexed.symbols_begin) (sym place ∙ some)

  module _ {o n k : ℕ} (found : IsFoundSymbol (parsed inputs).objects o n k) where
    abbrev listed : IndexedSymbol
    listed = record { object = o; index = n + 1; symbol = found.symbol }

    -- the symbol is among all symbols
    all_is : (d : IndexedSymbol) → (k < length (all_symbols (parsed inputs).objects)) × (get_or (all_symbols (parsed inputs).objects) k d ≡ listed)
    all_is d =
        let there = symbol_there (parsed inputs).objects o n found.object found.symbol d found.at found.is in
        (omega (arith, found.place, there.0), ap (λ j. get_or (all_symbols (parsed inputs).objects) j d) found.place ∙ there.1)

    pub symbol_inside : k < length symbols.rows.items
    symbol_inside =
        omega (arith, (all_is listed).0, ap length gathered.defined.named.numbered.rows_are, length-map (all_symbols (parsed inputs).objects) (symbol_row gathered.defined.named.names))

    pub symbol_is : (d : SymbolRow) → get_or symbols.rows.items k d ≡ symbol_row gathered.defined.named.names (record { object = o; index = n + 1; symbol = found.symbol })
    symbol_is d =
        ap (λ rows. get_or rows k d) gathered.defined.named.numbered.rows_are
        ∙ get_or-map (symbol_row gathered.defined.named.names) (all_symbols (parsed inputs).objects) k listed d (all_is listed).0
        ∙ ap (symbol_row gathered.defined.named.names) (all_is listed).1

    -- the symbol's name has a number, and a meaning, if the symbol goes by it
    pub number_inside : goes_by_name found.symbol ≡ true → symbol_number gathered.defined.named.names found.symbol < length definitions.meanings.items
    number_inside goes =
        let names = gathered.defined.named.names in
        let there = gathered.defined.named.numbered.numbered k listed (all_is listed).0 (ap (λ m. goes_by_name m.symbol) (all_is listed).1 ∙ goes) in
        omega (arith, there, gathered.defined.named.count, ap (λ m. name_number names m.symbol.name) (all_is listed).1, symbol_number_is names found.symbol goes)

    pub meaning_is : goes_by_name found.symbol ≡ true
        → get_or definitions.meanings.items (symbol_number gathered.defined.named.names found.symbol) Nothing ≡ meaning_row gathered.defined.named.names (name_definition (parsed inputs) found.symbol.name)
    meaning_is goes =
        ap (λ n. get_or definitions.meanings.items n Nothing) (symbol_number_is gathered.defined.named.names found.symbol goes)
        ∙ ap (λ m. get_or definitions.meanings.items (name_number gathered.defined.named.names m.symbol.name) Nothing) (sym (all_is listed).1)
        ∙ gathered.defined.named.meant k listed (all_is listed).0 (ap (λ m. goes_by_name m.symbol) (all_is listed).1 ∙ goes)
        ∙ ap (λ m. meaning_row gathered.defined.named.names (name_definition (parsed inputs) m.symbol.name)) (all_is listed).1

-- a symbol after symbol 0, by its entry
pub resolved_at : {here there : Inputs} (o s : ℕ) (addend : ℤ) (symbol : Option SymbolParts) → here ≡ there → 0 < s → symbol_at (parsed here).objects o s ≡ symbol
    → resolved (parsed there) o s addend ≡ option_map_or (λ x. symbol_target (parsed here) o x addend) symbol Nowhere
unfolding resolved
resolved_at o zero addend symbol same past is = absurd (omega arith)
resolved_at {here} o (suc s) addend symbol same past is =
    ap (λ v. resolved (parsed v) o (suc s) addend) (sym same) ∙ ap (λ x. option_map_or (λ y. symbol_target (parsed here) o y addend) x Nowhere) is

-- where a section of an object leads
abbrev pub section_target : ParsedInputs → ℕ → ℕ → ℕ → ℤ → SectionParts → Target
section_target inputs o i value addend section = role_target inputs o i value addend section (role_of section)

-- where a symbol that is defined in a section leads, by its section index and value alone
abbrev pub home_value_target : ParsedInputs → ℕ → ℕ → ℕ → ℤ → Target
home_value_target inputs o home value addend =
    cond (eqb home 0xFFF1) (number_target value addend) (option_map_or (section_target inputs o home value addend) (section_at inputs.objects o home) Nowhere)

-- any symbol with this section index and value leads there
pub home_target_of : {here there : Inputs} {target : Target} (o home value : ℕ) (addend : ℤ) → here ≡ there → target ≡ home_value_target (parsed here) o home value addend
    → (s : SymbolParts) → s.home ≡ home → s.value ≡ value → target ≡ home_target (parsed there) o s addend
home_target_of o home value addend same is s home_is value_is = is ∙ (λ j. home_value_target (parsed (same j)) o (sym home_is j) (sym value_is j) addend)

-- a home that isn't absolute is a section
pub home_section : (inputs : ParsedInputs) (o home value : ℕ) (addend : ℤ) (section : Option SectionParts) → home ≢ 0xFFF1 → section_at inputs.objects o home ≡ section
    → home_value_target inputs o home value addend ≡ option_map_or (section_target inputs o home value addend) section Nowhere
home_section inputs o home value addend section ne is =
    (λ j. cond (ne_eqb home 0xFFF1 ne j) (number_target value addend) (option_map_or (section_target inputs o home value addend) (is j) Nowhere))

-- what a name stands for, by its meaning
pub symbol_meaning : (names : List (List ℕ)) (o : Option Definition) (row : SymbolRow) → Symbol row ≡ meaning_row names o → (l : IndexedSymbol) × (o ≡ Some (InObject l)) × (row ≡ symbol_row names l)
symbol_meaning names None row is = absurd cc
symbol_meaning names (Some (InObject l)) row is = (l, refl, cc)
symbol_meaning names (Some (AtNumber n)) row is = absurd cc

pub number_meaning : (names : List (List ℕ)) (o : Option Definition) (n : ℕ) → Number n ≡ meaning_row names o → o ≡ Some (AtNumber n)
number_meaning names None n is = absurd cc
number_meaning names (Some (InObject l)) n is = absurd cc
number_meaning names (Some (AtNumber m)) n is = let same : m ≡ n = cc in ap (λ k. Some (AtNumber k)) same

pub nothing_meaning : (names : List (List ℕ)) (o : Option Definition) → Nothing ≡ meaning_row names o → o ≡ None
nothing_meaning names None is = refl
nothing_meaning names (Some (InObject l)) is = absurd cc
nothing_meaning names (Some (AtNumber n)) is = absurd cc

-- a number modulo 2^32 before an addend
pub number_wrapped : (n : ℕ) (addend : ℤ) → number_target (n % 2 ^ 32) addend ≡ number_target n addend
number_wrapped n addend =
    let w = cast_unsigned w32 addend in
    let parts : n + w ≡ n % 4294967296 + w + 4294967296 * (n / 4294967296) = omega (arith, mod-add-div n 4294967296) in
    ap (λ k. TargetNumber k) (sym (ap (λ k. k % 4294967296) parts ∙ add-mul-mod_self_left (n % 4294967296 + w) 4294967296 (n / 4294967296)))
