-- What names stand for by tables, and the sums over objects by rows, are what the definitions say.
use Rattle.std.proofs.Common.{◌≡◌, ℕ, ◌+◌, ◌<◌, ◌≤◌, Bool, true, false, ◌&&◌, List, [], ◌∷◌, length, get_or, take, drop, map, max, refl, sym, ap, ◌∙◌, arith, Option, Some, None, is_none, All, eqb, nat_lt}
use Rattle.std.specs.List.{find, flat_map, enumerate_from, range_with_len, sum_by, zip}
use Rattle.std.specs.Option.{option_map, option_or}
use Rattle.std.proofs.lemmas.Bool.{eqb-true, ltb-false, or_parts}
use Rattle.std.proofs.lemmas.List.{take_all}
use Rattle.std.proofs.lemmas.List.Folds.{fold-map}
use Rattle.std.proofs.lemmas.List.Sums.{sum_by-append, sum_by-cons}
use Rattle.elf32_read.specs.declared.fault.Fault.{Fault}
use Rattle.elf32_read.specs.declared.fault.Fault.TheVariants.{TooLarge}
use Rattle.elf32_read.specs.Parts.{ObjectParts, SectionParts, SymbolParts, object_parts}
use Rattle.psabi_sym.specs.declared.data_class.DataClass.TheVariants.{ReadOnly, Data, SmallData, SmallZero, Zero, Common}
use Rattle.psabi_sym.specs.declared.meaning.LinkerNumbers.{LinkerNumbers}
use Rattle.psabi_sym.specs.declared.meaning.Meaning.{Meaning}
use Rattle.psabi_sym.specs.declared.meaning.Meaning.TheVariants.{Nothing}
use Rattle.psabi_sym.specs.declared.section_row.SectionRole.{SectionRole}
use Rattle.psabi_sym.specs.declared.section_row.SectionRole.TheVariants.{Code, InClass, Dropped}
use Rattle.psabi_sym.specs.declared.symbol_row.SymbolRow.{SymbolRow}
use Rattle.psabi_sym.specs.Blocks.{aligned_up, end_from, placed_from}
use Rattle.psabi_sym.specs.Data.{class_end, class_start, common_address, role_of}
use Rattle.psabi_sym.specs.Faults.{are_too_large, common_room, data_room, is_missing, is_used, object_data, room_in_data, sum_fault, sums_of}
use Rattle.psabi_sym.specs.Inputs.{ParsedInputs}
use Rattle.psabi_sym.specs.Indexed.{IndexedSection, IndexedSymbol, all_sections, all_symbols, sections_in, symbols_in}
use Rattle.psabi_sym.specs.Invariants.Meanings.{is_nothing, meaning_at, meaning_of, meaning_row, row_is_missing}
use Rattle.psabi_sym.specs.Names.{goes_by_name, strong_definition, weak_definition}
use Rattle.psabi_sym.specs.Invariants.Numbered.{HaveNumbers}
use Rattle.psabi_sym.specs.Resolve.{Definition, linker_number, linker_numbers, name_definition}
use Rattle.psabi_sym.specs.Resolve.Definition.{InObject, AtNumber}
use Rattle.psabi_sym.specs.Invariants.Rows.{first_row, name_number, placed_rows, role_room, row_address_of, row_blocks, row_common_room, row_data_room, row_room, row_start, section_row, symbol_number, symbol_row}
use Rattle.psabi_sym.proofs.BridgeLaws.{common_is, commons_end, find-map, first_row_is, number_at, row_blocks_are}
use Rattle.psabi_sym.proofs.NumberLaws.{bound_goes, symbol_number_is}
use Rattle.psabi_sym.proofs.RangeLaws.{none_found_in_range}
use Rattle.psabi_sym.proofs.Tables.{table_at}

-- ---- classes

module _ (inputs : ParsedInputs) where
  low : ℕ
  low = inputs.map.data_low

  pub small_data_is : row_start (map (section_row inputs.fixed) (all_sections inputs.objects)) inputs.map.data_low SmallData ≡ class_start inputs SmallData
  unfolding class_start
  small_data_is = λ j. aligned_up 16 (end_from (aligned_up 16 (end_from (aligned_up 16 inputs.map.data_low) (row_blocks_are inputs.fixed ReadOnly (all_sections inputs.objects) j))) (row_blocks_are inputs.fixed Data (all_sections inputs.objects) j))

  pub small_zero_is : row_start (map (section_row inputs.fixed) (all_sections inputs.objects)) inputs.map.data_low SmallZero ≡ class_start inputs SmallZero
  unfolding class_start
  small_zero_is =
      λ j. aligned_up 16 (end_from (aligned_up 16 (end_from (aligned_up 16 (end_from (aligned_up 16 inputs.map.data_low) (row_blocks_are inputs.fixed ReadOnly (all_sections inputs.objects) j))) (row_blocks_are inputs.fixed Data (all_sections inputs.objects) j))) (row_blocks_are inputs.fixed SmallData (all_sections inputs.objects) j))

  pub file_end_is : end_from (row_start (map (section_row inputs.fixed) (all_sections inputs.objects)) inputs.map.data_low SmallData) (row_blocks SmallData (map (section_row inputs.fixed) (all_sections inputs.objects))) ≡ class_end inputs SmallData
  unfolding class_end
  file_end_is = λ j. end_from (small_data_is j) (row_blocks_are inputs.fixed SmallData (all_sections inputs.objects) j)

  pub common_start_is : aligned_up 16 (end_from (row_start (map (section_row inputs.fixed) (all_sections inputs.objects)) inputs.map.data_low Zero) (row_blocks Zero (map (section_row inputs.fixed) (all_sections inputs.objects)))) ≡ class_start inputs Common
  unfolding class_start
  common_start_is =
      λ j. aligned_up 16 (end_from (aligned_up 16 (end_from (aligned_up 16 (end_from (aligned_up 16 (end_from (aligned_up 16 (end_from (aligned_up 16 inputs.map.data_low) (row_blocks_are inputs.fixed ReadOnly (all_sections inputs.objects) j))) (row_blocks_are inputs.fixed Data (all_sections inputs.objects) j))) (row_blocks_are inputs.fixed SmallData (all_sections inputs.objects) j))) (row_blocks_are inputs.fixed SmallZero (all_sections inputs.objects) j))) (row_blocks_are inputs.fixed Zero (all_sections inputs.objects) j))

-- ---- names

-- what a name is, by cases
meaning_is : (names : List (List ℕ)) (strong weak : Option IndexedSymbol) (common linker : Option ℕ)
    → meaning_of (option_map (symbol_row names) strong) common (option_map (symbol_row names) weak) linker
    ≡ meaning_row names (option_or (option_map InObject strong) (option_or (option_map AtNumber common) (option_or (option_map InObject weak) (option_map AtNumber linker))))
meaning_is names (Some s) weak common linker = refl
meaning_is names None weak (Some n) linker = refl
meaning_is names None (Some w) None linker = refl
meaning_is names None None None (Some n) = refl
meaning_is names None None None None = refl

nothing_is : (names : List (List ℕ)) (o : Option Definition) → is_nothing (meaning_row names o) ≡ is_none o
nothing_is names None = refl
nothing_is names (Some (InObject l)) = refl
nothing_is names (Some (AtNumber n)) = refl

module _ (names : List (List ℕ)) (inputs : ParsedInputs) (numbered : HaveNumbers names (all_symbols inputs.objects)) where
  -- a name by the tables
  pub meaning_at_is : (strong weak : List (Option SymbolRow)) (commons : List (Option ℕ)) (numbers : LinkerNumbers) (name : List ℕ) → name_number names name < length names
      → strong ≡ map (first_row 1 (map (symbol_row names) (all_symbols inputs.objects))) (range_with_len 0 (length names))
      → weak ≡ map (first_row 2 (map (symbol_row names) (all_symbols inputs.objects))) (range_with_len 0 (length names))
      → commons ≡ map (row_address_of (placed_from (row_room (map (symbol_row names) (all_symbols inputs.objects))) (class_start inputs Common)
      (placed_rows (map (symbol_row names) (all_symbols inputs.objects)) (map (symbol_row names) (all_symbols inputs.objects))))) (range_with_len 0 (length names))
      → numbers ≡ linker_numbers inputs
      → meaning_at names strong commons weak numbers (name_number names name) ≡ meaning_row names (name_definition inputs name)
  unfolding name_definition common_address
  meaning_at_is strong weak commons numbers name there strongs weaks placed number =
      let k = name_number names name in
      let rows = map (symbol_row names) (all_symbols inputs.objects) in
      let s = table_at (first_row 1 rows) strong (length names) k None strongs there ∙ first_row_is names inputs.objects numbered 1 name refl there in
      let w = table_at (first_row 2 rows) weak (length names) k None weaks there ∙ first_row_is names inputs.objects numbered 2 name refl there in
      let c = table_at (row_address_of (placed_from (row_room rows) (class_start inputs Common) (placed_rows rows rows))) commons (length names) k None placed there ∙ common_is names inputs.objects numbered (class_start inputs Common) name there in
      let l : linker_number numbers (get_or names k []) ≡ linker_number (linker_numbers inputs) name = λ j. linker_number (number j) (number_at names name [] there j) in
      (λ j. meaning_of (s j) (c j) (w j) (l j))
      ∙ meaning_is names (strong_definition inputs.objects name) (weak_definition inputs.objects name) _ (linker_number (linker_numbers inputs) name)

  -- what is missing
  pub undefined_is : (meanings : List Meaning)
      → All (λ l. goes_by_name l.symbol ≡ true → get_or meanings (name_number names l.symbol.name) Nothing ≡ meaning_row names (name_definition inputs l.symbol.name)) (all_symbols inputs.objects)
      → option_map {U = ℕ × ℕ} (λ e. (e.0.object, e.0.index)) (find (row_is_missing meanings) (zip (map (symbol_row names) (all_symbols inputs.objects)) (map (is_used inputs.objects) (all_symbols inputs.objects))))
      ≡ option_map (λ l. (l.object, l.index)) (find (is_missing inputs) (all_symbols inputs.objects))
  undefined_is meanings each =
      let both : IndexedSymbol → SymbolRow × Bool = λ l. (symbol_row names l, is_used inputs.objects l) in
      ap (λ zs. option_map {T = SymbolRow × Bool} {U = ℕ × ℕ} (λ e. (e.0.object, e.0.index)) (find (row_is_missing meanings) zs)) (zip-map (all_symbols inputs.objects))
      ∙ ap (option_map {T = SymbolRow × Bool} {U = ℕ × ℕ} (λ e. (e.0.object, e.0.index)))
      (find-map both (row_is_missing meanings) (is_missing inputs) (all_symbols inputs.objects)
      (λ k d within. missing (get_or (all_symbols inputs.objects) k d) (eqb (get_or (all_symbols inputs.objects) k d).symbol.bind 1) refl (each k d within)))
      ∙ by (find (is_missing inputs) (all_symbols inputs.objects))
    where
      missing : (l : IndexedSymbol) (b : Bool) → eqb l.symbol.bind 1 ≡ b
          → (goes_by_name l.symbol ≡ true → get_or meanings (name_number names l.symbol.name) Nothing ≡ meaning_row names (name_definition inputs l.symbol.name))
          → row_is_missing meanings (symbol_row names l, is_used inputs.objects l) ≡ is_missing inputs l
      missing l true global meant =
          let goes = bound_goes l.symbol (ap (λ n. eqb n 0) (eqb-true l.symbol.bind 1 global)) in
          ap (λ n. eqb l.symbol.bind 1 && eqb l.symbol.home 0 && is_used inputs.objects l && is_nothing (get_or meanings n Nothing)) (symbol_number_is names l.symbol goes)
          ∙ ap (λ m. eqb l.symbol.bind 1 && eqb l.symbol.home 0 && is_used inputs.objects l && is_nothing m) (meant goes)
          ∙ ap (λ b. eqb l.symbol.bind 1 && eqb l.symbol.home 0 && is_used inputs.objects l && b) (nothing_is names (name_definition inputs l.symbol.name))
      missing l false other meant =
          (λ j. other j && eqb l.symbol.home 0 && is_used inputs.objects l && is_nothing (get_or meanings (symbol_number names l.symbol) Nothing))
          ∙ (λ j. sym other j && eqb l.symbol.home 0 && is_used inputs.objects l && is_none (name_definition inputs l.symbol.name))

      zip-map : (ls : List IndexedSymbol) → zip (map (symbol_row names) ls) (map (is_used inputs.objects) ls) ≡ map (λ l. (symbol_row names l, is_used inputs.objects l)) ls
      zip-map [] = refl
      zip-map (l ∷ ls) = ap (λ t. (symbol_row names l, is_used inputs.objects l) ∷ t) (zip-map ls)

      by : (o : Option IndexedSymbol) → option_map {T = SymbolRow × Bool} {U = ℕ × ℕ} (λ e. (e.0.object, e.0.index)) (option_map (λ l. (symbol_row names l, is_used inputs.objects l)) o) ≡ option_map (λ l. (l.object, l.index)) o
      by None = refl
      by (Some l) = refl

-- ---- sums

-- a section's room
section_room_is : (s : SectionParts) (role : SectionRole) → role_room role (s.size + max 1 s.align) ≡ room_in_data s role
section_room_is s Code = refl
section_room_is s (InClass class) = refl
section_room_is s Dropped = refl

sum_sections : (o n : ℕ) (ss : List SectionParts)
    → sum_by {X = IndexedSection} (λ l. data_room l.section) (map (λ s. record { object = o; index = s.0; section = s.1 }) (enumerate_from n ss)) ≡ sum_by data_room ss
sum_sections o n [] = refl
sum_sections o n (s ∷ ss) =
    sum_by-cons (λ l. data_room l.section) (record { object = o; index = n; section = s }) (map (λ t. record { object = o; index = t.0; section = t.1 }) (enumerate_from (n + 1) ss))
    ∙ ap (λ k. data_room s + k) (sum_sections o (n + 1) ss) ∙ sym (sum_by-cons data_room s ss)

sum_symbols : (o n : ℕ) (ss : List SymbolParts)
    → sum_by {X = IndexedSymbol} (λ l. common_room l.symbol) (map (λ s. record { object = o; index = s.0; symbol = s.1 }) (enumerate_from n ss)) ≡ sum_by common_room ss
sum_symbols o n [] = refl
sum_symbols o n (s ∷ ss) =
    sum_by-cons (λ l. common_room l.symbol) (record { object = o; index = n; symbol = s }) (map (λ t. record { object = o; index = t.0; symbol = t.1 }) (enumerate_from (n + 1) ss))
    ∙ ap (λ k. common_room s + k) (sum_symbols o (n + 1) ss) ∙ sym (sum_by-cons common_room s ss)

sum_first : (o : ℕ) (ss : List SymbolParts)
    → sum_by {X = IndexedSymbol} (λ l. common_room l.symbol) (map (λ s. record { object = o; index = s.0; symbol = s.1 }) (drop 1 (enumerate_from 0 ss))) ≡ sum_by common_room (drop 1 ss)
sum_first o [] = refl
sum_first o (s ∷ ss) = sum_symbols o (0 + 1) ss

-- all sections and symbols together
sum_objects : (n : ℕ) (objects : List ObjectParts)
    → sum_by (λ l. data_room l.section) (flat_map sections_in (enumerate_from n objects)) + sum_by (λ l. common_room l.symbol) (flat_map symbols_in (enumerate_from n objects)) ≡ sum_by object_data objects
sum_objects n [] = refl
sum_objects n (o ∷ os) =
    let sections = flat_map sections_in (enumerate_from (n + 1) os) in
    let symbols = flat_map symbols_in (enumerate_from (n + 1) os) in
    omega (
      arith,
      sum_by-append (λ l. data_room l.section) (sections_in (n, o)) sections,
      sum_by-append (λ l. common_room l.symbol) (symbols_in (n, o)) symbols,
      sum_sections n 0 o.sections,
      sum_first n o.symbols,
      sum_by-cons object_data o os,
      sum_objects (n + 1) os,
    )

-- the rooms of rows are those of the objects
pub row_sums : (objects : List ObjectParts) (fixed names : List (List ℕ))
    → sum_by row_data_room (map (section_row fixed) (all_sections objects)) + sum_by row_common_room (map (symbol_row names) (all_symbols objects)) ≡ sum_by object_data objects
unfolding all_sections all_symbols
row_sums objects fixed names =
    (λ j. (fold-map (λ a r. a + row_data_room r) (section_row fixed) 0 (flat_map sections_in (enumerate_from 0 objects)) ∙ rooms (flat_map sections_in (enumerate_from 0 objects))) j
    + fold-map (λ a r. a + row_common_room r) (symbol_row names) 0 (flat_map symbols_in (enumerate_from 0 objects)) j)
    ∙ sum_objects 0 objects
  where
    rooms : (ls : List IndexedSection) → sum_by (λ l. row_data_room (section_row fixed l)) ls ≡ sum_by (λ l. data_room l.section) ls
    rooms [] = refl
    rooms (l ∷ ls) =
        omega (arith, sum_by-cons (λ m. row_data_room (section_row fixed m)) l ls, sum_by-cons (λ m. data_room m.section) l ls, section_room_is l.section (role_of l.section), rooms ls)

-- the room of data is bounded
pub data_fits : (files : List (List ℕ)) → sum_fault files ≡ None → sum_by (λ f. object_data (object_parts f)) files + 96 ≤ 0x40_0000
unfolding sum_fault
data_fits [] none = omega arith
data_fits (f ∷ fs) none =
    let files = f ∷ fs in
    let p = λ (i : ℕ). are_too_large (sums_of (take (i + 1) files)) in
    let n : ℕ = length fs in
    let fine : p n ≡ false = none_found_in_range p 0 (length files) n (mapped (find p (range_with_len 0 (length files))) none) (omega arith) (omega arith) in
    let all : take (n + 1) files ≡ files = take_all (n + 1) files (omega arith) in
    let sums : are_too_large (sums_of files) ≡ false = sym (ap (λ l. are_too_large (sums_of l)) all) ∙ fine in
    ltb-false 0x40_0000 ((sums_of files).data_room + 96) (or_parts _ (nat_lt 0x40_0000 ((sums_of files).data_room + 96)) sums).1
  where
    mapped : (o : Option ℕ) → option_map {U = ℕ × Fault} (λ i. (i, TooLarge)) o ≡ None → o ≡ None
    mapped None h = refl
    mapped (Some i) h = absurd cc

-- what the layout asks for
pub rooms_fit : (files : List (List ℕ)) (fixed names : List (List ℕ)) → sum_fault files ≡ None
    → sum_by row_data_room (map (section_row fixed) (all_sections (map object_parts files))) + sum_by row_common_room (map (symbol_row names) (all_symbols (map object_parts files))) + 96 ≤ 0x40_0000
rooms_fit files fixed names none =
    omega (arith, data_fits files none, row_sums (map object_parts files) fixed names, fold-map (λ a o. a + object_data o) object_parts 0 files)

-- where all data ends
pub class_end_common : (names : List (List ℕ)) (inputs : ParsedInputs) (numbered : HaveNumbers names (all_symbols inputs.objects))
    → end_from (class_start inputs Common) (map (row_room (map (symbol_row names) (all_symbols inputs.objects)))
    (placed_rows (map (symbol_row names) (all_symbols inputs.objects)) (map (symbol_row names) (all_symbols inputs.objects)))) ≡ class_end inputs Common
unfolding class_end
class_end_common names inputs numbered = commons_end names inputs.objects numbered (class_start inputs Common)
