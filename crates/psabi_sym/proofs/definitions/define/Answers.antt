use Rattle.std.proofs.Common.{◌≡◌, ◌+◌, ◌<◌, ◌^◌, ℕ, List, Bor, Option, length, get_or, map, ap, subst, sym, ◌∙◌, arith, refl, inl, inr}
use Rattle.std.specs.List.{range_with_len, sum_by}
use Rattle.std.proofs.lemmas.Bool.{cases_lt}
use Rattle.std.proofs.lemmas.List.{get_or_past, length-map}
use Rattle.std.proofs.lemmas.List.FromFn.{length-map-range_with_len}
use Rattle.zc_base.specs.MemMap.{IsMap}
use Rattle.elf32_read.specs.Parts.{object_parts}
use Rattle.psabi_sym.specs.declared.data_class.DataClass.TheVariants.{SmallData, SmallZero, Zero, Common}
use Rattle.psabi_sym.specs.declared.meaning.LinkerNumbers.{LinkerNumbers}
use Rattle.psabi_sym.specs.declared.meaning.Meaning.{Meaning}
use Rattle.psabi_sym.specs.declared.meaning.Meaning.TheVariants.{Nothing}
use Rattle.psabi_sym.specs.declared.section_row.SectionRow.{SectionRow}
use Rattle.psabi_sym.specs.declared.symbol_row.SymbolRow.{SymbolRow}
use Rattle.psabi_sym.specs.Blocks.{aligned_up, end_from, placed_from}
use Rattle.psabi_sym.specs.Data.{class_end, class_start}
use Rattle.psabi_sym.specs.Inputs.{ParsedInputs, read_from}
use Rattle.psabi_sym.specs.Indexed.{all_symbols}
use Rattle.psabi_sym.specs.Invariants.Meanings.{meaning_at, meaning_row, row_meaning}
use Rattle.psabi_sym.specs.Resolve.{linker_numbers, name_definition}
use Rattle.psabi_sym.specs.Invariants.Rows.{first_row, name_number, placed_rows, row_address_of, row_blocks, row_common_room, row_data_room, row_defines, row_is_common, row_room, row_start, symbol_row}
use Rattle.psabi_sym.specs.Invariants.Tables.{AreDefined}
use Rattle.psabi_sym.specs.Start.{IsStart, start_name}
use Rattle.psabi_sym.proofs.DefinedLaws.{class_end_common, common_start_is, file_end_is, meaning_at_is, rooms_fit, small_data_is, small_zero_is}
use Rattle.psabi_sym.proofs.NumberLaws.{common_row_goes, definition_row_goes}
use Rattle.psabi_sym.proofs.NumberedLaws.{named_rows}
use Rattle.psabi_sym.proofs.StartLaws.{no_start}
use Rattle.psabi_sym.proofs.Tables.{table_at, table_count}
use Rattle.psabi_sym.proofs.definitions.define.Goals.{After-start_meaning-start, In_ok-weak}
use Rattle.psabi_sym.proofs.definitions.define.Goals as goal

-- there are as many names as are borrowed
names_count : (names : List (Bor (List ℕ))) → length (map (λ name. name.now) names) ≡ length names
names_count names = length-map names (λ (name : Bor (List ℕ)). name.now)

-- addresses have room for all data, and for the numbers of the linker's names
room : (c : In_ok-weak) → c.map-memory.result.data_low + 0x1000 + sum_by row_data_room c.args.kept.now.sections.now + sum_by row_common_room c.args.kept.now.symbols.now < 2 ^ 32
room c =
    omega (
      arith,
      rooms_fit c.args.objects.now c.args.options.now.fixed (map (λ (name : Bor (List ℕ)). name.now) c.args.kept.now.names.now) c.requires.sums,
      ap (sum_by row_data_room) c.requires.sections,
      ap (sum_by row_common_room) c.requires.symbols.rows_are,
      (subst IsMap (sym c.map-memory.ensures) c.requires.is_map).room,
    )

-- what stands in the tables once all of them are made
module _ (c : After-start_meaning-start) where
  abbrev inputs : ParsedInputs
  inputs = record { objects = map object_parts c.args.objects.now; map = c.map-memory.result; fixed = c.args.options.now.fixed }

  abbrev names : List (List ℕ)
  names = map (λ (name : Bor (List ℕ)). name.now) c.args.kept.now.names.now

  abbrev rows : List SymbolRow
  rows = map (symbol_row names) (all_symbols inputs.objects)

  small_data : c.in_ok-layout.layout.ends.small_data ≡ class_start inputs SmallData
  small_data = c.in_ok-layout.ensures.ends.small_data ∙ ap (λ r. row_start r c.map-memory.result.data_low SmallData) c.requires.sections ∙ small_data_is inputs

  small_zero : c.in_ok-layout.layout.ends.small_zero ≡ class_start inputs SmallZero
  small_zero = c.in_ok-layout.ensures.ends.small_zero ∙ ap (λ r. row_start r c.map-memory.result.data_low SmallZero) c.requires.sections ∙ small_zero_is inputs

  file_end : c.in_ok-layout.layout.ends.file_end ≡ class_end inputs SmallData
  file_end =
      c.in_ok-layout.ensures.ends.file_end ∙ ap (λ r. end_from (row_start r c.map-memory.result.data_low SmallData) (row_blocks SmallData r)) c.requires.sections
      ∙ file_end_is inputs

  commons_start : aligned_up 16 c.in_ok-layout.layout.ends.end ≡ class_start inputs Common
  commons_start =
      ap (aligned_up 16) (c.in_ok-layout.ensures.ends.end ∙ ap (λ r. end_from (row_start r c.map-memory.result.data_low Zero) (row_blocks Zero r)) c.requires.sections)
      ∙ common_start_is inputs

  end : c.in_ok-commons.commons.end ≡ class_end inputs Common
  end =
      c.in_ok-commons.ensures.end
      ∙ (λ j. let r = c.requires.symbols.rows_are j in end_from (commons_start j) (map (row_room r) (placed_rows r r)))
      ∙ class_end_common names inputs c.requires.symbols.numbered

  abbrev numbers : LinkerNumbers
  numbers =
      record {
        global_pointer = c.in_ok-layout.layout.ends.small_data + 2048;
        bss_start = c.in_ok-layout.layout.ends.small_zero;
        end = c.in_ok-commons.commons.end;
        stack_top = c.map-memory.result.stack_high;
      }

  numbers_are : numbers ≡ linker_numbers inputs
  numbers_are = λ j. record { global_pointer = small_data j + 2048; bss_start = small_zero j; end = end j; stack_top = c.map-memory.result.stack_high }

  strong_are : c.args.kept.now.strong.now ≡ map (first_row 1 rows) (range_with_len 0 (length names))
  strong_are = c.requires.strong ∙ (λ j. map (first_row 1 (c.requires.symbols.rows_are j)) (range_with_len 0 (sym (names_count c.args.kept.now.names.now) j)))

  -- the first weak definition of each name
  abbrev weak : List (Option SymbolRow)
  weak = map (first_row 2 rows) (range_with_len 0 (length names))

  weak_are : c.in_ok-weak.weak.items ≡ map row_meaning weak
  weak_are =
      c.in_ok-weak.ensures
      ∙ (λ j. map row_meaning (map (first_row 2 (c.requires.symbols.rows_are j)) (range_with_len 0 (sym (names_count c.args.kept.now.names.now) j))))

  commons_are : c.deref.result.now ≡ map (row_address_of (placed_from (row_room rows) (class_start inputs Common) (placed_rows rows rows))) (range_with_len 0 (length names))
  commons_are =
      c.deref.ensures.value ∙ c.in_ok-commons.ensures.addresses
      ∙ (λ j. let r = c.requires.symbols.rows_are j in
      map (row_address_of (placed_from (row_room r) (commons_start j) (placed_rows r r))) (range_with_len 0 ((table_count _ c.requires.strong ∙ sym (names_count c.args.kept.now.names.now)) j)))

  meanings_are : c.meanings-meanings.result.items ≡ map (meaning_at names c.args.kept.now.strong.now c.deref.result.now weak numbers) (range_with_len 0 (length c.args.kept.now.names.now))
  meanings_are = c.meanings-meanings.ensures weak weak_are

  meanings_count : length c.meanings-meanings.result.items ≡ length names
  meanings_count = table_count _ meanings_are ∙ sym (names_count c.args.kept.now.names.now)

  -- what a name with a number stands for
  meant : (name : List ℕ) → name_number names name < length names → get_or c.meanings-meanings.result.items (name_number names name) Nothing ≡ meaning_row names (name_definition inputs name)
  meant name there =
      table_at (meaning_at names c.args.kept.now.strong.now c.deref.result.now weak numbers) c.meanings-meanings.result.items (length c.args.kept.now.names.now) (name_number names name) Nothing meanings_are
      (omega (arith, there, names_count c.args.kept.now.names.now))
      ∙ meaning_at_is names inputs c.requires.symbols.numbered c.args.kept.now.strong.now weak c.deref.result.now numbers name there strong_are refl commons_are numbers_are

  -- and `_start`, which may have none
  start_meant : get_or c.meanings-meanings.result.items (name_number names start_name) Nothing ≡ meaning_row names (name_definition inputs start_name)
  start_meant = elim (cases_lt (name_number names start_name) (length names)) [
    | inl there ↦ meant start_name there
    | inr past ↦
        get_or_past c.meanings-meanings.result.items (name_number names start_name) Nothing (omega (arith, past, meanings_count))
        ∙ sym (ap (meaning_row names) (no_start names inputs c.requires.symbols.numbered past))
  ]

pub weak_meanings-requires : goal.weak_meanings-requires
weak_meanings-requires c = named_rows (row_defines 2) (definition_row_goes 2 refl) c.requires.symbols refl (names_count c.args.kept.now.names.now)

pub lay_out-requires : goal.lay_out-requires
lay_out-requires c = omega (arith, room (goal.at.lay_out-requires c).In_ok-weak)

pub place_commons-requires-clause-named : goal.place_commons-requires-clause-named
place_commons-requires-clause-named c =
    named_rows row_is_common common_row_goes c.requires.symbols refl (names_count c.args.kept.now.names.now ∙ sym (table_count _ c.requires.strong))

pub place_commons-requires-clause-strong : goal.place_commons-requires-clause-strong
place_commons-requires-clause-strong c =
    c.requires.strong ∙ ap (λ n. map (first_row 1 c.args.kept.now.symbols.now) (range_with_len 0 n)) (sym (table_count _ c.requires.strong))

pub place_commons-requires-clause-room : goal.place_commons-requires-clause-room
place_commons-requires-clause-room c = omega (arith, room (goal.at.place_commons-requires-clause-room c).In_ok-weak, c.in_ok-layout.ensures.ends.most)

pub overflow_add-numbers : goal.overflow_add-numbers
overflow_add-numbers c = omega (arith, room (goal.at.overflow_add-numbers c).In_ok-weak, c.in_ok-layout.ensures.ends.small_data_most)

pub meanings-meanings-requires-clause-strong : goal.meanings-meanings-requires-clause-strong
meanings-meanings-requires-clause-strong c = table_count _ c.requires.strong

pub meanings-meanings-requires-clause-commons : goal.meanings-meanings-requires-clause-commons
meanings-meanings-requires-clause-commons c =
    table_count _ (c.deref.ensures.value ∙ c.in_ok-commons.ensures.addresses) ∙ table_count _ c.requires.strong

pub meanings-meanings-requires-clause-weak : goal.meanings-meanings-requires-clause-weak
meanings-meanings-requires-clause-weak c =
    let own = first_row 2 c.args.kept.now.symbols.now in
    let count = length c.args.kept.now.names.now in
    ap length c.in_ok-weak.ensures ∙ length-map (map own (range_with_len 0 count)) row_meaning ∙ length-map-range_with_len own 0 count

pub start_meaning-start-requires : goal.start_meaning-start-requires
start_meaning-start-requires c =
    ap length c.deref-2.ensures.value
    ∙ table_count _ (c.meanings-meanings.ensures (map (first_row 2 c.args.kept.now.symbols.now) (range_with_len 0 (length c.args.kept.now.names.now))) c.in_ok-weak.ensures)

-- the same definitions, of inputs that are the same
moved : {sections : List SectionRow} {addresses : List ℕ} {symbols : List SymbolRow} {meanings : List Meaning} {file_end end : ℕ} {start : Meaning} {here there : ParsedInputs} → here ≡ there
    → AreDefined here sections addresses symbols meanings file_end end × IsStart here start → AreDefined there sections addresses symbols meanings file_end end × IsStart there start
moved {sections} {addresses} {symbols} {meanings} {file_end} {end} {start} same =
    subst (λ (v : ParsedInputs). AreDefined v sections addresses symbols meanings file_end end × IsStart v start) same

pub returns : goal.returns
returns c =
    let a = (goal.at.returns c).After-start_meaning-start in
    let same : inputs a ≡ read_from c.args.objects.now c.args.options.now =
    λ j. record { objects = map object_parts c.args.objects.now; map = c.map-memory.ensures j; fixed = c.args.options.now.fixed } in
    moved same (
      record {
        placed = c.in_ok-layout.ensures.addresses;
        count = c.in_ok-layout.ensures.count;
        named = record {
          names = names a;
          numbered = c.requires.symbols;
          count = meanings_count a;
          meant = λ k d within goes. meant a (get_or (all_symbols (inputs a).objects) k d).symbol.name (c.requires.symbols.numbered k d within goes);
        };
        file_end_is = file_end a;
        end_is = end a;
      },
      record {
        names = names a;
        start_is = c.start_meaning-start.ensures ∙ ap (λ l. get_or l (name_number (names a) start_name) Nothing) c.deref-2.ensures.value ∙ start_meant a;
      },
    )
