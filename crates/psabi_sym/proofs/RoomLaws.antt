-- How far data reach: the sums bound them in any case, and the stack if there is no fault.
use Rattle.std.proofs.Common.{◌≡◌, ℕ, ◌+◌, ◌<◌, ◌≤◌, List, None, true, ◌⊎◌, inl, inr, get_or, length, map, max, take, ap, ◌∙◌, arith}
use Rattle.std.specs.List.{sum_by}
use Rattle.std.proofs.lemmas.Bool.{cases_lt}
use Rattle.std.proofs.lemmas.List.{get_or-map, length-map, take_all}
use Rattle.std.proofs.lemmas.List.Folds.{fold-map}
use Rattle.std.proofs.lemmas.List.Sums.{fails_before_first}
use Rattle.zc_base.specs.MemMap.{IsMap, data_limit}
use Rattle.elf32_read.specs.Parts.{object_parts}
use Rattle.psabi_sym.specs.declared.block.Block.{Block}
use Rattle.psabi_sym.specs.declared.data_class.DataClass.TheVariants.{ReadOnly, Data, SmallData, SmallZero, Zero, Common}
use Rattle.psabi_sym.specs.Data.{class_start, data_end}
use Rattle.psabi_sym.specs.Faults.{gather_fault, object_data}
use Rattle.psabi_sym.specs.Indexed.{IndexedSymbol, all_sections, all_symbols}
use Rattle.psabi_sym.specs.Inputs.{Inputs, ParsedInputs, parsed}
use Rattle.psabi_sym.specs.Invariants.Numbered.{HaveNumbers}
use Rattle.psabi_sym.specs.Invariants.Rows.{name_number, placed_rows, row_end, row_room, section_row, symbol_row}
use Rattle.psabi_sym.specs.Names.{same_name}
use Rattle.psabi_sym.proofs.BlockLaws.{aligned_up-lt, end_from_fits}
use Rattle.psabi_sym.proofs.CommonLaws.{placed_room}
use Rattle.psabi_sym.proofs.DefinedLaws.{class_end_common, common_start_is, data_fits, row_sums}
use Rattle.psabi_sym.proofs.Gathered.{all_none, data_below}
use Rattle.psabi_sym.proofs.NumberLaws.{same_self}
use Rattle.psabi_sym.proofs.RowLaws.{class_rooms, row_end-le}

-- each symbol's name has a number among the names of all
have_numbers : (listed : List IndexedSymbol) → HaveNumbers (map (λ l. l.symbol.name) listed) listed
have_numbers listed = λ k d within goes.
    let names = map (λ (l : IndexedSymbol). l.symbol.name) listed in
    let name = (get_or listed k d).symbol.name in
    let same : same_name name (get_or names k name) ≡ true = ap (same_name name) (get_or-map (λ (l : IndexedSymbol). l.symbol.name) listed k d name within) ∙ same_self name in
    by names name k same (omega (arith, within, length-map listed (λ (l : IndexedSymbol). l.symbol.name))) (cases_lt (name_number names name) (length names))
  where
    by : (names : List (List ℕ)) (name : List ℕ) (k : ℕ) → same_name name (get_or names k name) ≡ true → k < length names
        → ((name_number names name < length names) ⊎ (length names ≤ name_number names name)) → name_number names name < length names
    by names name k same within (inl less) = less
    by names name k same within (inr more) = absurd (cc (same, fails_before_first (same_name name) names k name (omega (arith, within, more))))

-- data end no higher than the sums say
pub data_end-sums : (inputs : ParsedInputs) → data_end inputs ≤ inputs.map.data_low + sum_by object_data inputs.objects + 96
data_end-sums inputs =
    let low = inputs.map.data_low in
    let listed = all_symbols inputs.objects in
    let names = map (λ (l : IndexedSymbol). l.symbol.name) listed in
    let rows = map (section_row inputs.fixed) (all_sections inputs.objects) in
    let symbols = map (symbol_row names) listed in
    let e1 = row_end rows low ReadOnly in
    let e2 = row_end rows e1 Data in
    let e3 = row_end rows e2 SmallData in
    let e4 = row_end rows e3 SmallZero in
    let placed = placed_rows symbols symbols in
    let all : take (length symbols) symbols ≡ symbols = take_all (length symbols) symbols (omega arith) in
    omega (
      arith,
      row_sums inputs.objects inputs.fixed names,
      class_rooms rows,
      row_end-le rows low ReadOnly,
      row_end-le rows e1 Data,
      row_end-le rows e2 SmallData,
      row_end-le rows e3 SmallZero,
      row_end-le rows e4 Zero,
      aligned_up-lt 16 (row_end rows e4 Zero),
      common_start_is inputs,
      end_from_fits (class_start inputs Common) (map (row_room symbols) placed),
      placed_room symbols (length symbols) (omega arith),
      ap (λ l. sum_by (λ (b : Block). b.size + max 1 b.align) (map (row_room symbols) (placed_rows symbols l))) all,
      class_end_common names inputs (have_numbers listed),
    )

-- data of inputs without a fault have no more than the room for them
pub data_end-most : (inputs : Inputs) → gather_fault inputs ≡ None → IsMap inputs.map → data_end (parsed inputs) ≤ inputs.map.data_low + data_limit inputs.map
data_end-most inputs faultless is_map =
    let none = all_none inputs faultless in
    omega (
      arith,
      data_end-sums (parsed inputs),
      data_fits inputs.files none.sums,
      fold-map (λ a o. a + object_data o) object_parts 0 inputs.files,
      data_below (parsed inputs) none.room,
      is_map.below,
    )
