use Rattle.std.proofs.Common.{◌≡◌, true, refl, ◌++◌, ◌+◌, ◌-◌, ◌<◌, ◌≤◌, None, ℕ, [], ◌∷◌, List, length, get_or, take, ap, sym, subst, ◌∙◌, arith, append_assoc}
use Rattle.std.proofs.lemmas.List.{append-nil, take_more, take_all}
use Rattle.elf32_read.specs.Parts.{object_parts, symbol_parts}
use Rattle.elf32_read.specs.Object.{object_fault}
use Rattle.elf32_read.proofs.Faultless.{few_names, few_symbols}
use Rattle.elf32_read.specs.Symbols.{symbol_count, symbol_entry_of}
use Rattle.psabi_sym.specs.Invariants.Keys.{AreLongEnds, names_of}
use Rattle.psabi_sym.specs.Indexed.{IndexedSymbol, symbols_in}
use Rattle.psabi_sym.specs.Names.{goes_by_name}
use Rattle.psabi_sym.specs.Invariants.Numbered.{IsNumbered}
use Rattle.psabi_sym.specs.Invariants.Rows.{name_number, symbol_number, symbol_row, with_symbol}
use Rattle.psabi_sym.proofs.NumberedLaws.{grow_by, numbered_as, numbered_more}
use Rattle.psabi_sym.proofs.NumberLaws.{symbol_number_is}
use Rattle.psabi_sym.proofs.PartLaws.{length-symbols_in, symbol_count_is, symbol_is, symbol_listed}
use Rattle.psabi_sym.proofs.read_symbols.add_symbols.Goals as goal

-- nor are their names long
pub read-requires-clause-few : goal.read-requires-clause-few
read-requires-clause-few c =
    let read = c.object-object.result in
    omega (arith, few_names read (ap object_fault c.object-object.ensures.object ∙ c.object-object.ensures.faultless), ap length c.symbol_names-table.ensures)

pub loop-i-init : goal.loop-i-init
loop-i-init c = record {
  are = c.in_ok-ends.ensures.read.are;
  room =
      let read = c.object-object.result in
      omega (arith, c.in_ok-ends.ensures.read.room, few_names read (ap object_fault c.object-object.ensures.object ∙ c.object-object.ensures.faultless), ap length c.symbol_names-table.ensures);
  ends = c.in_ok-ends.ensures.ends;
  numbered = λ listed before. numbered_as (sym c.in_ok-ends.ensures.read.names) (sym (append-nil listed)) refl before;
  within = omega arith;
  few = omega (arith, ap length c.in_ok-ends.ensures.read.names);
  rows = omega arith;
}

-- an object of at most 4 MiB has few symbols
few : (file : List ℕ) → object_fault file ≡ None → symbol_count file ≤ 0x4_0000
few file none = omega (arith, few_symbols file none)

pub number_name-requires-clause-few : goal.number_name-requires-clause-few
number_name-requires-clause-few c = omega (arith, few c.object-object.result (ap object_fault c.object-object.ensures.object ∙ c.object-object.ensures.faultless), c.symbol_count-i-end.ensures, c.loop-i.invariant.few, c.requires.few)

pub loop-i-preserved : goal.loop-i-preserved
loop-i-preserved c =
    let file = c.args.object.loaded.now in
    let i = c.loop-i.i in
    let read = c.object-object.result in
    let same : read ≡ file = c.object-object.ensures.object in
    let parts = symbol_parts read (symbol_entry_of read i) in
    let entry = c.symbol_entry-entry.result in
    let is : entry ≡ symbol_entry_of read i = c.symbol_entry-entry.ensures in
    let table = c.symbol_names-table.ensures in
    let entry_is : symbol_parts read entry ≡ parts = ap (symbol_parts read) is in
    let within : i < symbol_count file = omega (arith, ap symbol_count same, c.symbol_count-i-end.ensures) in
    let first : 1 ≤ i = omega arith in
    let all = symbols_in (c.args.object.index, object_parts file) in
    let l : IndexedSymbol = record { object = c.args.object.index; index = i; symbol = parts } in
    let long : i < length (object_parts file).symbols = omega (arith, within, symbol_count_is file) in
    let listed_is : get_or all (i - 1) l ≡ l =
    symbol_listed c.args.object.index (object_parts file) (i - 1) parts l (omega (arith, first, long))
    ∙ ap (λ n. record { object = c.args.object.index; index = n; symbol = get_or (object_parts file).symbols n parts }) (omega (arith, first))
    ∙ ap (λ s. record { object = c.args.object.index; index = i; symbol = s }) (symbol_is file i parts within ∙ ap (λ f. symbol_parts f (symbol_entry_of f i)) (sym same)) in
    let more : take (i - 1) all ++ l ∷ [] ≡ take (i + 1 - 1) all =
    ap (λ x. take (i - 1) all ++ x ∷ []) (sym listed_is)
    ∙ sym (take_more all (i - 1) l (omega (arith, first, long, length-symbols_in c.args.object.index (object_parts file))))
    ∙ ap (λ n. take n all) (omega (arith, first)) in
    let names = names_of c.loop-i.names in
    let grown = with_symbol names parts in
    let grown_is : names_of c.number_name.new.names ≡ grown = c.in_ok-name.ensures.names read table ∙ ap (with_symbol names) entry_is in
    let number_is : c.in_ok-name.name ≡ symbol_number grown parts = c.in_ok-name.ensures.number read table ∙ (λ j. symbol_number (grown_is j) (entry_is j)) in
    let row_is : record { object = c.args.object.index; home = entry.home; index = i; name = c.in_ok-name.name; value = entry.value; size = entry.size; bind = entry.bind }
    ≡ symbol_row grown l = λ j. record {
      object = c.args.object.index;
      home = (is j).home;
      index = i;
      name = number_is j;
      value = (is j).value;
      size = (is j).size;
      bind = (is j).bind;
    } in
    let there : goes_by_name parts ≡ true → name_number grown parts.name < length grown = λ goes.
    omega (arith, c.in_ok-name.ensures.within read (ap goes_by_name entry_is ∙ goes), number_is, symbol_number_is grown parts goes, ap length grown_is) in
    let grow = grow_by names parts in
    record {
      are = c.in_ok-name.ensures.are.0;
      room = omega (arith, ap (λ t. length t.texts.items) c.in_ok-name.ensures.are.1, c.loop-i.invariant.room);
      ends = subst (λ b. AreLongEnds b.texts.items c.symbol_names-table.result.now c.in_ok-ends.ends.items) (sym c.in_ok-name.ensures.are.1) c.loop-i.invariant.ends;
      numbered = λ listed before.
          numbered_as (sym grown_is)
          (append_assoc listed (take (i - 1) all) (l ∷ []) ∙ ap (λ t. listed ++ t) more)
          (ap (λ r. c.loop-i.rows.items ++ r ∷ []) (sym row_is) ∙ sym c.in_ok-push.ensures.items)
          (numbered_more names grown grow (listed ++ take (i - 1) all) c.loop-i.rows.items l (c.loop-i.invariant.numbered listed before) there);
      within = omega arith;
      few = omega (arith, ap length grown_is, grow.few, c.loop-i.invariant.few, first);
      rows = omega (arith, c.in_ok-push.ensures.len, c.loop-i.invariant.rows, first);
    }

pub returns-clause-numbered : goal.returns-clause-numbered
returns-clause-numbered c = λ listed before.
    let file = c.args.object.loaded.now in
    let all = symbols_in (c.args.object.index, object_parts file) in
    let end : length all ≤ c.loop-i.i - 1 = omega (arith, length-symbols_in c.args.object.index (object_parts file), symbol_count_is file, ap symbol_count c.object-object.ensures.object, c.symbol_count-i-end.ensures) in
    subst (λ t. IsNumbered (names_of c.loop-i.names) (listed ++ t) c.loop-i.rows.items) (take_all (c.loop-i.i - 1) all end) (c.loop-i.invariant.numbered listed before)

pub returns-clause-few : goal.returns-clause-few
returns-clause-few c =
    omega (arith, few c.object-object.result (ap object_fault c.object-object.ensures.object ∙ c.object-object.ensures.faultless), c.symbol_count-i-end.ensures, c.loop-i.invariant.rows, c.loop-i.invariant.within)
