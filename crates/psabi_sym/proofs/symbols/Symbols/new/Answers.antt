use Rattle.std.proofs.Common.{◌≡◌, ◌≤◌, ◌+◌, ◌<◌, true, [], ◌∷◌, ◌++◌, length, map, take, ap, sym, subst, ◌∙◌, arith}
use Rattle.std.specs.List.{range_with_len}
use Rattle.std.proofs.lemmas.List.{length-map, take_all}
use Rattle.std.proofs.lemmas.List.Elements.{All-nil}
use Rattle.std.proofs.lemmas.List.FromFn.{map-range_with_len_more}
use Rattle.elf32_read.specs.Parts.{object_parts}
use Rattle.psabi_sym.specs.Invariants.Keys.{names_of}
use Rattle.psabi_sym.specs.Indexed.{IndexedSymbol, all_symbols, symbols_in}
use Rattle.psabi_sym.specs.Names.{goes_by_name}
use Rattle.psabi_sym.specs.Invariants.Numbered.{IsNumbered}
use Rattle.psabi_sym.specs.Invariants.Rows.{name_number, symbol_row, symbol_starts}
use Rattle.psabi_sym.proofs.FlatLaws.{length-parsed, parsed_more, symbols_push}
use Rattle.psabi_sym.proofs.symbols.Symbols.new.Goals as goal

pub loop-i-init : goal.loop-i-init
unfolding all_symbols
loop-i-init c = record {
  are = c.requires.are;
  room = omega (arith, ap length c.requires.tails);
  rows = record {
    rows_are = c.in_ok-rows.ensures.items;
    numbered = All-nil (λ (l : IndexedSymbol). goes_by_name l.symbol ≡ true → name_number (names_of c.args.names.now) l.symbol.name < length (names_of c.args.names.now));
    few = omega (arith, ap length c.requires.unnamed);
  };
  starts = c.in_ok-starts.ensures.items;
  few = omega (arith, c.in_ok-rows.ensures.len);
}

pub loop-i-preserved : goal.loop-i-preserved
loop-i-preserved c =
    let files = c.args.objects.now in
    let i = c.loop-i.i in
    let file = c.index-objects-i.result in
    let all = map object_parts files in
    let object = object_parts file in
    let more = parsed_more object_parts files i file (omega arith) c.index-objects-i.is in
    let index : length (take i all) ≡ i = length-parsed object_parts files i (omega arith) in
    let rows = c.loop-i.rows in
    let before = c.loop-i.invariant.rows in
    let count : length rows.items ≡ symbol_starts all i = ap length before.rows_are ∙ length-map (all_symbols (take i all)) (symbol_row (names_of c.loop-i.names)) in
    record {
      are = c.in_ok-add_symbols.ensures.are.0;
      room = omega (arith, c.in_ok-add_symbols.ensures.are.1, c.loop-i.invariant.room);
      rows =
          subst (λ l. IsNumbered (names_of c.add_symbols.new.names) l c.add_symbols.new.rows.items)
          (ap (λ n. all_symbols (take i all) ++ symbols_in (n, object)) (sym index) ∙ sym (symbols_push (take i all) object) ∙ ap all_symbols (sym more))
          (c.in_ok-add_symbols.ensures.numbered (all_symbols (take i all)) before);
      starts =
          c.in_ok-push.ensures.items ∙ ap (λ l. l ++ c.len.result ∷ []) c.loop-i.invariant.starts
          ∙ ap (λ n. map (symbol_starts all) (range_with_len 0 i) ++ n ∷ []) (omega (arith, c.len.ensures, rows.ok.0, count))
          ∙ sym (map-range_with_len_more (symbol_starts all) 0 i i (omega arith));
      few = omega (arith, c.in_ok-add_symbols.ensures.few, c.loop-i.invariant.few);
    }

pub returns-clause-starts : goal.returns-clause-starts
returns-clause-starts c =
    let files = c.args.objects.now in
    let i = c.loop-i.i in
    let all = map object_parts files in
    let rows = c.loop-i.rows in
    let end : i ≡ length files = omega arith in
    let count : length rows.items ≡ symbol_starts all i = ap length c.loop-i.invariant.rows.rows_are ∙ length-map (all_symbols (take i all)) (symbol_row (names_of c.loop-i.names)) in
    c.in_ok-push-2.ensures.items ∙ ap (λ l. l ++ c.len-2.result ∷ []) c.loop-i.invariant.starts
    ∙ ap (λ k. map (symbol_starts all) (range_with_len 0 i) ++ k ∷ []) (omega (arith, c.len-2.ensures, rows.ok.0, count))
    ∙ sym (map-range_with_len_more (symbol_starts all) 0 i i (omega arith))
    ∙ ap (λ k. map (symbol_starts all) (range_with_len 0 (k + 1))) end

pub returns-clause-rows : goal.returns-clause-rows
returns-clause-rows c =
    let files = c.args.objects.now in
    let all = map object_parts files in
    let end : length all ≤ c.loop-i.i = omega (arith, length-map files object_parts) in
    subst (λ l. IsNumbered (names_of c.loop-i.names) (all_symbols l) c.loop-i.rows.items) (take_all c.loop-i.i all end) c.loop-i.invariant.rows
