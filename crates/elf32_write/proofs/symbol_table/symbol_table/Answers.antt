use Rattle.std.proofs.Common.{◌≡◌, ◌++◌, length, take, sym, ap, ◌∙◌, arith}
use Rattle.std.specs.List.{flat_map}
use Rattle.elf32_write.specs.NameTable.{name_bytes, name_start, name_table}
use Rattle.elf32_write.specs.Entries.{strtab_names, symbol_bytes, written_entries, written_entry}
use Rattle.elf32_write.specs.Ranges.{IsSymbolSized}
use Rattle.elf32_write.proofs.SymbolsMore.{all_more, entries_more, names_more, symbol_names_within, taken}
use Rattle.elf32_write.proofs.symbol_table.symbol_table.Goals as goal

pub push_name-requires : goal.push_name-requires
push_name-requires c =
    omega (arith, c.requires.names, symbol_names_within c.args.symbols.now c.loop-symbol.symbol-index, ap length c.loop-symbol.invariant.0)

pub loop-symbol-preserved : goal.loop-symbol-preserved
loop-symbol-preserved c =
    let xs = c.args.symbols.now in
    let index = c.loop-symbol.symbol-index in
    let before = take index xs in
    let s = c.symbol-item.result in
    let more = taken xs index s c.loop-symbol-test.true c.symbol-item.is in
    let name = c.deref.ensures.value ∙ ap (λ p. p.name) c.symbol.view_is in
    let start = c.in_ok-name.ensures.start ∙ (λ i. name_start (length (c.loop-symbol.invariant.0 i)) (name i)) in
    let names = c.in_ok-name.ensures.table ∙ (λ i. c.loop-symbol.invariant.0 i ++ name_bytes (name i)) ∙ names_more before s in
    let entry : (record { name = c.in_ok-name.name; value = c.symbol.inside.value; size = c.symbol.inside.size; bind = c.symbol.inside.bind; kind = c.symbol.inside.kind; home = c.symbol.inside.home }) ≡ written_entry before s =
    λ i. let v = c.symbol.view_is i in record { name = start i; value = v.value; size = v.size; bind = v.bind; kind = v.kind; home = v.home } in
    let entries = c.in_ok-push_symbol-2.ensures.appended ∙ (λ i. c.loop-symbol.invariant.1.0 i ++ symbol_bytes (entry i)) ∙ entries_more before s in
    let z = c.in_ok-push_symbol-2.ensures.sized in
    let value = ap (λ v. v.value) c.symbol.view_is in
    let size = ap (λ v. v.size) c.symbol.view_is in
    let home = ap (λ v. v.home) c.symbol.view_is in
    let sized : IsSymbolSized s = record { value = omega (arith, z.value, value); size = omega (arith, z.size, size); home = omega (arith, z.home, home) } in (
      names ∙ ap (λ l. name_table (strtab_names l)) (sym more),
      (
        entries ∙ ap (λ l. flat_map symbol_bytes (written_entries l)) (sym more),
        all_more IsSymbolSized xs index s c.loop-symbol-test.true c.symbol-item.is c.loop-symbol.invariant.1.1 sized,
      ),
    )
