use Rattle.std.proofs.Common.{◌≡◌, ◌+◌, ◌-◌, ◌<◌, ◌≤◌, Some, length, get_or, slice_get, take, refl, sym, ap, ◌∙◌, arith}
use Rattle.std.specs.List.{list_any}
use Rattle.std.proofs.lemmas.List.{take_all}
use Rattle.std.proofs.lemmas.Option.{slice_get-get_or}
use Rattle.elf32_read.specs.Parts.{object_parts, symbol_parts}
use Rattle.elf32_read.specs.Symbols.{symbol_count, symbol_entry_of}
use Rattle.psabi_sym.specs.Inputs.{parsed}
use Rattle.psabi_sym.specs.Indexed.{IndexedSymbol, symbols_in}
use Rattle.psabi_sym.proofs.PartLaws.{length-symbols_in, symbol_count_is, symbol_is, symbol_listed}
use Rattle.block_cut.specs.Leaders.{symbol_leads}
use Rattle.block_cut.proofs.LedLaws.{adds_next, adds_none, adds_same}
use Rattle.block_cut.proofs.leads.add_object.Goals as goal

pub loop-i-init : goal.loop-i-init
loop-i-init c = adds_none (parsed c.args.objects.now).objects c.args.leaders.now

pub loop-i-preserved : goal.loop-i-preserved
loop-i-preserved c =
    let inputs = c.args.objects.now in
    let file = c.args.object.now in
    let o = c.args.o in
    let i = c.loop-i.i in
    let first : 1 ≤ i = omega arith in
    let within : i < symbol_count file = omega arith in
    let parts = symbol_parts file (symbol_entry_of file i) in
    let all = symbols_in (o, object_parts file) in
    let l : IndexedSymbol = record { object = o; index = i; symbol = parts } in
    let long : i < length (object_parts file).symbols = omega (arith, within, symbol_count_is file) in
    let listed_is : get_or all (i - 1) l ≡ l =
    symbol_listed o (object_parts file) (i - 1) parts l (omega (arith, first, long))
    ∙ ap (λ n. record { object = o; index = n; symbol = get_or (object_parts file).symbols n parts }) (omega (arith, first))
    ∙ ap (λ s. record { object = o; index = i; symbol = s }) (symbol_is file i parts within) in
    let at : slice_get all (i - 1) ≡ Some l = slice_get-get_or all (i - 1) l (omega (arith, first, long, length-symbols_in o (object_parts file))) ∙ ap Some listed_is in
    let e = sym c.symbol_entry.ensures in
    let own = c.in_ok-add_symbol.ensures l refl (ap (λ s. s.value) e) (ap (λ s. s.bind) e) (ap (λ s. s.kind) e) (ap (λ s. s.home) e) in
    adds_same (parsed c.args.objects.now).objects _ (λ q. list_any (symbol_leads (parsed inputs).objects q) (take (i + 1 - 1) all)) c.args.leaders.now c.add_symbol.new.leaders
    (λ q. ap (λ n. list_any (symbol_leads (parsed inputs).objects q) (take n all)) (omega (arith, first)))
    (adds_next (parsed inputs).objects (λ q. symbol_leads (parsed inputs).objects q) all (i - 1) l c.args.leaders.now c.loop-i.leaders c.add_symbol.new.leaders at c.loop-i.invariant own)

pub returns : goal.returns
returns c =
    let file = c.args.object.now in
    let o = c.args.o in
    let all = symbols_in (o, object_parts file) in
    let end : length all ≤ c.loop-i.i - 1 = omega (arith, length-symbols_in o (object_parts file), symbol_count_is file) in
    adds_same (parsed c.args.objects.now).objects _ _ c.args.leaders.now c.loop-i.leaders (λ q. ap (list_any (symbol_leads (parsed c.args.objects.now).objects q)) (take_all (c.loop-i.i - 1) all end)) c.loop-i.invariant
