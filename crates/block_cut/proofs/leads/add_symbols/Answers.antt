use Rattle.std.proofs.Common.{◌+◌, ◌≤◌, length, take, sym, ap, arith}
use Rattle.std.specs.List.{list_any}
use Rattle.std.proofs.lemmas.List.{length-map, take_all}
use Rattle.elf32_read.specs.Parts.{object_parts}
use Rattle.psabi_sym.specs.Inputs.{parsed}
use Rattle.psabi_sym.specs.Indexed.{all_symbols, symbols_in}
use Rattle.block_cut.specs.Leaders.{symbol_leads}
use Rattle.block_cut.proofs.LedLaws.{adds_more, adds_none, adds_same, no_symbols, symbols_more}
use Rattle.block_cut.proofs.leads.add_symbols.Goals as goal

pub loop-i-init : goal.loop-i-init
loop-i-init c =
    let objects = (parsed c.args.objects.now).objects in
    adds_same objects _ _ c.args.leaders.now c.args.leaders.now (λ q. sym (no_symbols objects (symbol_leads objects q))) (adds_none objects c.args.leaders.now)

pub loop-i-preserved : goal.loop-i-preserved
loop-i-preserved c =
    let inputs = c.args.objects.now in
    let objects = (parsed inputs).objects in
    let o = c.loop-i.i in
    let file = c.object.result in
    adds_same objects _ (λ q. list_any (symbol_leads objects q) (all_symbols (take (o + 1) objects))) c.args.leaders.now c.add_object.new.leaders
    (λ q. sym (symbols_more inputs o file c.object.ensures (symbol_leads objects q)))
    (adds_more objects (λ q. list_any (symbol_leads objects q) (all_symbols (take o objects))) (λ q. list_any (symbol_leads objects q) (symbols_in (o, object_parts file)))
    c.args.leaders.now c.loop-i.leaders c.add_object.new.leaders c.loop-i.invariant c.in_ok-add_object.ensures)

pub returns : goal.returns
returns c =
    let inputs = c.args.objects.now in
    let objects = (parsed inputs).objects in
    let past : length objects ≤ c.loop-i.i = omega (arith, length-map inputs.files object_parts) in
    adds_same objects _ (λ q. list_any (symbol_leads objects q) (all_symbols objects)) c.args.leaders.now c.loop-i.leaders
    (λ q. ap (λ l. list_any (symbol_leads objects q) (all_symbols l)) (take_all c.loop-i.i objects past)) c.loop-i.invariant
