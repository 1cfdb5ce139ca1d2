use Rattle.std.specs.List.{list_any}
use Rattle.psabi_sym.specs.Inputs.{parsed}
use Rattle.psabi_sym.specs.Indexed.{all_symbols}
use Rattle.block_cut.specs.Items.{all_places}
use Rattle.block_cut.specs.Leaders.{item_leads, symbol_leads}
use Rattle.block_cut.proofs.LedLaws.{adds_more}
use Rattle.block_cut.proofs.leads.add_leads.Goals as goal

pub returns : goal.returns
returns c =
    let inputs = parsed c.args.objects.now in
    adds_more inputs.objects (λ q. list_any (item_leads inputs q) (all_places inputs.objects)) (λ q. list_any (symbol_leads inputs.objects q) (all_symbols inputs.objects))
    c.args.leaders.now c.add_sections.new.leaders c.add_symbols.new.leaders c.in_ok-add_sections.ensures c.in_ok-add_symbols.ensures
