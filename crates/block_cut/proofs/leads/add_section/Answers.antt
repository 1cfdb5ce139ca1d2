use Rattle.std.proofs.Common.{◌≡◌, ap}
use Rattle.std.specs.List.{list_any}
use Rattle.psabi_sym.specs.Inputs.{parsed}
use Rattle.psabi_sym.proofs.SectionNumbers.{listed_at}
use Rattle.block_cut.specs.Items.{places_of}
use Rattle.block_cut.specs.Leaders.{item_leads}
use Rattle.block_cut.proofs.LedLaws.{adds_same, number_listed}
use Rattle.block_cut.proofs.leads.add_section.Goals as goal

pub add_items-requires-clause-home : goal.add_items-requires-clause-home
add_items-requires-clause-home c = record {
  gathered = c.requires.gathered;
  found = listed_at (parsed c.args.objects.now).objects c.args.k c.section-section.result c.section-section.ensures;
  number_is = number_listed (parsed c.args.objects.now).objects c.args.k c.section-section.result c.section-section.ensures;
}

pub add_items-requires-clause-places : goal.add_items-requires-clause-places
add_items-requires-clause-places c = c.places.ensures c.args.objects.now c.section-section.result c.requires.tables c.section-section.ensures

pub returns : goal.returns
returns c = λ l at.
    let inputs = parsed c.args.objects.now in
    let same : c.section-section.result ≡ l = cc (c.section-section.ensures, at) in
    adds_same inputs.objects _ _ c.args.leaders.now c.add_items.new.leaders (λ q. ap (λ m. list_any (item_leads inputs q) (places_of m)) same) c.in_ok-add_items.ensures
