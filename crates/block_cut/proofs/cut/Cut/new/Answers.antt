-- The first fault is that of a relocation, or else that of the start or a branch; without any the objects are cut.
use Rattle.std.proofs.Common.{◌||◌, ap, ◌∙◌}
use Rattle.std.specs.List.{list_any}
use Rattle.psabi_sym.specs.Inputs.{parsed}
use Rattle.psabi_sym.specs.Indexed.{all_symbols}
use Rattle.block_cut.specs.Items.{all_places}
use Rattle.block_cut.specs.Leaders.{item_leads, symbol_leads}
use Rattle.block_cut.proofs.DataLaws.{all_words}
use Rattle.block_cut.proofs.FaultLaws.{entry_is, relocs_refusal}
use Rattle.block_cut.proofs.cut.Cut.new.Goals as goal

pub returns-in-Err-clause-err : goal.returns-in-Err-clause-err
returns-in-Err-clause-err c = relocs_refusal c.args.objects c.in-Err.fault c.new.ensures.gathered c.in-Err.ensures.err

pub invariant_of-result : goal.invariant_of-result
invariant_of-result c =
    let inputs = c.args.objects in
    record {
      faultless = c.in-Ok-entry_in_reach.ensures.faultless;
      is_map = c.new.ensures.is_map;
      tables_are = c.in_ok-tables.ensures.tables;
      words_are = c.in-Ok.ensures.targets.words_are ∙ all_words (parsed inputs);
      entry_is = entry_is (parsed inputs) c.in-Ok-entry_in_reach.entry c.in-Ok-entry_in_reach.ensures.entry;
      leaders_are = λ q. c.in_ok-add_leads.ensures q ∙ ap (λ b. b || (list_any (item_leads (parsed inputs) q) (all_places (parsed inputs).objects) || list_any (symbol_leads (parsed inputs).objects q) (all_symbols (parsed inputs).objects))) (c.in-Ok.ensures.targets.leaders_are q);
    }
