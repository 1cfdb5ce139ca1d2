use Rattle.std.proofs.Common.{◌≡◌, ◌||◌, None, map, take}
use Rattle.std.specs.List.{flat_map, list_any}
use Rattle.zc_base.specs.declared.place.Place.{Place}
use Rattle.psabi_sym.specs.Faults.{first_some}
use Rattle.psabi_sym.specs.Inputs.{parsed}
use Rattle.psabi_sym.specs.Indexed.{all_sections}
use Rattle.block_cut.specs.DataWords.{data_words_in}
use Rattle.block_cut.specs.Faults.{section_fault}
use Rattle.block_cut.specs.Leaders.{section_leads}
use Rattle.block_cut.specs.Invariants.Led.{has_place}
use Rattle.block_cut.specs.Invariants.CodeTargets.{code_leads}
use Rattle.block_cut.proofs.reloc_targets.RelocTargets.find.Given as goal

abbrev pub invariant-loop-k : goal.invariant-loop-k
invariant-loop-k l = record {
  faultless : first_some (map (section_fault (parsed l.objects)) (take l.k (all_sections (parsed l.objects).objects))) ≡ None;
  words : l.words.items ≡ flat_map (data_words_in (parsed l.objects)) (take l.k (all_sections (parsed l.objects).objects));
  leaders : (q : Place) → has_place (parsed l.objects).objects l.leaders q
      ≡ (list_any (code_leads (parsed l.objects) q) (all_sections (parsed l.objects).objects) || list_any (section_leads (parsed l.objects) q) (take l.k (all_sections (parsed l.objects).objects)));
}
