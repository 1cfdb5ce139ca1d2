-- Where relocations lead, and which words of data they fill in.
use Rattle.std.specs.Prelude.{◌≡◌, List}
use Rattle.std.specs.List.{flat_map, list_any}
use Rattle.zc_base.specs.declared.place.Place.{Place}
use Rattle.psabi_sym.specs.Inputs.{ParsedInputs}
use Rattle.psabi_sym.specs.Indexed.{IndexedSection}
use Rattle.block_cut.specs.DataWords.{data_words_in}
use Rattle.block_cut.specs.Leaders.{section_leads}
use Rattle.block_cut.specs.Invariants.Led.{has_place}
use Rattle.block_cut.specs.declared.reloc_targets.RelocTargets.{RelocTargets}

-- where the relocations of these sections lead, and which words of data they fill in
pub record AreRelocTargets (inputs : ParsedInputs) (sections : List IndexedSection) (targets : RelocTargets) : Type 0 where
  pub words_are : targets.words.items ≡ flat_map (data_words_in inputs) sections
  pub leaders_are : (q : Place) → has_place inputs.objects targets.leaders q ≡ list_any (section_leads inputs q) sections
