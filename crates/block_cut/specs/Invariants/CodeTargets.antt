-- Where the relocations of code lead, as it is gathered while code is cut.
use Rattle.std.specs.Prelude.{◌≡◌, Bool, true, false, is_some, ◌||◌, List}
use Rattle.std.specs.List.{list_any}
use Rattle.zc_base.specs.declared.place.Place.{Place}
use Rattle.psabi_sym.specs.Inputs.{ParsedInputs}
use Rattle.psabi_sym.specs.Indexed.{IndexedSection}
use Rattle.psabi_sym.specs.declared.target.Target.{Target}
use Rattle.psabi_sym.specs.declared.target.Target.TheVariants.{Code, Number, Absent, Nowhere}
use Rattle.block_cut.specs.Leaders.{is_place}
use Rattle.block_cut.specs.Invariants.Led.{has_place}
use Rattle.block_cut.specs.Relocs.{is_transfer}
use Rattle.block_cut.specs.Resolved.{code_relocs}
use Rattle.block_cut.specs.declared.code_targets.CodeTargets.{CodeTargets}
use Rattle.block_cut.specs.declared.resolved_reloc.ResolvedReloc.{ResolvedReloc}

-- a target is wrong wherever items start: it is nowhere, or it is a number that an instruction would go to
abbrev pub is_wrong_target : Bool → Target → Bool
is_wrong_target transfers (Code to) = false
is_wrong_target transfers (Number n) = transfers
is_wrong_target transfers (Absent n) = false
is_wrong_target transfers Nowhere = true

-- a relocation is wrong whatever stands at the place that it leads to
abbrev pub is_wrong : ResolvedReloc → Bool
is_wrong d = is_some d.fault || is_wrong_target (is_transfer d.kind) d.target

-- one of a section's relocations leads to a place, if it is code
abbrev pub code_leads : ParsedInputs → Place → IndexedSection → Bool
code_leads inputs q l = list_any (λ d. is_place q d.target) (code_relocs inputs l)

-- one of a section's relocations is wrong whatever stands where it leads
abbrev pub is_wrong_code : ParsedInputs → IndexedSection → Bool
is_wrong_code inputs l = list_any is_wrong (code_relocs inputs l)

-- where the relocations of these sections lead, and whether one is wrong
pub record AreCodeTargets (inputs : ParsedInputs) (sections : List IndexedSection) (targets : CodeTargets) : Type 0 where
  pub leaders_are : (q : Place) → has_place inputs.objects targets.leaders q ≡ list_any (code_leads inputs q) sections
  pub wrong_is : targets.has_wrong ≡ list_any (is_wrong_code inputs) sections
