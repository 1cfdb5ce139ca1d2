use Rattle.std.proofs.Common.{◌≡◌, false, sym, ◌∙◌}
use Rattle.std.specs.List.{list_any}
use Rattle.psabi_sym.specs.Inputs.{parsed}
use Rattle.psabi_sym.specs.Indexed.{all_sections}
use Rattle.block_cut.specs.Invariants.CodeTargets.{code_leads, is_wrong_code}
use Rattle.block_cut.proofs.RelocTargetLaws.{any_here, fine_section, none_here}
use Rattle.block_cut.proofs.reloc_targets.is_fine.Goals as goal

pub returns : goal.returns
returns c = λ fine k l at code.
    let inputs = parsed c.args.objects.now in
    let all = all_sections inputs.objects in
    let none : list_any (is_wrong_code inputs) all ≡ false = sym c.requires.targets.wrong_is ∙ c.if-targets.false in
    fine_section inputs l code (none_here (is_wrong_code inputs) all k l at none)
    (λ q leads. c.has_targets.ensures fine q (c.requires.targets.leaders_are q ∙ any_here (code_leads inputs q) all k l at leads))
