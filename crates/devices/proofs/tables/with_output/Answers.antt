use Rattle.std.proofs.Common.{◌∷◌, ◌++◌, [], subst, sym}
use Rattle.std.specs.BTreeSet.{contains}
use Rattle.std.specs.Ordering.{nat_cmp}
use Rattle.devices.specs.Lines.{outputs_of}
use Rattle.devices.specs.Invariants.Kept.{IsSet, shown}
use Rattle.devices.specs.declared.kept_line.KeptLine.{KeptLine}
use Rattle.devices.proofs.KeptLaws.{set_with}
use Rattle.devices.proofs.tables.with_output.Goals as goal

pub returns-in_ok-more-in-Output : goal.returns-in_ok-more-in-Output
returns-in_ok-more-in-Output c = λ before set.
    let more = contains nat_cmp c.in_ok-more-in-Output.more in
    subst (λ (l : KeptLine). IsSet more (outputs_of (before ++ shown l ∷ []))) (sym c.in-Output.is)
    (set_with (contains nat_cmp c.args.outputs) more before c.in-Output.at set c.in_ok-more-in-Output.ensures)
