use Rattle.std.proofs.Common.{◌∷◌, ◌++◌, [], subst, sym}
use Rattle.std.specs.BTreeMap.{get}
use Rattle.std.specs.Ordering.{nat_cmp}
use Rattle.devices.specs.Lines.{ranges_of}
use Rattle.devices.specs.Invariants.Kept.{CanFollow, IsTable, shown}
use Rattle.devices.specs.declared.kept_line.KeptLine.{KeptLine}
use Rattle.devices.proofs.KeptLaws.{table_with}
use Rattle.devices.proofs.tables.with_end.Goals as goal

pub returns-in_ok-more-in-Range : goal.returns-in_ok-more-in-Range
returns-in_ok-more-in-Range c = λ before table may.
    let more = get nat_cmp c.in_ok-more-in-Range.more in
    let P : KeptLine → Type 0 = λ l. CanFollow before (shown l) → IsTable more (ranges_of (before ++ shown l ∷ [])) in
    subst P (sym c.in-Range.is)
    (λ here. table_with (get nat_cmp c.args.ends) more before (record { at = c.in-Range.at; size = c.in-Range.size }) table here c.in_ok-more-in-Range.ensures.puts c.in_ok-more-in-Range.ensures.keeps) may
