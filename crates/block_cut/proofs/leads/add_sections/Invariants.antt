use Rattle.std.proofs.Common.{take}
use Rattle.std.specs.List.{list_any}
use Rattle.psabi_sym.specs.Inputs.{parsed}
use Rattle.psabi_sym.specs.Indexed.{all_sections}
use Rattle.block_cut.specs.Invariants.Led.{AddsPlaces}
use Rattle.block_cut.proofs.LedLaws.{items_from}
use Rattle.block_cut.proofs.leads.add_sections.Given as goal

abbrev pub invariant-loop-k : goal.invariant-loop-k
invariant-loop-k l =
    AddsPlaces (parsed l.objects).objects (λ q. list_any (items_from (parsed l.objects) q) (take l.k (all_sections (parsed l.objects).objects))) l.fn.leaders l.leaders
