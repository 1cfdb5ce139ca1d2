use Rattle.std.proofs.Common.{take}
use Rattle.std.specs.List.{list_any}
use Rattle.psabi_sym.specs.Inputs.{parsed}
use Rattle.psabi_sym.specs.Indexed.{all_symbols}
use Rattle.block_cut.specs.Leaders.{symbol_leads}
use Rattle.block_cut.specs.Invariants.Led.{AddsPlaces}
use Rattle.block_cut.proofs.leads.add_symbols.Given as goal

abbrev pub invariant-loop-i : goal.invariant-loop-i
invariant-loop-i l =
    AddsPlaces (parsed l.objects).objects (λ q. list_any (symbol_leads (parsed l.objects).objects q) (all_symbols (take l.i (parsed l.objects).objects))) l.fn.leaders l.leaders
