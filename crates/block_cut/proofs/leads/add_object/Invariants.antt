use Rattle.std.proofs.Common.{◌-◌, take}
use Rattle.std.specs.List.{list_any}
use Rattle.elf32_read.specs.Parts.{object_parts}
use Rattle.psabi_sym.specs.Inputs.{parsed}
use Rattle.psabi_sym.specs.Indexed.{symbols_in}
use Rattle.block_cut.specs.Leaders.{symbol_leads}
use Rattle.block_cut.specs.Invariants.Led.{AddsPlaces}
use Rattle.block_cut.proofs.leads.add_object.Given as goal

abbrev pub invariant-loop-i : goal.invariant-loop-i
invariant-loop-i l =
    AddsPlaces (parsed l.objects).objects (λ q. list_any (symbol_leads (parsed l.objects).objects q) (take (l.i - 1) (symbols_in (l.o, object_parts l.object)))) l.fn.leaders l.leaders
