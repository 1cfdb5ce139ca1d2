use Rattle.std.proofs.Common.{take}
use Rattle.std.specs.List.{list_any}
use Rattle.psabi_sym.specs.Inputs.{parsed}
use Rattle.block_cut.specs.Items.{place_of}
use Rattle.block_cut.specs.Leaders.{item_leads}
use Rattle.block_cut.specs.Invariants.Led.{AddsPlaces}
use Rattle.block_cut.proofs.LedLaws.{offsets_of}
use Rattle.block_cut.proofs.item_leads.add_items.Given as goal

abbrev pub invariant-loop-place : goal.invariant-loop-place
invariant-loop-place l =
    AddsPlaces (parsed l.home.objects.now).objects (λ q. list_any (λ n. item_leads (parsed l.home.objects.now) q (place_of l.home.section.now n)) (take l.place-index (offsets_of l.home.section.now))) l.fn.leaders l.leaders
