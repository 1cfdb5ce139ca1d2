use Rattle.std.proofs.Common.{◌≡◌, ◌||◌, take}
use Rattle.std.specs.List.{list_any}
use Rattle.psabi_sym.specs.Inputs.{parsed}
use Rattle.block_cut.specs.Invariants.CodeTargets.{is_wrong}
use Rattle.block_cut.specs.Leaders.{is_place}
use Rattle.block_cut.specs.Invariants.Led.{AddsPlaces}
use Rattle.block_cut.proofs.code_targets.CodeTargets.add.Given as goal

abbrev pub invariant-loop-reloc : goal.invariant-loop-reloc
invariant-loop-reloc l = record {
  leaders : AddsPlaces (parsed l.objects).objects (λ q. list_any (λ d. is_place q d.target) (take l.reloc-index l.relocs)) l.fn.self.leaders l.self.leaders;
  wrong : l.self.has_wrong ≡ (l.fn.self.has_wrong || list_any is_wrong (take l.reloc-index l.relocs));
}
