use Rattle.std.proofs.Common.{◌≡◌, ℕ, filter, is_some, map, take, true}
use Rattle.psabi_sym.specs.Inputs.{parsed}
use Rattle.block_cut.specs.Invariants.Fields.{AreFieldsApart, HoldsFields}
use Rattle.block_cut.specs.Invariants.Relocated.{IsRelocated, with_relocs}
use Rattle.block_cut.specs.Resolved.{asks, resolved_reloc}
use Rattle.block_cut.proofs.relocated.resolve_in_order.Given as goal

abbrev pub invariant-loop-k : goal.invariant-loop-k
invariant-loop-k l = record {
  is : IsRelocated (with_relocs (take l.k l.section.section.relocs) l.section) l.relocated;
  holds : HoldsFields (take l.k l.section.section.relocs) l.relocated.fields;
  some : is_some l.relocated.fields.end ≡ true;
  relocs : (n : ℕ) → AreFieldsApart n l.section.section.relocs → l.relocs.items ≡ map (resolved_reloc (parsed l.objects) l.section) (filter asks (take l.k l.section.section.relocs));
}
