use Rattle.std.proofs.Common.{◌≡◌, length, slice_index, ap, subst, sym, ◌∙◌, arith}
use Rattle.std.proofs.lemmas.List.{with_items_is}
use Rattle.rv_decode.specs.Memory.{extents_of, written}
use Rattle.zc_machine.specs.Memory.{AreApart}
use Rattle.zc_machine.proofs.RegionLaws.{extents-either}
use Rattle.zc_machine.proofs.memory.Memory.write.Goals as goal

pub invariant_of-self : goal.invariant_of-self
invariant_of-self c =
    let regions = c.self.inside.regions in
    let size : length c.write.new.regions ≡ regions.len = omega (arith, c.write.auto.regions, c.as_mut_slice.ensures.len) in
    let kept = extents-either (written c.args.address (length c.args.bytes.now) (slice_index c.args.bytes.now)) c.as_mut_slice.result.now c.write.result in
    let same = ap extents_of (with_items_is regions c.write.new.regions size ∙ c.write.ensures.after) ∙ kept ∙ ap extents_of c.as_mut_slice.ensures.value in
    subst AreApart (sym same) c.self.invariant
