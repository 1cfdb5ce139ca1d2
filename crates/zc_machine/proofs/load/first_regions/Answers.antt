use Rattle.std.proofs.Common.{◌∷◌, [], ◌++◌, sym, ap, ◌∙◌, map, take}
use Rattle.std.proofs.lemmas.List.{map-append, take_more}
use Rattle.std.proofs.lemmas.Option.{get_or_from_slice_get, slice_get_within}
use Rattle.elf32_read.specs.Segment.{segment_data}
use Rattle.elf32_read.specs.Segments.{segments_of}
use Rattle.zc_machine.specs.Load.{region_of}
use Rattle.zc_machine.proofs.load.first_regions.Goals as goal

pub loop-i-preserved : goal.loop-i-preserved
loop-i-preserved c =
    let i = c.loop-i.i in
    let segments = segments_of c.args.image.now.0 in
    let s = segment_data c.segment.result in
    let front = map region_of (take i segments) in
    let more = take_more segments i s (slice_get_within segments i s c.segment.ensures) ∙ ap (λ x. take i segments ++ x ∷ []) (get_or_from_slice_get segments i s s c.segment.ensures) in
    c.in_ok-push.ensures.items
    ∙ ap (λ xs. xs ++ c.in_ok-segment_region.field-0 ∷ []) c.loop-i.invariant
    ∙ ap (λ r. front ++ r ∷ []) c.in_ok-segment_region.ensures
    ∙ sym (ap (map region_of) more ∙ map-append region_of (take i segments) (s ∷ []))
