use Rattle.std.proofs.Common.{◌≡◌, ◌<◌, length, map, false, Some, sym, ap, ◌∙◌, arith}
use Rattle.std.specs.Prelude.{slice_get, option_map}
use Rattle.std.specs.List.{list_any}
use Rattle.std.proofs.lemmas.Bool.{ltb-false}
use Rattle.std.proofs.lemmas.List.{length-map}
use Rattle.std.proofs.lemmas.Option.{slice_get-map, slice_get-get_or}
use Rattle.elf32_read.specs.Segments.{loads_of, segment_of, segments_of}
use Rattle.elf32_read.proofs.FaultlessImage.{faultless_whole_image}
use Rattle.elf32_read.proofs.Listed.{none_at}
use Rattle.elf32_read.proofs.Tests.{load_passes_end}
use Rattle.elf32_read.proofs.image.Image.segment.Goals as goal

pub segment_at-requires : goal.segment_at-requires
segment_at-requires c =
    let bytes = c.self.inside.bytes.now in
    let whole = faultless_whole_image bytes c.self.inside.map c.self.invariant.faultless in
    let loads = c.as_slice.ensures.value ∙ c.self.invariant.loads_read in
    let none : list_any (load_passes_end bytes) c.as_slice.result.now ≡ false = ap (list_any (load_passes_end bytes)) loads ∙ whole.segments in
    let count = ap length loads ∙ sym (length-map (loads_of bytes) (segment_of bytes)) ∙ ap (λ value. length (segments_of value.0)) c.self.view_is in
    ltb-false (length bytes) _ (none_at (load_passes_end bytes) c.as_slice.result.now c.args.i _ none (omega (arith, count, c.requires)))

pub returns : goal.returns
returns c =
    let bytes = c.self.inside.bytes.now in
    let headers = c.as_slice.result.now in
    let i = c.args.i in
    let loads = c.as_slice.ensures.value ∙ c.self.invariant.loads_read in
    let same = ap (map (segment_of bytes)) loads ∙ ap (λ value. segments_of value.0) c.self.view_is in
    let inside : i < length headers = omega (arith, sym (length-map headers (segment_of bytes)) ∙ ap length same, c.requires) in
    ap (λ l. slice_get l i) (sym same) ∙ slice_get-map (segment_of bytes) headers i
    ∙ ap (option_map (segment_of bytes)) (slice_get-get_or headers i _ inside) ∙ ap Some (sym c.segment_at.ensures)
