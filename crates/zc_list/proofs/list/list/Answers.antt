use Rattle.std.proofs.Common.{◌≡◌, ◌∙◌, ap, ◌++◌, List, subst, arith}
use Rattle.std.proofs.lemmas.List.{take_all}
use Rattle.std.specs.Prelude.{All, codes, flat_map}
use Rattle.elf32_read.specs.Segment.{segment_data}
use Rattle.elf32_read.specs.Segments.{SegmentData, segments_of}
use Rattle.zc_list.specs.Listing.{FitsSegment, list_text, segment_lines, text_of_lines}
use Rattle.zc_list.specs.Spelled.{segments_in}
use Rattle.zc_list.proofs.ListLaws.{fits_more, held_within, list_ended, segment_added}
use Rattle.zc_list.proofs.RunLaws.{list_back}
use Rattle.zc_list.proofs.list.list.Goals as goal

pub recall_fits-requires : goal.recall_fits-requires
recall_fits-requires c =
    held_within c.args.image.now.0 c.args.image.now.1 c.loop-i.i (segment_data c.segment-segment.result) c.map.ensures.faultless c.segment-segment.ensures

pub push_segment-requires : goal.push_segment-requires
push_segment-requires c =
    held_within c.args.image.now.0 c.args.image.now.1 c.loop-i.i (segment_data c.segment-segment.result) c.map.ensures.faultless c.segment-segment.ensures

pub loop-i-preserved : goal.loop-i-preserved
loop-i-preserved c =
    let segments = segments_of c.args.image.now.0 in
    let s = segment_data c.segment-segment.result in
    record {
      lines = segment_added segments c.loop-i.i s c.loop-i.text.items c.push_segment.new.text.items (codes "zcld list 1\n" ++ text_of_lines (flat_map segment_lines segments)) c.segment-segment.ensures c.loop-i.invariant.lines c.in_ok-push_segment.ensures;
      fits = fits_more segments c.loop-i.i s c.segment-segment.ensures c.loop-i.invariant.fits c.recall_fits.ensures;
    }

listed : (c : goal.In_ok-extend_from_slice) → c.extend_from_slice.new.self.items ≡ list_text (segments_of c.args.image.now.0)
listed c =
    list_ended (segments_of c.args.image.now.0) c.loop-i.i c.loop-i.text.items c.extend_from_slice.new.self.items (omega (arith, c.loop-i-test.false, c.segment_count-i-end.ensures.count)) c.loop-i.invariant.lines c.in_ok-extend_from_slice.ensures.items

pub returns-clause-text : goal.returns-clause-text
returns-clause-text c = listed c

pub returns-clause-back : goal.returns-clause-back
returns-clause-back c =
    let segments = segments_of c.args.image.now.0 in
    let i = c.loop-i.i in
    let Fit : List SegmentData → Type 0 = All FitsSegment in
    let whole = take_all i segments (omega (arith, c.loop-i-test.false, c.segment_count-i-end.ensures.count)) in
    ap segments_in (listed c) ∙ list_back segments (subst Fit whole c.loop-i.invariant.fits)
