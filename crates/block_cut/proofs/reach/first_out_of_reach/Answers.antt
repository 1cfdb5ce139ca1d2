use Rattle.std.proofs.Common.{◌≡◌, Some, sym, ap, ◌∙◌}
use Rattle.std.specs.Option.{option_map}
use Rattle.zc_base.specs.declared.place.Place.{Place}
use Rattle.psabi_sym.specs.Inputs.{parsed}
use Rattle.psabi_sym.specs.Indexed.{all_sections}
use Rattle.psabi_sym.proofs.SectionNumbers.{listed_at}
use Rattle.block_cut.specs.Faults.{is_out_of_reach}
use Rattle.block_cut.specs.Items.{place_of}
use Rattle.block_cut.proofs.ReachLaws.{first_of_all, none_more}
use Rattle.block_cut.proofs.reach.first_out_of_reach.Goals as goal

pub returns-in-Some : goal.returns-in-Some
returns-in-Some c =
    let inputs = c.args.objects.now in
    let k = c.loop-k.k in
    let l = c.section_row-row.ensures.0 in
    let at = c.section_row-row.ensures.1 in
    let row = c.section_row-row.ensures.2 in
    let own = c.first_offset.ensures l (listed_at (parsed inputs).objects k l at) (c.places.ensures inputs l c.requires at) c.section_row-row.ensures.2 in
    let q : Place = record { object = c.section_row-row.result.object; section = c.section_row-row.result.index; offset = c.in-Some.offset } in
    let same : q ≡ place_of l c.in-Some.offset = λ j. record { object = (row j).object; section = (row j).index; offset = c.in-Some.offset } in
    ap Some same
    ∙ sym (first_of_all (is_out_of_reach (parsed inputs)) (all_sections (parsed inputs).objects) k l (place_of l c.in-Some.offset) at c.loop-k.invariant (sym own ∙ ap (option_map (place_of l)) c.in-Some.is))

pub loop-k-preserved : goal.loop-k-preserved
loop-k-preserved c =
    let inputs = c.args.objects.now in
    let k = c.loop-k.k in
    let l = c.section_row-row.ensures.0 in
    let at = c.section_row-row.ensures.1 in
    let own = c.first_offset.ensures l (listed_at (parsed inputs).objects k l at) (c.places.ensures inputs l c.requires at) c.section_row-row.ensures.2 in
    none_more (is_out_of_reach (parsed inputs)) (all_sections (parsed inputs).objects) k l at c.loop-k.invariant (sym own ∙ ap (option_map (place_of l)) c.in_default.is)
