use Rattle.std.proofs.Common.{get_or, sym, arith}
use Rattle.std.proofs.lemmas.Option.{slice_get-get_or}
use Rattle.psabi_sym.specs.Inputs.{parsed}
use Rattle.psabi_sym.specs.Indexed.{all_sections}
use Rattle.block_cut.specs.Items.{places_of}
use Rattle.block_cut.specs.Leaders.{item_leads}
use Rattle.block_cut.proofs.LedLaws.{adds_all, adds_next, adds_none, adds_same, any_flat, items_from}
use Rattle.block_cut.proofs.ResolvedLaws.{no_section}
use Rattle.block_cut.proofs.leads.add_sections.Goals as goal

pub loop-k-init : goal.loop-k-init
loop-k-init c = adds_none (parsed c.args.objects.now).objects c.args.leaders.now

pub loop-k-preserved : goal.loop-k-preserved
loop-k-preserved c =
    let inputs = parsed c.args.objects.now in
    let all = all_sections inputs.objects in
    let k = c.loop-k.k in
    let l = get_or all k no_section in
    let at = slice_get-get_or all k no_section (omega (arith, c.section_count-k-end.ensures.count)) in
    adds_next inputs.objects (items_from inputs) all k l c.args.leaders.now c.loop-k.leaders c.add_section.new.leaders at c.loop-k.invariant (c.in_ok-add_section.ensures l at)

pub returns : goal.returns
returns c =
    let inputs = parsed c.args.objects.now in
    let all = all_sections inputs.objects in
    adds_same inputs.objects _ _ c.args.leaders.now c.loop-k.leaders (λ q. sym (any_flat (item_leads inputs q) places_of all))
    (adds_all inputs.objects (items_from inputs) all c.loop-k.k c.args.leaders.now c.loop-k.leaders (omega (arith, c.section_count-k-end.ensures.count)) c.loop-k.invariant)
