use Rattle.std.proofs.Common.{◌≡◌, ◌+◌, ◌&&◌, Bool, Some, None, false, sym, ap, ◌∙◌}
use Rattle.zc_base.specs.Places.{same_place}
use Rattle.zc_base.specs.declared.place.Place.{Place}
use Rattle.psabi_sym.specs.Inputs.{parsed}
use Rattle.block_cut.specs.Items.{item_at, place_of, size_at}
use Rattle.block_cut.specs.Leaders.{ends_block, goes_to, item_leads}
use Rattle.block_cut.proofs.LedLaws.{adds_more, adds_none, adds_same, item_leads_at, item_leads_none}
use Rattle.block_cut.proofs.item_leads.add_place.Goals as goal

pub returns-in_default : goal.returns-in_default
returns-in_default c = λ n is.
    let inputs = parsed c.args.home.now.objects.now in
    let p = place_of c.args.home.now.section.now n in
    let none : item_at inputs p ≡ None = sym (ap (λ w. w.item) is) ∙ c.in_default.is in
    adds_same inputs.objects (λ q. false) (λ q. item_leads inputs q p) c.args.leaders.now c.args.leaders.now (λ q. sym (item_leads_none inputs p none q)) (adds_none inputs.objects c.args.leaders.now)

pub returns : goal.returns
returns c = λ n is.
    let inputs = parsed c.args.home.now.objects.now in
    let l = c.args.home.now.section.now in
    let p = place_of l n in
    let i = c.in-Some.item in
    let at : item_at inputs p ≡ Some i = sym (ap (λ w. w.item) is) ∙ c.in-Some.is in
    let goes : Place → Bool = λ q. goes_to q i in
    let ends : Place → Bool = λ q. ends_block i && same_place (record p { offset = p.offset + size_at inputs.objects p }) q in
    adds_same inputs.objects _ (λ q. item_leads inputs q p) c.args.leaders.now c.add_next.new.leaders (λ q. sym (item_leads_at inputs p i at q))
    (adds_more inputs.objects goes ends c.args.leaders.now c.add_target.new.leaders c.add_next.new.leaders c.in_ok-add_target.ensures
    (adds_same inputs.objects _ ends c.add_target.new.leaders c.add_next.new.leaders
    (λ q. (λ j. ends_block i && same_place (record { object = l.object; section = l.index; offset = ap (λ w. w.offset) is j + (c.from.ensures ∙ ap (λ w. w.size) is) j }) q)) c.in_ok-add_next.ensures))
