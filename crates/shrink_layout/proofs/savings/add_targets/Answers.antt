-- The places of a section are its targets (`held_targets`).
use Rattle.std.proofs.Common.{◌∙◌, ◌++◌, [], map, slice_get, sym, ap, arith}
use Rattle.std.proofs.lemmas.List.{map-append, take_all}
use Rattle.std.proofs.lemmas.Option.{same_Some}
use Rattle.psabi_sym.specs.Inputs.{parsed}
use Rattle.psabi_sym.specs.Indexed.{all_sections}
use Rattle.block_cut.specs.Items.{targets_of}
use Rattle.shrink_layout.specs.Invariants.Made.{places_held}
use Rattle.shrink_layout.specs.Invariants.Sites.{targets_before}
use Rattle.shrink_layout.specs.Savings.{saving_of}
use Rattle.shrink_layout.proofs.SavingLaws.{held_targets, targets_next}
use Rattle.shrink_layout.proofs.SectionLaws.{some_at}
use Rattle.shrink_layout.proofs.TargetLaws.{no_gather_fault}
use Rattle.shrink_layout.proofs.savings.add_targets.Goals as goal

pub returns : goal.returns
returns c =
    let inputs = c.args.cut.now in
    let none = no_gather_fault inputs c.objects.ensures.faultless in
    let objects = (parsed inputs).objects in
    let k = c.args.section in
    let there = some_at (all_sections objects) k c.requires.section in
    let l = there.0 in
    let own = same_Some c.section-own.result l (sym c.section-own.ensures ∙ ap (λ x. slice_get (all_sections (parsed x).objects) k) c.objects.ensures.same ∙ there.1) in
    let places = take_all c.loop-place.place-index c.places-places.result.now (omega (arith, c.loop-place-test.false)) ∙ c.places-places.ensures l there.1 in
    c.loop-place.invariant
    ∙ (λ j. c.requires.so_far j ++ map (saving_of []) (places_held (own j) (places j)))
    ∙ ap (λ qs. map (saving_of []) (targets_before objects k) ++ map (saving_of []) qs) (held_targets inputs none l)
    ∙ sym (map-append (saving_of []) (targets_before objects k) (targets_of l))
    ∙ ap (map (saving_of [])) (sym (targets_next inputs none k l there.1))
