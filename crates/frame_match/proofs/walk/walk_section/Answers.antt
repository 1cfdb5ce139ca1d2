use Rattle.std.proofs.Common.{arith, ◌≡◌, ◌∙◌, ◌++◌, ap, length, sym}
use Rattle.std.specs.List.{flat_map, slice_get}
use Rattle.std.proofs.lemmas.Option.{same_Some}
use Rattle.psabi_sym.specs.Inputs.{Inputs, parsed}
use Rattle.psabi_sym.specs.Indexed.{all_sections}
use Rattle.frame_match.specs.Groups.{starting_group}
use Rattle.frame_match.specs.Invariants.Marks.{marks_from}
use Rattle.frame_match.proofs.SectionLaws.{walked_places, walked_roles, walked_room}
use Rattle.frame_match.proofs.walk.walk_section.Goals as goal

pub go_over-requires-clause-places : goal.go_over-requires-clause-places
go_over-requires-clause-places c =
    let l = c.section-section.result in
    let at = ap (λ (x : Inputs). slice_get (all_sections (parsed x).objects) c.args.section) (sym c.objects.ensures.same) ∙ c.section-section.ensures in
    walked_places (parsed c.args.cut.now) l l c.places.result.now c.item_places-places.result.now (c.places.ensures l at) c.item_places-places.ensures (λ i. l)

pub returns-clause-marks : goal.returns-clause-marks
returns-clause-marks c l at =
    let here = ap (λ (x : Inputs). slice_get (all_sections (parsed x).objects) c.args.section) (sym c.objects.ensures.same) ∙ c.section-section.ensures in
    let own : c.section-section.result ≡ l = same_Some _ _ (sym here ∙ at) in
    let roles = walked_roles (parsed c.args.cut.now) l c.section-section.result c.places.result.now c.item_places-places.result.now (c.places.ensures l at) c.item_places-places.ensures own in
    c.in_ok-go_over.ensures.marks
    ∙ (λ i. c.in_ok-with_capacity.ensures.items i ++ marks_from (length c.args.groups.items) (roles i))

pub returns-clause-groups : goal.returns-clause-groups
returns-clause-groups c l at =
    let here = ap (λ (x : Inputs). slice_get (all_sections (parsed x).objects) c.args.section) (sym c.objects.ensures.same) ∙ c.section-section.ensures in
    let own : c.section-section.result ≡ l = same_Some _ _ (sym here ∙ at) in
    let roles = walked_roles (parsed c.args.cut.now) l c.section-section.result c.places.result.now c.item_places-places.result.now (c.places.ensures l at) c.item_places-places.ensures own in
    c.in_ok-go_over.ensures.groups ∙ ap (λ rs. c.args.groups.items ++ flat_map starting_group rs) roles

pub go_over-requires-clause-room : goal.go_over-requires-clause-room
go_over-requires-clause-room c =
    let inputs = parsed c.args.cut.now in
    let l = c.section-section.result in
    let at = ap (λ (x : Inputs). slice_get (all_sections (parsed x).objects) c.args.section) (sym c.objects.ensures.same) ∙ c.section-section.ensures in
    let room = walked_room inputs l c.places.result.now c.item_places-places.result.now c.args.section (length c.args.groups.items) (c.places.ensures l at) c.item_places-places.ensures at c.requires.few in
    omega (arith, room, c.recall_invariant.ensures.few)
