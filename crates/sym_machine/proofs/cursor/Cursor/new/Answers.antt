-- The section's number leads to its places.
use Rattle.std.proofs.Common.{◌≡◌, ℕ, ◌<◌, Some, length, slice_get, subst}
use Rattle.std.proofs.lemmas.Option.{slice_get_within}
use Rattle.psabi_sym.specs.Inputs.{Inputs, parsed}
use Rattle.psabi_sym.specs.Indexed.{IndexedSection, all_sections}
use Rattle.sym_machine.proofs.CursorLaws.{place_in}
use Rattle.sym_machine.proofs.cursor.Cursor.new.Goals as goal

-- the section stands at its number in the objects that the program was cut from
within :
    (v w : Inputs) (l : IndexedSection) (n : ℕ) → v ≡ w → slice_get (all_sections (parsed v).objects) n ≡ Some l
    → n < length (all_sections (parsed w).objects)
within v w l n same at =
    slice_get_within (all_sections (parsed w).objects) n l (subst (λ (u : Inputs). slice_get (all_sections (parsed u).objects) n ≡ Some l) same at)

pub places-requires : goal.places-requires
places-requires c =
    let there = c.in_ok-section.ensures in
    within c.objects.result.now c.args.cut.now (record { object = c.args.p.object; index = c.args.p.section; section = there.0 }) c.in_ok-section.section c.objects.ensures.same there.2

pub numbers-requires : goal.numbers-requires
numbers-requires c =
    let there = c.in_ok-section.ensures in
    within c.objects.result.now c.args.cut.now (record { object = c.args.p.object; index = c.args.p.section; section = there.0 }) c.in_ok-section.section c.objects.ensures.same there.2

pub returns : goal.returns
returns c =
    let there = c.in_ok-section.ensures in
    let l : IndexedSection = record { object = c.args.p.object; index = c.args.p.section; section = there.0 } in
    let at = subst (λ (v : Inputs). slice_get (all_sections (parsed v).objects) c.in_ok-section.section ≡ Some l) c.objects.ensures.same there.2 in
    c.turned.ensures (parsed c.args.cut.now) (record { each = λ k x is. place_in (parsed c.args.cut.now) l c.places.result.now k x (c.places.ensures l at) is })
