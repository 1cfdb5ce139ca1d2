use Rattle.std.proofs.Common.{◌∙◌, sym}
use Rattle.psabi_sym.specs.Inputs.{parsed}
use Rattle.tail_merge.proofs.SectionCodeLaws.{copied-form, new-form, place-leads, place-low, same-form, tails-at}
use Rattle.tail_merge.proofs.section_code.kept_form.Goals as goal

pub returns-then-holds : goal.returns-then-holds
returns-then-holds c = λ inputs l is st over.
    copied-form inputs l c.args.tails.now c.args.relocs.now is c.args.place.now st over (sym (c.holds.ensures is.offsets.rise) ∙ c.if-holds.true)

pub returns-in-None : goal.returns-in-None
returns-in-None c = λ inputs l is st over.
    let tails = c.args.tails.now in
    let relocs = c.args.relocs.now in
    let place = c.args.place.now in
    let absent = sym (c.holds.ensures is.offsets.rise) ∙ c.if-holds.false in
    same-form inputs l tails relocs is place st over absent
    (c.in-None.ensures (parsed inputs) l.object l.index (tails-at inputs l tails relocs is) (place-low inputs l tails relocs is place st) (place-leads inputs l tails relocs is place st over absent))

pub returns-in-Some : goal.returns-in-Some
returns-in-Some c = λ inputs l is st over.
    let tails = c.args.tails.now in
    let relocs = c.args.relocs.now in
    let place = c.args.place.now in
    let absent = sym (c.holds.ensures is.offsets.rise) ∙ c.if-holds.false in
    new-form inputs l tails relocs is place st over absent c.in-Some.instr
    (c.in-Some.ensures (parsed inputs) l.object l.index (tails-at inputs l tails relocs is) (place-low inputs l tails relocs is place st) (place-leads inputs l tails relocs is place st over absent))
