use Rattle.std.proofs.Common.{◌/◌, [], Some, get_or, length, sym, ap, ◌∙◌, arith}
use Rattle.std.proofs.lemmas.List.{get_or_past}
use Rattle.psabi_sym.specs.Inputs.{parsed}
use Rattle.block_cut.specs.Invariants.Led.{mark_at}
use Rattle.block_cut.proofs.LedLaws.{marked_at, number_is}
use Rattle.block_cut.proofs.leaders.Leaders.is_marked.Goals as goal

pub returns-in-None : goal.returns-in-None
returns-in-None c =
    let objects = (parsed c.args.objects.now).objects in
    let sections = c.args.self.now.sections.items in
    let p = c.args.p in
    let number = number_is objects p (Some c.in-Some.k) (rw c.in-Some.is at c.section_number.ensures) in
    let past = c.in-None.ensures.lookup.3 in
    let none = get_or_past sections c.in-Some.k [] (omega (arith, past, ap length c.deref.ensures.value)) in
    sym (marked_at objects sections p c.in-Some.k c.if-p-ne0.false number ∙ ap (λ marks. mark_at marks (p.offset / 2)) none)

pub returns-in-Some-get : goal.returns-in-Some-get
returns-in-Some-get c =
    let objects = (parsed c.args.objects.now).objects in
    let sections = c.args.self.now.sections.items in
    let p = c.args.p in
    let k = c.in-Some.k in
    let number = number_is objects p (Some k) (rw c.in-Some.is at c.section_number.ensures) in
    let got = c.in-Some-get.ensures.lookup.3.1 [] ∙ ap (λ all. get_or all k []) c.deref.ensures.value in
    c.has.ensures ∙ ap (λ marks. mark_at marks (p.offset / 2)) got ∙ sym (marked_at objects sections p k c.if-p-ne0.false number)
