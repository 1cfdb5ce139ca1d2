use Rattle.std.proofs.Common.{ap, ◌∙◌, arith, subst, None, Some, slice_get}
use Rattle.psabi_sym.specs.Inputs.{Inputs, inputs_in, parsed}
use Rattle.psabi_sym.specs.Indexed.{IsSectionNumber, all_sections}
use Rattle.psabi_sym.proofs.AccessLaws.{no_section_there, section_there}
use Rattle.psabi_sym.proofs.FoundLaws.{IsFoundSection}
use Rattle.psabi_sym.proofs.PlaceLaws.{listed_there, place_listed}
use Rattle.psabi_sym.proofs.SectionNumbers.{few_sections}
use Rattle.psabi_sym.proofs.objects.Objects.section_number.Goals as goal
use Rattle.psabi_sym.proofs.objects.Objects.section_number.Goals.{In-Some}

abbrev here : In-Some → Inputs
here c = inputs_in c.self.inside.options c.self.inside.objects.items

found : (c : In-Some) → IsFoundSection (parsed (here c)).objects c.args.object c.args.section c.in-Some.k
found c = section_there c.self.invariant c.deref.result.now c.args.object c.args.section c.from.result c.in-Some.k c.place.result c.deref.ensures.value c.from.ensures c.place.ensures c.in-Some.is

pub overflow_cast-result : goal.overflow_cast-result
overflow_cast-result c =
    let a = (goal.at.overflow_cast-result c).In-Some in
    let there = found a in
    omega (arith, there.place, place_listed (parsed (here a)).objects c.args.object c.args.section there.object there.section there.at there.is, few_sections (here a) c.self.invariant.faultless)

pub returns-in-None : goal.returns-in-None
returns-in-None c =
    let none = no_section_there c.self.invariant c.deref.result.now c.args.object c.args.section c.from.result c.place.result c.deref.ensures.value c.from.ensures c.place.ensures c.in-None.is in
    subst (λ (v : Inputs). IsSectionNumber (parsed v).objects c.args.object c.args.section None) c.self.view_is none

pub returns-in-Some : goal.returns-in-Some
returns-in-Some c =
    let a = (goal.at.returns-in-Some c).In-Some in
    let there = found a in
    let listed = ap (slice_get (all_sections (parsed (here a)).objects)) there.place ∙ listed_there (parsed (here a)).objects c.args.object c.args.section there.object there.section there.at there.is in
    subst (λ (v : Inputs). IsSectionNumber (parsed v).objects c.args.object c.args.section (Some c.in-Some.k)) c.self.view_is (there.section, there.found, listed)
