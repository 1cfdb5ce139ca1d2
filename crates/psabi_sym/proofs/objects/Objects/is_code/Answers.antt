use Rattle.std.proofs.Common.{ap, sym, ◌∙◌, arith, false}
use Rattle.std.specs.Option.{option_map_or}
use Rattle.elf32_read.specs.Parts.{is_code_section}
use Rattle.psabi_sym.specs.Data.{is_code_at, is_code_role}
use Rattle.psabi_sym.specs.Inputs.{Inputs, inputs_in, parsed}
use Rattle.psabi_sym.proofs.AccessLaws.{no_section_there, row_inside, row_is, section_there}
use Rattle.psabi_sym.proofs.FoundLaws.{IsFoundSection}
use Rattle.psabi_sym.proofs.PlaceLaws.{code_is}
use Rattle.psabi_sym.proofs.objects.Objects.is_code.Goals as goal
use Rattle.psabi_sym.proofs.objects.Objects.is_code.Goals.{In-Some}

abbrev here : In-Some → Inputs
here c = inputs_in c.self.inside.options c.self.inside.objects.items

found : (c : In-Some) → IsFoundSection (parsed (here c)).objects c.args.object c.args.section c.in-Some.k
found c = section_there c.self.invariant c.deref.result.now c.args.object c.args.section c.from.result c.in-Some.k c.place.result c.deref.ensures.value c.from.ensures c.place.ensures c.in-Some.is

pub index-requires : goal.index-requires
index-requires c = omega (arith, row_inside c.self.invariant (found (goal.at.index-requires c).In-Some), c.self.inside.sections.rows.ok.0)

pub returns-in-None : goal.returns-in-None
returns-in-None c =
    let none = no_section_there c.self.invariant c.deref.result.now c.args.object c.args.section c.from.result c.place.result c.deref.ensures.value c.from.ensures c.place.ensures c.in-None.is in
    ap (λ s. option_map_or is_code_section s false) (sym none) ∙ ap (λ v. is_code_at (parsed v).objects c.args.object c.args.section) c.self.view_is

pub returns-in-Some : goal.returns-in-Some
returns-in-Some c =
    let section = found (goal.at.returns-in-Some c).In-Some in
    let row = c.index.ensures ∙ row_is c.self.invariant section c.index.result.now in
    c.is_code.ensures ∙ ap (λ r. is_code_role r.role) row ∙ code_is section.section ∙ ap (λ s. option_map_or is_code_section s false) (sym section.found)
    ∙ ap (λ v. is_code_at (parsed v).objects c.args.object c.args.section) c.self.view_is
