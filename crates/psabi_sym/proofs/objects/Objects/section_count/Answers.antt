use Rattle.std.proofs.Common.{◌≡◌, length, ap, ◌∙◌, arith}
use Rattle.std.proofs.lemmas.List.{length-map}
use Rattle.psabi_sym.specs.Inputs.{Inputs, inputs_in, parsed}
use Rattle.psabi_sym.specs.Indexed.{all_sections}
use Rattle.psabi_sym.specs.Invariants.Rows.{section_row}
use Rattle.psabi_sym.proofs.SectionNumbers.{few_sections}
use Rattle.psabi_sym.proofs.objects.Objects.section_count.Goals as goal

pub overflow_cast-result : goal.overflow_cast-result
overflow_cast-result c =
    let here : Inputs = inputs_in c.self.inside.options c.self.inside.objects.items in
    let count : length c.self.inside.sections.rows.items ≡ length (all_sections (parsed here).objects) = ap length c.self.invariant.indexed.sections_are ∙ length-map (all_sections (parsed here).objects) (section_row here.fixed) in
    omega (arith, count, few_sections here c.self.invariant.faultless, c.len.ensures, c.self.inside.sections.rows.ok.0)

pub returns-clause-most : goal.returns-clause-most
returns-clause-most c =
    let here : Inputs = inputs_in c.self.inside.options c.self.inside.objects.items in
    let count : length c.self.inside.sections.rows.items ≡ length (all_sections (parsed here).objects) = ap length c.self.invariant.indexed.sections_are ∙ length-map (all_sections (parsed here).objects) (section_row here.fixed) in
    omega (arith, count, few_sections here c.self.invariant.faultless, c.len.ensures, c.self.inside.sections.rows.ok.0)
