use Rattle.std.proofs.Common.{slice_get, length, ap, ◌∙◌, arith}
use Rattle.std.proofs.lemmas.List.{length-map}
use Rattle.psabi_sym.specs.Inputs.{Inputs, parsed}
use Rattle.psabi_sym.specs.Indexed.{all_sections}
use Rattle.block_cut.specs.Invariants.SectionItems.{section_tables}
use Rattle.block_cut.proofs.cut.Cut.numbers.Goals as goal

pub numbers-requires : goal.numbers-requires
numbers-requires c =
    let inputs = c.self.inside.objects in
    omega (
      arith,
      c.requires,
      ap (λ (v : Inputs). length (all_sections (parsed v).objects)) c.self.view_is,
      ap length c.self.invariant.tables_are.sections,
      length-map (all_sections (parsed inputs).objects) (section_tables (parsed inputs)),
    )

pub returns : goal.returns
returns c = λ l at.
    c.numbers.ensures c.self.inside.objects l c.self.invariant.tables_are (ap (λ (v : Inputs). slice_get (all_sections (parsed v).objects) c.args.section) c.self.view_is ∙ at)
