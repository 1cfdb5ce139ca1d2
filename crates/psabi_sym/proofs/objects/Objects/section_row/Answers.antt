use Rattle.std.proofs.Common.{ap, sym, ◌∙◌, slice_get}
use Rattle.psabi_sym.specs.Inputs.{Inputs, parsed}
use Rattle.psabi_sym.specs.Indexed.{all_sections}
use Rattle.psabi_sym.specs.Invariants.Rows.{section_row}
use Rattle.psabi_sym.proofs.AccessLaws.{numbered_row}
use Rattle.psabi_sym.proofs.objects.Objects.section_row.Goals as goal

pub returns : goal.returns
returns c =
    let there = numbered_row c.self.invariant c.args.self.now c.args.k c.index.result.now c.self.view_is c.requires c.index.ensures in
    (there.listed, ap (λ (v : Inputs). slice_get (all_sections (parsed v).objects) c.args.k) (sym c.self.view_is) ∙ there.at, there.row_is ∙ ap (λ v. section_row v.fixed there.listed) c.self.view_is)
