use Rattle.std.proofs.Common.{◌∙◌}
use Rattle.psabi_sym.specs.Inputs.{parsed}
use Rattle.psabi_sym.specs.Indexed.{IndexedSection}
use Rattle.block_cut.proofs.TextLaws.{kept_at}
use Rattle.block_cut.proofs.code_tables.CodeTables.place.Goals as goal

pub returns : goal.returns
returns c =
    let inputs = c.args.objects.now in
    let there = c.in_ok-section.ensures in
    let l : IndexedSection = record { object = c.args.p.object; index = c.args.p.section; section = there.0 } in
    c.place.ensures inputs l c.recall_invariant.ensures.faultless there.1
    (c.index.ensures ∙ kept_at (parsed inputs) c.args.self.now.sections.items c.in_ok-section.section l _ c.requires.tables.sections there.2)
