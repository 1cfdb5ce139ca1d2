use Rattle.std.proofs.Common.{◌∙◌}
use Rattle.psabi_sym.specs.Inputs.{parsed}
use Rattle.block_cut.proofs.TextLaws.{kept_at, tables_of}
use Rattle.block_cut.proofs.code_tables.CodeTables.numbers.Goals as goal

pub returns : goal.returns
returns c = λ inputs l text at.
    c.numbers.ensures ∙ (tables_of (parsed inputs) l c.index.result.now (c.index.ensures ∙ kept_at (parsed inputs) c.args.self.now.sections.items c.args.section l _ text.sections at)).numbers
